-- Laws of parts: cut and joined again they are the buffer, joined and cut again the parts; a part that is stored is
-- written at its place in the buffer.
-- parts_length, part_at, parts_wide, set_wide, wide_at; parts_join, join_length, join_parts; parts_put.
-- The definitions are in Parts. Assumes nothing.
use Rattle.std.specs.Prelude.{ℕ, zero, suc, ◌+◌, ◌*◌, ◌≤◌, ◌<◌, ◌≡◌, refl, length, get_or, take, drop, set}
use Rattle.std.proofs.Common.{mul-suc, mul-zero, zero-add, not-suc-le-zero, le_of_suc-le-suc, mul-le-mul_left, add_comm, arith, sym, ap, ap₂, ◌∙◌, length-append, length-drop, take-append-drop, length-take-le, take_at, drop_at, take-add, drop-drop}
use mathlib.Core.List.{List, [], ◌∷◌, ◌++◌, append_assoc, flatten}
use Rattle.octets.specs.Buffer.{put_in, splice}
use Rattle.octets.specs.BufferLaws.{put_in_room}
use Rattle.cache_room.specs.Parts.{parts_of, Wide}

-- there are k
pub parts_length : (w k : ℕ) (s : List ℕ) → length (parts_of w k s) ≡ k
unfolding parts_of
parts_length w zero s = refl
parts_length w (suc k) s = ap suc (parts_length w k (drop w s))

-- w and w times i
step : (w i : ℕ) → w * suc i ≡ w + w * i
step w i = mul-suc w i ∙ add_comm (w * i) w

-- where the part i stands
pub part_at : (w k : ℕ) (s d : List ℕ) (i : ℕ) → i < k → get_or (parts_of w k s) i d ≡ take w (drop (w * i) s)
unfolding parts_of
part_at w zero s d i h = absurd (not-suc-le-zero h)
part_at w (suc k) s d zero h = rw (mul-zero w)
part_at w (suc k) s d (suc i) h =
    part_at w k (drop w s) d i (le_of_suc-le-suc h)
    ∙ ap (take w) (drop-drop (w * i) w s ∙ ap (λ (n : ℕ). drop n s) (sym (step w i)))

-- ---- their width

rest_length : (w k : ℕ) (s : List ℕ) → length s ≡ w * suc k → length (drop w s) ≡ w * k
rest_length w k s e = length-drop w s ∙ omega (arith, step w k)

pub parts_wide : (w k : ℕ) (s : List ℕ) → length s ≡ w * k → Wide w (parts_of w k s)
unfolding parts_of
parts_wide w zero s e = tt
parts_wide w (suc k) s e = (length-take-le w s (omega (arith, step w k)), parts_wide w k (drop w s) (rest_length w k s e))

pub set_wide : (w : ℕ) (l : List (List ℕ)) (i : ℕ) (x : List ℕ) → Wide w l → length x ≡ w → Wide w (set l i x)
set_wide w [] i x h e = tt
set_wide w (y ∷ l) zero x h e = (e, h.1)
set_wide w (y ∷ l) (suc i) x h e = (h.0, set_wide w l i x h.1 e)

pub wide_at : (w : ℕ) (l : List (List ℕ)) (d : List ℕ) (i : ℕ) → Wide w l → i < length l → length (get_or l i d) ≡ w
wide_at w [] d i h b = absurd (not-suc-le-zero b)
wide_at w (y ∷ l) d zero h b = h.0
wide_at w (y ∷ l) d (suc i) h b = wide_at w l d i h.1 (le_of_suc-le-suc b)

-- ---- cut and joined

-- the parts of a buffer, joined, are the buffer
pub parts_join : (w k : ℕ) (s : List ℕ) → length s ≡ w * k → flatten (parts_of w k s) ≡ s
unfolding parts_of flatten
parts_join w zero [] e = refl
parts_join w zero (x ∷ s) e = absurd (omega (arith, mul-zero w))
parts_join w (suc k) s e = ap (λ (t : List ℕ). take w s ++ t) (parts_join w k (drop w s) (rest_length w k s e)) ∙ take-append-drop w s

pub join_length : (w : ℕ) (l : List (List ℕ)) → Wide w l → length (flatten l) ≡ w * length l
unfolding flatten
join_length w [] h = sym (mul-zero w)
join_length w (x ∷ l) h = length-append x (flatten l) ∙ ap₂ (λ (a b : ℕ). a + b) h.0 (join_length w l h.1) ∙ sym (step w (length l))

-- parts of one width, joined and cut again, are the same parts
pub join_parts : (w : ℕ) (l : List (List ℕ)) → Wide w l → parts_of w (length l) (flatten l) ≡ l
unfolding parts_of flatten
join_parts w [] h = refl
join_parts w (x ∷ l) h =
    ap₂ (λ (a : List ℕ) (b : List (List ℕ)). a ∷ b)
    (take_at x (flatten l) w h.0)
    (ap (parts_of w (length l)) (drop_at x (flatten l) w h.0) ∙ join_parts w l h.1)

-- ---- stored and written

-- a part that is stored, seen in the buffer
store_splice : (w k : ℕ) (s x : List ℕ) (i : ℕ) → i < k → length x ≡ w → length s ≡ w * k
    → flatten (set (parts_of w k s) i x) ≡ splice s (w * i) x
unfolding parts_of flatten
store_splice w zero s x i b n e = absurd (not-suc-le-zero b)
store_splice w (suc k) s x zero b n e =
    ap (λ (t : List ℕ). x ++ t) (parts_join w k (drop w s) (rest_length w k s e))
    ∙ sym (rw (mul-zero w, n, zero-add w))
store_splice w (suc k) s x (suc i) b n e =
    ap (λ (t : List ℕ). take w s ++ t) (store_splice w k (drop w s) x i (le_of_suc-le-suc b) n (rest_length w k s e))
    ∙ sym (append_assoc (take w s) (take (w * i) (drop w s)) (x ++ drop (w * i + length x) (drop w s)))
    ∙ ap₂ (λ (a b : List ℕ). a ++ (x ++ b)) (sym (ap (λ (m : ℕ). take m s) (step w i) ∙ take-add w (w * i) s)) last
  where
    last : drop (w * i + length x) (drop w s) ≡ drop (w * suc i + length x) s
    last =
        let e : w + (w * i + length x) ≡ w * suc i + length x = omega (arith, step w i) in
        drop-drop (w * i + length x) w s ∙ ap (λ (m : ℕ). drop m s) e

-- storing a part is writing it at its place
pub parts_put : (w k : ℕ) (s x : List ℕ) (i : ℕ) → i < k → length x ≡ w → length s ≡ w * k
    → flatten (set (parts_of w k s) i x) ≡ put_in s (w * i) x
parts_put w k s x i b n e =
    let m : w * suc i ≤ w * k = mul-le-mul_left w b in
    store_splice w k s x i b n e ∙ sym (put_in_room s (w * i) x (omega (arith, step w i)))
