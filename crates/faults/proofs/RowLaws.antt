-- A whole list's reading finds the first fault, given that the readings of its elements do.
-- first_shift, next_finds; end_finds, then_finds, perhaps_finds, only_finds, one_finds, several_finds, any_finds,
-- distinct_finds, depending_finds; named_finds. Elements are in ItemLaws.
-- Assumes nothing.
use Rattle.std.specs.Prelude.{ℕ, zero, suc, ◌+◌, ◌-◌, ◌≡◌, Bool, cond, eqb, length, drop, Ok}
use Rattle.std.proofs.Math.Path.{refl, sym, ap}
use Rattle.std.proofs.Common.{◌∙◌}
use Rattle.std.proofs.Math.Bool.{true, false}
use mathlib.Core.List.{List, [], ◌∷◌, ◌++◌}
use Rattle.std.proofs.Math.Logic.{inl, inr}
use Rattle.std.proofs.Math.Option.{none, some}
use Rattle.element.specs.Header.{header_of}
use Rattle.element.specs.declared.Header.{Header}
use Rattle.element.specs.Places.{HeaderRead}
use Rattle.codec.specs.Codec.{Read, read, broke, Got, got}
use Rattle.codec.specs.Outcome.{further, on_got}
use Rattle.codec.specs.Mapped.{mapped_dec}
use Rattle.codec.specs.Sequence.{end_dec, field_dec, only_dec}
use Rattle.codec.specs.Starts.{starts_with}
use Rattle.codec.specs.Option.{option_of, option_dec}
use Rattle.codec.specs.Maybe.{maybe_dec}
use Rattle.codec.specs.Branch.{branch_of, branch_dec}
use Rattle.codec.proofs.Branch.{branch_bad}
use Rattle.codec.specs.Many.{enough, many_dec, all_dec}
use Rattle.codec.specs.Each.{each_dec}
use Rattle.codec.specs.Views.{fit_of, later}
use Rattle.codec.proofs.ViewLaws.{fit_further, fit_renamed}
use Rattle.faults.specs.Faults.{shift, unless, content_at, after_in, then_faults, end_faults, perhaps_faults, one_faults, several_faults, any_faults, distinct_faults}
use Rattle.faults.specs.Order.{leftmost}
use Rattle.faults.specs.Finds.{Finds, HeadFinds, WholeFinds}

pub first_shift : (n : ℕ) (l : List ℕ) → leftmost (shift n l) ≡ later n (leftmost l)
unfolding leftmost later
first_shift n [] = refl
first_shift n (p ∷ l) = refl

-- ── an element, then what follows it ──
module _ {A B C : Type 0} (d : List ℕ → Got A) (f : List ℕ → List ℕ) (rest : A → List ℕ → Read B) (join : A → B → C)
    (g : List ℕ → List ℕ) (s : List ℕ) (tails : (a : A) (n : ℕ) → d s ≡ got a n → (r : List ℕ) → fit_of (rest a r) ≡ leftmost (g r)) where
  next_fits : (a : A) (h : Header) → header_of s ≡ Ok h → d s ≡ got a (h.start + h.len)
      → fit_of (on_got (d s) (λ a n. further n (join a) (rest a (drop n s)))) ≡ leftmost (after_in g s (header_of s))
  next_fits a h ex eg =
      let n = h.start + h.len in
      rw (ex, eg)
      (fit_further n (join a) (rest a (drop n s)) ∙ ap (later n) (tails a n eg (drop n s))
      ∙ sym (first_shift n (g (drop n s))))

  pub next_finds : Finds (d s) (header_of s) (f s)
      → fit_of (on_got (d s) (λ a n. further n (join a) (rest a (drop n s)))) ≡ leftmost (then_faults f g s)
  unfolding then_faults fit_of leftmost
  next_finds heads = go (f s) heads
    where
      go : (l : List ℕ) → Finds (d s) (header_of s) l
          → fit_of (on_got (d s) (λ a n. further n (join a) (rest a (drop n s)))) ≡ leftmost (l ++ after_in g s (header_of s))
      go [] v = next_fits v.0 v.1 v.2 v.3
      go (p ∷ l) v = rw v

-- ── rows ──
pub end_finds : WholeFinds end_dec end_faults
unfolding end_dec end_faults fit_of leftmost
end_finds [] = refl
end_finds (x ∷ s) = refl

-- other names
pub named_finds : {A B : Type 0} (f : A → B) (d : List ℕ → Read A) (g : List ℕ → List ℕ) → WholeFinds d g → WholeFinds (mapped_dec f d) g
unfolding mapped_dec
named_finds f d g w s = fit_renamed f (d s) ∙ w s

module _ {A : Type 0} (d : List ℕ → Got A) (f : List ℕ → List ℕ) (heads : HeadFinds d f) where
  module _ {B : Type 0} (d' : List ℕ → Read B) (g : List ℕ → List ℕ) (tails : WholeFinds d' g) where
    pub then_finds : WholeFinds (field_dec d d') (then_faults f g)
    unfolding field_dec
    then_finds s = next_finds d f (λ a. d') (λ a b. (a, b)) g s (λ a n e. tails) (heads s)

    pub perhaps_finds : (t : ℕ) → WholeFinds (option_dec t d d') (perhaps_faults t f g)
    unfolding option_dec option_of perhaps_faults
    perhaps_finds t s = go (starts_with t s)
      where
        go : (b : Bool) → fit_of (option_of b d d' s) ≡ leftmost (cond b (then_faults f g s) (g s))
        go true = next_finds d f (λ a. d') (λ a b. (some a, b)) g s (λ a n e. tails) (heads s)
        go false = fit_renamed (λ (b : B). (none, b)) (d' s) ∙ tails s

  pub only_finds : WholeFinds (only_dec d) (then_faults f end_faults)
  unfolding only_dec
  only_finds = named_finds (λ x. x.0) (field_dec d end_dec) (then_faults f end_faults) (then_finds end_dec end_faults end_finds)

  pub one_finds : WholeFinds (maybe_dec d) (one_faults f)
  unfolding maybe_dec one_faults fit_of leftmost
  one_finds [] = refl
  one_finds (x ∷ s) = fit_renamed some (only_dec d (x ∷ s)) ∙ only_finds (x ∷ s)

-- too few
enough_finds : (A : Type 0) (lo : ℕ) → fit_of (enough {A = A} lo) ≡ leftmost (unless (eqb lo 0))
unfolding fit_of leftmost
enough_finds A lo = go (eqb lo 0)
  where
    go : (b : Bool) → fit_of {A = List A} (cond b (read []) (broke 0)) ≡ leftmost (unless b)
    go true = refl
    go false = refl

pub several_finds : {A : Type 0} (d : List ℕ → Got A) (f : List ℕ → List ℕ) → HeadFinds d f → (lo hi : ℕ)
    → WholeFinds (many_dec d lo hi) (several_faults f lo hi)
unfolding many_dec several_faults fit_of leftmost
several_finds {A} d f heads lo zero [] = enough_finds A lo
several_finds d f heads lo zero (x ∷ s) = refl
several_finds {A} d f heads lo (suc k) [] = enough_finds A lo
several_finds d f heads lo (suc k) (x ∷ s) =
    next_finds d f (λ a. many_dec d (lo - 1) k) (λ a l. a ∷ l) (several_faults f (lo - 1) k) (x ∷ s)
    (λ a n e. several_finds d f heads (lo - 1) k) (heads (x ∷ s))

pub any_finds : {A : Type 0} (d : List ℕ → Got A) (f : List ℕ → List ℕ) → HeadFinds d f → WholeFinds (all_dec d) (any_faults f)
unfolding all_dec any_faults
any_finds d f heads s = several_finds d f heads 0 (length s) s

-- an element that is read has its key, and no other
pub distinct_finds : {A : Type 0} (key : A → List ℕ) (keys : List ℕ → List (List ℕ)) (d : List (List ℕ) → List ℕ → Got A)
    (f : List (List ℕ) → List ℕ → List ℕ)
    → ((seen : List (List ℕ)) → HeadFinds (d seen) (f seen))
    → ((seen : List (List ℕ)) (s : List ℕ) (a : A) (n : ℕ) → d seen s ≡ got a n → keys s ≡ key a ∷ [])
    → (seen : List (List ℕ)) (lo hi : ℕ) → WholeFinds (each_dec key d seen lo hi) (distinct_faults keys f seen lo hi)
unfolding each_dec distinct_faults fit_of leftmost
distinct_finds {A} key keys d f heads same seen lo zero [] = enough_finds A lo
distinct_finds key keys d f heads same seen lo zero (x ∷ s) = refl
distinct_finds {A} key keys d f heads same seen lo (suc k) [] = enough_finds A lo
distinct_finds key keys d f heads same seen lo (suc k) (x ∷ s) =
    next_finds (d seen) (f seen) (λ a. each_dec key d (key a ∷ seen) (lo - 1) k) (λ a l. a ∷ l)
    (distinct_faults keys f (keys (x ∷ s) ++ seen) (lo - 1) k) (x ∷ s)
    (λ a n e r. rw (same seen (x ∷ s) a n e) (distinct_finds key keys d f heads same (key a ∷ seen) (lo - 1) k r))
    (heads seen (x ∷ s))

-- an element, then a row by its content
module _ {A B C : Type 0} (d : List ℕ → Got A) (f : List ℕ → List ℕ) (heads : HeadFinds d f) (test : A → Bool) (pass : List ℕ → Bool)
    (same : (s : List ℕ) (a : A) (n : ℕ) → d s ≡ got a n → test a ≡ pass (content_at s))
    (d' : List ℕ → Read B) (g : List ℕ → List ℕ) (w : WholeFinds d' g) (d'' : List ℕ → Read C) (g' : List ℕ → List ℕ) (v : WholeFinds d'' g')
  where
    either_tail : (s : List ℕ) (a : A) (n : ℕ) (b : Bool)
        → fit_of (branch_of b a n d' d'' s) ≡ leftmost (shift n (cond b (g (drop n s)) (g' (drop n s))))
    unfolding branch_of
    either_tail s a n true =
        fit_further n (λ y. inl (a, y)) (d' (drop n s)) ∙ ap (later n) (w (drop n s)) ∙ sym (first_shift n (g (drop n s)))
    either_tail s a n false =
        fit_further n (λ y. inr (a, y)) (d'' (drop n s)) ∙ ap (later n) (v (drop n s)) ∙ sym (first_shift n (g' (drop n s)))

    abbrev tail : List ℕ → List ℕ → List ℕ
    tail s r = cond (pass (content_at s)) (g r) (g' r)

    branch_fits : (s : List ℕ) (a : A) (h : Header) → header_of s ≡ Ok h → d s ≡ got a (h.start + h.len)
        → fit_of (branch_dec d test d' d'' s) ≡ leftmost (after_in (tail s) s (header_of s))
    unfolding branch_dec
    branch_fits s a h ex eg =
        let n = h.start + h.len in
        let i = same s a n eg in
        let e : fit_of (branch_of (test a) a n d' d'' s) ≡ leftmost (shift n (tail s (drop n s))) = rw i (either_tail s a n (pass (content_at s))) in
        ap (λ (o : Got A). fit_of (on_got o (λ a n. branch_of (test a) a n d' d'' s))) eg ∙ e ∙ sym (ap (λ (x : HeaderRead). leftmost (after_in (tail s) s x)) ex)

    pub depending_finds : (s : List ℕ) → fit_of (branch_dec d test d' d'' s) ≡ leftmost (then_faults f (tail s) s)
    unfolding then_faults fit_of leftmost
    depending_finds s = go (f s) (heads s)
      where
        go : (l : List ℕ) → Finds (d s) (header_of s) l → fit_of (branch_dec d test d' d'' s) ≡ leftmost (l ++ after_in (tail s) s (header_of s))
        go [] v = branch_fits s v.0 v.1 v.2 v.3
        go (p ∷ l) v = ap fit_of (branch_bad d test d' d'' s p v)
