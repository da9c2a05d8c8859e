-- The cases of the list of extensions. The loop is at a place up to which count extensions are read,
-- and the OIDs that must not come again are those that the headers show.
-- Assumes nothing.
use Prim.Native.Nat.{ℕ, zero, suc, ◌+◌, ◌-◌, ◌^◌, ◌≤◌, ◌<◌}
use native.Mathlib.Omega.{arith}
use mathlib.Core.Path.{◌≡◌, refl, sym, ap, ◌∙◌}
use mathlib.Core.List.{List, [], ◌∷◌}
use Rattle.std.specs.Prelude.{Ok, Err}
use lib.ListN.{length, take, drop, length-drop, drop_of_length-le}
use lib.Seq.{drop-drop}
use mir.Syntax.{w64}
use mir.Val.{Fits}
use Rattle.octets.specs.LentLaws.{rest_is}
use Rattle.element.specs.Places.{misfit}
use Rattle.element.specs.declared.Misfit.{Misfit}
use Rattle.codec.specs.Codec.{got, bad}
use Rattle.codec.specs.Many.{enough}
use Rattle.codec.specs.Each.{each_dec}
use Rattle.codec.proofs.Each.{each_got, each_bad}
use Rattle.codec.specs.Views.{step_of, fit_of, later}
use Rattle.codec.proofs.ViewLaws.{step_taken, step_bad, fit_further, later_later}
use Rattle.codec.specs.Steps.{Step, Fit}
use Rattle.layout.proofs.ElementKinds.{sequence}
use Rattle.layout.specs.Reading.{Extension}
use Rattle.layout.proofs.Format.{extension_after, extension_list}
use Rattle.read_sequence.specs.Judged.{filled_by}
use Rattle.read_sequence.specs.CaseLaws.{filled_only}
use Rattle.read_oids.specs.Seen.{oids_of}
use Rattle.read_oids.specs.NamedLaws.{named}
use Rattle.read_extensions.specs.Pieces.{sequenced, held, key, read_after}

-- ── the 30, and nothing more ──
pub held_filled : (s : List ℕ) (x : Step) → x ≡ step_of (sequenced.dec s) → (y : Fit) → y ≡ filled_by (length s) x → y ≡ fit_of (held.dec s)
unfolding sequenced held
held_filled s x q y c = filled_only (sequence extension_list) s x q y c

-- ── the answer for the rest of a list ──
abbrev rest : List (List ℕ) → ℕ → List ℕ → Fit
rest seen count s = fit_of (each_dec key read_after seen (1 - count) (16 - count) s)

-- at the end; beyond the sixteenth; at one that is wrong; after one
each_none : (seen : List (List ℕ)) (lo k : ℕ) → each_dec key read_after seen lo k [] ≡ enough lo
unfolding each_dec
each_none seen lo zero = refl
each_none seen lo (suc k) = refl

rest_end : (seen : List (List ℕ)) (count : ℕ) (s : List ℕ) → length s ≤ 0 → rest seen count s ≡ fit_of (enough {A = Extension} (1 - count))
rest_end seen count s le = rw (drop_of_length-le s le, each_none seen (1 - count) (16 - count))

rest_none : (seen : List (List ℕ)) (count : ℕ) (s : List ℕ) → length s ≤ 0 → count ≡ 0 → rest seen count s ≡ Err (misfit 0)
unfolding fit_of
rest_none seen count s le e = rest_end seen count s le ∙ rw e

rest_some : (seen : List (List ℕ)) (count : ℕ) (s : List ℕ) → length s ≤ 0 → (count ≡ 0 → ⊥) → rest seen count s ≡ Ok tt
unfolding fit_of
rest_some seen count s le e = let z : 1 - count ≡ 0 = omega arith in rest_end seen count s le ∙ rw z

rest_over : (seen : List (List ℕ)) (count : ℕ) (s : List ℕ) → 0 < length s → count ≡ 16 → rest seen count s ≡ Err (misfit 0)
unfolding each_dec fit_of
rest_over seen count [] h e = absurd (omega arith)
rest_over seen count (x ∷ s) h e = rw e

module _ (seen : List (List ℕ)) (count : ℕ) (s : List ℕ) (h : 0 < length s) (few : count < 16) where
  one_more : each_dec key read_after seen (1 - count) (16 - count) s ≡ each_dec key read_after seen (1 - count) (suc (16 - (count + 1))) s
  one_more = let k : 16 - count ≡ suc (16 - (count + 1)) = omega arith in rw k

  rest_bad : (p : ℕ) → read_after seen s ≡ bad p → rest seen count s ≡ Err (misfit p)
  unfolding fit_of
  rest_bad p e = rw (one_more, each_bad key read_after seen (1 - count) (16 - (count + 1)) s p h e)

  rest_got : (a : Extension) (n : ℕ) → read_after seen s ≡ got a n → rest seen count s ≡ later n (rest (a.oid ∷ seen) (count + 1) (drop n s))
  rest_got a n e =
      let l : 1 - count - 1 ≡ 1 - (count + 1) = omega arith in
      ap fit_of (one_more ∙ each_got key read_after seen (1 - count) (16 - (count + 1)) s a n h e)
      ∙ rw l (fit_further n (λ m. a ∷ m) (each_dec key read_after (a.oid ∷ seen) (1 - (count + 1)) (16 - (count + 1)) (drop n s)))

-- ── the loop ──
-- the OIDs of more extensions are those from the place on
abbrev Passed : List ℕ → ℕ → ℕ → Type 0
Passed s count at = (j : ℕ) → oids_of (count + j) [] s ≡ oids_of j (oids_of count [] s) (drop at s)

pub record Reading (s : List ℕ) (count at : ℕ) : Type 0 where
  pub le : at ≤ length s
  pub few : count ≤ 16
  pub oids : Passed s count at
  pub same : fit_of (extension_list.dec s) ≡ later at (rest (oids_of count [] s) count (drop at s))

later_none : (x : Fit) → x ≡ later 0 x
unfolding later
later_none (Ok x) = refl
later_none (Err p) = ap (λ (j : ℕ). Err (misfit j)) (omega arith)

pub list_start : (s : List ℕ) → Reading s 0 0
unfolding oids_of extension_list
list_start s = record { le = omega arith; few = omega arith; oids = λ j. let e : 0 + j ≡ j = omega arith in rw e; same = later_none (rest [] 0 s) }

module _ (s : List ℕ) (count at : ℕ) (i : Reading s count at) where
  pub list_none : length s ≤ at → count ≡ 0 → Err (misfit at) ≡ fit_of (extension_list.dec s)
  unfolding later
  list_none le e =
      let j = rest_none (oids_of count [] s) count (drop at s) (simp length-drop (omega arith)) e in
      sym (i.same ∙ ap (later at) j ∙ ap (λ (j : ℕ). Err (misfit j)) (omega arith))

  pub list_some : length s ≤ at → (count ≡ 0 → ⊥) → Ok tt ≡ fit_of (extension_list.dec s)
  unfolding later
  list_some le e =
      let j = rest_some (oids_of count [] s) count (drop at s) (simp length-drop (omega arith)) e in
      sym (i.same ∙ ap (later at) j)

  module _ (lt : at < length s) where
    left : 0 < length (drop at s)
    left = simp length-drop (omega arith)

    pub list_over : count ≡ 16 → Err (misfit at) ≡ fit_of (extension_list.dec s)
    unfolding later
    list_over e = sym (i.same ∙ ap (later at) (rest_over (oids_of count [] s) count (drop at s) left e) ∙ ap (λ (j : ℕ). Err (misfit j)) (omega arith))

    -- the answer for the extension at the place, as the code lends it
    module _ (less : count ≡ 16 → ⊥) (r : Step) (q : r ≡ step_of ((extension_after (oids_of count [] s)).dec (take (length s - at) (drop at s)))) where
      here : step_of (read_after (oids_of count [] s) (drop at s)) ≡ r
      here = rw (rest_is at s) at (sym q)

      few : count < 16
      few = omega (arith, i.few)

      pub list_place : (p : Misfit) → r ≡ Err p → length s < 2 ^ 64 → Fits w64 (at + p.place)
      list_place p b z =
          let v = (step_bad (extension_after (oids_of count [] s)) (drop at s) p.place (here ∙ b)).1 in
          record { fits = omega (arith, length-drop at s) }

      pub list_bad : (p : Misfit) → r ≡ Err p → Err (misfit (at + p.place)) ≡ fit_of (extension_list.dec s)
      unfolding later
      list_bad p b =
          let v = (step_bad (extension_after (oids_of count [] s)) (drop at s) p.place (here ∙ b)).0 in
          sym (i.same ∙ ap (later at) (rest_bad (oids_of count [] s) count (drop at s) left few p.place v))

      module _ (n : ℕ) (b : r ≡ Ok n) where
        inside : (0 < n) × (at + n ≤ length s)
        inside =
            let v = step_taken (extension_after (oids_of count [] s)) (drop at s) n (here ∙ b) in
            omega (arith, v.2, v.3, length-drop at s)

        -- one more OID
        module _ (a : Extension) (g : read_after (oids_of count [] s) (drop at s) ≡ got a n) where
          step_oids : (j : ℕ) → oids_of (suc j) (oids_of count [] s) (drop at s) ≡ oids_of j (a.oid ∷ oids_of count [] s) (drop (at + n) s)
          unfolding oids_of
          step_oids j =
              let v = named (oids_of count [] s) (drop at s) a n g in
              rw (v.is, v.oid, drop-drop n at s)

          more_oids : oids_of (count + 1) [] s ≡ a.oid ∷ oids_of count [] s
          unfolding oids_of
          more_oids = i.oids 1 ∙ step_oids 0

          passed : Passed s (count + 1) (at + n)
          passed j =
              let e : count + 1 + j ≡ count + suc j = omega arith in
              ap (λ (k : ℕ). oids_of k [] s) e ∙ i.oids (suc j) ∙ step_oids j ∙ rw more_oids

          next : Reading s (count + 1) (at + n)
          next = record {
            le = inside.1;
            few = omega (arith, few);
            oids = passed;
            same =
                i.same ∙ ap (later at) (rest_got (oids_of count [] s) count (drop at s) left few a n g)
                ∙ later_later at n (rest (a.oid ∷ oids_of count [] s) (count + 1) (drop n (drop at s)))
                ∙ rw (drop-drop n at s, more_oids);
          }

        pub list_sum : length s < 2 ^ 64 → Fits w64 (at + n)
        list_sum z = record { fits = omega (arith, inside.1) }

        pub list_less : length s - (at + n) < length s - at
        list_less = omega (arith, inside.0, inside.1)

        pub list_next : Reading s (count + 1) (at + n)
        list_next = let v = step_taken (extension_after (oids_of count [] s)) (drop at s) n (here ∙ b) in next v.0 v.1
