-- The algorithm identifier of nearly every CertID: SHA-1, parameters 05 00.
-- usual, its value; starts_usual; usual_other, usual_cut, usual_same: whether a list starts
-- with them, as code tests it; usual_read: a list that starts with them reads as this value.
-- Assumes nothing.
use Rattle.std.specs.Prelude.{ℕ, ◌-◌, ◌^◌, ◌<◌, ◌≡◌, Bool, Ok}
use Rattle.std.proofs.Common.{arith, ◌∙◌, lit<, take-append-drop, get_or-take}
use Rattle.std.proofs.Math.Path.{refl, sym, ap}
use Rattle.std.proofs.Math.Bool.{true, false}
use mathlib.Core.List.{List, [], ◌++◌}
use Rattle.std.proofs.Math.Option.{some}
use Rattle.std.proofs.Math.ListN.{length, get_or, take, drop, length-take}
use Rattle.octets.specs.Same.{same_of}
use Rattle.octets.specs.SameLaws.{same_true, same_short}
use Rattle.element.specs.Tag.{tag_ok}
use Rattle.element.specs.Length.{length_form}
use Rattle.element.specs.Form.{form_of}
use Rattle.content.specs.Oid.{oid_ok, oid_from}
use Rattle.codec.specs.Codec.{got}
use Rattle.codec.specs.Tree.{prim, TreeOk, depth, tree_enc}
use Rattle.codec.specs.Views.{step_of}
use Rattle.layout.specs.Reading.{Algorithm}
use Rattle.layout.specs.Limits.{AlgorithmOk}
use Rattle.layout.proofs.PartLimitsLaws.{algorithm_limits}
use Rattle.layout.proofs.ElementKinds as kinds
use Rattle.layout.proofs.EntryFormat.{algorithm_body, algorithm_identifier}
use Rattle.layout.specs.Sha1.{sha1, null_head}

-- 1.3.14.3.2.26, with NULL
abbrev pub usual : Algorithm
usual = record { oid = sha1; parameters = some (prim 5 []) }

-- a list starts with its eleven octets
unfoldable pub starts_usual : List ℕ → Bool
starts_usual s = same_of (take 11 s) null_head

usual_form : algorithm_identifier.enc usual ≡ null_head
unfolding algorithm_identifier algorithm_body kinds.oid kinds.free tree_enc form_of length_form
usual_form = refl

usual_fits : AlgorithmOk usual
unfolding oid_ok oid_from TreeOk tag_ok depth
usual_fits = record {
  oid = record { octets = (lit< tt, (lit< tt, (lit< tt, (lit< tt, (lit< tt, tt))))); rule = refl };
  parameters = record { tree = (refl, lit< tt, refl, tt); deep = omega arith };
}

usual_small : length (algorithm_identifier.enc usual) < 2 ^ 64
usual_small = let z : 11 < 2 ^ 64 = omega arith in rw usual_form z

usual_dec : (r : List ℕ) → algorithm_identifier.dec (null_head ++ r) ≡ got usual 11
usual_dec r = rw usual_form at (algorithm_identifier.complete usual r ((algorithm_limits usual).1 usual_fits) usual_small)

module _ (s : List ℕ) where
  -- another length octet
  pub usual_other : (get_or s 1 0 ≡ 9 → ⊥) → false ≡ starts_usual s
  unfolding starts_usual
  usual_other h = go (same_of (take 11 s) null_head) refl
    where
      go : (b : Bool) → same_of (take 11 s) null_head ≡ b → false ≡ b
      go false e = refl
      go true e =
          let q : get_or (take 11 s) 1 0 ≡ 9 = ap (λ (t : List ℕ). get_or t 1 0) (same_true (take 11 s) null_head e) in
          absurd (h (sym (get_or-take 11 s 1 0 (lit< tt)) ∙ q))

  pub usual_cut : length s < 11 → false ≡ starts_usual s
  unfolding starts_usual
  usual_cut h =
      sym (same_short (take 11 s) null_head (λ e. let f : length (take 11 s) ≡ 11 = e in absurd (omega (arith, simp length-take at f))))

  pub usual_same : (z : Bool) → z ≡ same_of (take (11 - 0) (drop 0 s)) null_head → z ≡ starts_usual s
  unfolding starts_usual
  usual_same z q = q

  pub usual_read : (z : Bool) → z ≡ starts_usual s → z ≡ true → Ok 11 ≡ step_of (algorithm_identifier.dec s)
  unfolding starts_usual step_of
  usual_read z q y =
      let e : take 11 s ≡ null_head = same_true (take 11 s) null_head (sym q ∙ y) in
      let f : s ≡ null_head ++ drop 11 s = sym (take-append-drop 11 s) ∙ ap (λ (l : List ℕ). l ++ drop 11 s) e in
      sym (ap (λ (l : List ℕ). step_of (algorithm_identifier.dec l)) f ∙ ap step_of (usual_dec (drop 11 s)))
