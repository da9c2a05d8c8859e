-- The algorithms that a test knows, as a list, and the octets of their identifiers; the two that an OID
-- with parameters absent or 05 00 has; SHA-1's.
-- Listed, Knows, heads_of; form_small; plain_of, null_of, knows_oid; sha1_heads_lem, knows_sha1.
-- The laws stand here, and what is made of them; the definitions in specs/Known.
-- Assumes nothing.
use Rattle.std.specs.Prelude.{ℕ, ◌+◌, ◌≤◌, ◌≡◌, true, ◌&&◌, eqb, length}
use native.Mathlib.Omega.{arith}
use Rattle.std.proofs.Math.Path.{refl}
use Rattle.std.proofs.Common.{sym, subst, inl, inr, length-append, eqb-true}
use mathlib.Core.List.{List, [], ◌∷◌, ◌++◌}
use Rattle.std.proofs.Math.Option.{Option, none, some}
use Rattle.std.proofs.Math.Dec.{lit<}
use Rattle.octets.specs.Same.{same_of}
use Rattle.octets.specs.SameLaws.{impossible, same_true, same_refl}
use Rattle.element.specs.Tag.{tag_ok}
use Rattle.element.specs.Length.{length_form}
use Rattle.element.specs.Form.{form_of}
use Rattle.element.specs.FormLaws.{form_length, head_size_lem}
use Rattle.content.specs.Oid.{oid_ok, oid_from}
use Rattle.codec.specs.Tree.{Tree, prim, node, TreeOk, depth, tree_enc}
use Rattle.layout.specs.Reading.{Algorithm}
use Rattle.layout.specs.Limits.{OidOk, AlgorithmOk}
use Rattle.layout.proofs.ElementKinds as kinds
use Rattle.layout.proofs.EntryFormat.{algorithm_body, algorithm_identifier}
use Rattle.layout.specs.Sha1.{sha1}
use Rattle.rule_matching.specs.Match.{is_plain, is_sha1}
use Rattle.rule_matching.proofs.Matched.{both}
use Rattle.rule_matching.specs.CertForm.{sha1_heads}
use Rattle.rule_matching.specs.Known.{Knows, Listed, heads_of, null_of, plain_of}

-- an element of few octets
pub form_small : (t : ℕ) (c : List ℕ) → length c ≤ 256 → length (form_of t c) ≤ length c + 10
form_small t c h = omega (arith, form_length t c, head_size_lem (length c) (omega arith))

-- ---- an OID without parameters, or with 05 00

-- no other parameters pass
plain_params : (o : List ℕ) (p : Option Tree) → is_plain p ≡ true
    → Listed record { oid = o; parameters = p } (plain_of o ∷ null_of o ∷ [])
plain_params o none e = inl refl
plain_params o (some (prim t c)) e =
    let q = both (eqb t 5) (same_of c []) e in
    let i = eqb-true t 5 q.0 in
    let j = same_true c [] q.1 in
    inr (inl (λ n. record { oid = o; parameters = some (prim (i n) (j n)) }))
plain_params o (some (node t r)) e = impossible e

-- what holds of both
by_two : (P : Algorithm → Type 0) (o : List ℕ) → P (plain_of o) → P (null_of o) → (a : Algorithm) → Listed a (plain_of o ∷ null_of o ∷ []) → P a
by_two P o x y a (inl i) = subst P (sym i) x
by_two P o x y a (inr (inl i)) = subst P (sym i) y
by_two P o x y a (inr (inr z)) = absurd z

module _ (o : List ℕ) (k : OidOk o) (l : length o ≤ 64) where
  -- the octets of both are few
  few : (p : List ℕ) → length p ≤ 64 → length (form_of 0x30 (form_of 0x06 o ++ p)) ≤ 1024
  few p h =
      let x = form_small 0x06 o (omega arith) in
      let y = form_small 0x30 (form_of 0x06 o ++ p) (simp length-append (omega arith)) in
      omega (arith, length-append (form_of 0x06 o) p)

  plain_fits : AlgorithmOk (plain_of o) × (length (algorithm_identifier.enc (plain_of o)) ≤ 1024)
  unfolding algorithm_identifier algorithm_body kinds.oid
  plain_fits = (record { oid = k; parameters = tt }, few [] (omega arith))

  null_fits : AlgorithmOk (null_of o) × (length (algorithm_identifier.enc (null_of o)) ≤ 1024)
  unfolding algorithm_identifier algorithm_body kinds.oid kinds.free TreeOk tag_ok depth tree_enc
  null_fits = (
    record { oid = k; parameters = record { tree = (refl, lit< tt, refl, tt); deep = omega arith } },
    few (form_of 0x05 []) (omega (arith, form_small 0x05 [] (omega arith))),
  )

  -- the test of an OID and of such parameters knows the two
  pub knows_oid : Knows (λ a. same_of a.oid o && is_plain a.parameters) (plain_of o ∷ null_of o ∷ [])
  unfolding same_of
  knows_oid = record {
    fits = by_two _ o plain_fits null_fits;
    knows = by_two (λ a. same_of a.oid o && is_plain a.parameters ≡ true) o (rw (same_refl o)) (rw (same_refl o));
    only = λ a e.
        let q = both (same_of a.oid o) (is_plain a.parameters) e in
        let i = same_true a.oid o q.0 in
        rw (← i) (plain_params a.oid a.parameters q.1);
  }

-- SHA-1: the octets of the two, and that its test knows them
pub sha1_heads_lem : heads_of (plain_of sha1 ∷ null_of sha1 ∷ []) ≡ sha1_heads
unfolding algorithm_identifier algorithm_body kinds.oid kinds.free tree_enc form_of length_form
sha1_heads_lem = refl

pub knows_sha1 : Knows is_sha1 (plain_of sha1 ∷ null_of sha1 ∷ [])
unfolding oid_ok oid_from
knows_sha1 =
    knows_oid sha1 record { octets = (lit< tt, (lit< tt, (lit< tt, (lit< tt, (lit< tt, tt))))); rule = refl } (omega arith)
