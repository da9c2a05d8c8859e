-- The response as a whole against its reading: a basic response is judged by its parts, its entries lie inside it, and
-- refusals 6 to 9 are told from the octets of its parts as the table tells them.
-- judged_basic; opened_inside; part_short, refusal_is. The definitions are in Opened, and in Signer and Order of crate
-- rules.
-- Assumes nothing.
use Rattle.std.specs.Prelude.{ℕ, ◌+◌, ◌-◌, ◌^◌, ◌≤◌, ◌<◌, ◌≡◌, Bool, true, false, cond, ◌&&◌, List, eqb, ltb, drop, None, Ok, Err}
use native.Mathlib.Omega.{arith}
use Rattle.std.proofs.Math.Path.{refl, ap}
use Rattle.std.proofs.Common.{◌∙◌, length-drop, length-take-le, ltb-false}
use Rattle.std.proofs.Math.ListN.{length}
use Rattle.octets.specs.Octets.{Octets}
use Rattle.element.specs.declared.Span.{Span}
use Rattle.layout.specs.Reading.{Basic, failed, basic}
use Rattle.layout.proofs.LimitsLaws.{responder_limits}
use Rattle.layout.proofs.PartLimitsLaws.{option_limits, extensions_limits}
use Rattle.layout.specs.Limits.{ExtensionsOk, BasicOk}
use Rattle.layout.proofs.Format.{extensions, basic_body}
use Rattle.layout.specs.Read.{Outcome, reads, other_type, unfit}
use Rattle.layout.proofs.Read.{reading}
use Rattle.layout.proofs.ReadLaws.{fits_64}
use Rattle.layout.proofs.Theorem.{sound}
use Rattle.read_content.specs.ExpectLaws.{never}
use Rattle.read_critical.specs.Strange.{strange_of}
use Rattle.read_response.specs.Parts.{parts_from, judged_as, judged_of}
use Rattle.read_response.proofs.PartsLaws.{responder_stands, entries_stand, extensions_stand}
use Rattle.read_response.specs.Stands.{Stands}
use Rattle.read_response.specs.declared.Parts.{Parts}
use Rattle.read_response.specs.declared.Unread.TheVariants as unread
use Rattle.read_response.specs.Judged.{Judged}
use Rattle.read_response.specs.Refusals.{refusal}
use Rattle.rules.specs.declared.Question.{Question}
use Rattle.rules.specs.Signer.{is_signer, in_response, strange_in}
use Rattle.rules.specs.Order.{lacks_mark}
use Rattle.rule_tests.specs.StrangePlace.{is_place, response_known}
use Rattle.rule_tests.specs.StrangeInLaws.{strange_response}
use Rattle.rule_response.specs.SignerIn.{signs_in}
use Rattle.rule_response.specs.SignerInLaws.{signs_form}
use Rattle.rule_response.specs.Opened.{lacks, refusal_in, cut_at, number_opened, parts_opened, opened_by, opened_of}

-- ── a basic response is judged by its parts ──
judged_from_lem : (n : ℕ) (o : Outcome) (p : Parts) → judged_as n o ≡ Ok p
    → (b : Basic) × (o ≡ reads (basic b)) × (p ≡ parts_from (n - length (basic_body.enc b)) b)
unfolding judged_as
judged_from_lem n (reads (basic b)) p e = (b, refl, cc)
judged_from_lem n (reads (failed c)) p e = never (cc)
judged_from_lem n other_type p e = never (cc)
judged_from_lem n (unfit k) p e = never (cc)

pub judged_basic : (s : List ℕ) (p : Parts) → judged_of s ≡ Ok p
    → (b : Basic) × (reading s ≡ reads (basic b)) × (p ≡ parts_from (length s - length (basic_body.enc b)) b)
unfolding judged_of
judged_basic s p e = go (ltb 16384 (length s)) e
  where
    go : (t : Bool) → cond t (Err unread.TooLong) (judged_as (length s) (reading s)) ≡ Ok p
        → (b : Basic) × (reading s ≡ reads (basic b)) × (p ≡ parts_from (length s - length (basic_body.enc b)) b)
    go true e = never (cc)
    go false e = judged_from_lem (length s) (reading s) p e

-- ── where the entries are ──
number_clear : (at : Span) (n : ℕ) (v : Span) → number_opened at n ≡ Ok v → at ≡ v
unfolding number_opened
number_clear at n v e = go (eqb n 0) e
  where
    go : (t : Bool) → cond t (Ok at) (Err (refusal n 0 None)) ≡ Ok v → at ≡ v
    go true e = cc
    go false e = never (cc)

module _ (q : Question) (name s : List ℕ) where
  parts_clear : (p : Parts) (v : Span) → parts_opened q name s p ≡ Ok v → p.entries ≡ v
  unfolding parts_opened
  parts_clear p v e = number_clear p.entries _ v e

  by_clear : (j : Judged) (v : Span) → opened_by q name s j ≡ Ok v → (p : Parts) × (j ≡ Ok p) × (p.entries ≡ v)
  unfolding opened_by
  by_clear (Ok p) v e = (p, refl, parts_clear p v e)
  by_clear (Err u) v e = never (cc)

  -- the entries lie inside the response
  pub opened_inside : Octets s → (v : Span) → opened_of q name s ≡ Ok v → v.start + v.len ≤ length s
  unfolding opened_of
  opened_inside o v e =
      let (p, ej, i) = by_clear (judged_of s) v e in
      let (x, er, ep) = judged_basic s p ej in
      rw (← i, ep) (entries_stand s x o er).inside

-- ── 6 to 9 ──
lacks_and : (role marks : ℕ) → lacks role marks ≡ eqb role 2 && lacks_mark marks
unfolding lacks
lacks_and role marks = go (eqb role 2) (lacks_mark marks)
  where
    go : (t u : Bool) → cond t u false ≡ t && u
    go true u = refl
    go false u = refl

module _ (s : List ℕ) (o : Octets s) (size : ltb 16384 (length s) ≡ false) (b : Basic) (r : reading s ≡ reads (basic b)) where
  limits : BasicOk b
  limits = (sound s (basic b) o r).0

  -- a part is short
  pub part_short : (at : Span) (x : List ℕ) → Stands s at x → length x < 2 ^ 64
  part_short at x v =
      fits_64 (length x) (omega (arith, v.inside, ltb-false 16384 (length s) size, ap length v.octets, length-take-le at.len (drop at.start s) (simp length-drop (omega (arith, v.inside)))))

  module _ (q : Question) (name : List ℕ) where
    abbrev parts : Parts
    parts = parts_from (length s - length (basic_body.enc b)) b

    signs_is : signs_in q.signer name (cut_at s parts.responder) ≡ is_signer q.signer name b.signed.responder
    signs_is =
        let v = responder_stands s b o r in
        ap (signs_in q.signer name) v.octets
        ∙ signs_form q.signer name b.signed.responder ((responder_limits b.signed.responder).1 limits.signed.responder) (part_short _ _ v)

    strange_is : is_place (strange_of response_known (cut_at s parts.extensions)) ≡ strange_in in_response b.signed.extensions
    strange_is =
        let v = extensions_stand s b o r in
        ap (λ (x : List ℕ). is_place (strange_of response_known x)) v.octets
        ∙ strange_response b.signed.extensions ((option_limits extensions.ok ExtensionsOk extensions_limits b.signed.extensions).1 limits.signed.extensions) (part_short _ _ v)

    -- the first of 6 to 9 that applies, by the reading
    pub refusal_is : refusal_in q name (cut_at s parts.responder) (cut_at s parts.extensions)
        ≡ cond (eqb q.verdict 1) (cond (is_signer q.signer name b.signed.responder) (cond (eqb q.role 2 && lacks_mark q.marks) 8 (cond (strange_in in_response b.signed.extensions) 9 0)) 7) 6
    unfolding refusal_in
    refusal_is = rw (signs_is, strange_is, lacks_and q.role q.marks)
