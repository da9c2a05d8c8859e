-- The cases of the response as a whole: the marks, 6 to 9 in order, and by what the response is.
-- Assumes nothing.
use Prim.Native.Nat.{ℕ, ◌+◌, ◌-◌, ◌%◌, ◌≤◌}
use mathlib.Core.Path.{◌≡◌, sym, ◌∙◌}
use mathlib.Core.Bool.{Bool, true, false, not}
use mathlib.Core.List.{List}
use Rattle.std.specs.Prelude.{None, Ok, Err}
use lib.Dec.{eqb}
use lib.ListN.{length, get_or, take, drop}
use borrow.Author.Tests.{eq-eqb, ne_eqb, not-true, not-false}
use mir.Syntax.{w8}
use mir.Val.{Fits}
use Rattle.octets.specs.Octets.{Octets}
use Rattle.octets.specs.OctetsLaws.{octets_from}
use Rattle.octets.specs.LentLaws.{Known, known_octets, part_is}
use Rattle.element.specs.declared.Span.{Span}
use Rattle.layout.specs.Reading.{Basic, basic}
use Rattle.layout.specs.Read.{reads}
use Rattle.layout.proofs.Read.{reading}
use Rattle.layout.proofs.Format.{basic_body}
use Rattle.read_critical.specs.Strange.{strange_of}
use Rattle.read_response.specs.Parts.{parts_from, judged_of}
use Rattle.read_response.proofs.PartsLaws.{responder_stands, extensions_stand}
use Rattle.read_response.specs.Refusals.{refusal, refusal_of}
use Rattle.read_response.specs.declared.Parts.{Parts}
use Rattle.read_response.specs.declared.Refusal.{Refusal}
use Rattle.read_response.specs.declared.Unread.{Unread}
use Rattle.read_response.specs.Judged.{Judged}
use Rattle.rules.specs.declared.Question.{Question}
use Rattle.rule_tests.specs.StrangePlace.{is_place, response_known}
use Rattle.rule_response.specs.SignerIn.{signs_in}
use Rattle.rule_response.specs.Opened.{Opened, lacks, refusal_in, number_opened, parts_opened, opened_by, opened_of}
use Rattle.rule_response.specs.OpenedLaws.{judged_basic}

-- ── the marks ──
module _ (role marks : ℕ) where
  pub mark_other : (role ≡ 2 → ⊥) → false ≡ lacks role marks
  unfolding lacks
  mark_other h = rw (ne_eqb role 2 h)

  pub mark_delegate : role ≡ 2 → not (eqb (marks % 8) 7) ≡ lacks role marks
  unfolding lacks
  mark_delegate h = rw (eq-eqb role 2 h)

-- ── 6 to 9 ──
module _ (q : Question) (name responder extensions : List ℕ) where
  pub verdict_other : (q.verdict ≡ 1 → ⊥) → 6 ≡ refusal_in q name responder extensions
  unfolding refusal_in
  verdict_other h = rw (ne_eqb q.verdict 1 h)

  module _ (v : q.verdict ≡ 1) (g : Bool) (x : g ≡ signs_in q.signer name responder) where
    pub signer_other : not g ≡ true → 7 ≡ refusal_in q name responder extensions
    unfolding refusal_in
    signer_other h = rw (eq-eqb q.verdict 1 v, ← x, not-true g h)

    module _ (k : not g ≡ false) (m : Bool) (y : m ≡ lacks q.role q.marks) where
      pub marks_missing : m ≡ true → 8 ≡ refusal_in q name responder extensions
      unfolding refusal_in
      marks_missing h = rw (eq-eqb q.verdict 1 v, ← x, not-false g k, ← y, h)

      module _ (j : m ≡ false) (t : Bool) (z : t ≡ is_place (strange_of response_known extensions)) where
        pub extension_strange : t ≡ true → 9 ≡ refusal_in q name responder extensions
        unfolding refusal_in
        extension_strange h = rw (eq-eqb q.verdict 1 v, ← x, not-false g k, ← y, j, ← z, h)

        pub response_clear : t ≡ false → 0 ≡ refusal_in q name responder extensions
        unfolding refusal_in
        response_clear h = rw (eq-eqb q.verdict 1 v, ← x, not-false g k, ← y, j, ← z, h)

-- ── the parts ──
module _ (q : Question) (name s : List ℕ) (p : Parts) where
  -- by the number, from the octets of the parts as the code lends them
  number_is : (n : ℕ) → refusal_in q name (take (p.responder.start + p.responder.len - p.responder.start) (drop p.responder.start s)) (take (p.extensions.start + p.extensions.len - p.extensions.start) (drop p.extensions.start s)) ≡ n
      → refusal_in q name (take p.responder.len (drop p.responder.start s)) (take p.extensions.len (drop p.extensions.start s)) ≡ n
  number_is n x = rw (part_is p.responder.start p.responder.len s, part_is p.extensions.start p.extensions.len s) at x

  module _ (n : ℕ) (x : refusal_in q name (take (p.responder.start + p.responder.len - p.responder.start) (drop p.responder.start s)) (take (p.extensions.start + p.extensions.len - p.extensions.start) (drop p.extensions.start s)) ≡ n) where
    pub parts_refused : (n ≡ 0 → ⊥) → parts_opened q name s p ≡ Err (refusal n 0 None)
    unfolding parts_opened number_opened
    parts_refused h = rw (number_is n x, ne_eqb n 0 h)

    pub parts_clear : n ≡ 0 → parts_opened q name s p ≡ Ok p.entries
    unfolding parts_opened number_opened
    parts_clear h = rw (number_is n x, eq-eqb n 0 h)

-- ── the whole ──
module _ (q : Question) (name s : List ℕ) where
  pub open_err : (u : Unread) → judged_of s ≡ Err u → opened_of q name s ≡ Err (refusal_of (Err u))
  unfolding opened_of opened_by
  open_err u h = rw h

  module _ (p : Parts) (h : judged_of s ≡ Ok p) where
    pub open_basic : opened_of q name s ≡ parts_opened q name s p
    unfolding opened_of opened_by
    open_basic = rw h

    abbrev Inside : Span → Type 0
    Inside at = at.start + at.len ≤ length s

    module _ (known : Known s) where
      both_inside : Inside p.responder × Inside p.extensions
      both_inside =
          let (b, r, e) = judged_basic s p h in
          let o = known_octets s known in
          rw e ((responder_stands s b o r).inside, (extensions_stand s b o r).inside)

      pub responder_inside : p.responder.start + p.responder.len ≤ length s
      responder_inside = both_inside.0

      pub extensions_inside : p.extensions.start + p.extensions.len ≤ length s
      extensions_inside = both_inside.1

pub ruleset mark_cases = (mark_other, mark_delegate)

pub ruleset refusal_cases = (verdict_other, signer_other, marks_missing, extension_strange, response_clear)

pub ruleset parts_cases = (parts_refused, parts_clear)

pub ruleset open_cases = (open_err, open_basic, responder_inside, extensions_inside)
