-- Laws of the places that are shown to C: what the octets there are, in the terms of what the response reads as, and that the
-- certificates lie inside it.
-- certificates_inside; algorithm_octets, certificates_octets, certificates_absent, certificates_none.
-- `Octets s` says that the numbers of a list are octets; of a call's response its type says so, a slice of `u8`.
-- The definitions are in Places. The other parts' laws are in PartsLaws of crate show. Assumes nothing.
use Rattle.std.specs.Prelude.{ℕ, ◌+◌, ◌^◌, ◌≤◌, ◌<◌, ◌≡◌, length}
use Rattle.std.proofs.Common.{arith}
use Rattle.std.proofs.Math.Path.{refl}
use mathlib.Core.List.{List, []}
use Rattle.std.proofs.Math.Option.{Option, none, some}
use Rattle.octets.specs.Octets.{Octets}
use Rattle.codec.specs.Many.{forms}
use Rattle.codec.specs.Option.{option_enc}
use Rattle.codec.specs.Tree.{Tree}
use Rattle.layout.specs.Reading.{Basic, basic}
use Rattle.layout.proofs.ElementKinds.{free_sequence}
use Rattle.layout.proofs.Format.{algorithm_identifier, certificates}
use Rattle.layout.specs.Read.{reads}
use Rattle.layout.proofs.Read.{reading}
use Rattle.read_response.specs.Parts.{judged_of}
use Rattle.read_response.specs.Stands.{Stands}
use Rattle.read_response.proofs.PartsLaws.{algorithm_stands, certificates_stand}
use Rattle.read_response.proofs.JudgedLaws.{basic_judged}
use Rattle.show.specs.Parts.{empty_span, shown_parts}
use Rattle.show.proofs.PartsLaws.{list_inside}
use Rattle.show.specs.Shown.{octets_in}
use Rattle.desk_c.specs.Places.{algorithm_in, certificates_in}
use Rattle.desk_c.specs.HeldLaws.{held_octets, held_none, held_inside, held_nothing}

-- the certificates lie inside the response
pub certificates_inside : (s : List ℕ) → Octets s → (certificates_in s (judged_of s)).start + (certificates_in s (judged_of s)).len ≤ length s
certificates_inside s o = held_inside s (shown_parts (judged_of s)).certificates (list_inside s o)

-- ── of a response that reads as a basic one ──
module _ (s : List ℕ) (b : Basic) (o : Octets s) (le : length s ≤ 16384) (e : reading s ≡ reads (basic b)) where
  -- the algorithm's octets are the form of the reading's algorithm identifier
  pub algorithm_octets : octets_in s (algorithm_in (judged_of s)) ≡ algorithm_identifier.enc b.algorithm
  unfolding shown_parts
  algorithm_octets = rw (basic_judged s b le e) (algorithm_stands s b o e).octets

  small : length s < 2 ^ 64
  small = omega arith

  stands : Stands s (shown_parts (judged_of s)).certificates (option_enc certificates.enc b.certificates)
  unfolding shown_parts
  stands = rw (basic_judged s b le e) (certificates_stand s b o e)

  -- the certificates' octets are the forms of the reading's certificates, in their order, or nothing
  pub certificates_octets : octets_in s (certificates_in s (judged_of s)) ≡ option_enc (forms free_sequence.enc) b.certificates
  unfolding certificates
  certificates_octets = go b.certificates stands
    where
      go : (l : Option (List Tree)) → Stands s (shown_parts (judged_of s)).certificates (option_enc certificates.enc l)
          → octets_in s (certificates_in s (judged_of s)) ≡ option_enc (forms free_sequence.enc) l
      go none v = rw (held_nothing s (shown_parts (judged_of s)).certificates v)
      go (some l) v = held_octets s (shown_parts (judged_of s)).certificates (forms free_sequence.enc l) v small

  -- where there is no list of them the part is empty, and starts at 0
  pub certificates_absent : b.certificates ≡ none → certificates_in s (judged_of s) ≡ empty_span
  certificates_absent q = held_nothing s (shown_parts (judged_of s)).certificates (rw q at stands)

  -- and so where the list has none
  pub certificates_none : b.certificates ≡ some [] → certificates_in s (judged_of s) ≡ empty_span
  unfolding certificates
  certificates_none q = held_none s (shown_parts (judged_of s)).certificates [] (rw q at stands) small refl
