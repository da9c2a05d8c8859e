-- How a reading comes from the envelope and the basic response, case by case: what Theorem is made of.
-- From, reads_from; Wrong, unfit_from; fits_64, type_oid, string_fits, string_ok.
-- Assumes nothing.
use Rattle.std.specs.Prelude.{ℕ, ◌+◌, ◌-◌, ◌^◌, ◌≤◌, ◌<◌, ◌≡◌, refl, Bool, true, false, cond, List, length}
use Rattle.std.proofs.Common.{arith, ap, ◌∙◌}
use Rattle.octets.specs.Same.{same_of}
use Rattle.octets.specs.SameLaws.{same_true}
use Rattle.content.specs.Oid.{oid_from, oid_ok}
use Rattle.codec.specs.Codec.{Read, read, broke}
use Rattle.layout.specs.Reading.{Basic, Reading, failed, basic}
use Rattle.layout.specs.Names.{Envelope, failure, success}
use Rattle.layout.specs.Limits.{OidOk, BasicOk}
use Rattle.layout.proofs.LimitsLaws.{basic_limits, success_limits}
use Rattle.layout.proofs.InnerLaws.{string_short}
use Rattle.layout.proofs.Format.{basic_response, envelope}
use Rattle.layout.specs.Read.{basic_type, reads, other_type, unfit, inner_reading}
use Rattle.layout.proofs.Read.{envelope_reading, reading}

-- ── outcomes are apart ──
unfit_reads : {X : Type 0} {p : ℕ} {r : Reading} → unfit p ≡ reads r → X
unfit_reads e = let z : ◌≡◌ {A = ℕ} 0 1 = cc in absurd (omega arith)

other_reads : {X : Type 0} {r : Reading} → other_type ≡ reads r → X
other_reads e = let z : ◌≡◌ {A = ℕ} 0 1 = cc in absurd (omega arith)

reads_unfit : {X : Type 0} {p : ℕ} {r : Reading} → reads r ≡ unfit p → X
reads_unfit e = let z : ◌≡◌ {A = ℕ} 0 1 = cc in absurd (omega arith)

other_unfit : {X : Type 0} {p : ℕ} → other_type ≡ unfit p → X
other_unfit e = let z : ◌≡◌ {A = ℕ} 0 1 = cc in absurd (omega arith)

-- ── where a reading comes from ──
-- an error envelope, or a basic one whose string is a basic response
pub data From (s : List ℕ) : Reading → Type 0 where
  by_status : (n : ℕ) → envelope.dec s ≡ read (failure n) → From s (failed n)
  by_string : (c : List ℕ) (b : Basic) → envelope.dec s ≡ read (success basic_type c) → basic_response.dec c ≡ read b → From s (basic b)

pub reads_from : (s : List ℕ) (r : Reading) → reading s ≡ reads r → From s r
unfolding reading
reads_from s r e = by_envelope (envelope.dec s) refl e
  where
    by_basic : (c : List ℕ) → envelope.dec s ≡ read (success basic_type c) → (at : ℕ) (x : Read Basic) → basic_response.dec c ≡ x → inner_reading at x ≡ reads r → From s r
    by_basic c ev at (broke p) ex e = unfit_reads e
    by_basic c ev at (read b) ex e = let i : basic b ≡ r = cc in rw (← i) (by_string c b ev ex)

    by_type : (t c : List ℕ) → envelope.dec s ≡ read (success t c) → (b : Bool) → same_of t basic_type ≡ b
        → cond b (inner_reading (length s - length c) (basic_response.dec c)) other_type ≡ reads r → From s r
    by_type t c ev false k e = other_reads e
    by_type t c ev true k e = by_basic c (ev ∙ ap (λ (u : List ℕ). read (success u c)) (same_true t basic_type k)) _ (basic_response.dec c) refl e

    by_envelope : (x : Read Envelope) → envelope.dec s ≡ x → envelope_reading s x ≡ reads r → From s r
    by_envelope (broke p) ev e = unfit_reads e
    by_envelope (read (failure n)) ev e = let i : failed n ≡ r = cc in rw (← i) (by_status n ev)
    by_envelope (read (success t c)) ev e = by_type t c ev (same_of t basic_type) refl e

-- ── where a wrong place comes from ──
-- the envelope, or the string's content, which stands at its place
pub data Wrong (s : List ℕ) : ℕ → Type 0 where
  in_envelope : {p : ℕ} → envelope.dec s ≡ broke p → Wrong s p
  in_string : (t c : List ℕ) (q : ℕ) → envelope.dec s ≡ read (success t c) → basic_response.dec c ≡ broke q → Wrong s (length s - length c + q)

pub unfit_from : (s : List ℕ) (p : ℕ) → reading s ≡ unfit p → Wrong s p
unfolding reading
unfit_from s p e = by_envelope (envelope.dec s) refl e
  where
    by_basic : (t c : List ℕ) → envelope.dec s ≡ read (success t c) → (x : Read Basic) → basic_response.dec c ≡ x
        → inner_reading (length s - length c) x ≡ unfit p → Wrong s p
    by_basic t c ev (read b) ex e = reads_unfit e
    by_basic t c ev (broke q) ex e = let i : length s - length c + q ≡ p = cc in rw (← i) (in_string t c q ev ex)

    by_type : (t c : List ℕ) → envelope.dec s ≡ read (success t c) → (b : Bool)
        → cond b (inner_reading (length s - length c) (basic_response.dec c)) other_type ≡ unfit p → Wrong s p
    by_type t c ev false e = other_unfit e
    by_type t c ev true e = by_basic t c ev (basic_response.dec c) refl e

    by_envelope : (x : Read Envelope) → envelope.dec s ≡ x → envelope_reading s x ≡ unfit p → Wrong s p
    by_envelope (broke q) ev e = let i : q ≡ p = cc in rw (← i) (in_envelope ev)
    by_envelope (read (failure n)) ev e = reads_unfit e
    by_envelope (read (success t c)) ev e = by_type t c ev (same_of t basic_type) e

-- ── forms of at most 16,384 octets ──
pub fits_64 : (n : ℕ) → n ≤ 16384 → n < 2 ^ 64
fits_64 n h = omega arith

-- the basic type is an OID
pub type_oid : OidOk basic_type
unfolding oid_ok oid_from
type_oid = record { octets = omega arith; rule = refl }

-- a basic response as the string of an envelope
module _ (b : Basic) where
  pub string_fits : length (envelope.enc (success basic_type (basic_response.enc b))) ≤ 16384 → length (basic_response.enc b) < 2 ^ 64
  string_fits z = let s = string_short basic_type (basic_response.enc b) in omega arith

  pub string_ok : BasicOk b → length (envelope.enc (success basic_type (basic_response.enc b))) ≤ 16384
      → envelope.ok (success basic_type (basic_response.enc b))
  string_ok h z = (success_limits basic_type (basic_response.enc b)).1 (type_oid, basic_response.octets b ((basic_limits b).1 h) (string_fits z))
