-- One reading, one string of octets (demand 3), of error responses and basic ones.
-- sound, complete, unique; der_octets; place_within_lem, inner_place.
-- The definitions are in Read (reading, der), Format (the layout) and Limits (Within).
-- Assumes nothing.
use Rattle.std.specs.Prelude.{ℕ, ◌-◌, ◌≤◌, ◌≡◌, List, ◌++◌, length, drop}
use Rattle.std.proofs.Common.{arith, sym, ap, ◌∙◌, length-append, drop_at}
use Rattle.octets.specs.Octets.{Octets}
use Rattle.octets.specs.SameLaws.{same_refl}
use Rattle.codec.specs.Codec.{read}
use Rattle.layout.specs.Reading.{Reading, failed, basic}
use Rattle.layout.specs.Names.{failure, success}
use Rattle.layout.proofs.Format.{basic_response, envelope}
use Rattle.layout.specs.Limits.{Within}
use Rattle.layout.proofs.LimitsLaws.{basic_limits, failure_limits, success_limits}
use Rattle.layout.proofs.InnerLaws.{string_last, string_read}
use Rattle.layout.specs.Read.{basic_type, reads, unfit}
use Rattle.layout.proofs.Read.{der, reading}
use Rattle.layout.proofs.ReadLaws.{From, by_status, by_string, reads_from, Wrong, in_envelope, in_string, unfit_from, fits_64, string_fits, string_ok}

-- what reads as a reading is its DER form, and the reading is within the limits
pub sound : (s : List ℕ) (r : Reading) → Octets s → reading s ≡ reads r → Within r × (s ≡ der r)
unfolding der
sound s r o e = go r (reads_from s r e)
  where
    go : (r : Reading) → From s r → Within r × (s ≡ der r)
    go r (by_status n ev) = let v = envelope.sound s (failure n) o ev in ((failure_limits n).0 v.0, v.1)
    go r (by_string c b ev eb) =
        let v = envelope.sound s (success basic_type c) o ev in
        let w = basic_response.sound c b ((success_limits basic_type c).0 v.0).1 eb in
        ((basic_limits b).0 w.0, v.1 ∙ ap (λ (x : List ℕ). envelope.enc (success basic_type x)) w.1)

-- the DER form of every reading within the limits, where it has at most 16,384 octets, reads as it
pub complete : (r : Reading) → Within r → length (der r) ≤ 16384 → reading (der r) ≡ reads r
unfolding der reading
complete (failed n) h z = rw (envelope.complete (failure n) ((failure_limits n).1 h) (fits_64 _ z))
complete (basic b) h z =
    rw (
      envelope.complete (success basic_type (basic_response.enc b)) (string_ok b h z) (fits_64 _ z),
      same_refl basic_type,
      basic_response.complete b ((basic_limits b).1 h) (string_fits b z),
    )

-- and is octets
pub der_octets : (r : Reading) → Within r → length (der r) ≤ 16384 → Octets (der r)
unfolding der
der_octets (failed n) h z = envelope.octets (failure n) ((failure_limits n).1 h) (fits_64 _ z)
der_octets (basic b) h z = envelope.octets (success basic_type (basic_response.enc b)) (string_ok b h z) (fits_64 _ z)

-- two strings of octets that read as one reading are one
pub unique : (s t : List ℕ) (r : Reading) → Octets s → Octets t → reading s ≡ reads r → reading t ≡ reads r → s ≡ t
unique s t r o p x y = (sound s r o x).1 ∙ sym (sound t r p y).1

-- a wrong place lies in the response or at its end
pub place_within_lem : (s : List ℕ) (p : ℕ) → reading s ≡ unfit p → p ≤ length s
place_within_lem s p e = go p (unfit_from s p e)
  where
    go : (p : ℕ) → Wrong s p → p ≤ length s
    go p (in_envelope ev) = envelope.within s p ev
    go p (in_string t c q ev eb) = omega (arith, string_read s t c ev, basic_response.within c q eb)

-- the string of a successful response is its last octets
pub inner_place : (s t c : List ℕ) → Octets s → envelope.dec s ≡ read (success t c) → c ≡ drop (length s - length c) s
inner_place s t c o e =
    let (x, i) = string_last t c in
    let j : s ≡ x ++ c = (envelope.sound s (success t c) o e).1 ∙ i in
    let n : length x ≡ length s - length c = omega (arith, length-append x c, ap length j) in
    sym (ap (drop (length s - length c)) j ∙ drop_at x c (length s - length c) n)
