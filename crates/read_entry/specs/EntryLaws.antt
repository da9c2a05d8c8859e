-- Laws of an entry at the head of a list: its header, and where the form of its CertID is.
-- entry_header, entry_cert.
-- The definition is in Ids. Assumes nothing.
use Rattle.std.specs.Prelude.{ℕ, ◌+◌, ◌-◌, ◌≤◌, ◌≡◌, refl, List, drop, Ok}
use native.Mathlib.Omega.{arith}
use Rattle.std.proofs.Math.Path.{sym}
use Rattle.std.proofs.Common.{ap, ◌∙◌, eq-eqb}
use Rattle.std.proofs.Math.ListN.{length, take, length-drop}
use Rattle.std.proofs.Math.Seq.{length-take-le}
use Rattle.octets.specs.Octets.{Octets}
use Rattle.octets.specs.OctetsLaws.{octets_take, octets_drop}
use Rattle.element.specs.Places.{header, span}
use Rattle.element.specs.Header.{header_of}
use Rattle.element.specs.HeaderLaws.{header_inside}
use Rattle.codec.specs.Codec.{read, got}
use Rattle.codec.proofs.Outcome.{renamed_read}
use Rattle.codec.specs.Tagged.{inner}
use Rattle.codec.specs.Mapped.{mapped_dec}
use Rattle.layout.specs.Reading.{Entry}
use Rattle.layout.proofs.Format.{cert_body, cert_id, single_body, single_response}
use Rattle.read_content.specs.Spots.{expected}
use Rattle.read_ending.specs.PartLaws.{cut_in, tagged_read, field_read}
use Rattle.read_entry.specs.Ids.{spot_moved, cert_in, cert_spot}

-- the CertID is the first field of an entry's content
cert_read : (c : List ℕ) (e : Entry) → single_body.dec c ≡ read e → (n : ℕ) × (cert_id.dec c ≡ got e.cert n)
unfolding single_body mapped_dec
cert_read c e q =
    let (x, ex, ee) = renamed_read _ _ e q in
    let (n, eg, _) = field_read cert_id.dec _ c x ex in
    (n, eg ∙ ap (λ (y : Entry). got y.cert n) ee)

found_expected : (t h m : ℕ) → expected t (Ok (header t h m)) ≡ Ok (span h m)
unfolding expected
found_expected t h m = rw (eq-eqb t t refl)

module _ (s : List ℕ) (e : Entry) (n : ℕ) (q : single_response.dec s ≡ got e n) where
  -- an entry's header is that of a SEQUENCE, and its content ends where the entry does
  pub entry_header : (h : ℕ) × (m : ℕ) × (header_of s ≡ Ok (header 0x30 h m)) × (h + m ≡ n) × (single_body.dec (take m (drop h s)) ≡ read e)
  unfolding single_response
  entry_header = tagged_read inner 0x30 single_body.dec s e n q

  -- the octets where its CertID's content is are its form
  pub entry_cert : Octets s → (b : ℕ) × (l : ℕ) × (cert_spot s ≡ Ok (span b l)) × (b + l ≤ length s) × (take l (drop b s) ≡ cert_body.enc e.cert)
  unfolding cert_spot cert_in spot_moved cert_id
  entry_cert o =
      let (h, m, f, _, g) = entry_header in
      let c = take m (drop h s) in
      let (k, eg) = cert_read c e g in
      let (u, v, f', _, g') = tagged_read inner 0x30 cert_body.dec c e.cert k eg in
      let i = (header_inside s 0x30 h m f).1 in
      let j = (header_inside c 0x30 u v f').1 in
      let long : length c ≡ m = length-take-le m (drop h s) (simp length-drop (omega arith)) in
      let w = (cert_body.sound (take v (drop u c)) e.cert (octets_take v (drop u c) (octets_drop u c (octets_take m (drop h s) (octets_drop h s o)))) g').1 in
      (h + u, v, rw (f, found_expected 0x30 h m, f', found_expected 0x30 u v), omega arith, sym (cut_in h m u v s i (omega arith)) ∙ w)
