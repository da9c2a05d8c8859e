-- The plain limits of an entry, the signed part, a basic response and the envelope are exactly what the
-- layout's codecs ask.
-- entry_limits; key_limits, responder_limits, signed_limits, signature_limits, certificates_limits,
-- basic_limits; failure_limits, success_limits. What an entry is made of is in PartLimitsLaws.
-- Assumes nothing.
use Rattle.std.specs.Prelude.{ℕ, ◌≤◌, ◌≡◌, refl, List, ◌↔◌}
use Rattle.std.proofs.Common.{arith, lit<, ne_eqb}
use Rattle.std.proofs.lemmas.Bool.{eqb-false}
use Rattle.octets.specs.Octets.{Octets}
use Rattle.codec.specs.Tree.{Tree}
use Rattle.layout.specs.Reading.{Entry, Responder, by_name, by_key, Signed, Basic}
use Rattle.layout.specs.Limits.{TimeOk, OidOk, SequenceOk, ExtensionsOk, EntryOk, KeyOk, ResponderOk, SignedOk, SignatureOk, CertificatesOk, BasicOk, FailureOk}
use Rattle.layout.proofs.PartLimitsLaws.{option_limits, all_limits, there_limits, between_limits, most_but, sequence_limits, oid_limits, time_limits, algorithm_limits, cert_limits, status_limits, extensions_limits}
use Rattle.layout.specs.Words.{status_ok}
use Rattle.layout.proofs.ElementKinds.{free_sequence}
use Rattle.layout.specs.Names.{failure, success}
use Rattle.layout.proofs.Format.{extensions, next_update, single_body, single_response, name_id, key_id, responder_id, v1, version, responses, signed_fields, signed_body, response_data, signature_bits, certificates, basic_body, basic_response, response_bytes, envelope_body, envelope}

-- ── an entry ──
pub entry_limits : (e : Entry) → single_response.ok e ↔ EntryOk e
unfolding single_response single_body next_update
entry_limits e =
    let n = option_limits next_update.ok TimeOk time_limits e.next_update in
    let x = option_limits extensions.ok ExtensionsOk extensions_limits e.extensions in (
      λ h. record {
        cert = (cert_limits e.cert).0 h.0;
        status = (status_limits e.status).0 h.1.0;
        this_update = (time_limits e.this_update).0 h.1.1.0;
        next_update = n.0 h.1.1.1.0;
        extensions = x.0 h.1.1.1.1.0;
      },
      λ h. (
        (cert_limits e.cert).1 h.cert,
        (
          (status_limits e.status).1 h.status,
          (
            (time_limits e.this_update).1 h.this_update,
            (n.1 h.next_update, (x.1 h.extensions, tt)),
          ),
        ),
      ),
    )

-- ── the signed part and the basic response ──
pub key_limits : (k : List ℕ) → key_id.ok k ↔ KeyOk k
unfolding key_id
key_limits k = (
  λ h. let v = (between_limits 20 20 k).0 h.1 in record { octets = h.0; size = omega arith },
  λ h. (h.octets, (between_limits 20 20 k).1 (omega (arith, h.size))),
)

pub responder_limits : (r : Responder) → responder_id.ok r ↔ ResponderOk r
unfolding responder_id name_id
responder_limits (by_name n) = sequence_limits n
responder_limits (by_key k) = key_limits k

pub signed_limits : (s : Signed) → response_data.ok s ↔ SignedOk s
unfolding response_data signed_body signed_fields responses version v1
signed_limits s =
    let a = all_limits single_response.ok EntryOk entry_limits s.entries in
    let x = option_limits extensions.ok ExtensionsOk extensions_limits s.extensions in (
      λ h. record {
        responder = (responder_limits s.responder).0 h.1.0;
        produced_at = (time_limits s.produced_at).0 h.1.1.0;
        entries = a.0 h.1.1.1.0.0;
        most = h.1.1.1.0.2;
        extensions = x.0 h.1.1.1.1.0;
      },
      λ h. (
        there_limits version.ok tt s.versioned,
        (
          (responder_limits s.responder).1 h.responder,
          (
            (time_limits s.produced_at).1 h.produced_at,
            ((a.1 h.entries, omega arith, h.most), (x.1 h.extensions, tt)),
          ),
        ),
      ),
    )

pub signature_limits : (c : List ℕ) → signature_bits.ok c ↔ SignatureOk c
unfolding signature_bits
signature_limits c = (λ h. record { octets = h.0; least = h.1 }, λ h. (h.octets, h.least))

pub certificates_limits : (l : List Tree) → certificates.ok l ↔ CertificatesOk l
unfolding certificates
certificates_limits l =
    let a = all_limits free_sequence.ok SequenceOk sequence_limits l in
    (λ h. record { each = a.0 h.0; most = h.2 }, λ h. (a.1 h.each, omega arith, h.most))

pub basic_limits : (b : Basic) → basic_response.ok b ↔ BasicOk b
unfolding basic_response basic_body
basic_limits b =
    let c = option_limits certificates.ok CertificatesOk certificates_limits b.certificates in (
      λ h. record {
        signed = (signed_limits b.signed).0 h.0;
        algorithm = (algorithm_limits b.algorithm).0 h.1.0;
        signature = (signature_limits b.signature).0 h.1.1.0;
        certificates = c.0 h.1.1.1.0;
      },
      λ h. (
        (signed_limits b.signed).1 h.signed,
        (
          (algorithm_limits b.algorithm).1 h.algorithm,
          ((signature_limits b.signature).1 h.signature, (c.1 h.certificates, tt)),
        ),
      ),
    )

-- ── the envelope ──
-- an error response
pub failure_limits : (n : ℕ) → envelope.ok (failure n) ↔ FailureOk n
unfolding envelope envelope_body status_ok
failure_limits n = (
  λ h. let v = (most_but 6 4 n).0 h.0.1 in record { least = some_of (eqb-false n 0 h.1); most = v.0; not4 = v.1 },
  λ h. ((omega (arith, h.most), (most_but 6 4 n).1 (h.most, h.not4)), ne_eqb n 0 (λ e. omega (arith, h.least)), tt),
)
  where
    some_of : (n ≡ 0 → ⊥) → 1 ≤ n
    some_of z = omega (arith, z)

-- a successful one: a type and octets
pub success_limits : (t c : List ℕ) → envelope.ok (success t c) ↔ (OidOk t × Octets c)
unfolding envelope envelope_body response_bytes status_ok
success_limits t c =
    (λ h. ((oid_limits t).0 h.2.0, h.2.1.0), λ h. ((lit< tt, refl), refl, ((oid_limits t).1 h.0, (h.1, refl))))
