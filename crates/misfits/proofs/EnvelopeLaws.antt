-- What was read of an envelope stands where its headers lead.
-- Stands, envelope_stands.
-- The laws stand here, and what is made of them; the definitions in specs/EnvelopeLaws.
-- Assumes nothing.
use Rattle.std.specs.Prelude.{ℕ, ◌≡◌, Bool, true, false, List, drop}
use Rattle.std.proofs.Common.{sym, ap, ◌∙◌, inl, inr}
use Rattle.content.specs.Oid.{oid_ok}
use Rattle.codec.specs.Codec.{Read, read, Got, got}
use Rattle.codec.proofs.Outcome.{renamed_read}
use Rattle.codec.specs.Contents.{octets_read, filled_dec}
use Rattle.codec.specs.Tagged.{inner, own, tagged_dec}
use Rattle.codec.specs.Mapped.{mapped_dec}
use Rattle.codec.specs.Sequence.{end_dec, field_dec, only_dec}
use Rattle.codec.specs.Branch.{branch_dec}
use Rattle.layout.specs.Names.{Envelope, EnvelopeParts, envelope_of, succeeds}
use Rattle.layout.specs.Words.{single_read, anything, status_ok}
use Rattle.layout.proofs.ElementKinds as kinds
use Rattle.layout.proofs.Format as format
use Rattle.faults.specs.Faults.{content_at, rest_at}
use Rattle.faults.specs.PartLaws.{Branched}
use Rattle.faults.proofs.PartLaws.{tagged_content, rest_of, field_of, only_of, branch_of_lem, filling, held}
use Rattle.misfits.specs.Tests.{is_zero}
use Rattle.misfits.proofs.TestLaws.{zero_content}
use Rattle.misfits.specs.Misfits.{bytes_content}
use Rattle.misfits.specs.EnvelopeLaws.{Stands}

-- the type and the string
bytes_stand : (b : List ℕ) (x : List ℕ × List ℕ) → field_dec (kinds.oid).dec (only_dec (kinds.string anything).dec) b ≡ read x
    → (content_at b ≡ x.0) × (content_at (rest_at b) ≡ x.1)
unfolding kinds.oid
bytes_stand b x q =
    let (n, eo, f) = field_of (kinds.oid).dec (only_dec (kinds.string anything).dec) b x q in
    let (m, es) = only_of (kinds.string anything).dec (drop n b) x.1 f in
    let r = rest_of own 0x06 (filled_dec (octets_read oid_ok)) b x.0 n eo in
    (held 0x06 oid_ok b x.0 n eo, ap content_at (sym r) ∙ held 0x04 anything (drop n b) x.1 m es)

status_stands : (s : List ℕ) (a n : ℕ) (b : Bool) → (kinds.enumerated status_ok).dec s ≡ got a n → succeeds a ≡ b → is_zero (content_at s) ≡ b
status_stands s a n b e t =
    sym (zero_content status_ok (content_at s) a (tagged_content own 0x0a (filled_dec (single_read status_ok)) s a n e)) ∙ t

pub envelope_stands : (s : List ℕ) (v : Envelope) → (format.envelope).dec s ≡ read v → Stands s v
unfolding format.envelope format.envelope_body format.response_bytes mapped_dec
envelope_stands s v q =
    let (y, ey, ev) = renamed_read envelope_of (branch_dec status succeeds (only_dec bytes) end_dec (content_at s)) v (filling 0x30 body s v q) in
    rw (← ev) (go y (branch_of_lem status succeeds (only_dec bytes) end_dec (content_at s) y ey))
  where
    status : List ℕ → Got ℕ
    status = (kinds.enumerated status_ok).dec

    bytes : List ℕ → Got (List ℕ × List ℕ)
    bytes = (format.response_bytes).dec

    pair : List ℕ → Read (List ℕ × List ℕ)
    pair = field_dec (kinds.oid).dec (only_dec (kinds.string anything).dec)

    body : List ℕ → Read Envelope
    body = (format.envelope_body).dec

    go : (y : EnvelopeParts) → Branched status succeeds (only_dec bytes) (content_at s) y → Stands s (envelope_of y)
    go (inr x) (n, e, t) = status_stands (content_at s) x.0 n false e t
    go (inl x) (n, e, t, f) =
        let r = rest_of own 0x0a (filled_dec (single_read status_ok)) (content_at s) x.0 n e in
        let i = filling 0xa0 (only_dec (tagged_dec inner 0x30 pair)) (rest_at (content_at s)) x.1 (rw r at f) in
        let (p, q) = bytes_stand (bytes_content s) x.1 (filling 0x30 pair (content_at (rest_at (content_at s))) x.1 i) in
        (status_stands (content_at s) x.0 n true e t, p, q)
