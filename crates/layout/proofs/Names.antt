-- The fields of the layout under their names: each codec of pairs and choices, as a codec of a record
-- or type of Reading. Nothing is read or written another way.
-- algorithm, cert, status, extension, entry, responder, SignedFields, signed, basic; Envelope, enveloped.
-- The laws stand here, and what is made of them; the definitions in specs/Names.
-- Assumes nothing.
use Rattle.std.specs.Prelude.{ℕ, ◌≡◌, refl, Bool, true, false, List, ◌⊎◌}
use Rattle.std.proofs.Common.{sym, ap, inl, inr, eqb-true}
use Rattle.std.proofs.Math.Option.{Option, none, some}
use Rattle.codec.specs.Codec.{Whole, Element}
use Rattle.codec.proofs.Branch.{branch}
use Rattle.codec.proofs.Sequence.{end}
use Rattle.codec.proofs.Mapped.{mapped, mapped_ok, mapped_element}
use Rattle.codec.specs.Tree.{Tree}
use Rattle.layout.specs.Reading.{Algorithm, CertId, Status, good, revoked, unknown, Extension, Entry, Responder, by_name, by_key, Signed, Basic}
use Rattle.layout.specs.Names.{Envelope, EnvelopeParts, ExtensionParts, SignedParts, StatusParts, envelope_of, envelope_parts, extension_of, extension_parts, failure, is_there, responder_of, responder_parts, signed_from, signed_parts, status_from, status_parts, succeeds, success, there}

pub status_named : (s : Status) → status_from (status_parts s) ≡ s
status_named good = refl
status_named unknown = refl
status_named (revoked t r) = refl

pub status_parted : (x : StatusParts) → status_parts (status_from x) ≡ x
status_parted (inl u) = refl
status_parted (inr (inl u)) = refl
status_parted (inr (inr r)) = refl

abbrev pub status : Element StatusParts → Element Status
status e = mapped_element status_from status_parts status_named status_parted e

pub is_there_lem : (b : Bool) → is_there (there b) ≡ b
is_there_lem false = refl
is_there_lem true = refl

pub there_is : (o : Option (Unit {0})) → there (is_there o) ≡ o
there_is none = refl
there_is (some u) = refl

pub extension_named : (e : Extension) → extension_of (extension_parts e) ≡ e
extension_named e = λ i. record { oid = e.oid; critical = is_there_lem e.critical i; value = e.value }

pub extension_parted : (x : ExtensionParts) → extension_parts (extension_of x) ≡ x
extension_parted x = λ i. (x.0, (there_is x.1.0 i, x.1.1))

abbrev pub extension : Whole ExtensionParts → Whole Extension
extension w = mapped extension_of extension_parts extension_named extension_parted w

abbrev pub entry : Whole (CertId × (Status × (ℕ × (Option ℕ × Option (List Extension))))) → Whole Entry
entry w =
    mapped (λ x. record { cert = x.0; status = x.1.0; this_update = x.1.1.0; next_update = x.1.1.1.0; extensions = x.1.1.1.1 })
    (λ e. (e.cert, (e.status, (e.this_update, (e.next_update, e.extensions))))) (λ b. refl) (λ a. refl) w

pub responder_named : (r : Responder) → responder_of (responder_parts r) ≡ r
responder_named (by_name n) = refl
responder_named (by_key k) = refl

pub responder_parted : (x : Tree ⊎ List ℕ) → responder_parts (responder_of x) ≡ x
responder_parted (inl n) = refl
responder_parted (inr k) = refl

abbrev pub responder : Element (Tree ⊎ List ℕ) → Element Responder
responder e = mapped_element responder_of responder_parts responder_named responder_parted e

pub signed_named : (s : Signed) → signed_from (signed_parts s) ≡ s
signed_named s = λ i. record {
  versioned = is_there_lem s.versioned i;
  responder = s.responder;
  produced_at = s.produced_at;
  entries = s.entries;
  extensions = s.extensions;
}

pub signed_parted : (x : SignedParts) → signed_parts (signed_from x) ≡ x
signed_parted x = λ i. (there_is x.0 i, x.1)

abbrev pub signed : Whole SignedParts → Whole Signed
signed w = mapped signed_from signed_parts signed_named signed_parted w

abbrev pub basic : Whole (Signed × (Algorithm × (List ℕ × Option (List Tree)))) → Whole Basic
basic w =
    mapped (λ x. record { signed = x.0; algorithm = x.1.0; signature = x.1.1.0; certificates = x.1.1.1 })
    (λ b. (b.signed, (b.algorithm, (b.signature, b.certificates)))) (λ b. refl) (λ a. refl) w

module _ (e : Element ℕ) (w : Whole (List ℕ × List ℕ)) where
  pub envelope_named : (b : Envelope) → (branch e succeeds w end).ok (envelope_parts b) → envelope_of (envelope_parts b) ≡ b
  envelope_named (success t s) h = refl
  envelope_named (failure n) h = refl

  pub envelope_parted : (a : EnvelopeParts) → (branch e succeeds w end).ok a → envelope_parts (envelope_of a) ≡ a
  envelope_parted (inl x) h = let z = eqb-true x.0 0 h.1 in ap (λ (n : ℕ). inl (n, x.1)) (sym z)
  envelope_parted (inr x) h = refl

  -- an element that says the status, then what the status wants
  abbrev pub enveloped : Whole Envelope
  enveloped = mapped_ok envelope_of envelope_parts (branch e succeeds w end) envelope_named envelope_parted
