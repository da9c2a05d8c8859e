-- Laws of the version (document 02, C-12): written, it is the five octets A0 03 02 01 00 before the fields of
-- a signed part, and a signed part that begins with A0 and not with these does not fit.
-- version_octets; version_form_lem, version_written, version_begins, version_first, version_only, version_taken.
-- Where another number is refused is in OtherVersionLaws.
-- The laws stand here, and what is made of them; the definitions in specs/VersionLaws.
-- Assumes nothing.
use Rattle.std.specs.Prelude.{ℕ, ◌≡◌, refl, Bool, true, false, List, [], ◌∷◌, ◌++◌, ◌↔◌, length, take, drop}
use Rattle.std.proofs.Common.{arith, sym, ap, ◌∙◌, take-append-drop, eq-eqb}
use Rattle.octets.specs.Octets.{Octets}
use Rattle.octets.specs.SameLaws.{impossible}
use Rattle.element.specs.Length.{length_form}
use Rattle.element.specs.Form.{form_of}
use Rattle.codec.specs.Codec.{read, got}
use Rattle.codec.proofs.CodecLaws.{got_size}
use Rattle.codec.specs.Starts.{starts_with}
use Rattle.codec.proofs.Starts.{starts_append}
use Rattle.layout.specs.Reading.{Signed, with_version}
use Rattle.layout.specs.Names.{fields_of}
use Rattle.layout.proofs.Format.{v1, version, version_starts, fields_apart, signed_fields, signed_body}
use Rattle.layout.specs.VersionLaws.{version_octets}

pub version_form_lem : (u : Unit {0}) → version.enc u ≡ version_octets
unfolding version v1 form_of length_form
version_form_lem u = refl

version_ok : version.ok tt
unfolding version v1
version_ok = tt

pub version_written : (d : Signed) → signed_body.enc (with_version true d) ≡ version_octets ++ signed_body.enc (with_version false d)
unfolding signed_body
version_written d = ap (λ (x : List ℕ). x ++ signed_fields.enc (fields_of d)) (version_form_lem tt)

-- the content of a signed part begins with A0 exactly where its version is written
pub version_begins : (d : Signed) → signed_body.ok d → starts_with 0xa0 (signed_body.enc d) ≡ d.versioned
unfolding signed_body
version_begins d h = go d.versioned
  where
    go : (v : Bool) → starts_with 0xa0 (signed_body.enc (with_version v d)) ≡ v
    go true = starts_append 0xa0 (version.enc tt) (signed_fields.enc (fields_of d)) (version_starts tt version_ok)
    go false = fields_apart (fields_of d) h.1

-- and then with the five octets
five : (d : Signed) → d.versioned ≡ true → take 5 (signed_body.enc d) ≡ version_octets
unfolding signed_body
five d e = rw (e, version_form_lem tt)

begins : (x : List ℕ) → take 5 x ≡ version_octets → starts_with 0xa0 x ≡ true
unfolding starts_with
begins [] e = impossible (cc)
begins (y ∷ x) e = let i : y ≡ 0xa0 = cc in eq-eqb y 0xa0 i

pub version_first : (d : Signed) → signed_body.ok d → d.versioned ≡ true ↔ take 5 (signed_body.enc d) ≡ version_octets
version_first d h = (five d, λ e. sym (version_begins d h) ∙ begins (signed_body.enc d) e)

-- what is read, and begins with A0, begins with the five octets
pub version_only : (c : List ℕ) (d : Signed) → Octets c → signed_body.dec c ≡ read d → starts_with 0xa0 c ≡ true → take 5 c ≡ version_octets
version_only c d o e b =
    let (h, i) = signed_body.sound c d o e in
    rw i (five d (sym (version_begins d h) ∙ rw i at b))

-- what the version reads is those five octets
pub version_taken : (s : List ℕ) (n : ℕ) → Octets s → version.dec s ≡ got tt n ↔ (n ≡ 5) × (take 5 s ≡ version_octets)
version_taken s n o = (
  λ e.
      let (h, i) = version.sound s tt n o e in
      let j : s ≡ version_octets ++ drop n s = i ∙ ap (λ (x : List ℕ). x ++ drop n s) (version_form_lem tt) in
      (sym (got_size version s tt n o e) ∙ ap length (version_form_lem tt), ap (take 5) j),
  λ (i, e).
      let j : s ≡ version.enc tt ++ drop 5 s = sym (take-append-drop 5 s) ∙ ap (λ (x : List ℕ). x ++ drop 5 s) (e ∙ sym (version_form_lem tt)) in
      let k : length (version.enc tt) ≡ 5 = ap length (version_form_lem tt) in
      ap version.dec j ∙ version.complete tt (drop 5 s) version_ok (omega arith) ∙ ap (got tt) (k ∙ sym i),
)
