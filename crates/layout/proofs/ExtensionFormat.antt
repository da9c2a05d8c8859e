-- The layout of an extension, as codecs: what it reads is in Reading, elements by their tags are in ElementKinds, and how
-- the fields get their names is in Names. A list of them is in EntryFormat, which passes these names on.
-- new_oid, critical, extension_body, extension_after; critical_starts, value_apart, extension_keyed.
-- Assumes nothing.
use Rattle.std.specs.Prelude.{ℕ, refl, List}
use Rattle.std.proofs.Common.{lit<}
use Rattle.codec.specs.Codec.{Whole, Element}
use Rattle.codec.proofs.Contents.{octets_content}
use Rattle.codec.proofs.Tagged.{primitive}
use Rattle.codec.proofs.Sequence.{field, only}
use Rattle.codec.proofs.Option.{option}
use Rattle.codec.specs.Each.{KeyedElement}
use Rattle.codec.proofs.Keys.{new_content, keyed_content, keyed_primitive, keyed_field, keyed_mapped, keyed_tagged}
use Rattle.codec.specs.Starts.{Starts, Apart}
use Rattle.codec.proofs.StartsLaws.{primitive_starts, starts_other, only_apart}
use Rattle.content.specs.Oid.{oid_ok}
use Rattle.layout.specs.Reading.{Extension}
use Rattle.layout.specs.Names.{extension_of, extension_parts}
use Rattle.layout.proofs.Names.{extension, extension_named, extension_parted}
use Rattle.layout.specs.Words as words
use Rattle.layout.proofs.ElementKinds.{sequence, string, tag_01, tag_04, tag_06, tag_30}

-- Extension ::= SEQUENCE { extnID, critical BOOLEAN DEFAULT FALSE, extnValue OCTET STRING }
unfoldable pub new_oid : List (List ℕ) → Element (List ℕ)
new_oid seen = primitive 0x06 (new_content oid_ok seen) tag_06 (lit< tt)

unfoldable pub critical : Element (Unit {0})
critical = primitive 0x01 words.yes tag_01 (lit< tt)

pub critical_starts : Starts 0x01 critical
unfolding critical
critical_starts = primitive_starts 0x01 words.yes tag_01 (lit< tt)

pub value_apart : Apart 0x01 (only (string words.anything))
value_apart =
    only_apart 0x01 (string words.anything)
    (starts_other 0x01 0x04 (string words.anything) refl (primitive_starts 0x04 (octets_content words.anything) tag_04 (lit< tt)))

unfoldable pub extension_body : List (List ℕ) → Whole Extension
extension_body seen = extension (field (new_oid seen) (option 0x01 critical (only (string words.anything)) critical_starts value_apart))

unfoldable pub extension_after : List (List ℕ) → Element Extension
extension_after seen = sequence (extension_body seen)

pub extension_keyed : KeyedElement (λ (e : Extension). e.oid) extension_after
unfolding extension_after extension_body new_oid
extension_keyed =
    keyed_tagged (λ e. e.oid) 0x30 extension_body tag_30 (lit< tt)
    (keyed_mapped (λ x. x.0) extension_of extension_parts extension_named extension_parted
    (λ seen. field (new_oid seen) (option 0x01 critical (only (string words.anything)) critical_starts value_apart))
    (keyed_field (λ c. c) new_oid (option 0x01 critical (only (string words.anything)) critical_starts value_apart)
    (keyed_primitive (λ c. c) 0x06 (new_content oid_ok) tag_06 (lit< tt) (keyed_content oid_ok))))
