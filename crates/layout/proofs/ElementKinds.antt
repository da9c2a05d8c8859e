-- Elements by their tags: the universal and context tags that the layout uses, and its primitive
-- elements.
-- sequence, zero, one, two, string, enumerated; free, free_sequence, time, serial, oid, hash; optional.
-- The contents of primitive elements are in Words, the layout in Format.
-- Assumes nothing.
use Rattle.std.specs.Prelude.{ℕ, ◌≡◌, refl, Bool, true, List}
use Rattle.std.proofs.Math.Option.{Option}
use Rattle.std.proofs.Common.{lit<}
use Rattle.element.specs.Tag.{tag_ok}
use Rattle.codec.specs.Codec.{Whole, Element}
use Rattle.codec.proofs.Contents.{octets_content}
use Rattle.codec.proofs.Tagged.{tagged, primitive}
use Rattle.codec.proofs.Sequence.{end}
use Rattle.codec.proofs.Option.{option}
use Rattle.codec.proofs.Mapped.{mapped}
use Rattle.codec.specs.Starts.{Starts}
use Rattle.codec.proofs.StartsLaws.{end_apart}
use Rattle.codec.specs.Tree.{Tree}
use Rattle.codec.proofs.TreeRead.{tree}
use Rattle.codec.proofs.TreeTagged.{tree_tagged}
use Rattle.layout.specs.Words as words
use Rattle.layout.proofs.Words as contents

-- ── the tags are tags ──
pub tag_01 : tag_ok 0x01 ≡ true
unfolding tag_ok
tag_01 = refl

pub tag_02 : tag_ok 0x02 ≡ true
unfolding tag_ok
tag_02 = refl

pub tag_03 : tag_ok 0x03 ≡ true
unfolding tag_ok
tag_03 = refl

pub tag_04 : tag_ok 0x04 ≡ true
unfolding tag_ok
tag_04 = refl

pub tag_06 : tag_ok 0x06 ≡ true
unfolding tag_ok
tag_06 = refl

pub tag_0a : tag_ok 0x0a ≡ true
unfolding tag_ok
tag_0a = refl

pub tag_18 : tag_ok 0x18 ≡ true
unfolding tag_ok
tag_18 = refl

pub tag_30 : tag_ok 0x30 ≡ true
unfolding tag_ok
tag_30 = refl

pub tag_80 : tag_ok 0x80 ≡ true
unfolding tag_ok
tag_80 = refl

pub tag_82 : tag_ok 0x82 ≡ true
unfolding tag_ok
tag_82 = refl

pub tag_a0 : tag_ok 0xa0 ≡ true
unfolding tag_ok
tag_a0 = refl

pub tag_a1 : tag_ok 0xa1 ≡ true
unfolding tag_ok
tag_a1 = refl

pub tag_a2 : tag_ok 0xa2 ≡ true
unfolding tag_ok
tag_a2 = refl

-- ── elements by their tags ──
abbrev pub sequence : {A : Type 0} → Whole A → Element A
sequence w = tagged 0x30 w tag_30 (lit< tt)

-- [0], [1] and [2] around an element
abbrev pub zero : {A : Type 0} → Whole A → Element A
zero w = tagged 0xa0 w tag_a0 (lit< tt)

abbrev pub one : {A : Type 0} → Whole A → Element A
one w = tagged 0xa1 w tag_a1 (lit< tt)

abbrev pub two : {A : Type 0} → Whole A → Element A
two w = tagged 0xa2 w tag_a2 (lit< tt)

-- an OCTET STRING whose content passes a test
abbrev pub string : (List ℕ → Bool) → Element (List ℕ)
string test = primitive 0x04 (octets_content test) tag_04 (lit< tt)

-- a free element: at most 16 lie one inside the other
unfoldable pub free : Element Tree
free = tree 16

-- a Name or a certificate: a free element with tag 30
unfoldable pub free_sequence : Element Tree
free_sequence = tree_tagged 0x30 16

unfoldable pub time : Element ℕ
time = primitive 0x18 contents.time_content tag_18 (lit< tt)

unfoldable pub serial : Element ℕ
serial = primitive 0x02 contents.serial_content tag_02 (lit< tt)

unfoldable pub oid : Element (List ℕ)
oid = primitive 0x06 words.oid_content tag_06 (lit< tt)

-- a hash: an OCTET STRING of 1 to 64
unfoldable pub hash : Element (List ℕ)
hash = string (words.between 1 64)

-- an ENUMERATED of one octet that passes a test
abbrev pub enumerated : (ℕ → Bool) → Element ℕ
enumerated test = primitive 0x0a (contents.single test) tag_0a (lit< tt)

-- maybe an element with this tag, and nothing more
abbrev pub optional : {A : Type 0} (t : ℕ) (e : Element A) → Starts t e → Whole (Option A)
optional t e st = mapped (λ x. x.0) (λ o. (o, tt)) (λ b. refl) (λ a. refl) (option t e end st (end_apart t))
