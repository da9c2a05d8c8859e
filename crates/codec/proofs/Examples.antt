-- Small readings, computed: an octet string, a number, a sequence, what may be missing, a list with a
-- limit, and keys that repeat; and places that are refused. Trees are in TreeExamples.
-- Assumes nothing.
use Rattle.std.specs.Prelude.{ℕ, ◌<◌, ◌≡◌, refl, Bool, true, List, [], ◌∷◌, eqb, length, get_or}
use Rattle.std.proofs.Common.{arith, inl, inr, lit<, eqb-true}
use Rattle.std.proofs.Math.Option.{Option, none, some}
use Rattle.octets.specs.Octets.{Octets}
use Rattle.octets.specs.Same.{same_of}
use Rattle.element.specs.Tag.{tag_ok}
use Rattle.element.specs.Length.{length_form}
use Rattle.element.specs.Form.{form_of}
use Rattle.element.specs.Header.{header_of, length_at, inside_of}
use Rattle.codec.specs.Codec.{read, broke, got, bad, Whole, Element}
use Rattle.codec.specs.Outcome.{Names}
use Rattle.codec.specs.Contents.{octets_read, mapped_read, filled_dec}
use Rattle.codec.proofs.Contents.{octets_content, mapped_content_to}
use Rattle.codec.specs.Tagged.{tagged_dec}
use Rattle.codec.proofs.Tagged.{primitive}
use Rattle.codec.specs.Mapped.{mapped_dec}
use Rattle.codec.specs.Sequence.{end_dec, field_dec, only_dec}
use Rattle.codec.proofs.Sequence.{end, field, only}
use Rattle.codec.specs.Starts.{starts_with}
use Rattle.codec.specs.Option.{option_of, option_dec}
use Rattle.codec.proofs.Option.{option}
use Rattle.codec.specs.Maybe.{maybe_dec}
use Rattle.codec.proofs.Maybe.{maybe}
use Rattle.codec.specs.Branch.{branch_of, branch_dec}
use Rattle.codec.proofs.Branch.{branch}
use Rattle.codec.specs.Many.{many_dec}
use Rattle.codec.proofs.Many.{many}
use Rattle.codec.specs.Each.{each_dec, KeyedElement}
use Rattle.codec.proofs.Each.{each}
use Rattle.codec.specs.Keys.{new_to, new_test}
use Rattle.codec.proofs.Keys.{new_content, keyed_content, keyed_primitive}
use Rattle.codec.proofs.StartsLaws.{primitive_starts, end_apart}

-- any octets
abbrev anything : List ℕ → Bool
anything c = true

octet_tag : tag_ok 4 ≡ true
unfolding tag_ok
octet_tag = refl

-- an OCTET STRING
abbrev string : Element (List ℕ)
string = primitive 4 (octets_content anything) octet_tag (lit< tt)

string_read : string.dec (4 ∷ 2 ∷ 0xaa ∷ 0xbb ∷ 7 ∷ []) ≡ got (0xaa ∷ 0xbb ∷ []) 4
unfolding tagged_dec filled_dec octets_read header_of tag_ok length_at inside_of
string_read = refl

string_written : string.enc (0xaa ∷ 0xbb ∷ []) ≡ 4 ∷ 2 ∷ 0xaa ∷ 0xbb ∷ []
unfolding form_of length_form
string_written = refl

-- cut off: the end; another tag: its place
string_cut : string.dec (4 ∷ []) ≡ bad 1
unfolding tagged_dec header_of tag_ok
string_cut = refl

string_other : string.dec (5 ∷ 0 ∷ []) ≡ bad 0
unfolding tagged_dec header_of tag_ok length_at inside_of
string_other = refl

-- a number below 256, in one octet
abbrev single : List ℕ → Bool
single c = eqb (length c) 1

number_names : Names (λ c. get_or c 0 0) (λ n. n ∷ []) (octets_content single).ok (λ n. n < 256)
number_names = record {
  there = λ c h. one c (eqb-true (length c) 1 h.1) h.0;
  back = λ n h. (((h, tt), refl), refl);
}
  where
    one : (c : List ℕ) → length c ≡ 1 → Octets c → (get_or c 0 0 < 256) × (get_or c 0 0 ∷ [] ≡ c)
    one [] e o = absurd (omega arith)
    one (x ∷ []) e o = (o.0, refl)
    one (x ∷ y ∷ c) e o = absurd (omega arith)

number_tag : tag_ok 2 ≡ true
unfolding tag_ok
number_tag = refl

abbrev number : Element ℕ
number =
    primitive 2 (mapped_content_to (λ c. get_or c 0 0) (λ n. n ∷ []) (λ n. n < 256) (octets_content single) number_names)
    number_tag (lit< tt)

number_read : number.dec (2 ∷ 1 ∷ 200 ∷ []) ≡ got 200 3
unfolding tagged_dec filled_dec octets_read mapped_read header_of tag_ok length_at inside_of
number_read = refl

-- two strings; octets that are left over are refused at the first of them, a missing one at the end
field_read : (field string (only string)).dec (4 ∷ 1 ∷ 7 ∷ 4 ∷ 0 ∷ []) ≡ read (7 ∷ [], [])
unfolding tagged_dec filled_dec octets_read header_of tag_ok length_at inside_of field_dec end_dec only_dec mapped_dec
field_read = refl

field_left : (field string end).dec (4 ∷ 1 ∷ 7 ∷ 4 ∷ 0 ∷ []) ≡ broke 3
unfolding tagged_dec filled_dec octets_read header_of tag_ok length_at inside_of field_dec end_dec
field_left = refl

field_missing : (field string (only string)).dec (4 ∷ 1 ∷ 7 ∷ []) ≡ broke 3
unfolding tagged_dec filled_dec octets_read header_of tag_ok length_at inside_of field_dec end_dec only_dec mapped_dec
field_missing = refl

-- maybe a string, and nothing more: what else stands there is left over
abbrev optional : Whole (Option (List ℕ) × Unit {0})
optional = option 4 string end (primitive_starts 4 (octets_content anything) octet_tag (lit< tt)) (end_apart 4)

option_there : optional.dec (4 ∷ 0 ∷ []) ≡ read (some [], tt)
unfolding tagged_dec filled_dec octets_read header_of tag_ok length_at inside_of option_of option_dec starts_with end_dec
option_there = refl

option_other : optional.dec (5 ∷ 0 ∷ []) ≡ broke 0
unfolding option_of option_dec starts_with end_dec
option_other = refl

-- nothing, or a string: what follows it is left over
maybe_nothing : (maybe string).dec [] ≡ read none
unfolding maybe_dec
maybe_nothing = refl

maybe_string : (maybe string).dec (4 ∷ 1 ∷ 7 ∷ []) ≡ read (some (7 ∷ []))
unfolding tagged_dec filled_dec octets_read header_of tag_ok length_at inside_of maybe_dec only_dec mapped_dec field_dec end_dec
maybe_string = refl

maybe_left : (maybe string).dec (4 ∷ 1 ∷ 7 ∷ 5 ∷ []) ≡ broke 3
unfolding tagged_dec filled_dec octets_read header_of tag_ok length_at inside_of maybe_dec only_dec mapped_dec field_dec end_dec
maybe_left = refl

-- a number, and after 0 alone a string
after_nought : (branch number (λ n. eqb n 0) (only string) end).dec (2 ∷ 1 ∷ 0 ∷ 4 ∷ 1 ∷ 7 ∷ []) ≡ read (inl (0, 7 ∷ []))
unfolding tagged_dec filled_dec octets_read mapped_read header_of tag_ok length_at inside_of branch_dec branch_of only_dec mapped_dec field_dec end_dec
after_nought = refl

after_one : (branch number (λ n. eqb n 0) (only string) end).dec (2 ∷ 1 ∷ 1 ∷ []) ≡ read (inr (1, tt))
unfolding tagged_dec filled_dec octets_read mapped_read header_of tag_ok length_at inside_of branch_dec branch_of end_dec
after_one = refl

after_one_left : (branch number (λ n. eqb n 0) (only string) end).dec (2 ∷ 1 ∷ 1 ∷ 4 ∷ 1 ∷ 7 ∷ []) ≡ broke 3
unfolding tagged_dec filled_dec octets_read mapped_read header_of tag_ok length_at inside_of branch_dec branch_of end_dec
after_one_left = refl

-- one or two strings: a third is refused at its first octet, though it is no element at all; none,
-- at the end
two_read : (many 1 2 string).dec (4 ∷ 0 ∷ 4 ∷ 1 ∷ 9 ∷ []) ≡ read ([] ∷ (9 ∷ []) ∷ [])
unfolding tagged_dec filled_dec octets_read header_of tag_ok length_at inside_of many_dec
two_read = refl

third_refused : (many 1 2 string).dec (4 ∷ 0 ∷ 4 ∷ 1 ∷ 9 ∷ 0 ∷ []) ≡ broke 5
unfolding tagged_dec filled_dec octets_read header_of tag_ok length_at inside_of many_dec
third_refused = refl

too_few : (many 2 3 string).dec (4 ∷ 1 ∷ 9 ∷ []) ≡ broke 3
unfolding tagged_dec filled_dec octets_read header_of tag_ok length_at inside_of many_dec
too_few = refl

-- strings, none twice: the second of two is refused, before what is wrong to its right
abbrev fresh : List (List ℕ) → Element (List ℕ)
fresh seen = primitive 4 (new_content anything seen) octet_tag (lit< tt)

keyed : KeyedElement (λ c. c) fresh
keyed = keyed_primitive (λ c. c) 4 (new_content anything) octet_tag (lit< tt) (keyed_content anything)

repeat_refused : (each 0 9 (λ c. c) fresh keyed).dec (4 ∷ 1 ∷ 7 ∷ 4 ∷ 0 ∷ 4 ∷ 1 ∷ 7 ∷ 0 ∷ []) ≡ broke 5
unfolding tagged_dec filled_dec octets_read header_of tag_ok length_at inside_of each_dec new_test new_to same_of
repeat_refused = refl
