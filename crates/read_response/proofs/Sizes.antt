-- The sizes of a basic response's parts: where its two pieces end, and that the parts made of the places
-- and sizes in the octets are those of the reading's forms.
-- inside_end, tail_end, inside_ends, tail_ends; Rest, made, parts_same.
-- Assumes nothing.
use Prim.Native.Nat.{ℕ, ◌+◌, ◌-◌, ◌≤◌}
use native.Mathlib.Omega.{arith}
use mathlib.Core.Path.{◌≡◌, sym, ap}
use mathlib.Core.List.{List, ◌∷◌}
use mathlib.Core.Option.{Option}
use Rattle.std.specs.Prelude.{Ok}
use lib.ListN.{length, length-append}
use Rattle.octets.specs.Octets.{Octets}
use Rattle.element.specs.FormLaws.{form_length}
use Rattle.element.specs.Places.{span}
use Rattle.codec.specs.Codec.{read}
use Rattle.codec.specs.Option.{option_enc}
use Rattle.codec.specs.Many.{forms}
use Rattle.codec.specs.Tree.{Tree}
use Rattle.layout.specs.Reading.{Algorithm, Entry, Signed, Basic}
use Rattle.layout.specs.Names.{fields_of}
use Rattle.layout.proofs.Format.{single_response, responses, extensions, signed_fields, signed_body, algorithm_identifier, signature_bits, certificates, basic_body}
use Rattle.read_response.specs.Parts.{parts_from, responses_size, entries_size, signed_size, algorithm_size}
use Rattle.read_response.specs.Placed.{front_at, tailed}
use Rattle.read_basic.specs.Views.{inside, InsideRead, TailRead, version_size, responder_size, produced_size, inside_at, inside_signed, signature_on, algorithm_on, tail_of, entries_place, entries_length}
use Rattle.read_basic.specs.declared.Inside.{Inside}
use Rattle.read_basic.specs.MoreLaws.{place_inside}
use Rattle.read_basic.specs.MoreReads.{place_read}

-- ── sizes of forms ──
entries_short : (l : List Entry) → entries_length l ≤ length (responses.enc l)
unfolding responses
entries_short l = omega (arith, form_length 0x30 (forms single_response.enc l))

signature_short : (g : List ℕ) → length g ≤ length (signature_bits.enc g)
unfolding signature_bits
signature_short g = omega (arith, form_length 0x03 (0 ∷ g))

abbrev pub fields_size : Signed → ℕ
fields_size d = length (signed_fields.enc (fields_of d))

fields_length : (d : Signed) → fields_size d ≡ responder_size d + (produced_size d + (responses_size d + length (option_enc extensions.enc d.extensions)))
unfolding signed_fields
fields_length d = simp length-append (omega arith)

pub signed_length : (d : Signed) → length (signed_body.enc d) ≡ version_size d + fields_size d
unfolding signed_body
signed_length d = simp length-append

basic_length : (b : Basic) → length (basic_body.enc b)
    ≡ signed_size b + (algorithm_size b + (length (signature_bits.enc b.signature) + length (option_enc certificates.enc b.certificates)))
unfolding basic_body
basic_length b = simp length-append (omega arith)

-- ── the entries end inside the signed part's content, and the signature inside what follows it ──
abbrev pub inside_end : InsideRead → ℕ
inside_end = place_read (λ x. x.from + x.start + x.len)

abbrev pub tail_end : TailRead → ℕ
tail_end = place_read (λ t. t.start + t.len)

pub inside_ends : (s : List ℕ) → Octets s → inside_end (inside_signed (signed_body.dec s)) ≤ length s
unfolding inside_signed inside_at
inside_ends =
    place_inside signed_body inside_signed inside_end (λ d. omega (arith, entries_short d.entries, fields_length d, signed_length d))
    (λ p. omega arith)

pub tail_ends : (s : List ℕ) → Octets s → tail_end (tail_of (algorithm_on.dec s)) ≤ length s
unfolding tail_of algorithm_on signature_on
tail_ends = place_inside algorithm_on tail_of tail_end (λ x. simp length-append (omega (arith, signature_short x.1.0))) (λ p. omega arith)

-- ── the parts, by their places and sizes ──
-- what follows the signed part
abbrev pub Rest : Type 0
Rest = Algorithm × (List ℕ × Option (List Tree))

abbrev pub made : Signed → Rest → Basic
made d x = record { signed = d; algorithm = x.0; signature = x.1.0; certificates = x.1.1 }

-- where the signature starts after the signed part
abbrev signature_place : Rest → ℕ
signature_place x = length (algorithm_identifier.enc x.0) + (length (signature_bits.enc x.1.0) - length x.1.0)

module _ (d : Signed) (x : Rest) (at b e n v r f m k : ℕ) (i : inside_signed (read d) ≡ Ok (inside v r f m k))
    (whole : signed_size (made d x) ≡ e) (held : b + fields_size d ≡ e) (all : length (basic_body.enc (made d x)) ≡ n) where
  pub parts_same : tailed (front_at at b e r f m k) n (tail_of (read x)) ≡ Ok (parts_from at (made d x))
  unfolding parts_from tailed tail_of inside_signed inside_at
  parts_same =
      let E = entries_short d.entries in
      let G = signature_short x.1.0 in
      let D = fields_length d in
      let B = basic_length (made d x) in
      let q : inside v r f m k ≡ inside_at (version_size d) (fields_of d) = cc in
      let i₁ : r ≡ responder_size d = ap (λ (x : Inside). x.responder) q in
      let i₂ : f ≡ responder_size d + (produced_size d + entries_place d.entries) = ap (λ (x : Inside). x.start) q in
      let i₃ : m ≡ entries_size d = ap (λ (x : Inside). x.len) q in
      let i₄ : k ≡ length d.entries = ap (λ (x : Inside). x.count) q in
      let p₁ : e ≡ signed_size (made d x) = sym whole in
      let p₂ : at + b ≡ at + (signed_size (made d x) - fields_size d) = omega arith in
      let p₃ : at + b + f ≡ at + (signed_size (made d x) - fields_size d) + (responder_size d + produced_size d) + (responses_size d - entries_size d) = omega arith in
      let p₄ : at + b + f + m ≡ at + (signed_size (made d x) - fields_size d) + (responder_size d + produced_size d) + responses_size d = omega arith in
      let p₅ : at + e - (at + b + f + m) ≡ length (option_enc extensions.enc d.extensions) = omega arith in
      let p₆ : at + e ≡ at + signed_size (made d x) = omega arith in
      let p₇ : at + e + signature_place x ≡ at + (signed_size (made d x) + (algorithm_size (made d x) + length (signature_bits.enc x.1.0))) - length x.1.0 = omega arith in
      let p₈ : at + e + signature_place x + length x.1.0 ≡ at + (signed_size (made d x) + (algorithm_size (made d x) + length (signature_bits.enc x.1.0))) = omega arith in
      let p₉ : at + n - (at + e + signature_place x + length x.1.0) ≡ length (option_enc certificates.enc x.1.1) = omega arith in
      λ j. Ok record {
        signed = span at (p₁ j);
        responder = span (p₂ j) (i₁ j);
        entries = span (p₃ j) (i₃ j);
        count = i₄ j;
        extensions = span (p₄ j) (p₅ j);
        algorithm = span (p₆ j) (length (algorithm_identifier.enc x.0));
        signature = span (p₇ j) (length x.1.0);
        certificates = span (p₈ j) (p₉ j);
      }
