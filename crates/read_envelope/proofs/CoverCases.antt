-- The cases of the envelope's readers: what each return has learned of the headers and the status.
-- Assumes nothing.
use Prim.Native.Nat.{ℕ, ◌+◌, ◌-◌, ◌^◌, ◌≤◌, ◌<◌}
use native.Mathlib.Omega.{arith}
use mathlib.Core.Path.{◌≡◌, refl, sym, ap, ◌∙◌}
use mathlib.Core.List.{List, [], ◌∷◌}
use mathlib.Core.Logic.{inl, inr}
use Rattle.std.specs.Prelude.{Ok, Err}
use lib.ListN.{length, take, drop, length-drop, drop_of_length-le}
use lib.Seq.{length-take-le}
use borrow.Author.Tests.{eq-eqb, ne_eqb}
use Rattle.octets.specs.LentLaws.{rest_is, part_is}
use Rattle.element.specs.Header.{header_of}
use Rattle.element.specs.Places.{misfit}
use Rattle.element.specs.declared.Misfit.{Misfit}
use Rattle.element.specs.declared.Span.{Span}
use Rattle.codec.specs.Codec.{Read, read, broke, got, Whole}
use Rattle.codec.specs.Outcome.{further, renamed}
use Rattle.codec.specs.Mapped.{mapped_dec}
use Rattle.codec.specs.Sequence.{end_dec, only_dec}
use Rattle.codec.proofs.Sequence.{only}
use Rattle.codec.specs.Branch.{branch_dec}
use Rattle.codec.proofs.Branch.{branch_then, branch_else, branch_bad}
use Rattle.codec.specs.Tagged.{inner, tagged_dec}
use Rattle.layout.specs.Words.{status_ok}
use Rattle.layout.proofs.ElementKinds.{enumerated}
use Rattle.layout.specs.Names.{Envelope, succeeds, EnvelopeParts, envelope_of}
use Rattle.layout.proofs.Format.{response_bytes, envelope_body}
use Rattle.read_content.specs.Spots.{expected}
use Rattle.read_codes.specs.Codes.{code_of}
use Rattle.read_content.specs.ExpectLaws.{expected_at}
use Rattle.read_codes.specs.CodeLaws.{code_read, code_wrong}
use Rattle.read_codes.specs.declared.Code.{Code}
use Rattle.read_envelope.specs.Cover.{CoverRead, type_string, type_sequence, covered, cover_by, cover_of, bytes_of, covered_by, broken_at}
use Rattle.read_envelope.proofs.CoverLaws.{cover_broken, cover_wrong, cover_closed}
use Rattle.read_envelope.specs.declared.Cover.TheVariants as cover

-- ── an element that is to fill its holder ──
module _ (t : ℕ) (s : List ℕ) where
  pub held_end : (v : Span) → expected t (header_of s) ≡ Ok v → v.start + v.len ≤ length s
  held_end v e = (expected_at t s v.start v.len e).2

  pub held_err : {A : Type 0} (f : A → Envelope) (d : List ℕ → Read A) (p : Misfit) → expected t (header_of s) ≡ Err p
      → cover_by f (only_dec (tagged_dec inner t d) s) ≡ Err p
  held_err f d p e = cover_wrong f t d s p.place e

  -- the content, as the code lends it
  module _ {A : Type 0} (f : A → Envelope) (w : Whole A) (v : Span) (e : expected t (header_of s) ≡ Ok v) where
    pub held_place : length s < 2 ^ 64 → v.start + broken_at (cover_by f (w.dec (take (v.start + v.len - v.start) (drop v.start s)))) < 2 ^ 64
    held_place z = rw (part_is v.start v.len s) (go (cover_by f (w.dec (take v.len (drop v.start s)))) refl)
      where
        go : (y : CoverRead) → cover_by f (w.dec (take v.len (drop v.start s))) ≡ y → v.start + broken_at y < 2 ^ 64
        go (Ok c) i = omega (arith, held_end v e)
        go (Err p) i =
            let k = w.within (take v.len (drop v.start s)) p.place (cover_broken f (w.dec (take v.len (drop v.start s))) p.place i) in
            omega (arith, held_end v e, length-take-le v.len (drop v.start s) (simp length-drop (omega (arith, held_end v e))))

    pub held_closed : cover_by f (only_dec (tagged_dec inner t w.dec) s)
        ≡ covered_by v.start (v.start + v.len) (length s) (cover_by f (w.dec (take (v.start + v.len - v.start) (drop v.start s))))
    held_closed = rw (part_is v.start v.len s) (cover_closed f t w.dec s v.start v.len e)

-- responseBytes, by the sequence that it holds
module _ (s : List ℕ) where
  pub bytes_err : (p : Misfit) → expected 0xa0 (header_of s) ≡ Err p → bytes_of (only_dec response_bytes.dec s) ≡ Err p
  unfolding response_bytes
  bytes_err = held_err 0xa0 s _ _

  module _ (v : Span) (e : expected 0xa0 (header_of s) ≡ Ok v) where
    pub bytes_held : length s < 2 ^ 64 → v.start + broken_at (bytes_of (type_sequence.dec (take (v.start + v.len - v.start) (drop v.start s)))) < 2 ^ 64
    bytes_held = held_place 0xa0 s _ type_sequence v e

    pub bytes_filled : bytes_of (only_dec response_bytes.dec s)
        ≡ covered_by v.start (v.start + v.len) (length s) (bytes_of (type_sequence.dec (take (v.start + v.len - v.start) (drop v.start s))))
    unfolding response_bytes type_sequence type_string
    bytes_filled = held_closed 0xa0 s _ type_sequence v e

-- ── the status, and what it wants ──
-- what is read of the bytes, further on
bytes_moved : (v n size : ℕ) (o : Read (List ℕ × List ℕ))
    → covered_by n size size (bytes_of o) ≡ cover_of (renamed envelope_of (further n (λ y. inl (v, y)) o))
unfolding cover_by covered covered_by
bytes_moved v n size (broke p) = refl
bytes_moved v n size (read x) = rw (eq-eqb size size refl)

nothing_more : (v n : ℕ) (s : List ℕ) → length s ≤ n → Ok (cover.Failed v) ≡ cover_of (renamed envelope_of (further n (λ y. inr (v, y)) (end_dec (drop n s))))
unfolding cover_by covered end_dec
nothing_more v n s le = rw (drop_of_length-le s le)

something_more : (v n : ℕ) (l : List ℕ) → 0 < length l → Err (misfit n) ≡ cover_of (renamed envelope_of (further n (λ y. inr (v, y)) (end_dec l)))
unfolding cover_by end_dec
something_more v n [] h = absurd (omega arith)
something_more v n (x ∷ l) h = ap (λ (p : ℕ). Err (misfit p)) (omega arith)

module _ (s : List ℕ) where
  pub status_err : (p : Misfit) → code_of ((enumerated status_ok).dec s) ≡ Err p → cover_of (envelope_body.dec s) ≡ Err p
  unfolding cover_by envelope_body mapped_dec
  status_err p e =
      rw (branch_bad (enumerated status_ok).dec succeeds (only_dec response_bytes.dec) end_dec s p.place (code_wrong (enumerated status_ok) s p.place e).0)

  module _ (c : Code) (e : code_of ((enumerated status_ok).dec s) ≡ Ok c) where
    status_got : ((enumerated status_ok).dec s ≡ got c.value c.next) × (0 < c.next) × (c.next ≤ length s)
    status_got = code_read (enumerated status_ok) s c.value c.next e

    pub status_inside : c.next ≤ length s
    status_inside = status_got.2

    -- status 0: the bytes, as the code lends them
    pub bytes_place : length s < 2 ^ 64 → c.next + broken_at (bytes_of ((only response_bytes).dec (take (length s - c.next) (drop c.next s)))) < 2 ^ 64
    bytes_place z = rw (rest_is c.next s) (go (bytes_of ((only response_bytes).dec (drop c.next s))) refl)
      where
        go : (y : CoverRead) → bytes_of ((only response_bytes).dec (drop c.next s)) ≡ y → c.next + broken_at y < 2 ^ 64
        go (Ok m) i = omega (arith, status_inside)
        go (Err p) i =
            let v = (only response_bytes).within (drop c.next s) p.place (cover_broken _ ((only response_bytes).dec (drop c.next s)) p.place i) in
            omega (arith, status_inside, length-drop c.next s)

    pub bytes_closed : c.value ≡ 0
        → cover_of (envelope_body.dec s) ≡ covered_by c.next (length s) (length s) (bytes_of ((only response_bytes).dec (take (length s - c.next) (drop c.next s))))
    unfolding envelope_body mapped_dec
    bytes_closed i =
        ap (λ (o : Read EnvelopeParts). cover_of (renamed envelope_of o))
        (branch_then (enumerated status_ok).dec succeeds (only_dec response_bytes.dec) end_dec s c.value c.next status_got.0 (eq-eqb c.value 0 i))
        ∙ sym (bytes_moved c.value c.next (length s) (only_dec response_bytes.dec (drop c.next s)))
        ∙ ap (λ (r : List ℕ). covered_by c.next (length s) (length s) (bytes_of ((only response_bytes).dec r))) (sym (rest_is c.next s))

    -- another status
    module _ (i : c.value ≡ 0 → ⊥) where
      other_then : branch_dec (enumerated status_ok).dec succeeds (only_dec response_bytes.dec) end_dec s ≡ further c.next (λ y. inr (c.value, y)) (end_dec (drop c.next s))
      other_then = branch_else (enumerated status_ok).dec succeeds (only_dec response_bytes.dec) end_dec s c.value c.next status_got.0 (ne_eqb c.value 0 i)

      pub error_alone : c.next ≡ length s → cover_of (envelope_body.dec s) ≡ Ok (cover.Failed c.value)
      unfolding envelope_body mapped_dec
      error_alone j =
          ap (λ (o : Read EnvelopeParts). cover_of (renamed envelope_of o)) other_then ∙ sym (nothing_more c.value c.next s (omega arith))

      pub error_left : (c.next ≡ length s → ⊥) → cover_of (envelope_body.dec s) ≡ Err (misfit c.next)
      unfolding envelope_body mapped_dec
      error_left j =
          ap (λ (o : Read EnvelopeParts). cover_of (renamed envelope_of o)) other_then
          ∙ sym (something_more c.value c.next (drop c.next s) (simp length-drop (omega (arith, status_inside))))

-- by the function that they are the cases of
pub ruleset held_cases = (held_end, held_err, held_place, held_closed)

pub ruleset bytes_cases = (held_end, bytes_err, bytes_held, bytes_filled)

pub ruleset body_cases = (status_err, status_inside, bytes_place, bytes_closed, error_alone, error_left)
