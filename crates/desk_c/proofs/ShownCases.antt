-- What stands behind a header, what an element holds that another holds, and where certificates are: what the code knows of them
-- at each return, and the contract there.
-- behind_inside, behind_found, behind_all, in behind_cases; held_before, held_none, held_some, in held_cases;
-- certificates_lent.
-- Assumes nothing.
use Rattle.std.specs.Prelude.{Ok, Err}
use Prim.Native.Nat.{ℕ, ◌+◌, ◌-◌, ◌≤◌}
use native.Mathlib.Omega.{arith}
use mathlib.Core.Path.{◌≡◌, sym, ap, ◌∙◌}
use mathlib.Core.List.{List}
use lib.ListN.{length, take, drop}
use borrow.Author.Tests.{eq-eqb, ne_eqb}
use Rattle.octets.specs.LentLaws.{Known, rest_is, part_is, part_length}
use Rattle.element.specs.Header.{header_of}
use Rattle.element.specs.HeaderLaws.{header_inside}
use Rattle.element.specs.Places.{HeaderRead}
use Rattle.element.specs.declared.Header.{Header}
use Rattle.element.specs.declared.Misfit.{Misfit}
use Rattle.element.specs.declared.Span.{Span}
use Rattle.read_response.specs.Judged.{Judged}
use Rattle.read_response.specs.Parts.{judged_of}
use Rattle.read_response.specs.declared.Parts.{Parts}
use Rattle.show.specs.Parts.{empty_span, shown_parts}
use Rattle.show.proofs.PartsLaws.{part_lent, list_inside}
use Rattle.show.specs.Shown.{octets_in}
use Rattle.desk_c.specs.Places.{behind_header, last_before, held_in}
use Rattle.desk_c.specs.HeldLaws.{behind_length}

-- ── behind a header ──
module _ (s : List ℕ) (x : HeaderRead) (q : x ≡ header_of s) where
  pub behind_inside : (h : Header) → x ≡ Ok h → h.start ≤ length s
  behind_inside h f = omega (arith, (header_inside s h.tag h.start h.len (sym q ∙ f)).1)

  pub behind_found : (h : Header) → x ≡ Ok h → take (length s - h.start) (drop h.start s) ≡ behind_header s
  unfolding behind_header
  behind_found h f = rw (← q, f) (rest_is h.start s)

  pub behind_all : (p : Misfit) → x ≡ Err p → s ≡ behind_header s
  unfolding behind_header
  behind_all p f = rw (← q, f)

-- ── inside two elements ──
module _ (s : List ℕ) (at : Span) (le : at.start + at.len ≤ length s) where
  abbrev lent : List ℕ
  lent = take (at.start + at.len - at.start) (drop at.start s)

  module _ (l h : List ℕ) (p : l ≡ behind_header lent) (q : h ≡ behind_header l) where
    held_is : h ≡ behind_header (behind_header (octets_in s at))
    held_is = q ∙ ap behind_header p ∙ ap (λ (x : List ℕ). behind_header (behind_header x)) (part_is at.start at.len s)

    pub held_before : length h ≤ at.start + at.len
    held_before = omega (arith, ap length held_is, behind_length (behind_header (octets_in s at)), behind_length (octets_in s at), part_length at.start at.len s le)

    pub held_none : length h ≡ 0 → empty_span ≡ held_in s at
    unfolding held_in last_before
    held_none e = rw (← held_is, eq-eqb (length h) 0 e)

    pub held_some : (length h ≡ 0 → ⊥) → record { start = at.start + at.len - length h; len = length h } ≡ held_in s at
    unfolding held_in last_before
    held_some e = rw (← held_is, ne_eqb (length h) 0 e)

-- ── the certificates ──
-- those of a response that is lent lie inside it
pub certificates_lent : (s : List ℕ) → Known s → (j : Judged) (p : Parts) → j ≡ judged_of s → p ≡ shown_parts j
    → p.certificates.start + p.certificates.len ≤ length s
certificates_lent = part_lent (λ p. p.certificates) list_inside

pub ruleset behind_cases = (behind_inside, behind_found, behind_all)

pub ruleset held_cases = (held_before, held_none, held_some)
