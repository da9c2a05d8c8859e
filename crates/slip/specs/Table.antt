-- The table of slips (document 01, "Request and slip"): a row for each kind.
-- Row; reason_from; good_row, revoked_row, unknown_row, refusal_row, rows; no_row, row_in, row_of; card_size, body_size, size_of.
-- Laws are in TableLaws. A hash has n octets; the code uses n at 20.
-- Assumes nothing.
use Rattle.std.specs.Prelude.{ℕ, suc, ◌+◌, Bool, true, false, cond, List, [], ◌∷◌, eqb, get_or, None, Some, Option}
use Rattle.answer.specs.declared.Verdict.{Verdict}
use Rattle.answer.specs.declared.Verdict.TheVariants.{Good, Revoked, Unknown, Refused}
use Rattle.slip.specs.Numbers.{total}

-- one row: the kind, whether its body begins with a card, the widths of the numbers that follow, and what these say
pub record Row : Type 0 where
  pub kind : ℕ
  pub carded : Bool
  pub widths : List ℕ
  pub says : List ℕ → Verdict

-- a reason from its octet: FF if absent
unfoldable pub reason_from : ℕ → Option ℕ
reason_from n = cond (eqb n 255) None (Some n)

-- 01 good: card, thisUpdate 8, nextUpdate 8
abbrev pub good_row : Row
good_row = record { kind = 1; carded = true; widths = 8 ∷ 8 ∷ []; says = λ v. Good (get_or v 0 0) (get_or v 1 0) }

-- 02 revoked: the same, revocationTime 8, reason 1
abbrev pub revoked_row : Row
revoked_row = record {
  kind = 2;
  carded = true;
  widths = 8 ∷ 8 ∷ 8 ∷ 1 ∷ [];
  says = λ v. Revoked (get_or v 0 0) (get_or v 1 0) (get_or v 2 0) (reason_from (get_or v 3 0));
}

-- 03 unknown: as good
abbrev pub unknown_row : Row
unknown_row = record { kind = 3; carded = true; widths = 8 ∷ 8 ∷ []; says = λ v. Unknown (get_or v 0 0) (get_or v 1 0) }

-- 04 refusal: number, status
abbrev pub refusal_row : Row
refusal_row = record { kind = 4; carded = false; widths = 1 ∷ 1 ∷ []; says = λ v. Refused (get_or v 0 0) (get_or v 1 0) }

abbrev pub rows : List Row
rows = good_row ∷ revoked_row ∷ unknown_row ∷ refusal_row ∷ []

-- another kind has no body, and breaks the rules
abbrev pub no_row : ℕ → Row
no_row kind = record { kind = kind; carded = false; widths = []; says = λ v. Refused 17 0 }

-- the row with a kind, in a table and in this one
unfoldable pub row_in : List Row → ℕ → Row
row_in [] kind = no_row kind
row_in (r ∷ l) kind = cond (eqb kind r.kind) r (row_in l kind)

unfoldable pub row_of : ℕ → Row
row_of kind = row_in rows kind

-- ---- how long it is

-- how many octets of a body are its card's
abbrev pub card_size : ℕ → Row → ℕ
card_size n r = cond r.carded (n + n + 21) 0

-- how many octets a body has
unfoldable pub body_size : ℕ → Row → ℕ
body_size n r = card_size n r + total r.widths

-- how many octets a slip of a kind has
unfoldable pub size_of : ℕ → ℕ → ℕ
size_of n kind = suc (body_size n (row_of kind))
