-- The slip (document 01, "Request and slip"): one octet of kind, then a body whose length the kind fixes. A place is not
-- on a slip (document 02, C-16): it is dropped in writing, and what is read has none.
-- card_octets, body_of, slip_of; card_fits, slip_ok, slip_refusal; verdict_in, card_under, parsed_as, parsed, read_of;
-- Sized, Hashed.
-- The rows are in Table, the rules of each verdict in Rules, the laws in SlipLaws. A hash has n octets; the code uses n at 20.
-- Assumes nothing.
use Rattle.std.specs.Prelude.{ℕ, ◌≡◌, Bool, true, false, cond, eqb, length, drop}
use mathlib.Core.List.{List, [], ◌∷◌, ◌++◌, flatten}
use Rattle.answer.specs.declared.Card.{Card}
use Rattle.answer.specs.declared.Verdict.{Verdict}
use Rattle.answer.specs.declared.Answer.{Answer}
use Rattle.answer.specs.Card.{empty_card, card_ok, same_card}
use Rattle.answer.specs.Verdict.{kind_of, values_of, saying, refused}
use Rattle.fields.specs.Field.{card_in, card_fields}
use Rattle.slip.specs.Numbers.{numbers_form, numbers_in}
use Rattle.slip.specs.Rules.{verdict_ok}
use Rattle.slip.specs.Table.{Row, row_of, card_size, body_size}

-- ---- an answer as a slip

-- a card's octets: both hashes, the serial's length, the serial
unfoldable pub card_octets : Card → List ℕ
card_octets card = flatten (card_fields card)

-- a body by its row
unfoldable pub body_of : Row → Card → List ℕ → List ℕ
body_of r card values = cond r.carded (card_octets card) [] ++ numbers_form r.widths values

-- the slip of an answer
unfoldable pub slip_of : Answer → List ℕ
slip_of a = kind_of a.verdict ∷ body_of (row_of (kind_of a.verdict)) a.card (values_of a.verdict)

-- the card's serial keeps the serial rule and its fill is zeros; where a slip has no card, the answer's is empty
unfoldable pub card_fits : ℕ → Card → Bool
card_fits kind card = cond (row_of kind).carded (card_ok card) (same_card card empty_card)

-- the slip rules: those of the verdict and the card's
unfoldable pub slip_ok : Answer → Bool
slip_ok a = cond (verdict_ok a.verdict) (card_fits (kind_of a.verdict) a.card) false

-- an answer that breaks them is not written
unfoldable pub slip_refusal : Answer → ℕ
slip_refusal a = cond (slip_ok a) 0 17

-- ---- a slip as an answer

-- what the numbers of a body say
unfoldable pub verdict_in : ℕ → Row → List ℕ → Verdict
verdict_in n r s = r.says (numbers_in r.widths (drop (card_size n r) s))

-- the card of a body, empty where it has none
unfoldable pub card_under : ℕ → Row → List ℕ → Card
card_under n r s = cond r.carded (card_in n s) empty_card

-- what a body says by its row, if it has its exact length
unfoldable pub parsed_as : ℕ → Row → List ℕ → Answer
parsed_as n r s =
    cond (eqb (length s) (body_size n r))
    (saying (verdict_in n r s) (card_under n r s))
    (refused 17 0)

-- what a slip says, its rules apart
unfoldable pub parsed : ℕ → List ℕ → Answer
parsed n [] = refused 17 0
parsed n (kind ∷ s) = parsed_as n (row_of kind) s

-- the answer of a slip; 17 where it breaks the slip rules
unfoldable pub read_of : ℕ → List ℕ → Answer
read_of n s = cond (slip_ok (parsed n s)) (parsed n s) (refused 17 0)

-- ---- how long the fields of a card are

-- a card whose hashes have n octets, and its serial's field twenty
pub record Sized (n : ℕ) (card : Card) : Type 0 where
  pub name : length card.name ≡ n
  pub key : length card.key ≡ n
  pub serial : length card.serial ≡ 20

-- where an answer's slip has a card, its hashes have n octets
abbrev pub Hashed : ℕ → Answer → Type 0
Hashed n a = (row_of (kind_of a.verdict)).carded ≡ true → Sized n a.card
