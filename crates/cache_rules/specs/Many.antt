-- A cache after many filings (document 02, C-11).
-- after_all; AllOctets, ForOthers.
-- A filing is a time and tolerance, and the octets that are filed. What is proved is in ManyTheorem. Assumes nothing.
use Rattle.std.specs.Prelude.{ℕ, ◌≡◌, List, [], ◌∷◌}
use Rattle.octets.specs.Octets.{Octets}
use Rattle.freshness.specs.declared.Clock.{Clock}
use Rattle.answer.specs.declared.Card.{Card}
use Rattle.cache_rules.specs.Place.{says_of}
use Rattle.cache_rules.specs.Cache.{buffer_of}

-- the buffer after filings, one after the other
unfoldable pub after_all : List ℕ → List (Clock × List ℕ) → List ℕ
after_all s [] = s
after_all s (f ∷ l) = after_all (buffer_of f.0 s f.1) l

-- what is filed are octets
abbrev pub AllOctets : List (Clock × List ℕ) → Type 0
AllOctets [] = Unit {0}
AllOctets (f ∷ l) = Octets f.1 × AllOctets l

-- none is for this card
abbrev pub ForOthers : Card → List (Clock × List ℕ) → Type 0
ForOthers card [] = Unit {0}
ForOthers card (f ∷ l) = (card ≡ (says_of f.1).card → ⊥) × ForOthers card l
