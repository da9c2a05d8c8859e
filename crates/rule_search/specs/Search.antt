-- Which entries of a response are for a card (document 01, "Response layout"): by the headers of the
-- octets, as the search goes; and by the entries that they read as. It leaves off at the second.
-- is_at, is_here, noted, is_two, on_header, search_from, search_of; card_with, begins_with, seen, seen_of; found_from,
-- found_of, for_card.
-- That the two agree is in SearchLaws. Ordinals count from 0.
-- Assumes nothing.
use Rattle.std.specs.Prelude.{ℕ, zero, suc, ◌+◌, Bool, true, false, cond, List, [], ◌∷◌, length, take, drop, Option, Some, None, Ok, Err}
use Rattle.element.specs.Header.{header_of}
use Rattle.element.specs.Places.{HeaderRead, Spot}
use Rattle.layout.specs.Reading.{Entry}
use Rattle.layout.proofs.Format.{single_response}
use Rattle.read_content.specs.Spots.{expected}
use Rattle.read_entry.specs.Ids.{cert_spot}
use Rattle.answer.specs.declared.Card.{Card}
use Rattle.rule_matching.specs.Match.{is_for}
use Rattle.rule_matching.specs.CertForm.{is_card}
use Rattle.rule_search.specs.declared.Found.{Found}
use Rattle.rule_search.specs.declared.Found.TheVariants.{One, Two}
use Rattle.rule_search.specs.declared.Found.TheVariants as found
use Rattle.rule_search.specs.declared.Seen.{Seen}

-- the octets where a CertID's content is are the card's
unfoldable pub is_at : Card → List ℕ → Spot → Bool
is_at card s (Ok v) = is_card card (take v.len (drop v.start s))
is_at card s (Err p) = false

-- the entry at the head of a list is for the card
unfoldable pub is_here : Card → List ℕ → Bool
is_here card s = is_at card s (cert_spot s)

-- what is found after one entry more: whether it is for the card, its ordinal, its place and its size
unfoldable pub noted : Bool → ℕ → ℕ → ℕ → Found → Found
noted here i at n (found.None k) = cond here (One i at n) (found.None (i + 1))
noted here i at n (One j b l) = cond here (Two j i) (One j b l)
noted here i at n (Two j k) = Two j k

-- two were found
unfoldable pub is_two : Found → Bool
is_two (found.None k) = false
is_two (One j b l) = false
is_two (Two j k) = true

-- by the header: where there is none, what was found so far; else by the size of the element
unfoldable pub on_header : Found → HeaderRead → (ℕ → Found) → Found
on_header so (Ok h) f = f (h.start + h.len)
on_header so (Err p) f = so

-- the search in what is left of the octets, at most d elements: its place, the ordinal of its first
-- entry and what was found so far
unfoldable pub search_from : Card → ℕ → List ℕ → ℕ → ℕ → Found → Found
search_from card zero t at i so = so
search_from card (suc d) t at i so =
    on_header so (header_of t)
    (λ n.
    cond (is_two (noted (is_here card t) i at n so))
    (noted (is_here card t) i at n so)
    (search_from card d (drop n t) (at + n) (i + 1) (noted (is_here card t) i at n so)))

-- the search in the octets: an element takes an octet at least
unfoldable pub search_of : Card → List ℕ → Found
search_of card s = search_from card (length s) s 0 0 (found.None 0)

-- ── the fields lent ──
-- the card with these hashes and this serial
abbrev pub card_with : List ℕ → List ℕ → List ℕ → Card
card_with name key serial = record { name = name; key = key; serial = serial; size = length serial }

-- the content of an entry begins with a CertID for the card
unfoldable pub begins_with : Card → List ℕ → Bool
begins_with card c = is_at card c (expected 0x30 (header_of c))

-- an element's size, and whether it is an entry for the card
abbrev pub seen : ℕ → Bool → Seen
seen n here = record { size = n; here = here }

-- what the search sees, by the header and whether the element is an entry for the card
unfoldable pub seen_of : Bool → HeaderRead → Option Seen
seen_of here (Ok h) = Some (seen (h.start + h.len) here)
seen_of here (Err p) = None

-- ── over the reading ──
-- the same of entries that are read: the next one's place is after the forms of those before it
unfoldable pub found_from : Card → List Entry → ℕ → ℕ → Found → Found
found_from card [] at i so = so
found_from card (e ∷ l) at i so =
    cond (is_two (noted (is_for card e.cert) i at (length (single_response.enc e)) so))
    (noted (is_for card e.cert) i at (length (single_response.enc e)) so)
    (found_from card l (at + length (single_response.enc e)) (i + 1) (noted (is_for card e.cert) i at (length (single_response.enc e)) so))

unfoldable pub found_of : Card → List Entry → Found
found_of card l = found_from card l 0 0 (found.None 0)

-- the entries for a card, in order
unfoldable pub for_card : Card → List Entry → List Entry
for_card card [] = []
for_card card (e ∷ l) = cond (is_for card e.cert) (e ∷ for_card card l) (for_card card l)
