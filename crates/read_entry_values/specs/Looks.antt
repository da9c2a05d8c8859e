-- The values of an entry: those of its reading, and those that the code looks up at the places where the layout has them.
-- why_of, standing_of, until_of, extensions_size, entry_seen: of a reading. inside_sequence, behind_sequence, why_in, standing_in, times_in, until_in,
-- rest_size, view_of, seen_in: of octets, with no test. That the two are the same for an entry is in SeenLaws; what is looked up in
-- other octets says nothing.
-- Assumes nothing.
use Rattle.std.specs.Prelude.{ℕ, ◌+◌, ◌-◌, cond, List, [], Option, Some, None, Ok, Err, eqb, length, get_or, take, drop}
use Rattle.std.proofs.Math.Option.{none, some}
use Rattle.std.proofs.Math.Option as math
use Rattle.element.specs.Places.{Spot}
use Rattle.element.specs.Header.{header_of}
use Rattle.calendar.specs.Plain.{plain_seconds}
use Rattle.codec.specs.Option.{option_enc}
use Rattle.layout.specs.Reading.{Status, good, revoked, unknown, Extension, Entry}
use Rattle.layout.proofs.Format.{extensions}
use Rattle.read_content.specs.Spots.{expected}
use Rattle.read_entry_values.specs.declared.Standing.{Standing}
use Rattle.read_entry_values.specs.declared.Standing.TheVariants as standing
use Rattle.read_entry_values.specs.declared.View.{View}

-- ── of a reading ──
-- a reason, or that there is none
abbrev pub why_of : math.Option ℕ → Option ℕ
why_of none = None
why_of (some n) = Some n

-- a status
abbrev pub standing_of : Status → Standing
standing_of good = standing.Good
standing_of (revoked t r) = standing.Revoked t (why_of r)
standing_of unknown = standing.Unknown

-- nextUpdate, or that there is none
abbrev pub until_of : math.Option ℕ → Option ℕ
until_of none = None
until_of (some t) = Some t

-- how many octets an entry's extensions take
abbrev pub extensions_size : math.Option (List Extension) → ℕ
extensions_size x = length (option_enc extensions.enc x)

-- the values of an entry of n octets: its extensions are the last of them
abbrev pub entry_seen : ℕ → Entry → View
entry_seen n e = record {
  standing = standing_of e.status;
  this = e.this_update;
  until = until_of e.next_update;
  from = n - extensions_size e.extensions;
  len = extensions_size e.extensions;
}

-- ── of octets ──
-- what follows a header, and what follows the content behind it; nothing where there is no such header
abbrev pub inside_spot : List ℕ → Spot → List ℕ
inside_spot s (Ok v) = drop v.start s
inside_spot s (Err p) = []

abbrev pub behind_spot : List ℕ → Spot → List ℕ
behind_spot s (Ok v) = drop (v.start + v.len) s
behind_spot s (Err p) = []

-- what follows the header of the sequence at the head
unfoldable pub inside_sequence : List ℕ → List ℕ
inside_sequence s = inside_spot s (expected 0x30 (header_of s))

-- what follows the sequence at the head
unfoldable pub behind_sequence : List ℕ → List ℕ
behind_sequence s = behind_spot s (expected 0x30 (header_of s))

-- the reason in a revoked status: a time alone takes 17 octets; else the code is the last octet
unfoldable pub why_in : List ℕ → Option ℕ
why_in s = cond (eqb (get_or s 1 0) 17) None (Some (get_or s 23 0))

-- a status, by its tag
unfoldable pub standing_in : List ℕ → Standing
standing_in s =
    cond (eqb (get_or s 0 0) 0x80) standing.Good
    (cond (eqb (get_or s 0 0) 0x82) standing.Unknown
    (standing.Revoked (plain_seconds (take 15 (drop 4 s))) (why_in s)))

-- what follows a status
unfoldable pub times_in : List ℕ → List ℕ
times_in s = drop (2 + get_or s 1 0) s

-- nextUpdate, by its tag behind thisUpdate
unfoldable pub until_in : List ℕ → Option ℕ
until_in s = cond (eqb (get_or s 17 0) 0xa0) (Some (plain_seconds (take 15 (drop 21 s)))) None

-- how many octets follow the times
unfoldable pub rest_size : List ℕ → Option ℕ → ℕ
rest_size s (Some n) = length (drop 36 s)
rest_size s None = length (drop 17 s)

-- the values of an entry of n octets with this status, by its times
unfoldable pub view_of : ℕ → Standing → List ℕ → View
view_of n st s = record {
  standing = st;
  this = plain_seconds (take 15 (drop 2 s));
  until = until_in s;
  from = n - rest_size s (until_in s);
  len = rest_size s (until_in s);
}

-- the values of an entry
unfoldable pub seen_in : List ℕ → View
seen_in s = view_of (length s) (standing_in (behind_sequence (inside_sequence s))) (times_in (behind_sequence (inside_sequence s)))
