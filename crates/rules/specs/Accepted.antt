-- When a response is accepted: document 01's conditions for no refusal, each in plain words beside its number in the
-- table of refusals. The check that is run is in Ruling; that it accepts exactly these is in RulingLaws.
-- InRange; Signs, KnownInResponse, KnownInEntry, Understood, NotUnderstood; Accepted; NoRefusal, HasTimes, IsRefusal.
-- Assumes nothing.
use Rattle.std.specs.Prelude.{ℕ, ◌+◌, ◌≤◌, ◌⊎◌, ◌≡◌, true, length, None, Some}
use mathlib.Core.List.{List, [], ◌∷◌, Memᴰ}
use Rattle.std.proofs.Math.Option.{Option, none, some}
use Rattle.calendar.specs.Time.{last_second}
use Rattle.codec.specs.Tree.{tree_enc}
use Rattle.layout.specs.Reading.{Extension, Responder, by_name, by_key, Entry, Basic, failed, basic}
use Rattle.layout.specs.Read.{reads, unfit}
use Rattle.layout.proofs.Read.{reading}
use Rattle.answer.specs.Card.{card_ok, empty_card}
use Rattle.answer.specs.declared.Verdict.{Verdict}
use Rattle.answer.specs.declared.Verdict.TheVariants.{Good, Revoked, Unknown, Refused}
use Rattle.answer.specs.declared.Answer.{Answer}
use Rattle.rules.specs.declared.Question.{Question}
use Rattle.rules.specs.Signer.{ocsp_oid}
use Rattle.rules.specs.Order.{entries_for}

-- the question is in range (1)
pub record InRange (q : Question) (name : List ℕ) : Type 0 where
  -- the card's serial keeps the serial rule, and its fill is zeros
  pub serial : card_ok q.card ≡ true
  pub now : q.now ≤ last_second
  pub tolerance : q.tolerance ≤ 3600
  pub verdict : q.verdict ≤ 2
  pub role_least : 1 ≤ q.role
  pub role_most : q.role ≤ 3
  pub marks : q.marks ≤ 7
  pub name_size : length name ≤ 256

-- a responder id is the signer's: its key hash, or its whole Name octet by octet
abbrev pub Signs : List ℕ → List ℕ → Responder → Type 0
Signs key name (by_key k) = k ≡ key
Signs key name (by_name n) = tree_enc n ≡ name

-- understood in the response: nonce and extended revoke
abbrev pub KnownInResponse : List ℕ → Type 0
KnownInResponse o = (o ≡ ocsp_oid 2) ⊎ (o ≡ ocsp_oid 9)

-- understood in an entry: archive cutoff
abbrev pub KnownInEntry : List ℕ → Type 0
KnownInEntry o = o ≡ ocsp_oid 6

-- each critical extension is understood
abbrev pub Understood : (List ℕ → Type 0) → Option (List Extension) → Type 0
Understood Known none = Unit {0}
Understood Known (some l) = (x : Extension) → Memᴰ x l → x.critical ≡ true → Known x.oid

-- a critical extension is not understood
abbrev pub NotUnderstood : (List ℕ → Type 0) → Option (List Extension) → Type 0
NotUnderstood Known o = (l : List Extension) × (x : Extension) × (o ≡ some l) × Memᴰ x l × (x.critical ≡ true) × (Known x.oid → ⊥)

-- a response s is accepted for a question and the signer's Name, from the entry e of the basic response b, whose
-- nextUpdate is next
pub record Accepted (q : Question) (name s : List ℕ) (b : Basic) (e : Entry) (next : ℕ) : Type 0 where
  -- 1: the question is in range
  pub range : InRange q name
  -- 2: the response has at most 16,384 octets
  pub size : length s ≤ 16384
  -- 3, 4, 5: it fits the layout and reads as a basic response
  pub reads_as : reading s ≡ reads (basic b)
  -- 6: the signature's verdict is 1
  pub valid : q.verdict ≡ 1
  -- 7: the responder id is the signer's
  pub signer : Signs q.signer name b.signed.responder
  -- 8: a delegate has all three marks
  pub marks : q.role ≡ 2 → q.marks ≡ 7
  -- 9: each critical response extension is understood
  pub understood : Understood KnownInResponse b.signed.extensions
  -- 10, 11: one entry is for this card, and no other
  pub only : entries_for q.card b.signed.entries ≡ e ∷ []
  -- 12: each critical extension of that entry is understood
  pub entry_understood : Understood KnownInEntry e.extensions
  -- 13: that entry has a nextUpdate
  pub ends : e.next_update ≡ some next
  -- 14: nextUpdate is not before thisUpdate
  pub ordered : e.this_update ≤ next
  -- 15: thisUpdate is not after now
  pub begun : e.this_update ≤ q.now
  -- 16: now is not after nextUpdate plus tolerance
  pub current : q.now ≤ next + q.tolerance

-- ── what an answer is ──
-- no refusal
abbrev pub NoRefusal : Verdict → Type 0
NoRefusal v = (number status : ℕ) → v ≡ Refused number status → ⊥

-- its own thisUpdate and nextUpdate; a refusal has none
abbrev pub HasTimes : Verdict → ℕ → ℕ → Type 0
HasTimes (Good t n) this next = (t ≡ this) × (n ≡ next)
HasTimes (Revoked t n at reason) this next = (t ≡ this) × (n ≡ next)
HasTimes (Unknown t n) this next = (t ≡ this) × (n ≡ next)
HasTimes (Refused number status) this next = ⊥

-- an answer to a response s is the refusal with a number, 1 to 16, a status and a place
pub record IsRefusal (s : List ℕ) (a : Answer) (number status : ℕ) : Type 0 where
  pub verdict : a.verdict ≡ Refused number status
  -- an empty part
  pub card : a.card ≡ empty_card
  pub least : 1 ≤ number
  pub most : number ≤ 16
  -- with 4 goes the status of the response, with another number 0
  pub four : number ≡ 4 → reading s ≡ reads (failed status)
  pub other : (number ≡ 4 → ⊥) → status ≡ 0
  -- with 3 goes the place of the response that does not fit, with another number none
  pub three : number ≡ 3 → (p : ℕ) × (reading s ≡ unfit p) × (a.place ≡ Some p)
  pub placeless : (number ≡ 3 → ⊥) → a.place ≡ None
