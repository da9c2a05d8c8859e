-- The only entry for the card against the table: from refusal 12 on the check answers what the entry's reading says.
-- seen_ruled_lem; entry_answer. The definitions are in EntryRuled, and in Order and Ruling of crate rules.
-- Assumes nothing.
use Rattle.std.specs.Prelude.{ℕ, ◌^◌, ◌<◌, ◌≡◌, Bool, ◌&&◌, List, [], ◌∷◌, eqb, ltb, length, Err, Ok, Some}
use Rattle.std.proofs.Common.{arith, ◌∙◌, append-nil}
use Rattle.std.proofs.Math.Path.{refl, ap}
use Rattle.std.proofs.Math.Bool.{true, false, cond}
use Rattle.std.proofs.Math.Option.{Option, none, some}
use Rattle.octets.specs.Octets.{Octets}
use Rattle.codec.specs.Codec.{got}
use Rattle.codec.specs.Option.{OptionOk}
use Rattle.layout.specs.Reading.{Status, good, revoked, unknown, Entry, Basic, basic}
use Rattle.layout.proofs.LimitsLaws.{entry_limits}
use Rattle.layout.proofs.Format.{extensions, single_body, single_response}
use Rattle.layout.specs.Read.{reads}
use Rattle.layout.proofs.Read.{reading}
use Rattle.read_entry_values.specs.Looks.{standing_of, until_of, entry_seen}
use Rattle.read_entry_values.specs.SeenLaws.{seen_entry}
use Rattle.read_entry_values.specs.SeenEndLaws.{entry_extensions}
use Rattle.rule_tests.specs.StrangeInLaws.{strange_entry}
use Rattle.freshness.specs.Fresh.{Freshness, fresh_of, fresh_refusal}
use Rattle.freshness.specs.declared.Missed.TheVariants.{Endless, Reversed, Early, Late}
use Rattle.answer.specs.Verdict.{refused}
use Rattle.rules.specs.declared.Question.{Question}
use Rattle.rules.specs.Question.{in_range}
use Rattle.rules.specs.Signer.{is_signer, in_response, in_entry, strange_in}
use Rattle.rules.specs.Order.{entries_for, lacks_mark, next_in, missed}
use Rattle.rules.specs.Ruling.{said, answer_of}
use Rattle.rules.proofs.TimesLaws.{missed_13}
use Rattle.rules.proofs.RowLaws.{row_12, row_13, row_14, row_15, row_16, row_none}
use Rattle.rule_check.specs.EntryRuled.{verdict_for, fresh_ruled, until_ruled, view_ruled, seen_ruled, entry_ruled}

-- ── a status ──
verdict_said : (x : Status) (this end : ℕ) → said x this end ≡ verdict_for (standing_of x) this end
unfolding verdict_for
verdict_said good this end = refl
verdict_said unknown this end = refl
verdict_said (revoked t none) this end = refl
verdict_said (revoked t (some r)) this end = refl

-- ── the octets of an entry ──
-- an entry within the limits has extensions within them
extensions_ok : (e : Entry) → single_response.ok e → OptionOk extensions.ok e.extensions
unfolding single_response single_body
extensions_ok e h = h.1.1.1.1.0

-- its values say of it what its reading says
view_entry : (q : Question) (s : List ℕ) (e : Entry) (n : ℕ) → Octets s → length s < 2 ^ 64 → single_response.dec s ≡ got e n
    → view_ruled q s (entry_seen n e) ≡ entry_ruled q e
unfolding view_ruled entry_ruled
view_entry q s e n o z g =
    let x = entry_extensions s e n g o in
    let i = (single_response.inside s e n g).1 in
    rw (x.1, strange_entry e.extensions (extensions_ok e (single_response.sound s e n o g).0) (omega (arith, x.0)))

-- and they are those that are looked up in its octets
pub seen_ruled_lem : (q : Question) (e : Entry) → single_response.ok e → length (single_response.enc e) < 2 ^ 64
    → seen_ruled q (single_response.enc e) ≡ entry_ruled q e
unfolding seen_ruled
seen_ruled_lem q e h z =
    let s = single_response.enc e in
    let d : single_response.dec s ≡ got e (length s) = rw append-nil at (single_response.complete e [] h z) in
    ap (view_ruled q s) (seen_entry e ((entry_limits e).0 h) z) ∙ view_entry q s e (length s) (single_response.octets e h z) z d

-- ── by the rows from 12 on ──
module _ (q : Question) (name s : List ℕ) (range : in_range q name ≡ true) (size : ltb 16384 (length s) ≡ false) (b : Basic) (r : reading s ≡ reads (basic b))
    (valid : eqb q.verdict 1 ≡ true) (signer : is_signer q.signer name b.signed.responder ≡ true)
    (marks : eqb q.role 2 && lacks_mark q.marks ≡ false) (clear : strange_in in_response b.signed.extensions ≡ false)
    (e : Entry) (one : entries_for q.card b.signed.entries ≡ e ∷ []) where
  module _ (known : strange_in in_entry e.extensions ≡ false) where
    -- by its times
    times_ruled : (u : Option ℕ) → e.next_update ≡ u → answer_of q name s ≡ until_ruled q (standing_of e.status) e.this_update (until_of u)
    unfolding until_ruled fresh_ruled
    times_ruled none i = row_13 q name s range size b r valid signer marks clear e one known ((missed_13 q e).1 i)
    times_ruled (some end) i = go (fresh_of e.this_update (Some end) q.now q.tolerance) refl
      where
        miss : (f : Freshness) → fresh_of e.this_update (Some end) q.now q.tolerance ≡ f → missed q e ≡ fresh_refusal f
        miss f h = ap (λ (u : Option ℕ). fresh_refusal (fresh_of e.this_update (next_in u) q.now q.tolerance)) i ∙ ap fresh_refusal h

        go : (f : Freshness) → fresh_of e.this_update (Some end) q.now q.tolerance ≡ f
            → answer_of q name s ≡ fresh_ruled q.card (standing_of e.status) e.this_update end (fresh_of e.this_update (Some end) q.now q.tolerance)
        go (Ok x) h = rw h (rw (← verdict_said e.status e.this_update end) (row_none q name s range size b r valid signer marks clear e one known end i (miss (Ok x) h)))
        go (Err Endless) h = rw h (row_13 q name s range size b r valid signer marks clear e one known (miss (Err Endless) h))
        go (Err (Reversed n)) h = rw h (row_14 q name s range size b r valid signer marks clear e one known (miss (Err (Reversed n)) h))
        go (Err (Early n)) h = rw h (row_15 q name s range size b r valid signer marks clear e one known (miss (Err (Early n)) h))
        go (Err (Late n)) h = rw h (row_16 q name s range size b r valid signer marks clear e one known (miss (Err (Late n)) h))

  -- the only entry for the card
  pub entry_answer : answer_of q name s ≡ entry_ruled q e
  unfolding entry_ruled
  entry_answer = go (strange_in in_entry e.extensions) refl
    where
      go : (t : Bool) → strange_in in_entry e.extensions ≡ t
          → answer_of q name s ≡ cond (strange_in in_entry e.extensions) (refused 12 0) (until_ruled q (standing_of e.status) e.this_update (until_of e.next_update))
      go true h = row_12 q name s range size b r valid signer marks clear e one h ∙ rw h
      go false h = times_ruled h e.next_update refl ∙ rw h
