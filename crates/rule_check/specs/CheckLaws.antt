-- The check cut in two says what the table says: the response judged as a whole (2 to 9), then one card
-- (10 to 16).
-- CardKnown, card_known; check_by_parts, error_answer. The definitions are in CardRuled and EntryRuled, in Opened of crate
-- rule_response and in Ruling of crate rules; a question out of range is out-of-range in RefusalLaws of crate rules.
-- Assumes nothing.
use Rattle.std.specs.Prelude.{ℕ, ◌-◌, ◌^◌, ◌≤◌, ◌<◌, ◌≡◌, Bool, cond, ◌&&◌, List, [], ◌∷◌, get_or, drop, Ok, Err}
use native.Mathlib.Omega.{arith}
use Rattle.std.proofs.Math.Path.{refl, sym, ap}
use Rattle.std.proofs.Common.{◌∙◌, Fits}
use Rattle.std.proofs.Math.Bool.{true, false}
use Rattle.std.proofs.Math.Dec.{eqb, ltb}
use Rattle.std.proofs.Math.ListN.{length, length-drop}
use Rattle.std.proofs.Math.Seq.{length-take-le}
use Rattle.std.specs.Int.{w8}
use Rattle.octets.specs.Octets.{Octets}
use Rattle.octets.specs.OctetsLaws.{octets_from}
use Rattle.content.specs.Serial.{serial_ok}
use Rattle.codec.specs.Codec.{read}
use Rattle.codec.specs.Many.{forms, All}
use Rattle.codec.proofs.Many.{many}
use Rattle.layout.specs.Reading.{Entry, Basic, failed, basic}
use Rattle.layout.proofs.LimitsLaws.{entry_limits}
use Rattle.layout.proofs.PartLimitsLaws.{all_limits}
use Rattle.layout.specs.Limits.{HashOk, EntryOk, BasicOk}
use Rattle.layout.proofs.Format.{single_response, basic_body}
use Rattle.layout.specs.Read.{Outcome, reads, other_type, unfit}
use Rattle.layout.proofs.Read.{reading}
use Rattle.layout.proofs.Theorem.{sound}
use Rattle.read_response.specs.Parts.{parts_from, judged_as, judged_of}
use Rattle.read_response.proofs.PartsLaws.{entries_stand}
use Rattle.read_response.specs.declared.Parts.{Parts}
use Rattle.read_response.specs.Refusals.{refusal_of}
use Rattle.read_response.specs.Judged.{Judged}
use Rattle.read_response.specs.declared.Unread.TheVariants as unread
use Rattle.answer.specs.Verdict.{refused}
use Rattle.answer.specs.Card.{serial_in}
use Rattle.answer.specs.CardLaws.{field_exactly}
use Rattle.answer.specs.declared.Card.{Card}
use Rattle.rule_matching.specs.Match.{is_for}
use Rattle.rule_matching.proofs.MatchLaws.{hash_twenty}
use Rattle.rule_search.specs.Search.{found_of, for_card}
use Rattle.rule_search.proofs.SearchLaws.{search_reads}
use Rattle.rule_search.proofs.FoundLaws.{found_none, found_one, found_two}
use Rattle.rule_search.specs.declared.Found.{Found}
use Rattle.rule_search.specs.declared.Found.TheVariants as found
use Rattle.rules.specs.declared.Question.{Question}
use Rattle.rules.specs.Question.{in_range}
use Rattle.rules.specs.Signer.{is_signer, in_response, strange_in}
use Rattle.rules.specs.Order.{entries_for, lacks_mark}
use Rattle.rules.specs.Ruling.{answer_of}
use Rattle.rules.proofs.AcceptedLaws.{range_exactly}
use Rattle.rules.proofs.RowLaws.{row_2, row_3, row_4, row_5, row_6, row_7, row_8, row_9, row_10, row_11}
use Rattle.rule_response.specs.Opened.{number_opened, parts_opened, opened_by, opened_of}
use Rattle.rule_response.specs.OpenedLaws.{part_short, refusal_is}
use Rattle.rule_check.specs.EntryRuled.{seen_ruled}
use Rattle.rule_check.specs.EntryRuledLaws.{seen_ruled_lem, entry_answer}
use Rattle.rule_check.specs.CardRuled.{found_ruled, card_ruled, opened_ruled}

-- ── the entries for the card ──
entries_for_lem : (card : Card) (l : List Entry) → for_card card l ≡ entries_for card l
unfolding for_card entries_for
entries_for_lem card [] = refl
entries_for_lem card (e ∷ l) = rw (entries_for_lem card l)

all_for : (card : Card) (f : Entry → Type 0) (l : List Entry) → All f l → All f (for_card card l)
unfolding for_card
all_for card f [] h = tt
all_for card f (e ∷ l) h = go (is_for card e.cert) (all_for card f l h.1)
  where
    go : (t : Bool) → All f (for_card card l) → All f (cond t (e ∷ for_card card l) (for_card card l))
    go true r = (h.0, r)
    go false r = r

-- ── the card ──
-- what is known of the card by its type
pub record CardKnown (card : Card) : Type 0 where
  pub name : HashOk card.name
  pub key : HashOk card.key
  pub serial : Octets card.serial

-- what is known of a card by its arrays
pub card_known : (card : Card) → length card.name ≡ 20 → ((i : ℕ) → Fits w8 (get_or card.name i 0)) → length card.key ≡ 20
    → ((i : ℕ) → Fits w8 (get_or card.key i 0)) → ((i : ℕ) → Fits w8 (get_or card.serial i 0)) → CardKnown card
card_known card l a m b d = record {
  name = hash_twenty card.name (octets_from card.name (λ i lt. (a i).fits)) l;
  key = hash_twenty card.key (octets_from card.key (λ i lt. (b i).fits)) m;
  serial = octets_from card.serial (λ i lt. (d i).fits);
}

-- ── one card, by what the search finds in the octets of the entries ──
module _ (q : Question) (name s : List ℕ) (range : in_range q name ≡ true) (size : ltb 16384 (length s) ≡ false) (b : Basic) (r : reading s ≡ reads (basic b))
    (valid : eqb q.verdict 1 ≡ true) (signer : is_signer q.signer name b.signed.responder ≡ true)
    (marks : eqb q.role 2 && lacks_mark q.marks ≡ false) (clear : strange_in in_response b.signed.extensions ≡ false) where
  module _ (known : CardKnown q.card) (serial : serial_ok (serial_in q.card) ≡ true) (ok : All single_response.ok b.signed.entries)
      (most : length b.signed.entries ≤ 64) (short : length (forms single_response.enc b.signed.entries) < 2 ^ 64) where
    abbrev octets : List ℕ
    octets = forms single_response.enc b.signed.entries

    found_ruled_lem : (x : Found) → found_of q.card b.signed.entries ≡ x → answer_of q name s ≡ found_ruled q octets x
    unfolding found_ruled
    found_ruled_lem (found.None k) h = row_10 q name s range size b r valid signer marks clear (sym (entries_for_lem q.card b.signed.entries) ∙ (found_none q.card b.signed.entries k h).0)
    found_ruled_lem (found.Two i j) h =
        let (e, e', l, f) = found_two q.card b.signed.entries i j h in
        row_11 q name s range size b r valid signer marks clear e e' l (sym (entries_for_lem q.card b.signed.entries) ∙ f)
    found_ruled_lem (found.One i at n) h =
        let (e, f, g, le) = found_one q.card b.signed.entries i at n h in
        let a : All single_response.ok (e ∷ []) = rw f at (all_for q.card single_response.ok b.signed.entries ok) in
        let z : length (single_response.enc e) < 2 ^ 64 = omega (arith, ap length g, length-take-le n (drop at octets) (simp length-drop (omega arith))) in
        entry_answer q name s range size b r valid signer marks clear e (sym (entries_for_lem q.card b.signed.entries) ∙ f) ∙ sym (ap (seen_ruled q) g ∙ seen_ruled_lem q e a.0 z)

    card_answer : answer_of q name s ≡ card_ruled q octets
    unfolding card_ruled
    card_answer =
        let r : (many 0 64 single_response).dec octets ≡ read b.signed.entries = (many 0 64 single_response).complete b.signed.entries (ok, omega arith, most) short in
        let o : Octets octets = (many 0 64 single_response).octets b.signed.entries (ok, omega arith, most) short in
        rw (search_reads q.card known.name known.key known.serial serial octets b.signed.entries o r) (found_ruled_lem (found_of q.card b.signed.entries) refl)

-- ── the response as a whole ──
module _ (q : Question) (name s : List ℕ) (range : in_range q name ≡ true) (o : Octets s) (known : CardKnown q.card) where
  -- a card in range keeps the serial rule
  serial : serial_ok (serial_in q.card) ≡ true
  serial = ((field_exactly q.card.size q.card.serial).0 ((range_exactly q name).0 range).serial).1

  module _ (size : ltb 16384 (length s) ≡ false) (b : Basic) (r : reading s ≡ reads (basic b)) where
    abbrev parts : Parts
    parts = parts_from (length s - length (basic_body.enc b)) b

    limits : BasicOk b
    limits = (sound s (basic b) o r).0

    basic_answer : answer_of q name s ≡ opened_ruled q s (parts_opened q name s parts)
    unfolding parts_opened number_opened opened_ruled refused
    basic_answer = rw (refusal_is s o size b r q name) (go (eqb q.verdict 1) (is_signer q.signer name b.signed.responder) (eqb q.role 2 && lacks_mark q.marks) (strange_in in_response b.signed.extensions) refl refl refl refl)
      where
        go : (v g m x : Bool) → eqb q.verdict 1 ≡ v → is_signer q.signer name b.signed.responder ≡ g → eqb q.role 2 && lacks_mark q.marks ≡ m
            → strange_in in_response b.signed.extensions ≡ x
            → answer_of q name s ≡ opened_ruled q s (number_opened parts.entries (cond v (cond g (cond m 8 (cond x 9 0)) 7) 6))
        go false g m x hv hg hm hx = row_6 q name s range size b r hv
        go true false m x hv hg hm hx = row_7 q name s range size b r hv hg
        go true true true x hv hg hm hx = row_8 q name s range size b r hv hg hm
        go true true false true hv hg hm hx = row_9 q name s range size b r hv hg hm hx
        go true true false false hv hg hm hx =
            let w = entries_stand s b o r in
            card_answer q name s range size b r hv hg hm hx known serial
            ((all_limits single_response.ok EntryOk entry_limits b.signed.entries).1 limits.signed.entries)
            limits.signed.most (part_short s o size b r _ _ w)
            ∙ sym (ap (card_ruled q) w.octets)

  -- judged as a whole, then for the card: what the table says of a question in range
  pub check_by_parts : answer_of q name s ≡ opened_ruled q s (opened_of q name s)
  unfolding opened_of judged_of opened_by judged_as opened_ruled refused refusal_of
  check_by_parts = go (ltb 16384 (length s)) refl (reading s) refl
    where
      go : (t : Bool) → ltb 16384 (length s) ≡ t → (x : Outcome) → reading s ≡ x
          → answer_of q name s ≡ opened_ruled q s (opened_by q name s (cond t (Err unread.TooLong) (judged_as (length s) x)))
      go true h x r = row_2 q name s range h
      go false h (unfit p) r = row_3 q name s range h p r
      go false h other_type r = row_5 q name s range h r
      go false h (reads (failed n)) r = row_4 q name s range h n r
      go false h (reads (basic b)) r = basic_answer h b r

  -- an error response, with its status
  pub error_answer : (n : ℕ) → n ≡ (refusal_of (judged_of s)).status → (n ≡ 0 → ⊥) → answer_of q name s ≡ refused 4 n
  unfolding opened_of opened_by opened_ruled refusal_of refused
  error_answer n i k = check_by_parts ∙ go (judged_of s) i
    where
      go : (j : Judged) → n ≡ (refusal_of j).status → opened_ruled q s (opened_by q name s j) ≡ refused 4 n
      go (Err (unread.Failed c)) i = rw i
      go (Ok p) i = absurd (k i)
      go (Err unread.TooLong) i = absurd (k i)
      go (Err (unread.Unfit p)) i = absurd (k i)
      go (Err unread.OtherType) i = absurd (k i)
