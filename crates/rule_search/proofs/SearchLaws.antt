-- Laws of the search: in octets that read as entries it finds what the entries say.
-- none_left; entry_here, search_reads.
-- What that says of the entries for the card is in FoundLaws. The definitions are in Search.
-- Assumes nothing.
use Prim.Native.Nat.{ℕ, zero, suc, ◌+◌, ◌-◌, ◌≤◌}
use Rattle.std.proofs.Common.{arith, sym, ap, ◌∙◌, Ok}
use Rattle.std.specs.Prelude.{◌≡◌, refl, true, take, drop}
use mathlib.Core.List.{List, [], ◌∷◌}
use Rattle.std.proofs.Math.ListN.{length, length-drop}
use Rattle.octets.specs.Octets.{Octets}
use Rattle.octets.specs.OctetsLaws.{octets_take, octets_drop}
use Rattle.element.specs.HeaderLaws.{header_empty}
use Rattle.content.specs.Serial.{serial_ok}
use Rattle.codec.specs.Codec.{read, got}
use Rattle.codec.proofs.CodecLaws.{got_size}
use Rattle.codec.proofs.Outcome.{broke_read, renamed_read, on_got_read, further_read}
use Rattle.codec.specs.Many.{many_dec}
use Rattle.codec.proofs.Many.{many, enough_read}
use Rattle.codec.specs.Mapped.{mapped_dec}
use Rattle.codec.specs.Tagged.{inner}
use Rattle.layout.specs.Reading.{Entry}
use Rattle.layout.specs.Limits.{HashOk}
use Rattle.layout.proofs.Format.{cert_body, cert_id, single_body, single_response}
use Rattle.read_entry.specs.Ids.{cert_spot}
use Rattle.read_ending.specs.PartLaws.{tagged_read, field_read}
use Rattle.read_entry.specs.EntryLaws.{entry_header, entry_cert}
use Rattle.answer.specs.Card.{serial_in}
use Rattle.answer.specs.declared.Card.{Card}
use Rattle.rule_matching.specs.Match.{is_for}
use Rattle.rule_matching.proofs.MatchLaws.{cert_octets}
use Rattle.rule_search.specs.Search.{is_at, is_here, noted, on_header, search_from, search_of, found_from, found_of}
use Rattle.rule_search.specs.declared.Found.{Found}
use Rattle.rule_search.specs.declared.Found.TheVariants.{None}
use Rattle.element.specs.Places.{span}

-- where nothing is left, what was found so far
pub none_left : (card : Card) (d at i : ℕ) (so : Found) → search_from card d [] at i so ≡ so
unfolding search_from on_header
none_left card zero at i so = refl
none_left card (suc d) at i so = rw header_empty

-- the octets where the CertID of an entry is read as that CertID
cert_reads : (t : List ℕ) (e : Entry) (n : ℕ) → single_response.dec t ≡ got e n → Octets t
    → (b : ℕ) × (l : ℕ) × (cert_spot t ≡ Ok (span b l)) × (cert_body.dec (take l (drop b t)) ≡ read e.cert)
unfolding single_body mapped_dec cert_id
cert_reads t e n q o =
    let (h, m, _, _, g) = entry_header t e n q in
    let c = take m (drop h t) in
    let oc = octets_take m (drop h t) (octets_drop h t o) in
    let (x, ex, ee) = renamed_read _ _ e g in
    let (k, eg, _) = field_read cert_id.dec _ c x ex in
    let (u, v, _, _, f) = tagged_read inner 0x30 cert_body.dec c e.cert k (eg ∙ ap (λ (y : Entry). got y.cert k) ee) in
    let (b, l, es, _, i) = entry_cert t e n q o in
    let j = (cert_body.sound (take v (drop u c)) e.cert (octets_take v (drop u c) (octets_drop u c oc)) f).1 in
    (b, l, es, ap cert_body.dec (i ∙ sym j) ∙ f)

module _ (card : Card) (name : HashOk card.name) (key : HashOk card.key) (serial : Octets card.serial)
    (ok : serial_ok (serial_in card) ≡ true) where
  -- an entry at the head of a list is for the card by its octets exactly where it is by its CertID
  pub entry_here : (t : List ℕ) (e : Entry) (n : ℕ) → single_response.dec t ≡ got e n → Octets t → is_here card t ≡ is_for card e.cert
  unfolding is_here is_at
  entry_here t e n q o =
      let (b, l, es, r) = cert_reads t e n q o in
      rw es (cert_octets card name key serial ok (take l (drop b t)) e.cert (octets_take l (drop b t) (octets_drop b t o)) r)

  reads_from : (lo k : ℕ) (t : List ℕ) (l : List Entry) → Octets t → many_dec single_response.dec lo k t ≡ read l
      → (d : ℕ) → length t ≤ d → (at i : ℕ) (so : Found) → search_from card d t at i so ≡ found_from card l at i so
  unfolding many_dec found_from search_from on_header
  reads_from lo zero [] l o q d le at i so = none_left card d at i so ∙ rw (← (enough_read lo l q).1)
  reads_from lo zero (x ∷ t) l o q d le at i so = broke_read q
  reads_from lo (suc k) [] l o q d le at i so = none_left card d at i so ∙ rw (← (enough_read lo l q).1)
  reads_from lo (suc k) (x ∷ t) l o q zero le at i so = absurd (omega arith)
  reads_from lo (suc k) (x ∷ t) l o q (suc d) le at i so =
      let (e, n, eg, f) = on_got_read (single_response.dec (x ∷ t)) _ l q in
      let (m, em, el) = further_read n (λ l. e ∷ l) (many_dec single_response.dec (lo - 1) k (drop n (x ∷ t))) l f in
      let (h, c, eh, en, _) = entry_header (x ∷ t) e n eg in
      let z = got_size single_response (x ∷ t) e n o eg in
      let y = single_response.inside (x ∷ t) e n eg in
      let less : length (drop n (x ∷ t)) ≤ d = omega (arith, length-drop n (x ∷ t)) in
      let r = reads_from (lo - 1) k (drop n (x ∷ t)) m (octets_drop n (x ∷ t) o) em d less (at + n) (i + 1) (noted (is_for card e.cert) i at n so) in
      rw (← el, eh, en, entry_here (x ∷ t) e n eg o, z, r)

  -- the search in octets that read as entries finds what the entries say
  pub search_reads : (s : List ℕ) (l : List Entry) → Octets s → (many 0 64 single_response).dec s ≡ read l → search_of card s ≡ found_of card l
  unfolding search_of found_of
  search_reads s l o q = reads_from 0 64 s l o q (length s) (omega arith) 0 0 (None 0)
