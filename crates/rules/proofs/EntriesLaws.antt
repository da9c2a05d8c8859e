-- The entries for a card, in plain words: an entry is for the card by its three parts and its algorithm, and the search
-- finds one exactly when that one stands in the list and no other is for the card.
-- for_exactly, none_exactly, only_exactly. The definitions are in OneCard, Order and crate rule_matching.
-- Assumes nothing.
use Rattle.std.specs.Prelude.{ℕ, ◌⊎◌, ◌↔◌, ◌≡◌, Bool, true, false, eqb}
use Rattle.std.proofs.Common.{arith, inl, inr, ⊎_elim, sym, ap, ◌∙◌}
use Rattle.std.proofs.Math.Path.{refl}
use mathlib.Core.List.Memᴰ
use mathlib.Core.List.{List, [], ◌∷◌, ◌++◌, Memᴰ}
use Rattle.std.proofs.Math.Option.{Option, none, some}
use borrow.Author.Tests.{eqb-true, eq-eqb}
use Rattle.octets.specs.Number.{value_of}
use Rattle.octets.specs.Same.{same_of}
use Rattle.octets.specs.SameLaws.{impossible, same_true, same_refl}
use Rattle.codec.specs.Tree.{Tree, prim, node}
use Rattle.layout.specs.Reading.{CertId, Entry}
use Rattle.layout.specs.Sha1.{sha1}
use Rattle.answer.specs.Card.{serial_in}
use Rattle.answer.specs.declared.Card.{Card}
use Rattle.rule_matching.specs.Match.{is_plain, is_sha1, matches, is_for}
use Rattle.rules.specs.Order.{entries_for}
use Rattle.rules.proofs.AcceptedLaws.{both}
use Rattle.rules.specs.OneCard.{ForCard, OnlyEntry}

-- ---- one entry

-- parameters absent or 05 00
plain_true : (p : Option Tree) → is_plain p ≡ true → (p ≡ none) ⊎ (p ≡ some (prim 5 []))
plain_true none e = inl refl
plain_true (some (prim t c)) e =
    let f = both (eqb t 5) (same_of c []) e in
    inr (rw (eqb-true t 5 f.0, same_true c [] f.1))
plain_true (some (node t r)) e = impossible e

plain_exactly : (p : Option Tree) → is_plain p ≡ true ↔ (p ≡ none) ⊎ (p ≡ some (prim 5 []))
plain_exactly p = (
  plain_true p,
  ⊎_elim (λ (e : p ≡ none). ap is_plain e) (λ (e : p ≡ some (prim 5 [])). ap is_plain e ∙ same_refl []),
)

cons_nil : {X : Type 0} {y : Entry} {l : List Entry} → y ∷ l ≡ [] → X
cons_nil e = let z : ◌≡◌ {A = ℕ} 0 1 = cc in absurd (omega arith)

module _ (card : Card) where
  -- the test of a CertID says that it is for the card
  pub for_exactly : (c : CertId) → is_for card c ≡ true ↔ ForCard card c
  unfolding matches
  for_exactly c = (
    λ e.
        let d = both _ (eqb c.serial (value_of (serial_in card))) e in
        let f = both _ (same_of c.key_hash card.key) d.0 in
        let g = both (is_sha1 c.algorithm) (same_of c.name_hash card.name) f.0 in
        let h = both (same_of c.algorithm.oid sha1) (is_plain c.algorithm.parameters) g.0 in
        record {
          algorithm = same_true c.algorithm.oid sha1 h.0;
          parameters = (plain_exactly c.algorithm.parameters).0 h.1;
          name_hash = same_true c.name_hash card.name g.1;
          key_hash = same_true c.key_hash card.key f.1;
          serial = eqb-true c.serial (value_of (serial_in card)) d.1;
        },
    λ m.
        rw (
          m.algorithm,
          same_refl sha1,
          (plain_exactly c.algorithm.parameters).1 m.parameters,
          m.name_hash,
          same_refl card.name,
          m.key_hash,
          same_refl card.key,
          eq-eqb c.serial (value_of (serial_in card)) m.serial,
        ),
  )

  -- ---- the only one

  -- an entry that is for the card is kept, and another is not
  for_kept : (y : Entry) (l : List Entry) → ForCard card y.cert → entries_for card (y ∷ l) ≡ y ∷ entries_for card l
  unfolding entries_for
  for_kept y l f = rw ((for_exactly y.cert).1 f)

  for_left : (y : Entry) (l : List Entry) → is_for card y.cert ≡ false → entries_for card (y ∷ l) ≡ entries_for card l
  unfolding entries_for
  for_left y l e = rw e

  -- either it is, or it is not
  for_cases : {C : Type 0} (y : Entry) → (ForCard card y.cert → C) → (is_for card y.cert ≡ false → C) → C
  for_cases {C} y f g = go (is_for card y.cert) refl
    where
      go : (t : Bool) → is_for card y.cert ≡ t → C
      go true e = f ((for_exactly y.cert).0 e)
      go false e = g e

  not_for : (y : Entry) → is_for card y.cert ≡ false → ForCard card y.cert → ⊥
  not_for y e f = impossible (sym e ∙ (for_exactly y.cert).1 f)

  -- none of some entries is for the card
  abbrev NoneFor : List Entry → Type 0
  NoneFor l = (x : Entry) → Memᴰ x l → ForCard card x.cert → ⊥

  none_cons : (y : Entry) (l : List Entry) → is_for card y.cert ≡ false → NoneFor l → NoneFor (y ∷ l)
  none_cons y l e h x m f = ⊎_elim (λ (i : x ≡ y). not_for y e (rw i at f)) (λ (n : Memᴰ x l). h x n f) (Memᴰ.cases_cons m)

  none_found : (l : List Entry) → entries_for card l ≡ [] → NoneFor l
  none_found [] p = λ x m f. Memᴰ.not-nil m
  none_found (y ∷ l) p =
      for_cases
      y
      (λ f. cons_nil (sym (for_kept y l f) ∙ p))
      (λ e. none_cons y l e (none_found l (sym (for_left y l e) ∙ p)))

  none_back : (l : List Entry) → NoneFor l → entries_for card l ≡ []
  unfolding entries_for
  none_back [] h = refl
  none_back (y ∷ l) h =
      for_cases
      y
      (λ f. absurd (h y (Memᴰ.head refl) f))
      (λ e. for_left y l e ∙ none_back l (λ x m. h x (Memᴰ.tail m)))

  -- no entry is for the card exactly when each is not
  pub none_exactly : (l : List Entry) → entries_for card l ≡ [] ↔ ((x : Entry) → Memᴰ x l → ForCard card x.cert → ⊥)
  none_exactly l = (none_found l, none_back l)

  -- the only entry for the card, with those before and after it
  only_here : (y : Entry) (l : List Entry) (e : Entry) → ForCard card y.cert → y ∷ entries_for card l ≡ e ∷ [] → OnlyEntry card (y ∷ l) e
  only_here y l e f p =
      let i : y ≡ e = cc in
      let n : entries_for card l ≡ [] = cc in
      record {
        before = [];
        after = l;
        place = ap (λ (z : Entry). z ∷ l) i;
        here = rw i at f;
        earlier = λ x m. absurd (Memᴰ.not-nil m);
        later = none_found l n;
      }

  only_later : (y : Entry) (l : List Entry) (e : Entry) → is_for card y.cert ≡ false → OnlyEntry card l e → OnlyEntry card (y ∷ l) e
  only_later y l e n o = record {
    before = y ∷ o.before;
    after = o.after;
    place = ap (λ (k : List Entry). y ∷ k) o.place;
    here = o.here;
    earlier = none_cons y o.before n o.earlier;
    later = o.later;
  }

  only_found : (l : List Entry) (e : Entry) → entries_for card l ≡ e ∷ [] → OnlyEntry card l e
  unfolding entries_for
  only_found [] e p = cons_nil (sym p)
  only_found (y ∷ l) e p =
      for_cases
      y
      (λ f. only_here y l e f (sym (for_kept y l f) ∙ p))
      (λ n. only_later y l e n (only_found l e (sym (for_left y l n) ∙ p)))

  only_back : (before : List Entry) (e : Entry) (after : List Entry) → NoneFor before → ForCard card e.cert → NoneFor after
      → entries_for card (before ++ (e ∷ after)) ≡ e ∷ []
  only_back [] e after h f k = for_kept e after f ∙ ap (λ (l : List Entry). e ∷ l) (none_back after k)
  only_back (y ∷ l) e after h f k =
      for_cases
      y
      (λ g. absurd (h y (Memᴰ.head refl) g))
      (λ n. for_left y (l ++ (e ∷ after)) n ∙ only_back l e after (λ x m. h x (Memᴰ.tail m)) f k)

  -- one entry is for the card exactly when it stands in the list and no other one is
  pub only_exactly : (l : List Entry) (e : Entry) → entries_for card l ≡ e ∷ [] ↔ OnlyEntry card l e
  only_exactly l e = (
    only_found l e,
    λ o. ap (entries_for card) o.place ∙ only_back o.before e o.after o.earlier o.here o.later,
  )
