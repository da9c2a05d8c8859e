-- Laws of what is found among entries: none, one or two of them are for the card; where one is, its octets
-- are its form; the ordinals are those of the first two.
-- FoundSays, found_entries; found_none, none_found, found_one, found_two; ordinal_one, ordinals_two.
-- The definitions are in Search. Assumes nothing.
use Prim.Native.Nat.{ℕ, ◌+◌, ◌≤◌}
use Rattle.std.proofs.Common.{arith, ◌∙◌, take_at}
use Rattle.std.specs.Prelude.{◌≡◌, Bool, true, false, cond, take, drop}
use Rattle.std.proofs.Math.Path.{refl, sym, ap}
use mathlib.Core.List.{List, [], ◌∷◌, ◌++◌, append_assoc}
use Rattle.std.proofs.Math.ListN.{length, length-append}
use Rattle.std.proofs.Math.Seq.{drop-append_seam}
use Rattle.codec.specs.Many.{forms}
use Rattle.layout.specs.Reading.{Entry}
use Rattle.layout.proofs.Format.{single_response}
use Rattle.answer.specs.declared.Card.{Card}
use Rattle.rule_matching.specs.Match.{is_for}
use Rattle.read_content.specs.ExpectLaws.{never}
use Rattle.rule_search.specs.Search.{noted, is_two, found_from, found_of, for_card}
use Rattle.rule_search.specs.declared.Found.{Found}
use Rattle.rule_search.specs.declared.Found.TheVariants.{None, One, Two}

-- what is found among entries, and those for the card: none, and how many there are; one, its ordinal and
-- its octets where they are said to be; or two at least, and the ordinals of the first two
pub data FoundSays (s : List Entry) : Found → List Entry → Type 0 where
  none : FoundSays s (None (length s)) []
  one : (i b n : ℕ) (e : Entry) (r : List Entry) → drop i s ≡ e ∷ r → take n (drop b (forms single_response.enc s)) ≡ single_response.enc e
      → b + n ≤ length (forms single_response.enc s) → FoundSays s (One i b n) (e ∷ [])
  two : (j k : ℕ) (e e' : Entry) (r u v : List Entry) → drop j s ≡ e ∷ u → drop k s ≡ e' ∷ v → FoundSays s (Two j k) (e ∷ e' ∷ r)

forms_append : {A : Type 0} (f : A → List ℕ) (a b : List A) → forms f (a ++ b) ≡ forms f a ++ forms f b
forms_append f [] b = refl
forms_append f (x ∷ a) b = ap (λ (r : List ℕ). f x ++ r) (forms_append f a b) ∙ sym (append_assoc (f x) (forms f a) (forms f b))

length_one : {A : Type 0} (y : List A) (e : A) → length (y ++ (e ∷ [])) ≡ length y + 1
length_one y e = length-append y (e ∷ [])

module _ (card : Card) (s : List Entry) where
  -- after one entry for the card
  module _ (e : Entry) (j b n : ℕ) (u : List Entry) (p : drop j s ≡ e ∷ u) (f : take n (drop b (forms single_response.enc s)) ≡ single_response.enc e)
      (le : b + n ≤ length (forms single_response.enc s)) where
    after_one : (l y : List Entry) → s ≡ y ++ l → (at : ℕ) → FoundSays s (found_from card l at (length y) (One j b n)) (e ∷ for_card card l)
    unfolding found_from for_card noted is_two
    after_one [] y q at = one j b n e u p f le
    after_one (e' ∷ l) y q at =
        let w = after_one l (y ++ (e' ∷ [])) (q ∙ sym (append_assoc y (e' ∷ []) l)) (at + length (single_response.enc e')) in
        go (is_for card e'.cert) (rw (length_one y e') at w)
      where
        z : ℕ
        z = length (single_response.enc e')

        i : ℕ
        i = length y

        go : (h : Bool) → FoundSays s (found_from card l (at + z) (i + 1) (One j b n)) (e ∷ for_card card l)
            → FoundSays s (cond (is_two (noted h i at z (One j b n))) (noted h i at z (One j b n)) (found_from card l (at + z) (i + 1) (noted h i at z (One j b n))))
            (e ∷ cond h (e' ∷ for_card card l) (for_card card l))
        go true w = two j i e e' (for_card card l) u l p (ap (drop i) q ∙ drop-append_seam y (e' ∷ l))
        go false w = w

  -- after none
  after_none : (l y : List Entry) → s ≡ y ++ l → FoundSays s (found_from card l (length (forms single_response.enc y)) (length y) (None (length y))) (for_card card l)
  unfolding found_from for_card noted is_two
  after_none [] y q =
      let k : length y ≡ length s = omega (arith, ap length q, length-append y []) in
      rw (ap None k) none
  after_none (e ∷ l) y q =
      let w = after_none l (y ++ (e ∷ [])) (q ∙ sym (append_assoc y (e ∷ []) l)) in
      go (is_for card e.cert) (after_one e (length y) at z l (ap (drop (length y)) q ∙ drop-append_seam y (e ∷ l)) there inside l (y ++ (e ∷ [])) (q ∙ sym (append_assoc y (e ∷ []) l)) (at + z))
      (rw (length_one y e, next) at w)
    where
      x : List ℕ
      x = forms single_response.enc y

      c : List ℕ
      c = single_response.enc e

      r : List ℕ
      r = forms single_response.enc l

      at : ℕ
      at = length x

      z : ℕ
      z = length c

      i : ℕ
      i = length y

      all : forms single_response.enc s ≡ x ++ (c ++ r)
      all = ap (forms single_response.enc) q ∙ forms_append single_response.enc y (e ∷ l)

      there : take z (drop at (forms single_response.enc s)) ≡ c
      there = ap (λ (o : List ℕ). take z (drop at o)) all ∙ rw (drop-append_seam x (c ++ r)) (take_at c r z refl)

      inside : at + z ≤ length (forms single_response.enc s)
      inside = rw all (simp length-append (omega arith))

      next : length (forms single_response.enc (y ++ (e ∷ []))) ≡ at + z
      next = ap length (forms_append single_response.enc y (e ∷ [])) ∙ length-append x (c ++ []) ∙ ap (λ (k : ℕ). at + k) (length-append c [] ∙ omega arith)

      go : (h : Bool) → FoundSays s (found_from card l (at + z) (length (y ++ (e ∷ []))) (One i at z)) (e ∷ for_card card l)
          → FoundSays s (found_from card l (at + z) (i + 1) (None (i + 1))) (for_card card l)
          → FoundSays s (cond (is_two (noted h i at z (None i))) (noted h i at z (None i)) (found_from card l (at + z) (i + 1) (noted h i at z (None i))))
          (cond h (e ∷ for_card card l) (for_card card l))
      go true u w = rw (length_one y e) at u
      go false u w = w

  -- what is found says of the entries for the card
  pub found_entries : FoundSays s (found_of card s) (for_card card s)
  unfolding found_of
  found_entries = after_none s [] refl

-- ── by what is found ──
module _ (s : List Entry) where
  says_none : (x : Found) (f : List Entry) → FoundSays s x f → (n : ℕ) → x ≡ None n → (f ≡ []) × (n ≡ length s)
  says_none x f none n q = (refl, cc)
  says_none x f (one i b k e r p g le) n q = never (cc)
  says_none x f (two j k e e' r u v p g) n q = never (cc)

  none_says : (x : Found) (f : List Entry) → FoundSays s x f → f ≡ [] → x ≡ None (length s)
  none_says x f none q = refl
  none_says x f (one i b k e r p g le) q = never (cc)
  none_says x f (two j k e e' r u v p g) q = never (cc)

  says_one : (x : Found) (f : List Entry) → FoundSays s x f → (i b n : ℕ) → x ≡ One i b n
      → (e : Entry) × (f ≡ e ∷ []) × (take n (drop b (forms single_response.enc s)) ≡ single_response.enc e)
      × (b + n ≤ length (forms single_response.enc s))
  says_one x f none i b n q = never (cc)
  says_one x f (one j c k e r p g le) i b n q =
      let u : c ≡ b = cc in
      let v : k ≡ n = cc in
      (e, refl, rw (u, v) at g, rw (u, v) at le)
  says_one x f (two j k e e' r u v p g) i b n q = never (cc)

  says_two : (x : Found) (f : List Entry) → FoundSays s x f → (i j : ℕ) → x ≡ Two i j
      → (e : Entry) × (e' : Entry) × (r : List Entry) × (f ≡ e ∷ e' ∷ r)
  says_two x f none i j q = never (cc)
  says_two x f (one k b n e r p g le) i j q = never (cc)
  says_two x f (two k n e e' r u v p g) i j q = (e, e', r, refl)

  one_says : (x : Found) (f : List Entry) → FoundSays s x f → (i b n : ℕ) → x ≡ One i b n
      → (e : Entry) × (r : List Entry) × (f ≡ e ∷ []) × (drop i s ≡ e ∷ r)
  one_says x f none i b n q = never (cc)
  one_says x f (one j c k e r p g le) i b n q = let t : j ≡ i = cc in (e, r, refl, rw t at p)
  one_says x f (two j k e e' r u v p g) i b n q = never (cc)

  two_says : (x : Found) (f : List Entry) → FoundSays s x f → (i j : ℕ) → x ≡ Two i j
      → (e : Entry) × (e' : Entry) × (r : List Entry) × (u : List Entry) × (v : List Entry) × (f ≡ e ∷ e' ∷ r) × (drop i s ≡ e ∷ u) × (drop j s ≡ e' ∷ v)
  two_says x f none i j q = never (cc)
  two_says x f (one k b n e r p g le) i j q = never (cc)
  two_says x f (two k n e e' r u v p g) i j q =
      let c : k ≡ i = cc in
      let d : n ≡ j = cc in
      (e, e', r, u, v, refl, rw c at p, rw d at g)

module _ (card : Card) (l : List Entry) where
  -- none is found exactly where no entry is for the card; then it is counted how many there are
  pub found_none : (n : ℕ) → found_of card l ≡ None n → (for_card card l ≡ []) × (n ≡ length l)
  found_none = says_none l (found_of card l) (for_card card l) (found_entries card l)

  pub none_found : for_card card l ≡ [] → found_of card l ≡ None (length l)
  none_found = none_says l (found_of card l) (for_card card l) (found_entries card l)

  -- where one is found, it is the only entry for the card, and its octets are its form
  pub found_one : (i b n : ℕ) → found_of card l ≡ One i b n
      → (e : Entry) × (for_card card l ≡ e ∷ []) × (take n (drop b (forms single_response.enc l)) ≡ single_response.enc e)
      × (b + n ≤ length (forms single_response.enc l))
  found_one = says_one l (found_of card l) (for_card card l) (found_entries card l)

  -- where two are found, two at least are for the card
  pub found_two : (i j : ℕ) → found_of card l ≡ Two i j → (e : Entry) × (e' : Entry) × (r : List Entry) × (for_card card l ≡ e ∷ e' ∷ r)
  found_two = says_two l (found_of card l) (for_card card l) (found_entries card l)

  -- the ordinals are those of the first entries for the card
  pub ordinal_one : (i b n : ℕ) → found_of card l ≡ One i b n → (e : Entry) × (r : List Entry) × (for_card card l ≡ e ∷ []) × (drop i l ≡ e ∷ r)
  ordinal_one = one_says l (found_of card l) (for_card card l) (found_entries card l)

  pub ordinals_two : (i j : ℕ) → found_of card l ≡ Two i j
      → (e : Entry) × (e' : Entry) × (r : List Entry) × (u : List Entry) × (v : List Entry) × (for_card card l ≡ e ∷ e' ∷ r) × (drop i l ≡ e ∷ u) × (drop j l ≡ e' ∷ v)
  ordinals_two = two_says l (found_of card l) (for_card card l) (found_entries card l)
