-- One of two elements, by whether the first octet is the first one's.
-- choice.
-- The laws stand here, and what is made of them; the definitions in specs/Choice.
-- Assumes nothing.
use Rattle.std.specs.Prelude.{ℕ, ◌^◌, ◌≤◌, ◌<◌, ◌≡◌, Bool, List, ◌++◌, ◌⊎◌, length, drop}
use Rattle.std.proofs.Math.Bool.{true, false}
use Rattle.std.proofs.Math.Logic.{inl, inr}
use Rattle.octets.specs.Octets.{Octets}
use Rattle.codec.specs.Codec.{got, bad, Element}
use Rattle.codec.proofs.CodecLaws.{form_some}
use Rattle.codec.proofs.Outcome.{called_got, called_bad}
use Rattle.codec.specs.Starts.{Starts, Other}
use Rattle.codec.proofs.Starts.{starts_append, other_append}
use Rattle.codec.specs.Choice.{choice_dec, choice_of}

module _ {A B : Type 0} (t : ℕ) (e : Element A) (f : Element B) where
  abbrev pub choice_enc : A ⊎ B → List ℕ
  choice_enc (inl a) = e.enc a
  choice_enc (inr b) = f.enc b

  abbrev pub ChoiceOk : A ⊎ B → Type 0
  ChoiceOk (inl a) = e.ok a
  ChoiceOk (inr b) = f.ok b

  of_sound : (b : Bool) (s : List ℕ) (x : A ⊎ B) (n : ℕ) → Octets s → choice_of b e.dec f.dec s ≡ got x n
      → ChoiceOk x × (s ≡ choice_enc x ++ drop n s)
  unfolding choice_of
  of_sound true s x n o q = let (a, eg, ex) = called_got inl (e.dec s) x n q in rw (← ex) (e.sound s a n o eg)
  of_sound false s x n o q = let (b, eg, ex) = called_got inr (f.dec s) x n q in rw (← ex) (f.sound s b n o eg)

  of_within : (b : Bool) (s : List ℕ) (p : ℕ) → choice_of b e.dec f.dec s ≡ bad p → p ≤ length s
  unfolding choice_of
  of_within true s p q = e.within s p (called_bad inl (e.dec s) p q)
  of_within false s p q = f.within s p (called_bad inr (f.dec s) p q)

  of_inside : (b : Bool) (s : List ℕ) (x : A ⊎ B) (n : ℕ) → choice_of b e.dec f.dec s ≡ got x n → (0 < n) × (n ≤ length s)
  unfolding choice_of
  of_inside true s x n q = let (a, eg, ex) = called_got inl (e.dec s) x n q in e.inside s a n eg
  of_inside false s x n q = let (b, eg, ex) = called_got inr (f.dec s) x n q in f.inside s b n eg

  pub choice_sound : (s : List ℕ) (x : A ⊎ B) (n : ℕ) → Octets s → choice_dec t e.dec f.dec s ≡ got x n
      → ChoiceOk x × (s ≡ choice_enc x ++ drop n s)
  unfolding choice_dec
  choice_sound s x n o q = of_sound _ s x n o q

  pub choice_complete : Starts t e → Other t f → (x : A ⊎ B) (r : List ℕ) → ChoiceOk x → length (choice_enc x) < 2 ^ 64
      → choice_dec t e.dec f.dec (choice_enc x ++ r) ≡ got x (length (choice_enc x))
  unfolding choice_dec choice_of
  choice_complete u v (inl a) r h z = rw (starts_append t (e.enc a) r (u a h), e.complete a r h z)
  choice_complete u v (inr b) r h z = rw (other_append t (f.enc b) r (form_some f b h) (v b h), f.complete b r h z)

  pub choice_octets : (x : A ⊎ B) → ChoiceOk x → length (choice_enc x) < 2 ^ 64 → Octets (choice_enc x)
  choice_octets (inl a) h z = e.octets a h z
  choice_octets (inr b) h z = f.octets b h z

  pub choice_within : (s : List ℕ) (p : ℕ) → choice_dec t e.dec f.dec s ≡ bad p → p ≤ length s
  unfolding choice_dec
  choice_within s p q = of_within _ s p q

  pub choice_inside : (s : List ℕ) (x : A ⊎ B) (n : ℕ) → choice_dec t e.dec f.dec s ≡ got x n → (0 < n) × (n ≤ length s)
  unfolding choice_dec
  choice_inside s x n q = of_inside _ s x n q

  abbrev pub choice : Starts t e → Other t f → Element (A ⊎ B)
  choice u v = record {
    dec = choice_dec t e.dec f.dec;
    enc = choice_enc;
    ok = ChoiceOk;
    sound = choice_sound;
    complete = choice_complete u v;
    octets = choice_octets;
    within = choice_within;
    inside = choice_inside;
  }
