-- The same values under other names: of a whole list, and of an element. Within the limits the two
-- ways between the names undo one another.
-- mapped_to, mapped_element_to (the limits are said in the new names); mapped_ok, mapped_element_ok (they
-- are those of the value that is named); mapped, mapped_element (the two ways undo one another
-- everywhere).
-- The laws stand here, and what is made of them; the definitions in specs/Mapped.
-- Assumes nothing.
use Rattle.std.specs.Prelude.{ℕ, ◌^◌, ◌≤◌, ◌<◌, ◌≡◌, List, ◌++◌, length}
use Rattle.std.proofs.Common.{sym, ◌∙◌}
use Rattle.std.proofs.Math.Path.{ap}
use Rattle.std.proofs.Math.ListN.{drop}
use Rattle.octets.specs.Octets.{Octets}
use Rattle.codec.specs.Codec.{read, broke, got, bad, Whole, Element}
use Rattle.codec.specs.Outcome.{Names}
use Rattle.codec.proofs.Outcome.{names_ok, renamed_read, renamed_broke, called_got, called_bad}
use Rattle.codec.specs.Mapped.{called_dec, mapped_dec}

module _ {A B : Type 0} (f : A → B) (g : B → A) (limits : B → Type 0) where
  module _ (w : Whole A) (names : Names f g w.ok limits) where
    pub mapped_sound : (s : List ℕ) (b : B) → Octets s → mapped_dec f w.dec s ≡ read b → limits b × (s ≡ w.enc (g b))
    unfolding mapped_dec
    mapped_sound s b o e =
        let (a, ea, eb) = renamed_read f (w.dec s) b e in
        let v = w.sound s a o ea in
        let n = names.there a v.0 in
        rw (← eb) (n.0, v.1 ∙ ap w.enc (sym n.1))

    pub mapped_complete : (b : B) → limits b → length (w.enc (g b)) < 2 ^ 64 → mapped_dec f w.dec (w.enc (g b)) ≡ read b
    unfolding mapped_dec
    mapped_complete b h z = let n = names.back b h in rw (w.complete (g b) n.0 z) (ap read n.1)

    pub mapped_within : (s : List ℕ) (p : ℕ) → mapped_dec f w.dec s ≡ broke p → p ≤ length s
    unfolding mapped_dec
    mapped_within s p e = w.within s p (renamed_broke f (w.dec s) p e)

    -- a whole list's values under other names
    abbrev pub mapped_to : Whole B
    mapped_to = record {
      dec = mapped_dec f w.dec;
      enc = λ b. w.enc (g b);
      ok = limits;
      sound = mapped_sound;
      complete = mapped_complete;
      octets = λ b h z. w.octets (g b) (names.back b h).0 z;
      within = mapped_within;
    }

  module _ (e : Element A) (names : Names f g e.ok limits) where
    pub called_sound : (s : List ℕ) (b : B) (n : ℕ) → Octets s → called_dec f e.dec s ≡ got b n
        → limits b × (s ≡ e.enc (g b) ++ drop n s)
    unfolding called_dec
    called_sound s b n o q =
        let (a, ea, eb) = called_got f (e.dec s) b n q in
        let v = e.sound s a n o ea in
        let m = names.there a v.0 in
        rw (← eb) (m.0, v.1 ∙ ap (λ (x : A). e.enc x ++ drop n s) (sym m.1))

    pub called_complete : (b : B) (r : List ℕ) → limits b → length (e.enc (g b)) < 2 ^ 64
        → called_dec f e.dec (e.enc (g b) ++ r) ≡ got b (length (e.enc (g b)))
    unfolding called_dec
    called_complete b r h z =
        let m = names.back b h in
        rw (e.complete (g b) r m.0 z) (ap (λ (x : B). got x (length (e.enc (g b)))) m.1)

    pub called_within : (s : List ℕ) (p : ℕ) → called_dec f e.dec s ≡ bad p → p ≤ length s
    unfolding called_dec
    called_within s p q = e.within s p (called_bad f (e.dec s) p q)

    pub called_inside : (s : List ℕ) (b : B) (n : ℕ) → called_dec f e.dec s ≡ got b n → (0 < n) × (n ≤ length s)
    unfolding called_dec
    called_inside s b n q = let v = called_got f (e.dec s) b n q in e.inside s v.0 n v.1

    -- an element's values under other names
    abbrev pub mapped_element_to : Element B
    mapped_element_to = record {
      dec = called_dec f e.dec;
      enc = λ b. e.enc (g b);
      ok = limits;
      sound = called_sound;
      complete = called_complete;
      octets = λ b h z. e.octets (g b) (names.back b h).0 z;
      within = called_within;
      inside = called_inside;
    }

module _ {A B : Type 0} (f : A → B) (g : B → A) where
  -- the limits are those of the value that is named
  abbrev pub mapped_ok : (w : Whole A) → ((b : B) → w.ok (g b) → f (g b) ≡ b) → ((a : A) → w.ok a → g (f a) ≡ a) → Whole B
  mapped_ok w fg gf = mapped_to f g (λ b. w.ok (g b)) w (names_ok f g w.ok fg gf)

  abbrev pub mapped_element_ok : (e : Element A) → ((b : B) → e.ok (g b) → f (g b) ≡ b) → ((a : A) → e.ok a → g (f a) ≡ a) → Element B
  mapped_element_ok e fg gf = mapped_element_to f g (λ b. e.ok (g b)) e (names_ok f g e.ok fg gf)

  module _ (fg : (b : B) → f (g b) ≡ b) (gf : (a : A) → g (f a) ≡ a) where
    -- the two ways undo one another everywhere
    abbrev pub mapped : Whole A → Whole B
    mapped w = mapped_ok w (λ b h. fg b) (λ a h. gf a)

    abbrev pub mapped_element : Element A → Element B
    mapped_element e = mapped_element_ok e (λ b h. fg b) (λ a h. gf a)
