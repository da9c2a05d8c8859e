-- Maybe an element, then a whole list. The element is recognised by its first octet alone; whatever
-- else stands there belongs to the list that follows, whose forms never begin with that octet.
-- option.
-- The laws stand here, and what is made of them; the definitions in specs/Option.
-- Assumes nothing.
use Rattle.std.specs.Prelude.{ℕ, ◌^◌, ◌≤◌, ◌<◌, ◌≡◌, Bool, List, ◌++◌, drop}
use Rattle.std.proofs.Math.Bool.{true, false}
use Rattle.std.proofs.Math.Option.{Option, none, some}
use Rattle.std.proofs.Math.ListN.{length}
use Rattle.std.proofs.Math.Seq.{drop-append_seam}
use Rattle.octets.specs.Octets.{Octets}
use Rattle.octets.specs.OctetsLaws.{octets_append, octets_drop}
use Rattle.codec.specs.Codec.{read, broke, Whole, Element}
use Rattle.codec.proofs.Outcome.{further_read, on_got_read, renamed_read, renamed_broke}
use Rattle.codec.proofs.PartLaws.{small_left, small_right}
use Rattle.codec.proofs.Sequence.{next_within}
use Rattle.codec.specs.Starts.{Starts, Apart}
use Rattle.codec.proofs.Starts.{starts_append}
use Rattle.codec.specs.Option.{OptionOk, option_dec, option_enc, option_of}

module _ {A B : Type 0} (t : ℕ) (e : Element A) (w : Whole B) where
  abbrev pub BothOk : Option A × B → Type 0
  BothOk x = OptionOk e.ok x.0 × w.ok x.1

  abbrev pub both_enc : Option A × B → List ℕ
  both_enc x = option_enc e.enc x.0 ++ w.enc x.1

  of_sound : (b : Bool) (s : List ℕ) (x : Option A × B) → Octets s → option_of b e.dec w.dec s ≡ read x → BothOk x × (s ≡ both_enc x)
  unfolding option_of
  of_sound false s x o h =
      let (y, ey, ex) = renamed_read (λ y. (none, y)) (w.dec s) x h in
      let v = w.sound s y o ey in
      rw (← ex) ((tt, v.0), v.1)
  of_sound true s x o h =
      let (a, n, eg, f) = on_got_read (e.dec s) _ x h in
      let (y, ey, ex) = further_read n (λ y. (some a, y)) (w.dec (drop n s)) x f in
      let u = e.sound s a n o eg in
      let v = w.sound (drop n s) y (octets_drop n s o) ey in
      rw (← ex) ((u.0, v.0), rw v.1 at u.1)

  pub option_sound : (s : List ℕ) (x : Option A × B) → Octets s → option_dec t e.dec w.dec s ≡ read x → BothOk x × (s ≡ both_enc x)
  unfolding option_dec
  option_sound s x o h = of_sound _ s x o h

  pub option_complete : Starts t e → Apart t w → (x : Option A × B) → BothOk x → length (both_enc x) < 2 ^ 64
      → option_dec t e.dec w.dec (both_enc x) ≡ read x
  unfolding option_dec option_of
  option_complete st ap x h z = go x.0 x.1 h z
    where
      go : (o : Option A) (b : B) → OptionOk e.ok o × w.ok b → length (option_enc e.enc o ++ w.enc b) < 2 ^ 64
          → option_dec t e.dec w.dec (option_enc e.enc o ++ w.enc b) ≡ read (o, b)
      go none b h z = rw (ap b h.1, w.complete b h.1 z)
      go (some a) b h z =
          rw (
            starts_append t (e.enc a) (w.enc b) (st a h.0),
            e.complete a (w.enc b) h.0 (small_left (e.enc a) (w.enc b) z),
            drop-append_seam (e.enc a) (w.enc b),
            w.complete b h.1 (small_right (e.enc a) (w.enc b) z),
          )

  pub option_octets : (x : Option A × B) → BothOk x → length (both_enc x) < 2 ^ 64 → Octets (both_enc x)
  option_octets x h z = go x.0 x.1 h z
    where
      go : (o : Option A) (b : B) → OptionOk e.ok o × w.ok b → length (option_enc e.enc o ++ w.enc b) < 2 ^ 64
          → Octets (option_enc e.enc o ++ w.enc b)
      go none b h z = w.octets b h.1 z
      go (some a) b h z =
          let p = e.enc a in
          let q = w.enc b in
          octets_append p q (e.octets a h.0 (small_left p q z)) (w.octets b h.1 (small_right p q z))

  of_within : (b : Bool) (s : List ℕ) (p : ℕ) → option_of b e.dec w.dec s ≡ broke p → p ≤ length s
  unfolding option_of
  of_within true s p h = next_within e (λ a. w.dec) (λ a. w.within) (λ a y. (some a, y)) s p h
  of_within false s p h = w.within s p (renamed_broke (λ y. (none, y)) (w.dec s) p h)

  pub option_within : (s : List ℕ) (p : ℕ) → option_dec t e.dec w.dec s ≡ broke p → p ≤ length s
  unfolding option_dec
  option_within s p h = of_within _ s p h

  abbrev pub option : Starts t e → Apart t w → Whole (Option A × B)
  option st ap = record {
    dec = option_dec t e.dec w.dec;
    enc = both_enc;
    ok = BothOk;
    sound = option_sound;
    complete = option_complete st ap;
    octets = option_octets;
    within = option_within;
  }
