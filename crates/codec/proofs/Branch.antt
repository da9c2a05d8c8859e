-- An element, and then one of two whole lists: the first where the element's value passes a test, the
-- second where it does not.
-- branch; branch_then, branch_else, branch_bad.
-- The laws stand here, and what is made of them; the definitions in specs/Branch.
-- Assumes nothing.
use Rattle.std.specs.Prelude.{ℕ, ◌^◌, ◌≤◌, ◌<◌, ◌≡◌, Bool, List, ◌++◌, ◌⊎◌}
use Rattle.std.proofs.Math.Path.{refl}
use Rattle.std.proofs.Math.Bool.{true, false}
use Rattle.std.proofs.Math.Logic.{inl, inr}
use Rattle.std.proofs.Math.ListN.{length, drop}
use Rattle.std.proofs.Math.Seq.{drop-append_seam}
use Rattle.octets.specs.Octets.{Octets}
use Rattle.octets.specs.OctetsLaws.{octets_drop}
use Rattle.codec.specs.Codec.{Read, read, broke, Got, got, bad, Whole, Element}
use Rattle.codec.specs.Outcome.{further, on_got}
use Rattle.codec.proofs.Outcome.{further_read, on_got_read}
use Rattle.codec.proofs.PartLaws.{small_left, small_right}
use Rattle.codec.proofs.Sequence.{further_within, field_octets}
use Rattle.codec.specs.Branch.{branch_dec, branch_of}

-- how the reading goes on after the element, and where it stops at it
module _ {A B C : Type 0} (d : List ℕ → Got A) (test : A → Bool) (d' : List ℕ → Read B) (d'' : List ℕ → Read C) (s : List ℕ) where
  pub branch_then : (a : A) (n : ℕ) → d s ≡ got a n → test a ≡ true
      → branch_dec d test d' d'' s ≡ further n (λ y. inl (a, y)) (d' (drop n s))
  unfolding branch_dec branch_of
  branch_then a n q t = rw (q, t)

  pub branch_else : (a : A) (n : ℕ) → d s ≡ got a n → test a ≡ false
      → branch_dec d test d' d'' s ≡ further n (λ y. inr (a, y)) (d'' (drop n s))
  unfolding branch_dec branch_of
  branch_else a n q t = rw (q, t)

  pub branch_bad : (p : ℕ) → d s ≡ bad p → branch_dec d test d' d'' s ≡ broke p
  unfolding branch_dec
  branch_bad p q = rw q

module _ {A B C : Type 0} (e : Element A) (test : A → Bool) (w : Whole B) (v : Whole C) where
  abbrev pub branch_enc : (A × B) ⊎ (A × C) → List ℕ
  branch_enc (inl x) = e.enc x.0 ++ w.enc x.1
  branch_enc (inr x) = e.enc x.0 ++ v.enc x.1

  -- each part within its limits, and the element's value as the test says
  abbrev pub BranchOk : (A × B) ⊎ (A × C) → Type 0
  BranchOk (inl x) = e.ok x.0 × (test x.0 ≡ true) × w.ok x.1
  BranchOk (inr x) = e.ok x.0 × (test x.0 ≡ false) × v.ok x.1

  pub branch_sound : (s : List ℕ) (x : (A × B) ⊎ (A × C)) → Octets s → branch_dec e.dec test w.dec v.dec s ≡ read x
      → BranchOk x × (s ≡ branch_enc x)
  unfolding branch_dec branch_of
  branch_sound s x o h =
      let (a, n, eg, q) = on_got_read (e.dec s) _ x h in
      go a n (e.sound s a n o eg) (test a) refl q
    where
      go : (a : A) (n : ℕ) → e.ok a × (s ≡ e.enc a ++ drop n s) → (b : Bool) → test a ≡ b → branch_of b a n w.dec v.dec s ≡ read x
          → BranchOk x × (s ≡ branch_enc x)
      go a n u true t q =
          let (y, ey, ex) = further_read n (λ y. inl (a, y)) (w.dec (drop n s)) x q in
          let k = w.sound (drop n s) y (octets_drop n s o) ey in
          rw (← ex) ((u.0, t, k.0), rw k.1 at u.1)
      go a n u false t q =
          let (y, ey, ex) = further_read n (λ y. inr (a, y)) (v.dec (drop n s)) x q in
          let k = v.sound (drop n s) y (octets_drop n s o) ey in
          rw (← ex) ((u.0, t, k.0), rw k.1 at u.1)

  pub branch_complete : (x : (A × B) ⊎ (A × C)) → BranchOk x → length (branch_enc x) < 2 ^ 64
      → branch_dec e.dec test w.dec v.dec (branch_enc x) ≡ read x
  unfolding branch_dec branch_of
  branch_complete (inl x) h z =
      let p = e.enc x.0 in
      let q = w.enc x.1 in
      rw (e.complete x.0 q h.0 (small_left p q z), h.1, drop-append_seam p q, w.complete x.1 h.2 (small_right p q z))
  branch_complete (inr x) h z =
      let p = e.enc x.0 in
      let q = v.enc x.1 in
      rw (e.complete x.0 q h.0 (small_left p q z), h.1, drop-append_seam p q, v.complete x.1 h.2 (small_right p q z))

  pub branch_octets : (x : (A × B) ⊎ (A × C)) → BranchOk x → length (branch_enc x) < 2 ^ 64 → Octets (branch_enc x)
  branch_octets (inl x) h z = field_octets e w x (h.0, h.2) z
  branch_octets (inr x) h z = field_octets e v x (h.0, h.2) z

  pub branch_within : (s : List ℕ) (p : ℕ) → branch_dec e.dec test w.dec v.dec s ≡ broke p → p ≤ length s
  unfolding branch_dec branch_of
  branch_within s p h = go (e.dec s) refl h
    where
      on : (a : A) (n : ℕ) → n ≤ length s → (b : Bool) → branch_of b a n w.dec v.dec s ≡ broke p → p ≤ length s
      on a n le true q = further_within n s w.dec w.within (λ y. inl (a, y)) p le q
      on a n le false q = further_within n s v.dec v.within (λ y. inr (a, y)) p le q

      go : (g : Got A) → e.dec s ≡ g → on_got g (λ a n. branch_of (test a) a n w.dec v.dec s) ≡ broke p → p ≤ length s
      go (bad j) eg h = let i : j ≡ p = cc in rw i at (e.within s j eg)
      go (got a n) eg h = on a n (e.inside s a n eg).1 (test a) h

  abbrev pub branch : Whole ((A × B) ⊎ (A × C))
  branch = record {
    dec = branch_dec e.dec test w.dec v.dec;
    enc = branch_enc;
    ok = BranchOk;
    sound = branch_sound;
    complete = branch_complete;
    octets = branch_octets;
    within = branch_within;
  }
