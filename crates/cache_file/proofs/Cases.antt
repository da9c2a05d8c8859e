-- What the code knows at each return, and what follows there.
-- place_written, put_count; held_older, held_put, new_full, new_put, slip_held, slip_new, each with -left of the buffer;
-- file_19, file_1, file_17, and left_19, left_1, left_17 of the buffer; cache_said, cache_size, clock_said, slip_said_lem, slip_size_lem.
-- Assumes nothing.
use Prim.Native.Nat.{ℕ, zero, suc, ◌-◌, ◌*◌, ◌≤◌, ◌<◌}
use native.Mathlib.Nat.{suc-sub-suc, sub-zero, zero-sub, zero-add}
use native.Mathlib.Omega.{arith}
use mathlib.Core.Path.{◌≡◌, sym, ap, ◌∙◌}
use mathlib.Core.Bool.{Bool, true, false, not}
use mathlib.Core.List.{List, [], ◌++◌}
use lib.ListN.{length, get_or, drop, replicate}
use borrow.Author.Tests.{lt-ltb, le-ltb, le-leb, lt-leb, not-true, not-false}
use mir.Syntax.{w8}
use mir.Val.{Fits}
use Rattle.octets.specs.Octets.{Octets}
use Rattle.octets.specs.OctetsLaws.{octets_from}
use Rattle.octets.specs.Buffer.{put_in}
use Rattle.octets.specs.BufferLaws.{put_in_room}
use Rattle.freshness.specs.declared.Clock.{Clock}
use Rattle.freshness.specs.Clock.{clock_ok}
use Rattle.cache_room.specs.Room.{held_at, count, free_at}
use Rattle.std.specs.Prelude.{None, Some, Ok, Err}
use Rattle.cache_rules.specs.declared.Unfiled.{Unfiled}
use Rattle.cache_rules.specs.declared.Unfiled.TheVariants as unfiled
use Rattle.cache_rules.specs.Numbers.{Filed}
use Rattle.cache_rules.specs.Place.{card_at, is_said, place_of, says_of}
use Rattle.cache_rules.proofs.PlaceLaws.{slip_most}
use Rattle.cache_rules.specs.Cache.{is_cache, filing_refusal, filed_by, filed_of, buffer_of}
use Rattle.cache_rules.proofs.CacheLaws.{cache_exactly}
use Rattle.cache_rules.proofs.RefusalLaws.{refusal_exactly, filed_refused}
use Rattle.cache_place.specs.Times.{this_at, late_at}
use Rattle.cache_places.specs.Evenly.{evenly}
use Rattle.cache_file.specs.Put.{held_filed, buffer_held, new_at, new_filed, new_in}
use Rattle.cache_file.specs.PutLaws.{held_filed_lem, held_left, new_filed_lem, new_left}

-- ---- a slip put into a place

drop_replicate : (n m : ℕ) → drop n (replicate {A = ℕ} m 0) ≡ replicate (m - n) 0
drop_replicate zero m = ap (λ (k : ℕ). replicate {A = ℕ} k 0) (sym (sub-zero m))
drop_replicate (suc n) zero = ap (λ (k : ℕ). replicate {A = ℕ} k 0) (sym (zero-sub (suc n)))
drop_replicate (suc n) (suc m) = drop_replicate n m ∙ ap (λ (k : ℕ). replicate {A = ℕ} k 0) (sym (suc-sub-suc m n))

module _ (s t : List ℕ) (i : ℕ) (h : length t ≤ 87) (place : List ℕ) (e : place ≡ put_in (replicate 87 0) 0 t) where
  zeroed : place ≡ place_of t
  unfolding place_of
  zeroed =
      e
      ∙ put_in_room (replicate 87 0) 0 t (omega arith)
      ∙ ap (λ (k : ℕ). t ++ drop k (replicate 87 0)) (zero-add (length t))
      ∙ ap (λ (x : List ℕ). t ++ x) (drop_replicate (length t) 87)

  module _ (after : List ℕ) (f : after ≡ put_in s (87 * i) place) where
    pub place_written : after ≡ put_in s (87 * i) (place_of t)
    place_written = f ∙ ap (put_in s (87 * i)) zeroed

    pub put_count : (n : ℕ) → n ≡ count card_at (evenly after) → n ≡ count card_at (evenly (put_in s (87 * i) (place_of t)))
    put_count n g = g ∙ ap (λ (x : List ℕ). count card_at (evenly x)) place_written

-- ---- a card that has a place

module _ (s t : List ℕ) (i : ℕ) (x : List ℕ) (e : x ≡ get_or (evenly s) i []) (this own : ℕ) (f : this ≡ this_at x) (g : own ≡ this_at t) where
  older : own < this → buffer_held s i t ≡ s
  unfolding buffer_held
  older h = rw (← e, ← f, ← g, lt-ltb own this h)

  later : this ≤ own → buffer_held s i t ≡ put_in s (87 * i) (place_of t)
  unfolding buffer_held
  later h = rw (← e, ← f, ← g, le-ltb own this h)

  pub held_older_left : own < this → s ≡ buffer_held s i t
  held_older_left h = sym (older h)

  pub held_older : own < this → (n : ℕ) → n ≡ count card_at (evenly s) → Ok n ≡ held_filed s i t
  unfolding held_filed
  held_older h n q = ap (filed_by None) (q ∙ ap (λ (y : List ℕ). count card_at (evenly y)) (sym (older h)))

  pub held_put_left : this ≤ own → (after : List ℕ) → after ≡ put_in s (87 * i) (place_of t) → after ≡ buffer_held s i t
  held_put_left h after q = q ∙ sym (later h)

  pub held_put : this ≤ own → (n : ℕ) → n ≡ count card_at (evenly (put_in s (87 * i) (place_of t))) → Ok n ≡ held_filed s i t
  unfolding held_filed
  held_put h n q = ap (filed_by None) (q ∙ ap (λ (y : List ℕ). count card_at (evenly y)) (sym (later h)))

-- ---- one that has none

module _ (clock : Clock) (s t : List ℕ) (i : ℕ) (e : i ≡ free_at card_at (late_at clock) (evenly s)) where
  at : i ≡ new_at clock s t
  unfolding new_at
  at = e

  pub new_full_left : 64 ≤ i → s ≡ new_in clock s t
  unfolding new_in
  new_full_left h = sym (rw (← at, le-leb 64 i h))

  pub new_full : 64 ≤ i → Err unfiled.Full ≡ new_filed clock s t
  unfolding new_filed
  new_full h = sym (rw (← at, le-leb 64 i h))

  put_in_lem : i < 64 → new_in clock s t ≡ put_in s (87 * i) (place_of t)
  unfolding new_in
  put_in_lem h = rw (← at, lt-leb 64 i h)

  pub new_put_left : i < 64 → (after : List ℕ) → after ≡ put_in s (87 * i) (place_of t) → after ≡ new_in clock s t
  new_put_left h after q = q ∙ sym (put_in_lem h)

  pub new_put : i < 64 → (n : ℕ) → n ≡ count card_at (evenly (put_in s (87 * i) (place_of t))) → Ok n ≡ new_filed clock s t
  unfolding new_filed
  new_put h n q = ap (filed_by None) (q ∙ ap (λ (y : List ℕ). count card_at (evenly y)) (sym (put_in_lem h))) ∙ sym (rw (← at, lt-leb 64 i h))

-- ---- a slip in a cache

module _ (clock : Clock) (s t : List ℕ) (known : (i : ℕ) → Fits w8 (get_or s i 0)) (seen : (i : ℕ) → Fits w8 (get_or t i 0)) where
  p : Octets s
  p = octets_from s (λ i l. (known i).fits)

  o : Octets t
  o = octets_from t (λ i l. (seen i).fits)

  module _ (c : is_cache s ≡ true) (k : clock_ok clock ≡ true) (d : is_said (says_of t) ≡ true)
      (card : List ℕ) (f : card ≡ card_at t) (i : ℕ) (e : i ≡ held_at card_at card (evenly s)) where
    where_held : i ≡ held_at card_at (card_at t) (evenly s)
    where_held = e ∙ ap (λ (x : List ℕ). held_at card_at x (evenly s)) f

    pub slip_held : i < 64 → (n : ℕ) → Ok n ≡ held_filed s i t → Ok n ≡ filed_of clock s t
    slip_held b n q = q ∙ held_filed_lem clock s t p o c k d i where_held b

    pub slip_held_left : i < 64 → (after : List ℕ) → after ≡ buffer_held s i t → after ≡ buffer_of clock s t
    slip_held_left b after q = q ∙ held_left clock s t p o c k d i where_held b

    pub slip_new : 64 ≤ i → (r : Filed) → r ≡ new_filed clock s t → r ≡ filed_of clock s t
    slip_new b r q = q ∙ new_filed_lem clock s t p o c k d (omega (arith, where_held))

    pub slip_new_left : 64 ≤ i → (after : List ℕ) → after ≡ new_in clock s t → after ≡ buffer_of clock s t
    slip_new_left b after q = q ∙ new_left clock s t p o c k d (omega (arith, where_held))

-- ---- the refusals

module _ (clock : Clock) (s t : List ℕ) where
  refused : (e : Unfiled) → filing_refusal clock s t ≡ Some e → (Err e ≡ filed_of clock s t) × (s ≡ buffer_of clock s t)
  refused e q = (sym (filed_refused clock s t e q).0, sym (filed_refused clock s t e q).1)

  module _ (a : Bool) (e : a ≡ is_cache s) where
    pub file_19 : not a ≡ true → Err unfiled.NoCache ≡ filed_of clock s t
    file_19 h = (refused unfiled.NoCache ((refusal_exactly clock s t).0.1 (sym e ∙ not-true a h))).0

    pub left_19 : not a ≡ true → s ≡ buffer_of clock s t
    left_19 h = (refused unfiled.NoCache ((refusal_exactly clock s t).0.1 (sym e ∙ not-true a h))).1

    module _ (h : not a ≡ false) where
      pub cache_said : is_cache s ≡ true
      cache_said = sym e ∙ not-false a h

      pub cache_size : length s ≡ 5568
      cache_size = ((cache_exactly s).0 cache_said).0

      module _ (b : Bool) (f : b ≡ clock_ok clock) where
        pub file_1 : not b ≡ true → Err unfiled.Clock ≡ filed_of clock s t
        file_1 g = (refused unfiled.Clock ((refusal_exactly clock s t).1.1 (cache_said, sym f ∙ not-true b g))).0

        pub left_1 : not b ≡ true → s ≡ buffer_of clock s t
        left_1 g = (refused unfiled.Clock ((refusal_exactly clock s t).1.1 (cache_said, sym f ∙ not-true b g))).1

        module _ (g : not b ≡ false) where
          pub clock_said : clock_ok clock ≡ true
          clock_said = sym f ∙ not-false b g

          module _ (u : Bool) (q : u ≡ is_said (says_of t)) where
            pub file_17 : not u ≡ true → Err unfiled.Slip ≡ filed_of clock s t
            file_17 v = (refused unfiled.Slip ((refusal_exactly clock s t).2.1 (cache_said, clock_said, sym q ∙ not-true u v))).0

            pub left_17 : not u ≡ true → s ≡ buffer_of clock s t
            left_17 v = (refused unfiled.Slip ((refusal_exactly clock s t).2.1 (cache_said, clock_said, sym q ∙ not-true u v))).1

            module _ (v : not u ≡ false) where
              pub slip_said_lem : is_said (says_of t) ≡ true
              slip_said_lem = sym q ∙ not-false u v

              pub slip_size_lem : ((i : ℕ) → Fits w8 (get_or t i 0)) → length t ≤ 87
              slip_size_lem seen = slip_most t (octets_from t (λ i l. (seen i).fits)) slip_said_lem

-- ---- what each function needs

pub ruleset held_cases = (held_older, held_older_left, held_put, held_put_left)

pub ruleset new_cases = (new_full, new_full_left, new_put, new_put_left)

pub ruleset slip_cases = (slip_held, slip_held_left, slip_new, slip_new_left)

pub ruleset file_cases = (file_19, left_19, file_1, left_1, file_17, left_17, cache_said, clock_said, slip_said_lem, cache_size, slip_size_lem)
