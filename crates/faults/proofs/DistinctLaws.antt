-- Elements with no key twice, where the key is the content of the first element inside: their reading
-- gives the first place of the description's faults.
-- key_dec, keyed_dec; distinct_placed.
-- Assumes nothing.
use Rattle.std.specs.Prelude.{ℕ, ◌≡◌, Bool}
use Rattle.std.proofs.Math.Path.{sym}
use Rattle.std.proofs.Common.{ap, ◌∙◌}
use mathlib.Core.List.{List, [], ◌∷◌}
use Rattle.codec.specs.Codec.{Read, Got, got}
use Rattle.codec.proofs.Outcome.{renamed_read}
use Rattle.codec.specs.Contents.{octets_read, filled_dec}
use Rattle.codec.specs.Tagged.{inner, own, tagged_dec}
use Rattle.codec.specs.Mapped.{mapped_dec}
use Rattle.codec.specs.Sequence.{field_dec}
use Rattle.codec.specs.Each.{each_dec}
use Rattle.codec.specs.Keys.{new_test}
use Rattle.faults.specs.Description.{Line, distinct}
use Rattle.faults.specs.Faults.{content_at, keys_at, then_faults, leaf_faults, keyed_faults, line_faults}
use Rattle.faults.specs.Finds.{HeadFinds}
use Rattle.faults.proofs.RowLaws.{then_finds, named_finds, distinct_finds}
use Rattle.faults.proofs.ItemLaws.{leaf_finds, around_finds}
use Rattle.faults.proofs.ContentLaws.{octets_finds}
use Rattle.faults.proofs.PartLaws.{tagged_content, tag_of, field_of, held}
use Rattle.faults.specs.Placed.{Placed}

module _ {A B : Type 0} (t u : ℕ) (test : List ℕ → Bool) (k : List ℕ × B → A) (e : List ℕ → Read B) where
  -- the key, none of those before, and what follows it, under other names
  abbrev pub key_dec : List (List ℕ) → List ℕ → Got (List ℕ)
  key_dec seen = tagged_dec own u (filled_dec (octets_read (new_test test seen)))

  abbrev pub keyed_dec : List (List ℕ) → List ℕ → Got A
  keyed_dec seen = tagged_dec inner t (mapped_dec k (field_dec (key_dec seen) e))

  module _ (key : A → List ℕ) (key-first : (x : List ℕ × B) → key (k x) ≡ x.0) where
    keys_inside : (seen : List (List ℕ)) (s : List ℕ) (a : A) (n : ℕ) → keyed_dec seen s ≡ got a n → keys_at t u s ≡ key a ∷ []
    unfolding keys_at mapped_dec
    keys_inside seen s a n q =
        let c = content_at s in
        let body = field_dec (key_dec seen) e in
        let (x, ex, ea) = renamed_read k (body c) a (tagged_content inner t (mapped_dec k body) s a n q) in
        let (m, eo, f) = field_of (key_dec seen) e c x ex in
        let i : content_at c ≡ key a = held u (new_test test seen) c x.0 m eo ∙ sym (sym (ap key ea) ∙ key-first x) in
        rw (tag_of inner t (mapped_dec k body) s a n q, tag_of own u (filled_dec (octets_read (new_test test seen))) c x.0 m eo, i)

    module _ {l : Line} (w : Placed e l) where
      keyed_finds : (seen : List (List ℕ)) → HeadFinds (keyed_dec seen) (keyed_faults t u test (line_faults l) seen)
      keyed_finds seen =
          let f = leaf_faults u (new_test test seen) in
          around_finds t (mapped_dec k (field_dec (key_dec seen) e)) (then_faults f (line_faults l))
          (named_finds k (field_dec (key_dec seen) e) (then_faults f (line_faults l))
          (then_finds (key_dec seen) f (leaf_finds u (octets_read (new_test test seen)) (new_test test seen) (octets_finds (new_test test seen)))
          e (line_faults l) w.finds))

      pub distinct_placed : (lo hi : ℕ) → Placed (each_dec key keyed_dec [] lo hi) (distinct lo hi t u test l)
      unfolding line_faults
      distinct_placed lo hi =
          record { finds = distinct_finds key (keys_at t u) keyed_dec (keyed_faults t u test (line_faults l)) keyed_finds keys_inside [] lo hi }
