-- Nothing, or one element that fills its holder. An empty list is none and any other is the element:
-- no tag is looked at. Octets that are left over after the element are refused at the first of them.
-- maybe; maybe_none, maybe_some. An element that may be missing before others is in Option.
-- The laws stand here, and what is made of them; the definitions in specs/Maybe.
-- Assumes nothing.
use Rattle.std.specs.Prelude.{ℕ, ◌^◌, ◌≤◌, ◌<◌, ◌≡◌, refl, length}
use Rattle.std.proofs.Common.{arith, ap, ◌∙◌}
use mathlib.Core.List.{List, [], ◌∷◌}
use Rattle.std.proofs.Math.Option.{Option, none, some}
use Rattle.octets.specs.Octets.{Octets}
use Rattle.codec.specs.Codec.{read, broke, Got, Whole, Element}
use Rattle.codec.proofs.CodecLaws.{form_some}
use Rattle.codec.specs.Outcome.{renamed}
use Rattle.codec.proofs.Outcome.{read_broke, renamed_read, renamed_broke}
use Rattle.codec.specs.Sequence.{only_dec}
use Rattle.codec.proofs.Sequence.{only_sound, only_complete, only_within}
use Rattle.codec.specs.Option.{option_enc, OptionOk}
use Rattle.codec.specs.Maybe.{maybe_dec}

-- at the end; where an octet stands
pub maybe_none : {A : Type 0} (d : List ℕ → Got A) → maybe_dec d [] ≡ read none
unfolding maybe_dec
maybe_none d = refl

pub maybe_some : {A : Type 0} (d : List ℕ → Got A) (s : List ℕ) → 0 < length s → maybe_dec d s ≡ renamed some (only_dec d s)
unfolding maybe_dec
maybe_some d [] h = absurd (omega arith)
maybe_some d (x ∷ s) h = refl

module _ {A : Type 0} (e : Element A) where
  pub maybe_sound : (s : List ℕ) (x : Option A) → Octets s → maybe_dec e.dec s ≡ read x → OptionOk e.ok x × (s ≡ option_enc e.enc x)
  unfolding maybe_dec
  maybe_sound [] x o q = let i : none ≡ x = cc in rw (← i) (tt, refl)
  maybe_sound (y ∷ s) x o q =
      let (a, ea, ex) = renamed_read some (only_dec e.dec (y ∷ s)) x q in
      rw (← ex) (only_sound e (y ∷ s) a o ea)

  pub maybe_complete : (x : Option A) → OptionOk e.ok x → length (option_enc e.enc x) < 2 ^ 64
      → maybe_dec e.dec (option_enc e.enc x) ≡ read x
  maybe_complete none h z = maybe_none e.dec
  maybe_complete (some a) h z = maybe_some e.dec (e.enc a) (form_some e a h) ∙ ap (renamed some) (only_complete e a h z)

  pub maybe_octets : (x : Option A) → OptionOk e.ok x → length (option_enc e.enc x) < 2 ^ 64 → Octets (option_enc e.enc x)
  maybe_octets none h z = tt
  maybe_octets (some a) h z = e.octets a h z

  pub maybe_within : (s : List ℕ) (p : ℕ) → maybe_dec e.dec s ≡ broke p → p ≤ length s
  unfolding maybe_dec
  maybe_within [] p q = read_broke q
  maybe_within (y ∷ s) p q = only_within e (y ∷ s) p (renamed_broke some (only_dec e.dec (y ∷ s)) p q)

  abbrev pub maybe : Whole (Option A)
  maybe = record {
    dec = maybe_dec e.dec;
    enc = option_enc e.enc;
    ok = OptionOk e.ok;
    sound = maybe_sound;
    complete = maybe_complete;
    octets = maybe_octets;
    within = maybe_within;
  }
