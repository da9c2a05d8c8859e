-- The cases of any primitive element: what `expect` learned of the header, and what the content then
-- gives the element.
-- element_wrong, element_none, element_some; seen as positions, wrong_step, wrong_spot.
-- Assumes nothing.
use Rattle.std.specs.Prelude.{ℕ, ◌+◌, ◌≡◌, List, take, drop, Ok, Err}
use Rattle.std.proofs.Common.{sym, ◌∙◌}
use Rattle.std.proofs.Math.Option.{Option, none, some}
use Rattle.element.specs.Header.{header_of}
use Rattle.element.specs.Places.{Spot}
use Rattle.element.specs.declared.Misfit.{Misfit}
use Rattle.element.specs.declared.Span.{Span}
use Rattle.codec.specs.Codec.{got, bad}
use Rattle.codec.specs.Tagged.{own, tagged_dec}
use Rattle.codec.specs.Contents.{filled_dec}
use Rattle.codec.specs.Views.{step_of}
use Rattle.read_content.specs.Spots.{expected, spot_of}
use Rattle.read_content.specs.ExpectLaws.{tagged_at_lem, tagged_wrong}

-- the spot
module _ (t : ℕ) (s : List ℕ) (r : Spot) (q : r ≡ expected t (header_of s)) where
  -- what it gives the element
  module _ {A : Type 0} (d : List ℕ → Option A) where
    pub element_wrong : (p : Misfit) → r ≡ Err p → tagged_dec own t (filled_dec d) s ≡ bad p.place
    element_wrong p f = tagged_wrong own t (filled_dec d) s p.place (sym q ∙ f)

    module _ (v : Span) (f : r ≡ Ok v) where
      pub element_none : d (take v.len (drop v.start s)) ≡ none → tagged_dec own t (filled_dec d) s ≡ bad 0
      unfolding filled_dec
      element_none e = tagged_at_lem own t (filled_dec d) s v.start v.len (sym q ∙ f) ∙ rw e

      pub element_some : (a : A) → d (take v.len (drop v.start s)) ≡ some a → tagged_dec own t (filled_dec d) s ≡ got a (v.start + v.len)
      unfolding filled_dec
      element_some a e = tagged_at_lem own t (filled_dec d) s v.start v.len (sym q ∙ f) ∙ rw e

    pub wrong_step : (p : Misfit) → r ≡ Err p → Err p ≡ step_of (tagged_dec own t (filled_dec d) s)
    unfolding step_of
    wrong_step p f = rw (element_wrong p f)

  pub wrong_spot : (d : List ℕ → Option (List ℕ)) (p : Misfit) → r ≡ Err p → Err p ≡ spot_of (tagged_dec own t (filled_dec d) s)
  unfolding spot_of
  wrong_spot d p f = rw (element_wrong d p f)
