-- The cases of an OCTET STRING that is to fill its holder.
-- Assumes nothing.
use Prim.Native.Nat.{ℕ, ◌+◌}
use mathlib.Core.Path.{◌≡◌, sym, ap, ◌∙◌}
use mathlib.Core.Bool.{Bool}
use mathlib.Core.List.{List}
use Rattle.std.specs.Prelude.{Ok, Err}
use lib.ListN.{length}
use Rattle.element.specs.Places.{Spot}
use Rattle.element.specs.declared.Misfit.{Misfit}
use Rattle.element.specs.declared.Span.{Span}
use Rattle.codec.specs.Sequence.{only_dec}
use Rattle.codec.specs.Views.{step_of, fit_of}
use Rattle.codec.proofs.ViewLaws.{fit_only_bad}
use Rattle.codec.specs.Steps.{Fit}
use Rattle.layout.proofs.ElementKinds.{string}
use Rattle.read_content.specs.Spots.{spot_of}
use Rattle.read_content.specs.LastLaws.{last_string}
use Rattle.read_content.specs.SpotLaws.{spot_reads, spot_wrong}
use Rattle.read_sequence.specs.Judged.{filled_by}
use Rattle.read_sequence.specs.ViewLaws.{fit_only_step}

module _ (test : List ℕ → Bool) (s : List ℕ) (x : Spot) (q : x ≡ spot_of ((string test).dec s)) where
  pub alone_wrong : (p : Misfit) → x ≡ Err p → Err p ≡ fit_of (only_dec (string test).dec s)
  alone_wrong p f = sym (fit_only_bad (string test).dec s p.place (spot_wrong (string test) s p.place (sym q ∙ f)).0)

  pub alone_filled : (v : Span) → x ≡ Ok v → (r : Fit) → r ≡ filled_by (length s) (Ok (v.start + v.len)) → r ≡ fit_of (only_dec (string test).dec s)
  unfolding step_of
  alone_filled v f r k =
      let g = (spot_reads (string test) (last_string test) s v.start v.len (sym q ∙ f)).0 in
      k ∙ sym (fit_only_step (string test) s ∙ ap (λ y. filled_by (length s) (step_of y)) g)
