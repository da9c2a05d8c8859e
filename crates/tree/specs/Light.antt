-- What is known of an element without a look at what it holds.
-- Light, unwanted_of.
-- Assumes nothing.
use Rattle.std.specs.Prelude.{ℕ, ◌≡◌, List, Option, Ok, Err, IfSome}
use Rattle.element.specs.Places.{HeaderRead, misfit}
use Rattle.codec.proofs.TreeRead.{tree}
use Rattle.codec.specs.Views.{step_of}
use Rattle.codec.specs.Steps.{Step}

-- a number of octets, if there is one, that an element of at most this depth takes at the head of the list
abbrev pub Light : ℕ → List ℕ → Option ℕ → Type 0
Light d s r = IfSome r (λ n. Ok n ≡ step_of ((tree d).dec s))

-- the place at which an element is refused whatever it holds
unfoldable pub unwanted_of : HeaderRead → Step
unwanted_of (Ok h) = Err (misfit 0)
unwanted_of (Err p) = Err p
