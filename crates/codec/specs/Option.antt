-- Maybe an element, then a whole list. The element is recognised by its first octet alone; whatever
-- else stands there belongs to the list that follows, whose forms never begin with that octet.
-- option.
-- The definitions stand here; the laws, and what is made of them, in proofs/Option.
-- Assumes nothing.
use Rattle.std.specs.Prelude.{ℕ, Bool, cond, List, [], drop}
use Rattle.std.proofs.Math.Option.{Option, none, some}
use Rattle.codec.specs.Codec.{Read, Got}
use Rattle.codec.specs.Outcome.{further, on_got, renamed}
use Rattle.codec.specs.Starts.{starts_with}

-- by whether the element is there: it and then the list, or the list alone
unfoldable pub option_of : {A B : Type 0} → Bool → (List ℕ → Got A) → (List ℕ → Read B) → List ℕ → Read (Option A × B)
option_of b d d' s =
    cond b (on_got (d s) (λ a n. further n (λ y. (some a, y)) (d' (drop n s)))) (renamed (λ y. (none, y)) (d' s))

unfoldable pub option_dec : {A B : Type 0} → ℕ → (List ℕ → Got A) → (List ℕ → Read B) → List ℕ → Read (Option A × B)
option_dec t d d' s = option_of (starts_with t s) d d' s

-- nothing, or the element's form
abbrev pub option_enc : {A : Type 0} → (A → List ℕ) → Option A → List ℕ
option_enc f none = []
option_enc f (some a) = f a

-- nothing, or within the element's limits
abbrev pub OptionOk : {A : Type 0} → (A → Type 0) → Option A → Type 0
OptionOk f none = Unit {0}
OptionOk f (some a) = f a
