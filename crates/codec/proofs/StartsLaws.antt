-- The octet that each combinator's forms begin with, or never begin with: what option and choice ask
-- of their parts.
-- tagged_starts, primitive_starts; starts_other, choice_other; end_apart, field_apart, only_apart, option_apart.
-- Assumes nothing.
use Rattle.std.specs.Prelude.{ℕ, ◌<◌, ◌≡◌, refl, true, false, List, [], ◌∷◌, ◌++◌, eqb}
use Rattle.std.proofs.Common.{ap, ◌∙◌, inl, inr, eqb-true, eq-eqb}
use Rattle.std.proofs.Math.Option.{Option, none, some}
use Rattle.element.specs.Tag.{tag_ok}
use Rattle.element.specs.Form.{form_of}
use Rattle.codec.specs.Codec.{Content, Whole, Element}
use Rattle.codec.proofs.CodecLaws.{form_some}
use Rattle.codec.proofs.Tagged.{tagged, primitive}
use Rattle.codec.proofs.Sequence.{end, field, only}
use Rattle.codec.specs.Starts.{starts_with, Starts, Other, Apart}
use Rattle.codec.proofs.Starts.{other_append}
use Rattle.codec.specs.Option.{OptionOk, option_enc}
use Rattle.codec.proofs.Option.{option}
use Rattle.codec.proofs.Choice.{choice}

-- an element's octets begin with its tag
pub form_starts : (t : ℕ) (c : List ℕ) → starts_with t (form_of t c) ≡ true
unfolding form_of starts_with
form_starts t c = eq-eqb t t refl

pub tagged_starts : {A : Type 0} (t : ℕ) (w : Whole A) (k : tag_ok t ≡ true) (o : t < 256) → Starts t (tagged t w k o)
tagged_starts t w k o a h = form_starts t (w.enc a)

pub primitive_starts : {A : Type 0} (t : ℕ) (c : Content A) (k : tag_ok t ≡ true) (o : t < 256) → Starts t (primitive t c k o)
primitive_starts t c k o a h = form_starts t (c.enc a)

-- what begins with one octet does not begin with another
pub starts_not : (t u : ℕ) (x : List ℕ) → eqb u t ≡ false → starts_with u x ≡ true → starts_with t x ≡ false
unfolding starts_with
starts_not t u [] n h = refl
starts_not t u (y ∷ x) n h = ap (λ (z : ℕ). eqb z t) (eqb-true y u h) ∙ n

pub starts_other : {A : Type 0} (t u : ℕ) (e : Element A) → eqb u t ≡ false → Starts u e → Other t e
starts_other t u e n st a h = starts_not t u (e.enc a) n (st a h)

-- one of two
pub choice_other : {A B : Type 0} (t u : ℕ) (e : Element A) (f : Element B) (st : Starts u e) (ot : Other u f) → Other t e → Other t f
    → Other t (choice u e f st ot)
choice_other t u e f st ot p q (inl a) h = p a h
choice_other t u e f st ot p q (inr b) h = q b h

-- whole lists: nothing, or what their first element begins with
pub end_apart : (t : ℕ) → Apart t end
unfolding starts_with
end_apart t a h = refl

pub only_apart : {A : Type 0} (t : ℕ) (e : Element A) → Other t e → Apart t (only e)
only_apart t e ot a h = ot a h

-- an element of another octet, before anything
next_apart : {A : Type 0} (t : ℕ) (e : Element A) → Other t e → (a : A) (r : List ℕ) → e.ok a → starts_with t (e.enc a ++ r) ≡ false
next_apart t e ot a r h = other_append t (e.enc a) r (form_some e a h) (ot a h)

pub field_apart : {A B : Type 0} (t : ℕ) (e : Element A) (w : Whole B) → Other t e → Apart t (field e w)
field_apart t e w ot x h = next_apart t e ot x.0 (w.enc x.1) h.0

pub option_apart : {A B : Type 0} (t u : ℕ) (e : Element A) (w : Whole B) (st : Starts u e) (ap : Apart u w) → Other t e → Apart t w
    → Apart t (option u e w st ap)
option_apart {A} {B} t u e w st ap p q x h = go x.0 x.1 h
  where
    go : (o : Option A) (b : B) → OptionOk e.ok o × w.ok b → starts_with t (option_enc e.enc o ++ w.enc b) ≡ false
    go none b h = q b h.1
    go (some a) b h = next_apart t e p a (w.enc b) h.0
