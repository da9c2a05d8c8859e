-- The cases of a reader that judges a part by its parts. The premises are what code has learned, as it
-- left it: a callee's answer, which case it is, and the part that was lent further. The conclusions are
-- the contract at a return, that a part is there, and that a sum fits.
-- tagged-*: by what `expect` answered, all in tagged_cases; field-*, spot-*, string-*: an element and
-- then a whole list, by the element's answer; filled-*, maybe_none, optional_none: an element that fills
-- its holder, or nothing; option-*, choice-*: by the first octet; named, named_element.
-- The equations behind them are in ViewLaws.
-- Assumes nothing.
use Rattle.std.specs.Prelude.{ℕ, ◌+◌, ◌-◌, ◌^◌, ◌≤◌, ◌<◌, ◌≡◌, Bool, true, false, List, length, take, drop, Ok, Err}
use Rattle.std.proofs.Common.{arith, ap, ◌∙◌, length-drop, take_all, Fits}
use Rattle.std.proofs.Math.Path.{sym}
use Rattle.std.specs.Int.{w64}
use Rattle.element.specs.Header.{header_of}
use Rattle.element.specs.Places.{Spot}
use Rattle.element.specs.declared.Misfit.{Misfit}
use Rattle.element.specs.declared.Span.{Span}
use Rattle.codec.specs.Codec.{Read, Got, Whole, Element}
use Rattle.codec.specs.Tagged.{inner, tagged_dec}
use Rattle.codec.specs.Mapped.{mapped_dec, called_dec}
use Rattle.codec.specs.Sequence.{field_dec, only_dec}
use Rattle.codec.specs.Maybe.{maybe_dec}
use Rattle.codec.specs.Starts.{starts_with, Starts}
use Rattle.codec.specs.Option.{option_dec}
use Rattle.codec.specs.Choice.{choice_dec}
use Rattle.codec.specs.Steps.{Step, Fit}
use Rattle.codec.specs.Views.{step_of, fit_of}
use Rattle.codec.proofs.ViewLaws.{step_taken, fit_mapped}
use Rattle.layout.proofs.ElementKinds.{string, optional}
use Rattle.read_content.specs.Spots.{expected, spot_of}
use Rattle.read_content.specs.ExpectLaws as expect
use Rattle.read_content.specs.LastLaws as last
use Rattle.read_content.specs.SpotLaws as laws
use Rattle.read_sequence.specs.Judged.{filled_by, closed_by, after_by}
use Rattle.read_sequence.specs.ViewLaws as views

-- ── an element with a tag, by what `expect` answered ──
module _ (t : ℕ) (s : List ℕ) (x : Spot) (q : x ≡ expected t (header_of s)) where
  pub tagged_wrong : {A : Type 0} (d : List ℕ → Read A) (p : Misfit) → x ≡ Err p → Err p ≡ step_of (tagged_dec inner t d s)
  tagged_wrong d p f = sym (views.step_tagged_wrong t d s p.place (sym q ∙ f))

  pub tagged_end : (v : Span) → x ≡ Ok v → v.start + v.len ≤ length s
  tagged_end v f = (expect.expected_at t s v.start v.len (sym q ∙ f)).2

  pub tagged_sum : (v : Span) → x ≡ Ok v → length s < 2 ^ 64 → Fits w64 (v.start + v.len)
  tagged_sum v f z = record { fits = omega (arith, tagged_end v f) }

-- and by its content
pub tagged_closed : {A : Type 0} (w : Whole A) (t : ℕ) (s : List ℕ) (x : Spot) → x ≡ expected t (header_of s)
    → (v : Span) → x ≡ Ok v → (y : Fit) → y ≡ fit_of (w.dec (take (v.start + v.len - v.start) (drop v.start s)))
    → (r : Step) → r ≡ closed_by v.start (v.start + v.len) y → r ≡ step_of (tagged_dec inner t w.dec s)
tagged_closed w t s x q v f y c r k =
    let e : v.start + v.len - v.start ≡ v.len = omega arith in
    k ∙ ap (closed_by v.start (v.start + v.len)) (rw e at c) ∙ sym (views.step_tagged t w s v.start v.len (sym q ∙ f))

pub ruleset tagged_cases = (tagged_wrong, tagged_end, tagged_sum, tagged_closed)

-- ── an element, then a whole list ──
module _ {A B : Type 0} (e : Element A) (w : Whole B) (s : List ℕ) where
  -- after an element that takes n octets
  after_is : (n : ℕ) → step_of (e.dec s) ≡ Ok n → (y : Fit) → y ≡ fit_of (w.dec (take (length s - n) (drop n s)))
      → (r : Fit) → r ≡ after_by n (length s) y → r ≡ fit_of (field_dec e.dec w.dec s)
  after_is n q y c r k =
      let whole = take_all (length s - n) (drop n s) (simp length-drop (omega arith)) in
      k ∙ ap (after_by n (length s)) (rw whole at c) ∙ sym (views.fit_field_step e w s n q)

  -- by the octets that it takes
  pub field_after : (n : ℕ) (y r : Fit) → r ≡ after_by n (length s) y → (x : Step) → x ≡ step_of (e.dec s) → x ≡ Ok n
      → y ≡ fit_of (w.dec (take (length s - n) (drop n s))) → r ≡ fit_of (field_dec e.dec w.dec s)
  field_after n y r k x q f c = after_is n (sym q ∙ f) y c r k

module _ {A : Type 0} (e : Element A) (s : List ℕ) (x : Step) (q : x ≡ step_of (e.dec s)) where
  pub field_wrong : {B : Type 0} (d : List ℕ → Read B) (p : Misfit) → x ≡ Err p → Err p ≡ fit_of (field_dec e.dec d s)
  field_wrong d p f = sym (views.fit_field_wrong e d s p.place (sym q ∙ f))

  pub field_end : (n : ℕ) → x ≡ Ok n → n ≤ length s
  field_end n f = (step_taken e s n (sym q ∙ f)).3

-- by where its octets are
module _ (e : Element (List ℕ)) (last : last.Last e) where
  pub spot_after_lem : {B : Type 0} (w : Whole B) (s : List ℕ) (x : Spot) → x ≡ spot_of (e.dec s)
      → (v : Span) → x ≡ Ok v → (y : Fit) → y ≡ fit_of (w.dec (take (length s - (v.start + v.len)) (drop (v.start + v.len) s)))
      → (r : Fit) → r ≡ after_by (v.start + v.len) (length s) y → r ≡ fit_of (field_dec e.dec w.dec s)
  unfolding step_of
  spot_after_lem w s x q v f = after_is e w s (v.start + v.len) (rw (laws.spot_reads e last s v.start v.len (sym q ∙ f)).0)

  module _ (s : List ℕ) (x : Spot) (q : x ≡ spot_of (e.dec s)) where
    pub spot_wrong : {B : Type 0} (d : List ℕ → Read B) (p : Misfit) → x ≡ Err p → Err p ≡ fit_of (field_dec e.dec d s)
    unfolding step_of
    spot_wrong d p f = sym (views.fit_field_wrong e d s p.place (rw (laws.spot_wrong e s p.place (sym q ∙ f)).0))

    pub spot_end : (v : Span) → x ≡ Ok v → v.start + v.len ≤ length s
    spot_end v f = (laws.spot_reads e last s v.start v.len (sym q ∙ f)).2

    pub spot_sum : (v : Span) → x ≡ Ok v → length s < 2 ^ 64 → Fits w64 (v.start + v.len)
    spot_sum v f z = record { fits = omega (arith, spot_end v f) }

-- the same for any OCTET STRING, whatever its limits
module _ (test : List ℕ → Bool) (s : List ℕ) (x : Spot) (q : x ≡ spot_of ((string test).dec s)) where
  pub string_end : (v : Span) → x ≡ Ok v → v.start + v.len ≤ length s
  string_end = spot_end (string test) (last.last_string test) s x q

  pub string_sum : (v : Span) → x ≡ Ok v → length s < 2 ^ 64 → Fits w64 (v.start + v.len)
  string_sum = spot_sum (string test) (last.last_string test) s x q

-- ── an element that fills its holder ──
module _ {A : Type 0} (e : Element A) (s : List ℕ) (x : Step) (q : x ≡ step_of (e.dec s)) (r : Fit) (k : r ≡ filled_by (length s) x) where
  pub filled_only : r ≡ fit_of (only_dec e.dec s)
  filled_only = k ∙ ap (filled_by (length s)) q ∙ sym (views.fit_only_step e s)

  pub filled_maybe : (length s ≡ 0 → ⊥) → r ≡ fit_of (maybe_dec e.dec s)
  filled_maybe o = k ∙ ap (filled_by (length s)) q ∙ sym (views.fit_maybe_step e s (omega arith))

  pub filled_optional : (t : ℕ) (st : Starts t e) (z : Bool) → z ≡ starts_with t s → z ≡ true → r ≡ fit_of ((optional t e st).dec s)
  filled_optional t st z d y =
      let i : starts_with t s ≡ true = sym d ∙ y in
      k ∙ ap (filled_by (length s)) q ∙ sym (views.fit_optional t e st s ∙ rw i)

module _ {A : Type 0} (e : Element A) (s : List ℕ) where
  pub maybe_none : length s ≡ 0 → Ok tt ≡ fit_of (maybe_dec e.dec s)
  maybe_none h = sym (views.fit_maybe_none e s h)

  pub optional_none : (t : ℕ) (st : Starts t e) (z : Bool) → z ≡ starts_with t s → z ≡ false
      → (r : Fit) → r ≡ filled_by (length s) (Ok 0) → r ≡ fit_of ((optional t e st).dec s)
  optional_none t st z d y r k =
      let i : starts_with t s ≡ false = sym d ∙ y in
      k ∙ sym (views.fit_optional t e st s ∙ rw i)

-- ── maybe an element, then a whole list: the answer for the two, or for the list alone ──
module _ {A B : Type 0} (t : ℕ) (e : Element A) (w : Whole B) (s : List ℕ) (z : Bool) (d : z ≡ starts_with t s) (r : Fit) where
  pub option_there : z ≡ true → r ≡ fit_of (field_dec e.dec w.dec s) → r ≡ fit_of (option_dec t e.dec w.dec s)
  option_there y c = c ∙ sym (views.fit_option_there e w s t (sym d ∙ y))

  pub option_missing : z ≡ false → r ≡ fit_of (w.dec s) → r ≡ fit_of (option_dec t e.dec w.dec s)
  option_missing y c = c ∙ sym (views.fit_option_missing e w s t (sym d ∙ y))

-- ── one of two ──
module _ {A B : Type 0} (t : ℕ) (d : List ℕ → Got A) (d' : List ℕ → Got B) (s : List ℕ) (z : Bool) (i : z ≡ starts_with t s) (r : Step) where
  pub choice_first : z ≡ true → r ≡ step_of (d s) → r ≡ step_of (choice_dec t d d' s)
  choice_first y c = let j : starts_with t s ≡ true = sym i ∙ y in c ∙ sym (views.step_choice d s t d' ∙ rw j)

  pub choice_second : z ≡ false → r ≡ step_of (d' s) → r ≡ step_of (choice_dec t d d' s)
  choice_second y c = let j : starts_with t s ≡ false = sym i ∙ y in c ∙ sym (views.step_choice d s t d' ∙ rw j)

-- ── other names ──
module _ {A B : Type 0} (f : A → B) (s : List ℕ) where
  pub named : (d : List ℕ → Read A) (r : Fit) → r ≡ fit_of (d s) → r ≡ fit_of (mapped_dec f d s)
  named d r c = c ∙ sym (fit_mapped f d s)

  pub named_element : (d : List ℕ → Got A) (r : Step) → r ≡ step_of (d s) → r ≡ step_of (called_dec f d s)
  named_element d r c = c ∙ sym (views.step_named d s f)
