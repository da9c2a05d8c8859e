-- The cases of what one extension holds: the value; TRUE, which may be there, and the value; the OID that
-- is new; and all of it. Each is stated as the code leaves it.
-- value_wrong, value_filled; flag_end, flag_wrong, flag_after, flag_none; new_wrong, new_end, new_sum, new_pass,
-- new_fail; body_end, body_sum, body_wrong, body_after.
-- Assumes nothing.
use Prim.Native.Nat.{ℕ, ◌+◌, ◌-◌, ◌^◌, ◌≤◌, ◌<◌}
use mathlib.Core.Path.{◌≡◌, refl, sym, ap, ◌∙◌}
use mathlib.Core.Bool.{Bool, true, false, cond}
use mathlib.Core.List.{List}
use mathlib.Core.Option.{none, some}
use Rattle.std.specs.Prelude.{Ok, Err}
use lib.Dec.{eqb, lit<}
use lib.ListN.{length, take, drop}
use mir.Syntax.{w64}
use mir.Val.{Fits}
use Rattle.octets.specs.LentLaws.{part_is}
use Rattle.element.specs.Places.{HeaderRead, Spot, misfit}
use Rattle.element.specs.declared.Misfit.{Misfit}
use Rattle.element.specs.declared.Span.{Span}
use Rattle.element.specs.Header.{header_of}
use Rattle.content.specs.Oid.{oid_ok}
use Rattle.codec.specs.Codec.{Got, got, bad, Element}
use Rattle.codec.specs.Outcome.{attach}
use Rattle.codec.specs.Contents.{octets_read, or_start, filled_dec}
use Rattle.codec.specs.Tagged.{own, tagged_of, tagged_dec}
use Rattle.codec.specs.Keys.{new_to, new_test}
use Rattle.codec.specs.Sequence.{field_dec}
use Rattle.codec.proofs.Sequence.{only}
use Rattle.codec.specs.Starts.{starts_with}
use Rattle.codec.specs.Views.{step_of, fit_of}
use Rattle.codec.proofs.ViewLaws.{fit_only_bad}
use Rattle.codec.specs.Steps.{Step, Fit}
use Rattle.layout.specs.Words.{anything}
use Rattle.layout.proofs.ElementKinds.{string, oid, tag_06}
use Rattle.layout.specs.Names.{extension_of}
use Rattle.layout.proofs.Format.{new_oid, critical, extension_body}
use Rattle.read_content.specs.Spots.{spot_of}
use Rattle.read_content.specs.LastLaws.{Last, last_primitive, last_string, last_oid}
use Rattle.read_content.specs.SpotLaws.{spot_reads, spot_wrong}
use Rattle.read_sequence.specs.Judged.{filled_by, after_by}
use Rattle.read_sequence.specs.ViewLaws.{fit_only_step}
use Rattle.read_sequence.specs.CaseLaws as seq
use Rattle.read_extension.specs.Pieces.{value, flagged}

-- what is read where a spot is
at_got : (e : Element (List ℕ)) (w : Last e) (s : List ℕ) (r : Spot) → r ≡ spot_of (e.dec s) → (v : Span) → r ≡ Ok v
    → e.dec s ≡ got (take v.len (drop v.start s)) (v.start + v.len)
at_got e w s r q v f = (spot_reads e w s v.start v.len (sym q ∙ f)).0

-- ── the value ──
module _ (s : List ℕ) (r : Spot) (q : r ≡ spot_of ((string anything).dec s)) where
  pub value_wrong : (p : Misfit) → r ≡ Err p → Err p ≡ fit_of (value.dec s)
  unfolding value
  value_wrong p f = sym (fit_only_bad (string anything).dec s p.place (spot_wrong (string anything) s p.place (sym q ∙ f)).0)

  pub value_filled : (v : Span) → r ≡ Ok v → (x : Fit) → x ≡ filled_by (length s) (Ok (v.start + v.len)) → x ≡ fit_of (value.dec s)
  unfolding value step_of
  value_filled v f x c =
      let g = at_got (string anything) (last_string anything) s r q v f in
      c ∙ ap (λ (y : Got (List ℕ)). filled_by (length s) (step_of y)) (sym g) ∙ sym (fit_only_step (string anything) s)

-- ── maybe TRUE, then the value ──
module _ (s : List ℕ) (z : Bool) (d : z ≡ starts_with 0x01 s) where
  pub flag_none : z ≡ false → (r : Fit) → r ≡ fit_of (value.dec s) → r ≡ fit_of (flagged.dec s)
  unfolding value flagged
  flag_none y r c = seq.option_missing 0x01 critical (only (string anything)) s z d r y c

  module _ (y : z ≡ true) (x : Step) (q : x ≡ step_of (critical.dec s)) where
    pub flag_end : (n : ℕ) → x ≡ Ok n → n ≤ length s
    flag_end = seq.field_end critical s x q

    pub flag_wrong : (p : Misfit) → x ≡ Err p → Err p ≡ fit_of (flagged.dec s)
    unfolding flagged
    flag_wrong p f =
        seq.option_there 0x01 critical (only (string anything)) s z d (Err p) y
        (seq.field_wrong critical s x q (only (string anything)).dec p f)

    pub flag_after : (n : ℕ) → x ≡ Ok n → after_by n (length s) (fit_of (value.dec (take (length s - n) (drop n s)))) ≡ fit_of (flagged.dec s)
    unfolding value flagged
    flag_after n f =
        let v = fit_of ((only (string anything)).dec (take (length s - n) (drop n s))) in
        seq.option_there 0x01 critical (only (string anything)) s z d (after_by n (length s) v) y
        (seq.field_after critical (only (string anything)) s n v (after_by n (length s) v) refl x q f refl)

-- ── an OID that is new ──
-- what is left of an OID that was read
abbrev narrowed : List (List ℕ) → Got (List ℕ) → Got (List ℕ)
narrowed seen (bad p) = bad p
narrowed seen (got c n) = cond (new_to seen c) (got c n) (bad 0)

narrow : (test : List ℕ → Bool) (seen : List (List ℕ)) (s : List ℕ)
    → tagged_dec own 0x06 (filled_dec (octets_read (new_test test seen))) s ≡ narrowed seen (tagged_dec own 0x06 (filled_dec (octets_read test)) s)
unfolding tagged_dec filled_dec octets_read new_test
narrow test seen s = go (header_of s)
  where
    new : (n : ℕ) (c : List ℕ) (b : Bool) → attach (own 0) n (or_start (cond b (some c) none)) ≡ cond b (got c n) (bad 0)
    new n c true = refl
    new n c false = refl

    tested : (n : ℕ) (c : List ℕ) (b : Bool) → attach (own 0) n (or_start (cond (cond b (new_to seen c) false) (some c) none))
        ≡ narrowed seen (attach (own 0) n (or_start (cond b (some c) none)))
    tested n c true = new n c (new_to seen c)
    tested n c false = refl

    tagged : (h n : ℕ) (b : Bool) → cond b (attach (own h) (h + n) (filled_dec (octets_read (new_test test seen)) (take n (drop h s)))) (bad 0)
        ≡ narrowed seen (cond b (attach (own h) (h + n) (filled_dec (octets_read test) (take n (drop h s)))) (bad 0))
    tagged h n true = tested (h + n) (take n (drop h s)) (test (take n (drop h s)))
    tagged h n false = refl

    go : (x : HeaderRead) → tagged_of own 0x06 (filled_dec (octets_read (new_test test seen))) s x
        ≡ narrowed seen (tagged_of own 0x06 (filled_dec (octets_read test)) s x)
    go (Err p) = refl
    go (Ok h) = tagged h.start h.len (eqb h.tag 0x06)

new_of : (seen : List (List ℕ)) (s : List ℕ) → (new_oid seen).dec s ≡ narrowed seen (oid.dec s)
unfolding new_oid oid
new_of seen s = narrow oid_ok seen s

pub new_last : (seen : List (List ℕ)) → Last (new_oid seen)
unfolding new_oid
new_last seen = last_primitive 0x06 (new_test oid_ok seen) tag_06 (lit< tt)

module _ (s : List ℕ) (r : Spot) (q : r ≡ spot_of (oid.dec s)) where
  pub new_wrong : (seen : List (List ℕ)) (p : Misfit) → r ≡ Err p → Err p ≡ spot_of ((new_oid seen).dec s)
  unfolding spot_of
  new_wrong seen p f = rw (new_of seen s, (spot_wrong oid s p.place (sym q ∙ f)).0)

  module _ (v : Span) (f : r ≡ Ok v) where
    pub new_end : v.start + v.len ≤ length s
    new_end = seq.spot_end oid last_oid s r q v f

    pub new_sum : length s < 2 ^ 64 → Fits w64 (v.start + v.len)
    new_sum = seq.spot_sum oid last_oid s r q v f

    module _ (seen : List (List ℕ)) (z : Bool) (k : z ≡ new_to seen (take (v.start + v.len - v.start) (drop v.start s))) where
      new_then : (new_oid seen).dec s ≡ cond z (got (take v.len (drop v.start s)) (v.start + v.len)) (bad 0)
      new_then = new_of seen s ∙ rw (at_got oid last_oid s r q v f, ← part_is v.start v.len s, ← k)

      pub new_pass : z ≡ true → Ok v ≡ spot_of ((new_oid seen).dec s)
      new_pass y = sym f ∙ q ∙ ap spot_of (at_got oid last_oid s r q v f ∙ sym (new_then ∙ rw y))

      pub new_fail : z ≡ false → Err (misfit 0) ≡ spot_of ((new_oid seen).dec s)
      unfolding spot_of
      new_fail y = rw (new_then, y)

-- ── all of it ──
module _ (seen : List (List ℕ)) (s : List ℕ) (r : Spot) (q : r ≡ spot_of ((new_oid seen).dec s)) where
  module _ (v : Span) (f : r ≡ Ok v) where
    pub body_end : v.start + v.len ≤ length s
    body_end = seq.spot_end (new_oid seen) (new_last seen) s r q v f

    pub body_sum : length s < 2 ^ 64 → Fits w64 (v.start + v.len)
    body_sum = seq.spot_sum (new_oid seen) (new_last seen) s r q v f

  pub body_wrong : (p : Misfit) → r ≡ Err p → Err p ≡ fit_of ((extension_body seen).dec s)
  unfolding extension_body flagged
  body_wrong p f =
      seq.named extension_of s (field_dec (new_oid seen).dec flagged.dec) (Err p)
      (seq.spot_wrong (new_oid seen) (new_last seen) s r q flagged.dec p f)

  pub body_after : (v : Span) → r ≡ Ok v
      → after_by (v.start + v.len) (length s) (fit_of (flagged.dec (take (length s - (v.start + v.len)) (drop (v.start + v.len) s)))) ≡ fit_of ((extension_body seen).dec s)
  unfolding extension_body flagged
  body_after v f =
      let x = fit_of (flagged.dec (take (length s - (v.start + v.len)) (drop (v.start + v.len) s))) in
      let y = after_by (v.start + v.len) (length s) x in
      seq.named extension_of s (field_dec (new_oid seen).dec flagged.dec) y
      (seq.spot_after_lem (new_oid seen) (new_last seen) flagged s r q v f x refl y refl)
