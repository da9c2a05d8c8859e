-- The cases of critical extensions that are not understood: the loop over a list that is read. What is
-- around it is in StrangeAround. A slice's octets are below 256.
-- list_broke; Searching, search_start, search_end,
-- search_none, search_hit, search_less, search_next.
-- Assumes nothing.
use Prim.Native.Nat.{ℕ, ◌+◌, ◌-◌, ◌^◌, ◌≤◌, ◌<◌}
use native.Mathlib.Omega.{arith}
use mathlib.Core.Path.{◌≡◌, sym, ap, ◌∙◌}
use mathlib.Core.Bool.{Bool, true, false}
use mathlib.Core.List.{List, [], ◌∷◌}
use Rattle.std.specs.Prelude.{Option, Some, None, Ok, Err}
use lib.ListN.{length, take, drop, length-append, length-drop}
use lib.Seq.{drop-drop, drop-append_seam}
use Rattle.octets.specs.OctetsLaws.{octets_drop}
use Rattle.octets.specs.LentLaws.{Known, rest_is, known_octets, part_is}
use Rattle.element.specs.declared.Misfit.{Misfit}
use Rattle.codec.specs.Codec.{Read, read}
use Rattle.codec.proofs.CodecLaws.{form_some}
use Rattle.codec.specs.Starts.{starts_with}
use Rattle.codec.specs.Many.{All, forms}
use Rattle.codec.specs.Views.{fit_of}
use Rattle.codec.proofs.ViewLaws.{fit_fits}
use Rattle.codec.specs.Steps.{Fit}
use Rattle.layout.specs.Reading.{Extension}
use Rattle.layout.proofs.Format.{extension_after, extension_list}
use Rattle.read_content.specs.ExpectLaws.{never}
use Rattle.read_oids.specs.Seen.{name_at}
use Rattle.read_oids.specs.NameLaws.{name_here}
use Rattle.read_oids.specs.NamedLaws.{Named, named}
use Rattle.read_oids.specs.declared.Name.{Name}
use Rattle.read_critical.specs.Strange.{is_strange, strange_moved, strange_at, strange_read, strange_here}
use Rattle.read_critical.specs.StrangeLaws.{moved_moved, strange_broke}

-- ── the loop ──
-- how many octets an extension takes
abbrev size : Extension → ℕ
size e = length ((extension_after []).enc e)

-- from the place on stand the forms of the extensions l, and the first of them that is so is the first of
-- the reading x
pub record Left (known : List (List ℕ)) (s : List ℕ) (x : Read (List Extension)) (at : ℕ) (l : List Extension) : Type 0 where
  pub le : at ≤ length s
  pub small : length s < 2 ^ 64
  pub ok : All (extension_after []).ok l
  pub rest : drop at s ≡ forms (extension_after []).enc l
  pub same : strange_read known s x ≡ strange_moved at (strange_at known l)

-- some extensions are left
pub record Searching (known : List (List ℕ)) (s : List ℕ) (x : Read (List Extension)) (at : ℕ) : Type 0 where
  pub left : List Extension
  pub is : Left known s x at left

module _ (known : List (List ℕ)) (s : List ℕ) (from : ℕ) (x : Fit) (q : x ≡ fit_of (extension_list.dec (take (length s - from) (drop from s)))) where
  fit_is : fit_of (extension_list.dec (drop from s)) ≡ x
  fit_is = rw (rest_is from s) at (sym q)

  pub list_broke : (p : Misfit) → x ≡ Err p → None ≡ strange_read known s (extension_list.dec (drop from s))
  list_broke p f = sym (strange_broke known s (extension_list.dec (drop from s)) p.place (fit_is ∙ f))

  pub search_start : x ≡ Ok tt → from ≤ length s → length s < 2 ^ 64 → Known s
      → Searching known s (extension_list.dec (drop from s)) from
  unfolding strange_read extension_list
  search_start f le z o = let (l, e) = fit_fits extension_list (drop from s) (fit_is ∙ f) in record { left = l; is = go l e }
    where
      go : (l : List Extension) → extension_list.dec (drop from s) ≡ read l → Left known s (extension_list.dec (drop from s)) from l
      go l e =
          let v = extension_list.sound (drop from s) l (octets_drop from s (known_octets s o)) e in
          let j : length s - length (extension_list.enc l) ≡ from = omega (arith, ap length v.1, length-drop from s) in
          record { le = le; small = z; ok = v.0.0; rest = v.1; same = rw (e, j) }

-- an extension is left, and what follows it
module _ {known : List (List ℕ)} {s : List ℕ} {x : Read (List Extension)} {at : ℕ} {e : Extension} {l : List Extension} (i : Left known s x at (e ∷ l)) where
  sizes : (0 < size e) × (at + size e ≤ length s)
  sizes =
      let j = form_some (extension_after []) e i.ok.0 in
      let k = length-append ((extension_after []).enc e) (forms (extension_after []).enc l) in
      (j, omega (arith, i.le, ap length i.rest, length-drop at s))

  its : Named (drop at s) e (size e)
  its =
      let c = (extension_after []).complete e (forms (extension_after []).enc l) i.ok.0 (omega (arith, sizes.1, i.small)) in
      named [] (drop at s) e (size e) (rw i.rest c)

  next : is_strange known e ≡ false → Left known s x (at + size e) l
  unfolding strange_at
  next y = record {
    le = sizes.1;
    small = i.small;
    ok = i.ok.1;
    rest = rw (← drop-drop (size e) at s, i.rest) (drop-append_seam ((extension_after []).enc e) (forms (extension_after []).enc l));
    same = i.same ∙ rw y (moved_moved at (size e) (strange_at known l));
  }

module _ (known : List (List ℕ)) (s : List ℕ) (x : Read (List Extension)) (at : ℕ) where
  over : (l : List Extension) → Left known s x at l → length s ≤ at → None ≡ strange_read known s x
  unfolding strange_at strange_moved
  over [] i le = sym i.same
  over (e ∷ l) i le = absurd (omega (arith, (sizes i).0, (sizes i).1))

  begins : (l : List Extension) → Left known s x at l → at < length s → (e : Extension) × (m : List Extension) × Left known s x at (e ∷ m)
  begins [] i lt = absurd (omega (arith, ap length i.rest, length-drop at s))
  begins (e ∷ l) i lt = (e, l, i)

  pub search_end : Searching known s x at → length s ≤ at → None ≡ strange_read known s x
  search_end i le = over i.left i.is le

  -- by the name at the place
  module _ (lt : at < length s) (r : Option Name) (q : r ≡ name_at (take (length s - at) (drop at s))) (i : Searching known s x at) where
    turn : (e : Extension) × (l : List Extension) × Left known s x at (e ∷ l)
    turn = begins i.left i.is lt

    abbrev first : Extension
    first = turn.0

    named_first : Named (drop at s) first (size first)
    named_first = its turn.2

    pub search_none : r ≡ None → None ≡ strange_read known s x
    search_none e = let f = named_first.is in let g = name_here s at r q in never (cc)

    module _ (v : Name) (e : r ≡ Some v) where
      same_name : (named_first.start ≡ v.start) × (named_first.len ≡ v.len) × (size first ≡ v.next)
      same_name = let f = named_first.is in let g = name_here s at r q in (cc, cc, cc)

      oid_is : take (at + v.start + v.len - (at + v.start)) (drop (at + v.start) s) ≡ first.oid
      oid_is = part_is (at + v.start) v.len s ∙ rw (← drop-drop v.start at s, ← same_name.0, ← same_name.1) named_first.oid

      flag_is : starts_with 0x01 (take (length s - (at + v.start + v.len)) (drop (at + v.start + v.len) s)) ≡ first.critical
      flag_is =
          let j : at + (v.start + v.len) ≡ at + v.start + v.len = omega arith in
          rw (rest_is (at + v.start + v.len) s, ← j, ← drop-drop (v.start + v.len) at s, ← same_name.0, ← same_name.1) named_first.flag

      pub search_less : length s - (at + v.next) < length s - at
      search_less = omega (arith, (sizes turn.2).0, same_name.2)

      -- the answer for the extension
      module _ (w : Bool) (d : w ≡ strange_here known (take (at + v.start + v.len - (at + v.start)) (drop (at + v.start) s)) (take (length s - (at + v.start + v.len)) (drop (at + v.start + v.len) s))) where
        strange_is : is_strange known first ≡ w
        unfolding is_strange strange_here
        strange_is = sym (d ∙ rw (oid_is, flag_is))

        pub search_hit : w ≡ true → Some at ≡ strange_read known s x
        unfolding strange_at strange_moved
        search_hit y = sym (turn.2.same ∙ rw (strange_is, y) (ap Some (omega arith)))

        pub search_next : w ≡ false → Searching known s x (at + v.next)
        search_next y = record { left = turn.1; is = rw same_name.2 at (next turn.2 (strange_is ∙ y)) }
