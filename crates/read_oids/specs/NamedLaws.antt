-- What the headers alone say of an extension that was read: where its OID is, and whether it is
-- critical, by the octet after the OID.
-- NamedLaws, named.
-- Assumes nothing.
use Rattle.std.specs.Prelude.{ℕ, zero, suc, ◌+◌, ◌-◌, ◌≤◌, ◌<◌, ◌≡◌, refl, Bool, true, false, cond, List, [], ◌∷◌, Some, Ok, Err, eqb, length, take, drop}
use Rattle.std.proofs.Common.{arith, ap, ◌∙◌, length-drop, length-take-le, take-take, drop-drop, drop_at, take-add, eqb-true}
use Rattle.std.proofs.Math.Option.{Option, none, some}
use Rattle.element.specs.Places.{HeaderRead, header}
use Rattle.element.specs.Header.{header_of}
use Rattle.element.specs.HeaderLaws.{header_inside}
use Rattle.codec.specs.Codec.{Read, read, got, Element}
use Rattle.codec.proofs.Outcome.{bad_got, attach_got, tested_got, renamed_read, further_read, on_got_read}
use Rattle.codec.specs.Contents.{octets_read}
use Rattle.codec.specs.Tagged.{own, inner, tagged_of, tagged_dec}
use Rattle.codec.specs.Mapped.{mapped_dec}
use Rattle.codec.specs.Sequence.{field_dec, end_dec, only_dec}
use Rattle.codec.specs.Starts.{starts_with}
use Rattle.codec.specs.Option.{option_of, option_dec}
use Rattle.layout.specs.Words.{anything}
use Rattle.layout.proofs.ElementKinds.{string}
use Rattle.layout.specs.Reading.{Extension}
use Rattle.layout.specs.Names.{is_there, extension_of}
use Rattle.layout.proofs.Format.{new_oid, critical, extension_body, extension_after}
use Rattle.read_content.specs.Spots.{expected}
use Rattle.read_content.specs.ExpectLaws.{never}
use Rattle.read_content.specs.PrimitiveLaws.{content_read}
use Rattle.read_oids.specs.Seen.{name, named_in, name_of, name_at}

-- ── what was read of an element with a tag ──
pub record Tagged {A : Type 0} (t : ℕ) (d : List ℕ → Read A) (s : List ℕ) (a : A) (n : ℕ) : Type 0 where
  pub start : ℕ
  pub len : ℕ
  pub found : header_of s ≡ Ok (header t start len)
  pub content : d (take len (drop start s)) ≡ read a
  pub sum : start + len ≡ n
  pub inside : start + len ≤ length s

pub tagged_got : {A : Type 0} (at : ℕ → ℕ → ℕ) (t : ℕ) (d : List ℕ → Read A) (s : List ℕ) (a : A) (n : ℕ) → tagged_dec at t d s ≡ got a n → Tagged t d s a n
unfolding tagged_dec
tagged_got at t d s a n e = go (header_of s) refl e
  where
    go : (x : HeaderRead) → header_of s ≡ x → tagged_of at t d s x ≡ got a n → Tagged t d s a n
    go (Err p) q e = bad_got e
    go (Ok h) q e =
        let g = tested_got (eqb h.tag t) _ _ a n e in
        let r = attach_got (at h.start) (h.start + h.len) (d (take h.len (drop h.start s))) a n g.1 in
        record {
          start = h.start;
          len = h.len;
          found = q ∙ ap {B = HeaderRead} (λ (u : ℕ). Ok (header u h.start h.len)) (eqb-true h.tag t g.0);
          content = r.0;
          sum = r.1;
          inside = (header_inside s h.tag h.start h.len q).1;
        }

octets_some : (test : List ℕ → Bool) (c x : List ℕ) → octets_read test c ≡ some x → c ≡ x
unfolding octets_read
octets_some test c x e = go (test c) e
  where
    go : (b : Bool) → cond b (some c) none ≡ some x → c ≡ x
    go true e = cc
    go false e = never (cc)

-- ── a part of a part ──
drop_part : (k m : ℕ) (l : List ℕ) → k ≤ m → m ≤ length l → drop k (take m l) ≡ take (m - k) (drop k l)
drop_part k m l le up =
    let e : m ≡ k + (m - k) = omega arith in
    let f = ap (λ (j : ℕ). drop k (take j l)) e in
    f ∙ rw (take-add k (m - k) l) (drop_at (take k l) (take (m - k) (drop k l)) k (length-take-le k l (omega arith)))

part_part : (u k m : ℕ) (l : List ℕ) → u + k ≤ m → m ≤ length l → take k (drop u (take m l)) ≡ take k (drop u l)
part_part u k m l le up = rw (drop_part u m l (omega arith) up) (take-take k (m - u) (drop u l) (omega arith))

starts_part : (t k : ℕ) (l : List ℕ) → 0 < length (take k l) → starts_with t (take k l) ≡ starts_with t l
unfolding starts_with
starts_part t zero l h = absurd (omega arith)
starts_part t (suc k) [] h = refl
starts_part t (suc k) (x ∷ l) h = refl

-- ── what was read after the OID ──
only_some : {A : Type 0} (e : Element A) (s : List ℕ) (a : A) → only_dec e.dec s ≡ read a → 0 < length s
unfolding only_dec mapped_dec field_dec
only_some e s a h =
    let (x, ex, _) = renamed_read (λ x. x.0) (field_dec e.dec end_dec s) a h in
    let (b, n, eg, _) = on_got_read (e.dec s) _ x ex in
    let i = e.inside s b n eg in
    omega (arith, i.0, i.1)

flag_read : (s : List ℕ) (y : Option (Unit {0}) × List ℕ) → option_dec 0x01 critical.dec (only_dec (string anything).dec) s ≡ read y
    → (starts_with 0x01 s ≡ is_there y.0) × (0 < length s)
unfolding option_dec option_of
flag_read s y h = go (starts_with 0x01 s) h
  where
    go : (b : Bool) → option_of b critical.dec (only_dec (string anything).dec) s ≡ read y → (b ≡ is_there y.0) × (0 < length s)
    go true h =
        let (u, n, eg, f) = on_got_read (critical.dec s) _ y h in
        let (v, _, ey) = further_read n (λ v. (some u, v)) (only_dec (string anything).dec (drop n s)) y f in
        let i = critical.inside s u n eg in
        (ap (λ (z : Option (Unit {0}) × List ℕ). is_there z.0) ey, omega (arith, i.0, i.1))
    go false h =
        let (v, ev, ey) = renamed_read (λ v. (none, v)) (only_dec (string anything).dec s) y h in
        (ap (λ (z : Option (Unit {0}) × List ℕ). is_there z.0) ey, only_some (string anything) s v ev)

-- ── what was read of the content ──
record Held (seen : List (List ℕ)) (c : List ℕ) (a : Extension) : Type 0 where
  next : ℕ
  oid : (new_oid seen).dec c ≡ got a.oid next
  flag : starts_with 0x01 (drop next c) ≡ a.critical
  some : 0 < length (drop next c)

body_read : (seen : List (List ℕ)) (c : List ℕ) (a : Extension) → (extension_body seen).dec c ≡ read a → Held seen c a
unfolding extension_body mapped_dec field_dec
body_read seen c a h =
    let (x, ex, ea) = renamed_read extension_of (field_dec (new_oid seen).dec (option_dec 0x01 critical.dec (only_dec (string anything).dec)) c) a h in
    let (o, k, eo, f) = on_got_read ((new_oid seen).dec c) _ x ex in
    let (y, ey, exy) = further_read k (λ y. (o, y)) (option_dec 0x01 critical.dec (only_dec (string anything).dec) (drop k c)) x f in
    let v = flag_read (drop k c) y ey in
    let e : extension_of (o, y) ≡ a = ap extension_of exy ∙ ea in
    record {
      next = k;
      oid = rw (ap (λ (z : Extension). z.oid) e) at eo;
      flag = v.0 ∙ ap (λ (z : Extension). z.critical) e;
      some = v.1;
    }

new_read : (seen : List (List ℕ)) (c o : List ℕ) (n : ℕ) → (new_oid seen).dec c ≡ got o n
    → (u : ℕ) × (l : ℕ) × (header_of c ≡ Ok (header 0x06 u l)) × (take l (drop u c) ≡ o) × (u + l ≡ n) × (u + l ≤ length c)
unfolding new_oid
new_read seen c o n e =
    let v = tagged_got own 0x06 _ c o n e in
    (v.start, v.len, v.found, octets_some _ (take v.len (drop v.start c)) o (content_read (octets_read _) _ o v.content), v.sum, v.inside)

-- ── the extension ──
pub record Named (s : List ℕ) (a : Extension) (n : ℕ) : Type 0 where
  pub start : ℕ
  pub len : ℕ
  pub is : name_at s ≡ Some (name start len n)
  pub oid : take len (drop start s) ≡ a.oid
  pub flag : starts_with 0x01 (drop (start + len) s) ≡ a.critical

name_found : (s : List ℕ) (h m u l : ℕ) → header_of s ≡ Ok (header 0x30 h m) → header_of (take m (drop h s)) ≡ Ok (header 0x06 u l) → name_at s ≡ Some (name (h + u) l (h + m))
unfolding name_at name_of named_in expected
name_found s h m u l e f = rw (e, f)

module _ (s : List ℕ) (a : Extension) (n h m u l : ℕ) (e : header_of s ≡ Ok (header 0x30 h m)) (sum : h + m ≡ n) (inside : h + m ≤ length s)
    (f : header_of (take m (drop h s)) ≡ Ok (header 0x06 u l)) (o : take l (drop u (take m (drop h s))) ≡ a.oid)
    (g : starts_with 0x01 (drop (u + l) (take m (drop h s))) ≡ a.critical) (some : 0 < length (drop (u + l) (take m (drop h s)))) where
  long : length (drop h s) ≡ length s - h
  long = length-drop h s

  last : length (drop (u + l) (take m (drop h s))) ≡ m - (u + l)
  last = length-drop (u + l) (take m (drop h s)) ∙ rw (length-take-le m (drop h s) (simp length-drop (omega arith)))

  oid_is : take l (drop (h + u) s) ≡ a.oid
  oid_is = rw (← drop-drop u h s, ← part_part u l m (drop h s) (omega (arith, last)) (omega (arith, long))) o

  flag_is : starts_with 0x01 (drop (h + u + l) s) ≡ a.critical
  flag_is =
      let i : drop (u + l) (take m (drop h s)) ≡ take (m - (u + l)) (drop (u + l) (drop h s)) = drop_part (u + l) m (drop h s) (omega (arith, last)) (omega (arith, long)) in
      let j : h + (u + l) ≡ h + u + l = omega arith in
      let k = starts_part 0x01 (m - (u + l)) (drop (u + l) (drop h s)) (rw i at some) in
      rw (← j, ← drop-drop (u + l) h s, ← k, ← i) g

  named_of : Named s a n
  named_of = record { start = h + u; len = l; is = rw sum at (name_found s h m u l e f); oid = oid_is; flag = flag_is }

pub named : (seen : List (List ℕ)) (s : List ℕ) (a : Extension) (n : ℕ) → (extension_after seen).dec s ≡ got a n → Named s a n
unfolding extension_after
named seen s a n e =
    let v = tagged_got inner 0x30 (extension_body seen).dec s a n e in
    let w = body_read seen (take v.len (drop v.start s)) a v.content in
    let (u, l, f, o, sum, _) = new_read seen (take v.len (drop v.start s)) a.oid w.next w.oid in
    named_of s a n v.start v.len u l v.found v.sum v.inside f o (rw (← sum) at w.flag) (rw (← sum) at w.some)
