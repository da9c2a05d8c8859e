-- An element with a tag, around a whole list or a content. The header counts first, then the tag,
-- then the content: a wrong tag refuses the element's own place, 0.
-- tagged (a place in the content is a place in the element), primitive (a content that is not read
-- refuses the element's own place).
-- The laws stand here, and what is made of them; the definitions in specs/Tagged.
-- Assumes nothing.
use Rattle.std.specs.Prelude.{ℕ, ◌+◌, ◌^◌, ◌≤◌, ◌<◌, ◌≡◌, Bool, List, ◌++◌, eqb, take, Ok, Err}
use Rattle.std.proofs.Common.{arith, sym, ap}
use Rattle.std.proofs.Math.Path.{refl}
use Rattle.std.proofs.Math.Bool.{true, false, cond}
use Rattle.std.proofs.Math.ListN.{length, drop, length-drop}
use Rattle.std.proofs.Math.Seq.{length-take-le}
use borrow.Author.Tests.{eqb-true, eq-eqb}
use Rattle.octets.specs.Octets.{Octets}
use Rattle.element.specs.Tag.{tag_ok}
use Rattle.element.specs.Form.{form_of}
use Rattle.element.specs.FormLaws.{form_length, form_octets}
use Rattle.element.specs.Header.{header_of}
use Rattle.element.specs.HeaderLaws.{header_inside, header_within}
use Rattle.element.specs.Places.{HeaderRead}
use Rattle.codec.specs.Codec.{got, bad, Content, Whole, Element}
use Rattle.codec.specs.Outcome.{attach}
use Rattle.codec.proofs.Outcome.{bad_got, attach_got, attach_bad, tested_got, start_head}
use Rattle.codec.proofs.PartLaws.{part_of, form_found, form_content, small_content}
use Rattle.codec.proofs.Contents.{filled}
use Rattle.codec.specs.Tagged.{inner, own, tagged_dec, tagged_of}

module _ {A : Type 0} (at : ℕ → ℕ → ℕ) (t : ℕ) (w : Whole A) where
  abbrev pub tagged_enc : A → List ℕ
  tagged_enc a = form_of t (w.enc a)

  pub tagged_sound : (s : List ℕ) (a : A) (n : ℕ) → Octets s → tagged_dec at t w.dec s ≡ got a n → w.ok a × (s ≡ tagged_enc a ++ drop n s)
  unfolding tagged_dec
  tagged_sound s a n o e = go (header_of s) refl e
    where
      go : (x : HeaderRead) → header_of s ≡ x → tagged_of at t w.dec s x ≡ got a n → w.ok a × (s ≡ tagged_enc a ++ drop n s)
      go (Err p) ex e = bad_got e
      go (Ok h) ex e =
          let c = take h.len (drop h.start s) in
          let q = tested_got (eqb h.tag t) _ _ a n e in
          let r = attach_got (at h.start) (h.start + h.len) (w.dec c) a n q.1 in
          let g = part_of s h.tag h.start h.len o ex in
          let v = w.sound c a g.octets r.0 in
          (v.0, rw (eqb-true h.tag t q.0, r.1, v.1) at g.same)

  pub tagged_complete : tag_ok t ≡ true → (a : A) (r : List ℕ) → w.ok a → length (tagged_enc a) < 2 ^ 64
      → tagged_dec at t w.dec (tagged_enc a ++ r) ≡ got a (length (tagged_enc a))
  unfolding tagged_dec
  tagged_complete k a r h z =
      let y = small_content t (w.enc a) z in
      rw (form_found t (w.enc a) r k y, eq-eqb t t refl, form_content t (w.enc a) r, w.complete a h y)
      (ap (got a) (sym (form_length t (w.enc a))))

  pub tagged_octets : t < 256 → (a : A) → w.ok a → length (tagged_enc a) < 2 ^ 64 → Octets (tagged_enc a)
  tagged_octets o a h z = let y = small_content t (w.enc a) z in form_octets t (w.enc a) o y (w.octets a h y)

  pub tagged_within : ((h p : ℕ) → at h p ≤ h + p) → (s : List ℕ) (p : ℕ) → tagged_dec at t w.dec s ≡ bad p → p ≤ length s
  unfolding tagged_dec
  tagged_within le s p e = go (header_of s) refl e
    where
      on : (h m : ℕ) → h + m ≤ length s → (b : Bool) → cond b (attach (at h) (h + m) (w.dec (take m (drop h s)))) (bad 0) ≡ bad p
          → p ≤ length s
      on h m i false e = start_head {A = A} s p e
      on h m i true e =
          let (q, ed, eq) = attach_bad (at h) (h + m) (w.dec (take m (drop h s))) p e in
          let long : length (take m (drop h s)) ≡ m = length-take-le m (drop h s) (simp length-drop (omega arith)) in
          let v = w.within (take m (drop h s)) q ed in
          omega (arith, le h q)

      go : (x : HeaderRead) → header_of s ≡ x → tagged_of at t w.dec s x ≡ bad p → p ≤ length s
      go (Err q) ex e = let i : q.place ≡ p = cc in rw i at (header_within s q.place ex)
      go (Ok h) ex e = on h.start h.len (header_inside s h.tag h.start h.len ex).1 (eqb h.tag t) e

  pub tagged_inside : (s : List ℕ) (a : A) (n : ℕ) → tagged_dec at t w.dec s ≡ got a n → (0 < n) × (n ≤ length s)
  unfolding tagged_dec
  tagged_inside s a n e = go (header_of s) refl e
    where
      go : (x : HeaderRead) → header_of s ≡ x → tagged_of at t w.dec s x ≡ got a n → (0 < n) × (n ≤ length s)
      go (Err p) ex e = bad_got e
      go (Ok h) ex e =
          let q = tested_got (eqb h.tag t) _ _ a n e in
          let r = attach_got (at h.start) (h.start + h.len) (w.dec (take h.len (drop h.start s))) a n q.1 in
          let i = header_inside s h.tag h.start h.len ex in
          omega (arith, r.1)

  abbrev pub tagged_at : ((h p : ℕ) → at h p ≤ h + p) → tag_ok t ≡ true → t < 256 → Element A
  tagged_at le k o = record {
    dec = tagged_dec at t w.dec;
    enc = tagged_enc;
    ok = w.ok;
    sound = tagged_sound;
    complete = tagged_complete k;
    octets = tagged_octets o;
    within = tagged_within le;
    inside = tagged_inside;
  }

-- an element with this tag that holds a whole list
abbrev pub tagged : {A : Type 0} (t : ℕ) → Whole A → tag_ok t ≡ true → t < 256 → Element A
tagged t w k o = tagged_at inner t w (λ h p. omega arith) k o

-- a primitive element with this tag and content
abbrev pub primitive : {A : Type 0} (t : ℕ) → Content A → tag_ok t ≡ true → t < 256 → Element A
primitive t c k o = tagged_at own t (filled c) (λ h p. omega arith) k o
