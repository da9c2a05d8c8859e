-- What was read of a list was read of its parts, and they stand where their headers lead.
-- tagged_content, rest_of, tag_of; field_of, only_of, Branched, branch_of_lem; filling, held.
-- The laws stand here, and what is made of them; the definitions in specs/PartLaws.
-- Assumes nothing.
use Rattle.std.specs.Prelude.{ℕ, ◌+◌, ◌≡◌, Bool, false, List, ◌⊎◌, eqb, take, Ok, Err}
use Rattle.std.proofs.Common.{arith, sym, ◌∙◌, inl, inr}
use Rattle.std.proofs.Math.Path.{refl, ap}
use Rattle.std.proofs.Math.Bool.{true}
use Rattle.std.proofs.Math.ListN.{drop, get_or}
use borrow.Author.Tests.{eqb-true, eq-eqb}
use Rattle.element.specs.Header.{header_of}
use Rattle.element.specs.HeaderLaws.{header_inside, header_tag}
use Rattle.element.specs.Places.{HeaderRead}
use Rattle.codec.specs.Codec.{Read, read, Got, got}
use Rattle.codec.proofs.Outcome.{bad_got, further_read, renamed_read, on_got_read, attach_got, tested_got}
use Rattle.codec.specs.Contents.{octets_read, filled_dec}
use Rattle.codec.specs.Tagged.{inner, own, tagged_of, tagged_dec}
use Rattle.codec.specs.Starts.{starts_with}
use Rattle.codec.proofs.Starts.{starts_first}
use Rattle.codec.specs.Mapped.{mapped_dec}
use Rattle.codec.specs.Sequence.{end_dec, field_dec, only_dec}
use Rattle.codec.specs.Branch.{branch_of, branch_dec}
use Rattle.faults.specs.Faults.{content_in, content_at, rest_in, rest_at}
use Rattle.faults.proofs.ContentLaws.{octets_same}
use Rattle.faults.specs.PartLaws.{Branched}

-- what was read of an element was read of its content
module _ {A : Type 0} (at : ℕ → ℕ → ℕ) (u : ℕ) (d : List ℕ → Read A) (s : List ℕ) (a : A) (n : ℕ) (e : tagged_dec at u d s ≡ got a n) where
  pub tagged_content : d (content_at s) ≡ read a
  unfolding tagged_dec content_at
  tagged_content = go (header_of s) e
    where
      go : (x : HeaderRead) → tagged_of at u d s x ≡ got a n → d (content_in s x) ≡ read a
      go (Err p) e = bad_got e
      go (Ok h) e =
          let q = tested_got (eqb h.tag u) _ _ a n e in
          (attach_got (at h.start) (h.start + h.len) (d (take h.len (drop h.start s))) a n q.1).0

  -- and it ends where its header says
  pub rest_of : drop n s ≡ rest_at s
  unfolding tagged_dec rest_at
  rest_of = go (header_of s) e
    where
      go : (x : HeaderRead) → tagged_of at u d s x ≡ got a n → drop n s ≡ rest_in s x
      go (Err p) e = bad_got e
      go (Ok h) e =
          let q = tested_got (eqb h.tag u) _ _ a n e in
          ap (λ (k : ℕ). drop k s) (sym (attach_got (at h.start) (h.start + h.len) (d (take h.len (drop h.start s))) a n q.1).1)

  -- and begins with its tag
  pub tag_of : starts_with u s ≡ true
  unfolding tagged_dec
  tag_of = go (header_of s) refl e
    where
      go : (x : HeaderRead) → header_of s ≡ x → tagged_of at u d s x ≡ got a n → starts_with u s ≡ true
      go (Err p) ex e = bad_got e
      go (Ok h) ex e =
          let i = header_inside s h.tag h.start h.len ex in
          let j : get_or s 0 0 ≡ u = header_tag s h.tag h.start h.len ex ∙ eqb-true h.tag u (tested_got (eqb h.tag u) _ _ a n e).0 in
          starts_first u s (omega (arith, i.0, i.1)) ∙ eq-eqb (get_or s 0 0) u j

pub field_of : {A B : Type 0} (d : List ℕ → Got A) (d' : List ℕ → Read B) (s : List ℕ) (x : A × B) → field_dec d d' s ≡ read x
    → (n : ℕ) × (d s ≡ got x.0 n) × (d' (drop n s) ≡ read x.1)
unfolding field_dec
field_of d d' s x q =
    let (a, n, eg, f) = on_got_read (d s) _ x q in
    let (b, eb, ex) = further_read n (λ b. (a, b)) (d' (drop n s)) x f in
    rw (← ex) (n, eg, eb)

pub only_of : {A : Type 0} (d : List ℕ → Got A) (s : List ℕ) (a : A) → only_dec d s ≡ read a → (n : ℕ) × (d s ≡ got a n)
unfolding only_dec mapped_dec
only_of d s a q =
    let (x, ex, ea) = renamed_read (λ x. x.0) (field_dec d end_dec s) a q in
    let (n, eg, f) = field_of d end_dec s x ex in
    rw (← ea) (n, eg)

pub branch_of_lem : {A B C : Type 0} (d : List ℕ → Got A) (test : A → Bool) (d' : List ℕ → Read B) (d'' : List ℕ → Read C) (s : List ℕ) (y : (A × B) ⊎ (A × C))
    → branch_dec d test d' d'' s ≡ read y → Branched d test d' s y
unfolding branch_dec branch_of
branch_of_lem {A} d test d' d'' s y q = let (a, n, eg, f) = on_got_read (d s) _ y q in go a n eg (test a) refl f
  where
    go : (a : A) (n : ℕ) → d s ≡ got a n → (b : Bool) → test a ≡ b → branch_of b a n d' d'' s ≡ read y → Branched d test d' s y
    go a n eg true t f =
        let (b, eb, ey) = further_read n (λ b. inl (a, b)) (d' (drop n s)) y f in
        rw (← ey) (n, eg, t, eb)
    go a n eg false t f =
        let (c, ec, ey) = further_read n (λ c. inr (a, c)) (d'' (drop n s)) y f in
        rw (← ey) (n, eg, t)

-- an element with a tag that fills its holder, around a list
pub filling : {A : Type 0} (u : ℕ) (d : List ℕ → Read A) (s : List ℕ) (a : A) → only_dec (tagged_dec inner u d) s ≡ read a → d (content_at s) ≡ read a
filling u d s a q = let (n, e) = only_of (tagged_dec inner u d) s a q in tagged_content inner u d s a n e

-- octets that were read are a content
pub held : (u : ℕ) (test : List ℕ → Bool) (s a : List ℕ) (n : ℕ) → tagged_dec own u (filled_dec (octets_read test)) s ≡ got a n → content_at s ≡ a
held u test s a n e = octets_same test (content_at s) a (tagged_content own u (filled_dec (octets_read test)) s a n e)
