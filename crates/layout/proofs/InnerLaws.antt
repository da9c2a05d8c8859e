-- The string that a successful envelope holds: it is the last octets of the response, and no longer
-- than the response.
-- string_last, string_short, string_read.
-- Assumes nothing.
use Rattle.std.specs.Prelude.{ℕ, ◌≤◌, ◌≡◌, refl, Bool, true, false, cond, List, [], ◌++◌, ◌⊎◌, eqb, length, take, drop, Ok, Err}
use Rattle.std.proofs.Common.{arith, sym, ap, ◌∙◌, append_assoc, inl, inr, length-append, length-take, length-drop}
use Rattle.std.proofs.Math.Option.{none, some}
use Rattle.element.specs.Form.{head_form, form_of}
use Rattle.element.specs.Header.{header_of}
use Rattle.element.specs.Places.{HeaderRead}
use Rattle.codec.specs.Codec.{Read, read, Got, got}
use Rattle.codec.proofs.Outcome.{broke_read, bad_got, further_read, renamed_read, on_got_read, attach_got, tested_got}
use Rattle.codec.specs.Contents.{octets_read, filled_dec}
use Rattle.codec.specs.Tagged.{tagged_of, tagged_dec}
use Rattle.codec.specs.Mapped.{mapped_dec}
use Rattle.codec.specs.Sequence.{end_dec, field_dec, only_dec}
use Rattle.codec.specs.Branch.{branch_of, branch_dec}
use Rattle.layout.specs.Names.{Envelope, failure, success, envelope_of}
use Rattle.layout.proofs.ElementKinds.{oid, enumerated}
use Rattle.layout.specs.Words as words
use Rattle.layout.proofs.Format.{response_bytes, envelope_body, envelope}

-- ── the last octets ──
-- the octets end with these
abbrev Ends : List ℕ → List ℕ → Type 0
Ends c s = (x : List ℕ) × (s ≡ x ++ c)

ends_after : (y c s : List ℕ) → Ends c s → Ends c (y ++ s)
ends_after y c s e = (y ++ e.0, ap (λ (r : List ℕ). y ++ r) e.1 ∙ sym (append_assoc y e.0 c))

ends_form : (t : ℕ) (c s : List ℕ) → Ends c s → Ends c (form_of t s)
unfolding form_of
ends_form t c s e = ends_after (head_form t (length s)) c s e

-- the form of a successful envelope ends with its string
pub string_last : (t c : List ℕ) → (x : List ℕ) × (envelope.enc (success t c) ≡ x ++ c)
unfolding envelope envelope_body response_bytes
string_last t c =
    let written = ends_form 0x04 c c ([], refl) in
    let bytes = ends_form 0x30 c _ (ends_after (oid.enc t) c _ written) in
    ends_form 0x30 c _ (ends_after ((enumerated words.status_ok).enc 0) c _ (ends_form 0xa0 c _ bytes))

pub string_short : (t c : List ℕ) → length c ≤ length (envelope.enc (success t c))
string_short t c = let e = string_last t c in rw e.1 (simp length-append (omega arith))

-- ── no longer, whatever is read ──
-- a size that what is read of a list never has beyond the list's
abbrev Small : {A : Type 0} → (A → ℕ) → (List ℕ → Read A) → Type 0
Small {A} size d = (s : List ℕ) (a : A) → d s ≡ read a → size a ≤ length s

abbrev SmallHead : {A : Type 0} → (A → ℕ) → (List ℕ → Got A) → Type 0
SmallHead {A} size d = (s : List ℕ) (a : A) (n : ℕ) → d s ≡ got a n → size a ≤ length s

small_octets : (test : List ℕ → Bool) → Small length (filled_dec (octets_read test))
unfolding filled_dec octets_read
small_octets test s a q = go (test s) q
  where
    go : (b : Bool) → filled_dec (λ c. cond b (some c) none) s ≡ read a → length a ≤ length s
    go true q = let i : s ≡ a = cc in omega (arith, ap length i)
    go false q = broke_read q

small_tagged : {A : Type 0} (size : A → ℕ) (at : ℕ → ℕ → ℕ) (t : ℕ) (d : List ℕ → Read A) → Small size d → SmallHead size (tagged_dec at t d)
unfolding tagged_dec
small_tagged size at t d k s a n q = go (header_of s) q
  where
    go : (x : HeaderRead) → tagged_of at t d s x ≡ got a n → size a ≤ length s
    go (Err p) q = bad_got q
    go (Ok h) q =
        let v = tested_got (eqb h.tag t) _ 0 a n q in
        let c = take h.len (drop h.start s) in
        let i = k c a (attach_got (at h.start) _ (d c) a n v.1).0 in
        omega (arith, length-take h.len (drop h.start s), length-drop h.start s)

small_field : {A B : Type 0} (size : A × B → ℕ) (d : List ℕ → Got A) (d' : List ℕ → Read B) → ((a : A) → Small (λ b. size (a, b)) d')
    → Small size (field_dec d d')
unfolding field_dec
small_field size d d' k s x q =
    let (a, n, eg, f) = on_got_read (d s) _ x q in
    let (b, eb, ex) = further_read n (λ b. (a, b)) (d' (drop n s)) x f in
    let i = k a (drop n s) b eb in
    rw (← ex) (omega (arith, length-drop n s))

small_mapped : {A B : Type 0} (size : B → ℕ) (f : A → B) (d : List ℕ → Read A) → Small (λ a. size (f a)) d → Small size (mapped_dec f d)
unfolding mapped_dec
small_mapped size f d k s b q = let (a, ea, eb) = renamed_read f (d s) b q in rw (← eb) (k s a ea)

small_only : {A : Type 0} (size : A → ℕ) (d : List ℕ → Got A) → SmallHead size d → Small size (only_dec d)
unfolding only_dec mapped_dec field_dec
small_only size d k s a q =
    let (x, ex, ea) = renamed_read (λ x. x.0) (field_dec d end_dec s) a q in
    let (b, n, eg, f) = on_got_read (d s) _ x ex in
    let (u, eu, ey) = further_read n (λ u. (b, u)) (end_dec (drop n s)) x f in
    rw (← ea, ← ey) (k s b n eg)

small_branch : {A B C : Type 0} (size : (A × B) ⊎ (A × C) → ℕ) (d : List ℕ → Got A) (test : A → Bool) (d' : List ℕ → Read B) (d'' : List ℕ → Read C)
    → ((a : A) → Small (λ b. size (inl (a, b))) d') → ((a : A) → Small (λ c. size (inr (a, c))) d'') → Small size (branch_dec d test d' d'')
unfolding branch_dec branch_of
small_branch {A} size d test d' d'' k l s x q = let (a, n, eg, f) = on_got_read (d s) _ x q in go a n (test a) f
  where
    go : (a : A) (n : ℕ) (b : Bool) → branch_of b a n d' d'' s ≡ read x → size x ≤ length s
    go a n true f =
        let (y, ey, ex) = further_read n (λ y. inl (a, y)) (d' (drop n s)) x f in
        let i = k a (drop n s) y ey in
        rw (← ex) (omega (arith, length-drop n s))
    go a n false f =
        let (y, ey, ex) = further_read n (λ y. inr (a, y)) (d'' (drop n s)) x f in
        let i = l a (drop n s) y ey in
        rw (← ex) (omega (arith, length-drop n s))

-- how long the string is that an envelope holds
abbrev string_size : Envelope → ℕ
string_size (success t c) = length c
string_size (failure n) = 0

small_bytes : Small (λ x. length x.1) (only_dec response_bytes.dec)
unfolding response_bytes
small_bytes =
    small_only _ _ (small_tagged _ _ _ _ (small_only _ _ (small_tagged _ _ _ _
    (small_field (λ x. length x.1) oid.dec _ (λ a. small_only length _ (small_tagged length _ _ _ (small_octets words.anything)))))))

-- the string of what is read is no longer than the response
pub string_read : (s t c : List ℕ) → envelope.dec s ≡ read (success t c) → length c ≤ length s
unfolding envelope envelope_body
string_read s t c q =
    small_only string_size _ (small_tagged string_size _ _ _ (small_mapped string_size envelope_of _
    (small_branch (λ x. string_size (envelope_of x)) _ _ _ end_dec (λ a. small_bytes) (λ a r u e. omega arith)))) s (success t c) q
