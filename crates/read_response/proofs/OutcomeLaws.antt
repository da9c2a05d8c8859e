-- Laws of what a response is judged to be, by its size and what it reads as; and of one of another type: it is the envelope of a
-- success whose type is not the basic one, and every such envelope is judged so, whatever its string holds.
-- long_judged, unfit_judged, failed_judged, other_judged; other_exactly.
-- What is judged basic is in JudgedLaws; the definitions are in Parts.
-- Assumes nothing.
use Rattle.std.specs.Prelude.{ℕ, ◌-◌, ◌≤◌, ◌<◌, ◌↔◌, ◌≡◌, Bool, List, length, Ok, Err}
use Rattle.std.proofs.Math.Path.{refl, ap}
use Rattle.std.proofs.Common.{◌∙◌, ltb-true, ltb-false, lt-ltb, le-ltb}
use Rattle.std.proofs.Math.Bool.{true, false, cond}
use Rattle.std.proofs.Math.Dec.{ltb}
use Rattle.octets.specs.Octets.{Octets}
use Rattle.octets.specs.OctetsLaws.{octets_left, octets_right}
use Rattle.octets.specs.Same.{same_of}
use Rattle.octets.specs.SameLaws.{same_true, same_false}
use Rattle.element.specs.Places.{misfit}
use Rattle.element.specs.declared.Misfit.{Misfit}
use Rattle.element.specs.Form.{head_form, form_of}
use Rattle.content.specs.Oid.{oid_ok}
use Rattle.codec.specs.Codec.{Read, read, broke}
use Rattle.layout.specs.Reading.{Basic, failed, basic}
use Rattle.layout.specs.Names.{Envelope, failure, success}
use Rattle.layout.proofs.ElementKinds.{oid, enumerated}
use Rattle.layout.specs.Words as words
use Rattle.layout.proofs.Format.{basic_response, response_bytes, envelope_body, envelope}
use Rattle.layout.proofs.LimitsLaws.{success_limits}
use Rattle.layout.proofs.ReadLaws.{fits_64}
use Rattle.layout.specs.Read.{basic_type, Outcome, reads, other_type, unfit, inner_reading}
use Rattle.layout.proofs.Read.{envelope_reading, reading}
use Rattle.read_content.specs.ExpectLaws.{never}
use Rattle.read_response.specs.Parts.{judged_as, judged_of}
use Rattle.read_response.specs.declared.Unread.TheVariants as unread
use Rattle.read_response.specs.Judged.{Judged}

-- the content of an element that is octets is octets
form_content : (t : ℕ) (c : List ℕ) → Octets (form_of t c) → Octets c
unfolding form_of
form_content t c o = octets_right (head_form t (length c)) c o

-- the type and the string of an envelope that is octets are octets
success_octets : (t c : List ℕ) → Octets (envelope.enc (success t c)) → Octets t × Octets c
unfolding envelope envelope_body response_bytes oid
success_octets t c o =
    let inner = form_content 0xa0 _ (octets_right ((enumerated words.status_ok).enc 0) _ (form_content 0x30 _ o)) in
    let fields = form_content 0x30 _ inner in
    (form_content 0x06 t (octets_left (form_of 0x06 t) (form_of 0x04 c) fields), form_content 0x04 c (octets_right (form_of 0x06 t) (form_of 0x04 c) fields))

-- an envelope of a success with another type than the basic one
record Other (s : List ℕ) : Type 0 where
  kind : List ℕ
  string : List ℕ
  read : envelope.dec s ≡ read (success kind string)
  apart : kind ≡ basic_type → ⊥

-- a response of another type is one
other_from : (s : List ℕ) → reading s ≡ other_type → Other s
unfolding reading
other_from s e = by_envelope (envelope.dec s) refl e
  where
    by_basic : (at : ℕ) (x : Read Basic) → inner_reading at x ≡ other_type → Other s
    by_basic at (broke p) e = never (cc)
    by_basic at (read b) e = never (cc)

    by_type : (t c : List ℕ) → envelope.dec s ≡ read (success t c) → (b : Bool) → same_of t basic_type ≡ b
        → cond b (inner_reading (length s - length c) (basic_response.dec c)) other_type ≡ other_type → Other s
    by_type t c ev false k e = record { kind = t; string = c; read = ev; apart = same_false t basic_type k }
    by_type t c ev true k e = by_basic _ (basic_response.dec c) e

    by_envelope : (x : Read Envelope) → envelope.dec s ≡ x → envelope_reading s x ≡ other_type → Other s
    by_envelope (broke p) ev e = never (cc)
    by_envelope (read (failure n)) ev e = never (cc)
    by_envelope (read (success t c)) ev e = by_type t c ev (same_of t basic_type) refl e

-- and one is of another type
other_reads : (s t c : List ℕ) → envelope.dec s ≡ read (success t c) → (t ≡ basic_type → ⊥) → reading s ≡ other_type
unfolding reading
other_reads s t c ev n = rw ev (go (same_of t basic_type) refl)
  where
    go : (b : Bool) → same_of t basic_type ≡ b → cond b (inner_reading (length s - length c) (basic_response.dec c)) other_type ≡ other_type
    go false k = refl
    go true k = absurd (n (same_true t basic_type k))

-- ── what a response is judged to be, by its size and what it reads as ──
module _ (s : List ℕ) where
  -- a judgement that is not TooLong is the reading's, and the response has at most 16,384 octets
  read_judged : (j : Judged) → (Err unread.TooLong ≡ j → ⊥) → judged_of s ≡ j ↔ (length s ≤ 16384) × (judged_as (length s) (reading s) ≡ j)
  unfolding judged_of
  read_judged j n = (λ e. go (ltb 16384 (length s)) refl e, λ (le, r). rw (le-ltb 16384 (length s) le) r)
    where
      go : (k : Bool) → ltb 16384 (length s) ≡ k → cond k (Err unread.TooLong) (judged_as (length s) (reading s)) ≡ j
          → (length s ≤ 16384) × (judged_as (length s) (reading s) ≡ j)
      go true i e = absurd (n e)
      go false i e = (ltb-false 16384 (length s) i, e)

  -- longer than 16,384 octets
  pub long_judged : judged_of s ≡ Err unread.TooLong ↔ 16384 < length s
  unfolding judged_of judged_as
  long_judged = (λ e. go (ltb 16384 (length s)) refl e, λ h. rw (lt-ltb 16384 (length s) h))
    where
      on : (o : Outcome) → judged_as (length s) o ≡ Err unread.TooLong → ⊥
      on (reads (basic b)) e = never (cc)
      on (reads (failed n)) e = never (cc)
      on other_type e = never (cc)
      on (unfit p) e = never (cc)

      go : (k : Bool) → ltb 16384 (length s) ≡ k → cond k (Err unread.TooLong) (judged_as (length s) (reading s)) ≡ Err unread.TooLong → 16384 < length s
      go true i e = ltb-true 16384 (length s) i
      go false i e = absurd (on (reading s) e)

  -- not longer, and reading as nothing
  pub unfit_judged : (p : ℕ) → judged_of s ≡ Err (unread.Unfit (misfit p)) ↔ (length s ≤ 16384) × (reading s ≡ unfit p)
  unfolding judged_as
  unfit_judged p = (
    λ e. let (le, i) = (read_judged (Err (unread.Unfit (misfit p))) (λ (f : ◌≡◌ {A = Judged} (Err unread.TooLong) (Err (unread.Unfit (misfit p)))). never (cc))).0 e in (le, on (reading s) i),
    λ (le, r). (read_judged (Err (unread.Unfit (misfit p))) (λ (f : ◌≡◌ {A = Judged} (Err unread.TooLong) (Err (unread.Unfit (misfit p)))). never (cc))).1 (le, rw r),
  )
    where
      on : (o : Outcome) → judged_as (length s) o ≡ Err (unread.Unfit (misfit p)) → o ≡ unfit p
      on (reads (basic b)) e = never (cc)
      on (reads (failed n)) e = never (cc)
      on other_type e = never (cc)
      on (unfit r) e = let i : misfit r ≡ misfit p = cc in ap (λ (m : Misfit). unfit m.place) i

  -- not longer, and an error response
  pub failed_judged : (n : ℕ) → judged_of s ≡ Err (unread.Failed n) ↔ (length s ≤ 16384) × (reading s ≡ reads (failed n))
  unfolding judged_as
  failed_judged n = (
    λ e. let (le, i) = (read_judged (Err (unread.Failed n)) (λ (f : ◌≡◌ {A = Judged} (Err unread.TooLong) (Err (unread.Failed n))). never (cc))).0 e in (le, on (reading s) i),
    λ (le, r). (read_judged (Err (unread.Failed n)) (λ (f : ◌≡◌ {A = Judged} (Err unread.TooLong) (Err (unread.Failed n))). never (cc))).1 (le, rw r),
  )
    where
      on : (o : Outcome) → judged_as (length s) o ≡ Err (unread.Failed n) → o ≡ reads (failed n)
      on (reads (basic b)) e = never (cc)
      on (reads (failed m)) e = let i : m ≡ n = cc in ap (λ (k : ℕ). reads (failed k)) i
      on other_type e = never (cc)
      on (unfit p) e = never (cc)

  -- not longer, and of another type
  pub other_judged : judged_of s ≡ Err unread.OtherType ↔ (length s ≤ 16384) × (reading s ≡ other_type)
  unfolding judged_as
  other_judged = (
    λ e. let (le, i) = (read_judged (Err unread.OtherType) (λ (f : ◌≡◌ {A = Judged} (Err unread.TooLong) (Err unread.OtherType)). never (cc))).0 e in (le, on (reading s) i),
    λ (le, r). (read_judged (Err unread.OtherType) (λ (f : ◌≡◌ {A = Judged} (Err unread.TooLong) (Err unread.OtherType)). never (cc))).1 (le, rw r),
  )
    where
      on : (o : Outcome) → judged_as (length s) o ≡ Err unread.OtherType → o ≡ other_type
      on (reads (basic b)) e = never (cc)
      on (reads (failed n)) e = never (cc)
      on other_type e = refl
      on (unfit p) e = never (cc)

-- a response is of another type exactly where it is the form of a successful envelope, of at most 16,384 octets, whose type
-- keeps the OID rule and is not the basic one
pub other_exactly : (s : List ℕ) → Octets s
    → judged_of s ≡ Err unread.OtherType
    ↔ (length s ≤ 16384) × ((t c : List ℕ) × (s ≡ envelope.enc (success t c)) × (oid_ok t ≡ true) × (t ≡ basic_type → ⊥))
other_exactly s o = (
  λ e.
      let (le, r) = (other_judged s).0 e in
      let h = other_from s r in
      let (w, i) = envelope.sound s (success h.kind h.string) o h.read in
      (le, (h.kind, h.string, i, ((success_limits h.kind h.string).0 w).0.rule, h.apart)),
  λ (le, (t, c, i, k, n)).
      let (ot, oc) = success_octets t c (rw i at o) in
      let ok = (success_limits t c).1 (record { octets = ot; rule = k }, oc) in
      (other_judged s).1 (le, other_reads s t c (ap envelope.dec i ∙ envelope.complete (success t c) ok (fits_64 _ (rw i at le))) n),
)
