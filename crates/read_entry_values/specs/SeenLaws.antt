-- Laws of the values of an entry: those looked up in the octets of an entry are those of its reading.
-- times_short, rest_short, seen_inside, seen_entry. Its extensions are in SeenEndLaws.
-- The definitions are in Looks. Assumes nothing.
use Rattle.std.specs.Prelude.{ℕ, ◌+◌, ◌^◌, ◌≤◌, ◌<◌, ◌≡◌, List, [], ◌++◌, Option, Some, None, Ok, Err, get_or, take, drop}
use Rattle.std.proofs.Common.{arith, sym, ◌∙◌, append-nil, length-drop}
use Rattle.std.proofs.Math.Path.{refl, ap}
use Rattle.std.proofs.Math.Option.{none, some}
use Rattle.std.proofs.Math.Option as math
use Rattle.std.proofs.Math.ListN.{length}
use Rattle.std.proofs.Math.Seq.{drop_at}
use Rattle.element.specs.Places.{Spot, span}
use Rattle.element.specs.Length.{length_form}
use Rattle.element.specs.Form.{head_form, head_size, form_of}
use Rattle.element.specs.FormLaws.{head_length, form_length, form_before}
use Rattle.element.specs.Header.{header_of}
use Rattle.calendar.specs.Time.{time_form}
use Rattle.calendar.specs.Time as calendar
use Rattle.calendar.specs.TimeLaws.{time_complete}
use Rattle.calendar.specs.Plain.{plain_seconds}
use Rattle.calendar.specs.PlainLaws.{plain_time}
use Rattle.codec.specs.Option.{option_enc, OptionOk}
use Rattle.codec.proofs.PartLaws.{form_found, small_left, small_content}
use Rattle.layout.specs.Reading.{Status, good, revoked, unknown, Extension, Entry}
use Rattle.layout.proofs.ElementKinds.{time, tag_30}
use Rattle.layout.specs.Limits.{TimeOk, StatusOk, EntryOk}
use Rattle.layout.proofs.Format.{cert_body, cert_id, cert_status, good_status, unknown_status, revoked_status, revoked_body, reason, extensions, next_update, single_body, single_response}
use Rattle.read_content.specs.Spots.{expected}
use Rattle.read_entry_values.specs.declared.Standing.TheVariants as standing
use Rattle.read_entry_values.specs.Looks.{standing_of, until_of, extensions_size, entry_seen, inside_spot, behind_spot, inside_sequence, behind_sequence, why_in, standing_in, times_in, until_in, rest_size, view_of, seen_in}

-- ── the parts that are looked up ──
-- a sequence at the head: what follows its header, and what follows it
module _ (c r : List ℕ) (z : length c < 2 ^ 64) where
  spot_is : expected 0x30 (header_of (form_of 0x30 c ++ r)) ≡ Ok (span (head_size (length c)) (length c))
  unfolding expected
  spot_is = rw (form_found 0x30 c r tag_30 z)

  inside_form : inside_sequence (form_of 0x30 c ++ r) ≡ c ++ r
  unfolding inside_sequence
  inside_form =
      ap (inside_spot (form_of 0x30 c ++ r)) spot_is
      ∙ ap (drop (head_size (length c))) (form_before 0x30 c r)
      ∙ drop_at (head_form 0x30 (length c)) (c ++ r) (head_size (length c)) (head_length 0x30 (length c))

  behind_form : behind_sequence (form_of 0x30 c ++ r) ≡ r
  unfolding behind_sequence
  behind_form = ap (behind_spot (form_of 0x30 c ++ r)) spot_is ∙ drop_at (form_of 0x30 c) r (head_size (length c) + length c) (form_length 0x30 c)

-- the seconds of a time's own octets
seconds_back : (t : ℕ) → TimeOk t → plain_seconds (time_form t) ≡ t
seconds_back t h = plain_time (time_form t) t (time_complete t h)

-- a status, and what follows it
module _ (r : List ℕ) where
  times_form : (x : Status) → times_in (cert_status.enc x ++ r) ≡ r
  unfolding times_in cert_status good_status unknown_status revoked_status revoked_body reason time form_of length_form time_form calendar.moment_form
  times_form good = refl
  times_form unknown = refl
  times_form (revoked t none) = refl
  times_form (revoked t (some n)) = refl

  standing_form : (x : Status) → StatusOk x → standing_in (cert_status.enc x ++ r) ≡ standing_of x
  unfolding standing_in why_in cert_status good_status unknown_status revoked_status revoked_body reason time form_of length_form time_form calendar.moment_form
  standing_form good h = refl
  standing_form unknown h = refl
  standing_form (revoked t none) h = ap (λ (n : ℕ). standing.Revoked n None) (seconds_back t h.time)
  standing_form (revoked t (some n)) h = ap (λ (k : ℕ). standing.Revoked k (Some n)) (seconds_back t h.time)

-- thisUpdate, and what follows it
this_form : (t : ℕ) (r : List ℕ) → TimeOk t → plain_seconds (take 15 (drop 2 (time.enc t ++ r))) ≡ t
unfolding time form_of length_form time_form calendar.moment_form
this_form t r h = seconds_back t h

-- nextUpdate or none, then extensions or none
module _ (t : ℕ) where
  abbrev last : math.Option ℕ → math.Option (List Extension) → List ℕ
  last u x = time.enc t ++ (option_enc next_update.enc u ++ (option_enc extensions.enc x ++ []))

  until_form : (u : math.Option ℕ) (x : math.Option (List Extension)) → OptionOk TimeOk u → until_in (last u x) ≡ until_of u
  unfolding until_in time next_update extensions form_of length_form time_form calendar.moment_form
  until_form none none h = refl
  until_form none (some l) h = refl
  until_form (some n) x h = ap Some (seconds_back n h)

  rest_form : (u : math.Option ℕ) (x : math.Option (List Extension)) → rest_size (last u x) (until_of u) ≡ extensions_size x
  unfolding rest_size time next_update form_of length_form time_form calendar.moment_form
  rest_form none x = ap length (append-nil (option_enc extensions.enc x))
  rest_form (some n) x = ap length (append-nil (option_enc extensions.enc x))

-- ── the entry ──
-- what is left of a part is no longer than the part
inside_short : (s : List ℕ) → length (inside_sequence s) ≤ length s
unfolding inside_sequence
inside_short s = go (expected 0x30 (header_of s))
  where
    go : (x : Spot) → length (inside_spot s x) ≤ length s
    go (Ok v) = omega (arith, length-drop v.start s)
    go (Err p) = omega arith

behind_short : (s : List ℕ) → length (behind_sequence s) ≤ length s
unfolding behind_sequence
behind_short s = go (expected 0x30 (header_of s))
  where
    go : (x : Spot) → length (behind_spot s x) ≤ length s
    go (Ok v) = omega (arith, length-drop (v.start + v.len) s)
    go (Err p) = omega arith

-- so its times are
pub times_short : (s : List ℕ) → length (times_in (behind_sequence (inside_sequence s))) ≤ length s
unfolding times_in
times_short s =
    let r = behind_sequence (inside_sequence s) in
    omega (arith, length-drop (2 + get_or r 1 0) r, behind_short (inside_sequence s), inside_short s)

pub rest_short : (s : List ℕ) (u : Option ℕ) → rest_size s u ≤ length s
unfolding rest_size
rest_short s (Some n) = omega (arith, length-drop 36 s)
rest_short s None = omega (arith, length-drop 17 s)

-- where extensions are seen lies in the entry, to its end
pub seen_inside : (s : List ℕ) → (seen_in s).from + (seen_in s).len ≡ length s
unfolding seen_in view_of
seen_inside s =
    let t = times_in (behind_sequence (inside_sequence s)) in
    omega (arith, rest_short t (until_in t), times_short s)

-- what follows the CertID of an entry
module _ (e : Entry) where
  abbrev certificate : List ℕ
  certificate = form_of 0x30 (cert_body.enc e.cert)

  abbrev times : List ℕ
  times = last e.this_update e.next_update e.extensions

  abbrev body : List ℕ
  body = certificate ++ (cert_status.enc e.status ++ times)

  entry_form : single_response.enc e ≡ form_of 0x30 body
  unfolding single_response single_body cert_id
  entry_form = refl

  status_part : length (single_response.enc e) < 2 ^ 64 → behind_sequence (inside_sequence (single_response.enc e)) ≡ cert_status.enc e.status ++ times
  status_part z =
      let y : length (form_of 0x30 body) < 2 ^ 64 = rw entry_form at z in
      let long = small_content 0x30 body y in
      let short = small_content 0x30 (cert_body.enc e.cert) (small_left certificate (cert_status.enc e.status ++ times) long) in
      ap (λ (s : List ℕ). behind_sequence (inside_sequence s)) (entry_form ∙ sym (append-nil (form_of 0x30 body)))
      ∙ ap behind_sequence (inside_form body [] long ∙ append-nil body)
      ∙ behind_form (cert_body.enc e.cert) (cert_status.enc e.status ++ times) short

  seen_by : EntryOk e → (s : List ℕ) → behind_sequence (inside_sequence s) ≡ cert_status.enc e.status ++ times → seen_in s ≡ entry_seen (length s) e
  unfolding seen_in view_of
  seen_by h s i =
      rw (
        i,
        standing_form times e.status h.status,
        times_form times e.status,
        this_form e.this_update (option_enc next_update.enc e.next_update ++ (option_enc extensions.enc e.extensions ++ [])) h.this_update,
        until_form e.this_update e.next_update e.extensions h.next_update,
        rest_form e.this_update e.next_update e.extensions,
      )

  -- the values looked up in an entry's octets are those of its reading
  pub seen_entry : EntryOk e → length (single_response.enc e) < 2 ^ 64 → seen_in (single_response.enc e) ≡ entry_seen (length (single_response.enc e)) e
  seen_entry h z = seen_by h (single_response.enc e) (status_part z)
