-- Laws of another version than 0: a signed part that begins with A0 around an INTEGER of any other content does
-- not fit, whatever follows, and the place is that INTEGER.
-- signed_as, basic_as, integer_on; another_place, another_stands.
-- What a version is that fits is in VersionLaws.
-- Assumes nothing.
use Rattle.std.specs.Prelude.{ℕ, ◌+◌, ◌-◌, ◌^◌, ◌≤◌, ◌<◌, ◌≡◌, refl, Bool, true, false, drop}
use native.Mathlib.Omega.{arith}
use Rattle.std.proofs.Common.{sym, ◌∙◌, drop_at, eq-eqb}
use Rattle.std.proofs.Math.Path.{ap}
use mathlib.Core.List.{List, [], ◌∷◌, ◌++◌, append_assoc, append-nil}
use Rattle.std.proofs.Math.ListN.{length, length-append}
use Rattle.octets.specs.Octets.{Octets}
use Rattle.octets.specs.OctetsLaws.{octets_right}
use Rattle.octets.specs.Same.{same_of}
use Rattle.octets.specs.SameLaws.{same_true, same_refl}
use Rattle.element.specs.Tag.{tag_ok}
use Rattle.element.specs.Form.{head_form, head_size, form_of}
use Rattle.element.specs.FormLaws.{form_length}
use Rattle.codec.specs.Codec.{Read, read, broke, bad}
use Rattle.codec.specs.Contents.{fixed_read, filled_dec}
use Rattle.codec.proofs.PartLaws.{form_found, form_content, small_left, small_content}
use Rattle.codec.specs.Tagged.{inner, tagged_dec}
use Rattle.codec.specs.Mapped.{mapped_dec}
use Rattle.codec.specs.Sequence.{field_dec, only_dec}
use Rattle.codec.specs.Option.{option_of, option_dec}
use Rattle.codec.proofs.Starts.{starts_append}
use Rattle.codec.proofs.StartsLaws.{form_starts}
use Rattle.layout.specs.Names.{success}
use Rattle.layout.proofs.ElementKinds.{tag_02, tag_30, tag_a0}
use Rattle.layout.proofs.Format.{v1, version, signed_body, response_data, basic_body, basic_response, envelope}
use Rattle.layout.proofs.InnerLaws.{string_last}
use Rattle.layout.proofs.LimitsLaws.{success_limits}
use Rattle.layout.specs.Read.{basic_type, unfit}
use Rattle.layout.proofs.Read.{reading}
use Rattle.layout.proofs.ReadLaws.{fits_64, type_oid}

-- an element whose content is wrong at a place is wrong at that place after its header
held : {A : Type 0} (t : ℕ) (d : List ℕ → Read A) (c r : List ℕ) (p : ℕ) → tag_ok t ≡ true → length c < 2 ^ 64 → d c ≡ broke p
    → tagged_dec inner t d (form_of t c ++ r) ≡ bad (head_size (length c) + p)
unfolding tagged_dec
held t d c r p k lt e = rw (form_found t c r k lt, eq-eqb t t refl, form_content t c r, e)

-- three headers, one inside the other, and what stands behind them
nested : (h k l i z x y : List ℕ) → h ++ ((k ++ ((l ++ (i ++ z)) ++ x)) ++ y) ≡ (h ++ (k ++ l)) ++ (i ++ (z ++ (x ++ y)))
nested h k l i z x y = simp append_assoc

module _ (w z x y : List ℕ) where
  -- the content of a signed part whose version is an INTEGER of content w; z follows that in the A0, and x the A0
  abbrev pub signed_as : List ℕ
  signed_as = form_of 0xa0 (form_of 0x02 w ++ z) ++ x

  -- the content of a basic response with this signed part; y follows it
  abbrev pub basic_as : List ℕ
  basic_as = form_of 0x30 signed_as ++ y

  -- from the INTEGER on
  abbrev pub integer_on : List ℕ
  integer_on = form_of 0x02 w ++ (z ++ (x ++ y))

  module _ (other : w ≡ 0x00 ∷ [] → ⊥) where
    not_nought : (b : Bool) → same_of (0x00 ∷ []) w ≡ b → b ≡ false
    not_nought true i = absurd (other (sym (same_true (0x00 ∷ []) w i)))
    not_nought false i = refl

    integer_wrong : length w < 2 ^ 64 → v1.dec (form_of 0x02 w ++ z) ≡ bad 0
    unfolding v1 tagged_dec filled_dec fixed_read
    integer_wrong lt = rw (form_found 0x02 w z tag_02 lt, form_content 0x02 w z, not_nought (same_of (0x00 ∷ []) w) refl)

    version_wrong : length (form_of 0x02 w ++ z) < 2 ^ 64 → version.dec signed_as ≡ bad (head_size (length (form_of 0x02 w ++ z)))
    unfolding version only_dec mapped_dec field_dec
    version_wrong lt =
        let small : length w < 2 ^ 64 = omega (arith, length-append (form_of 0x02 w) z, form_length 0x02 w) in
        let start : head_size (length (form_of 0x02 w ++ z)) + 0 ≡ head_size (length (form_of 0x02 w ++ z)) = omega arith in
        held 0xa0 (only_dec v1.dec) (form_of 0x02 w ++ z) x 0 tag_a0 lt (rw (integer_wrong small)) ∙ ap bad start

    -- where the INTEGER stands in the signed part's content, and in the basic response's
    abbrev in_signed : ℕ
    in_signed = head_size (length (form_of 0x02 w ++ z))

    abbrev in_basic : ℕ
    in_basic = head_size (length signed_as) + in_signed

    module _ (lt : length (form_of 0x30 basic_as) < 2 ^ 64) where
      -- what each holds is small enough
      basic_small : length basic_as < 2 ^ 64
      basic_small = small_content 0x30 basic_as lt

      signed_small : length signed_as < 2 ^ 64
      signed_small = small_content 0x30 signed_as (small_left (form_of 0x30 signed_as) y basic_small)

      version_small : length (form_of 0x02 w ++ z) < 2 ^ 64
      version_small = small_content 0xa0 (form_of 0x02 w ++ z) (small_left (form_of 0xa0 (form_of 0x02 w ++ z)) x signed_small)

      signed_wrong : signed_body.dec signed_as ≡ broke in_signed
      unfolding signed_body mapped_dec option_dec option_of
      signed_wrong =
          rw (
            starts_append 0xa0 (form_of 0xa0 (form_of 0x02 w ++ z)) x (form_starts 0xa0 (form_of 0x02 w ++ z)),
            version_wrong version_small,
          )

      basic_wrong : basic_body.dec basic_as ≡ broke in_basic
      unfolding basic_body response_data mapped_dec field_dec
      basic_wrong = rw (held 0x30 signed_body.dec signed_as y in_signed tag_30 signed_small signed_wrong)

      string_wrong : basic_response.dec (form_of 0x30 basic_as) ≡ broke (head_size (length basic_as) + in_basic)
      unfolding basic_response only_dec mapped_dec field_dec
      string_wrong = rw (rw append-nil at (held 0x30 basic_body.dec basic_as [] in_basic tag_30 basic_small basic_wrong))

    -- how many octets stand before the INTEGER
    before_integer : length (form_of 0x30 basic_as) ≡ head_size (length basic_as) + in_basic + length integer_on
    before_integer =
        omega (
          arith,
          form_length 0x30 basic_as,
          length-append (form_of 0x30 signed_as) y,
          form_length 0x30 signed_as,
          length-append (form_of 0xa0 (form_of 0x02 w ++ z)) x,
          form_length 0xa0 (form_of 0x02 w ++ z),
          length-append (form_of 0x02 w) z,
          length-append (form_of 0x02 w) (z ++ (x ++ y)),
          length-append z (x ++ y),
          length-append x y,
        )

    -- and which octets these are
    string_as : form_of 0x30 basic_as
        ≡ (head_form 0x30 (length basic_as) ++ (head_form 0x30 (length signed_as) ++ head_form 0xa0 (length (form_of 0x02 w ++ z)))) ++ integer_on
    unfolding form_of
    string_as =
        nested (head_form 0x30 (length basic_as)) (head_form 0x30 (length signed_as)) (head_form 0xa0 (length (form_of 0x02 w ++ z))) (form_of 0x02 w) z x y

    -- a response of at most 16,384 octets that has another version does not fit, and its INTEGER is the place
    pub another_place : (s : List ℕ) → Octets s → length s ≤ 16384 → s ≡ envelope.enc (success basic_type (form_of 0x30 basic_as))
        → reading s ≡ unfit (length s - length integer_on)
    unfolding reading
    another_place s o le i =
        let c = form_of 0x30 basic_as in
        let (p, e) = string_last basic_type c in
        let short : length c ≤ length s = rw (i ∙ e) (simp length-append (omega arith)) in
        let ok = (success_limits basic_type c).1 (type_oid, octets_right p c (rw (i ∙ e) at o)) in
        let found : envelope.dec s ≡ read (success basic_type c) = ap envelope.dec i ∙ envelope.complete (success basic_type c) ok (fits_64 _ (rw i at le)) in
        let at : length s - length c + (head_size (length basic_as) + in_basic) ≡ length s - length integer_on = omega (arith, before_integer) in
        rw (found, same_refl basic_type, string_wrong (fits_64 _ (omega arith))) (ap unfit at)

    -- and there the INTEGER stands
    pub another_stands : (s : List ℕ) → s ≡ envelope.enc (success basic_type (form_of 0x30 basic_as)) → drop (length s - length integer_on) s ≡ integer_on
    another_stands s i =
        let (p, e) = string_last basic_type (form_of 0x30 basic_as) in
        let before = p ++ (head_form 0x30 (length basic_as) ++ (head_form 0x30 (length signed_as) ++ head_form 0xa0 (length (form_of 0x02 w ++ z)))) in
        let j : s ≡ before ++ integer_on = i ∙ e ∙ ap (λ (c : List ℕ). p ++ c) string_as ∙ sym (append_assoc p _ integer_on) in
        let n : length before ≡ length s - length integer_on = omega (arith, length-append before integer_on, ap length j) in
        ap (drop (length s - length integer_on)) j ∙ drop_at before integer_on (length s - length integer_on) n
