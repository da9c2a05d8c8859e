-- Laws of the octets of a CertID's content: a CertID matches exactly where its octets are those of an
-- algorithm that is known, and of these hashes and this serial.
-- octets_read_lem, octets_match.
-- The definitions are in CertForm, and the algorithms that a test knows in Known. Hashes have any length,
-- and the algorithms are any list. Assumes nothing.
use Rattle.std.specs.Prelude.{ℕ, ◌^◌, ◌≤◌, ◌<◌, ◌≡◌, Bool, false, ◌||◌, ◌⊎◌, length}
use Rattle.std.proofs.Common.{arith, sym, ◌∙◌}
use Rattle.std.proofs.Math.Path.{refl, ap}
use Rattle.std.proofs.Math.Bool.{true}
use mathlib.Core.List.{List, [], ◌∷◌, ◌++◌}
use Rattle.std.proofs.Math.Logic.{inl, inr}
use Rattle.std.proofs.Math.ListN.{length-append}
use Rattle.octets.specs.Octets.{Octets}
use Rattle.octets.specs.Number.{value_of}
use Rattle.octets.specs.Same.{same_of}
use Rattle.octets.specs.SameLaws.{impossible, same_true, same_refl}
use Rattle.element.specs.Form.{form_of}
use Rattle.content.specs.Serial.{serial_ok}
use Rattle.content.specs.SerialLaws.{serial_sound, serial_most}
use Rattle.codec.specs.Codec.{read}
use Rattle.layout.specs.Reading.{Algorithm, CertId}
use Rattle.layout.specs.Limits.{AlgorithmOk, HashOk}
use Rattle.layout.proofs.PartLimitsLaws.{cert_limits}
use Rattle.layout.proofs.ElementKinds as kinds
use Rattle.layout.proofs.EntryFormat.{algorithm_identifier, cert_body, cert_id}
use Rattle.rule_matching.specs.Match.{matches}
use Rattle.rule_matching.specs.Matched.{Matched}
use Rattle.rule_matching.proofs.Matched.{match_exactly}
use Rattle.rule_matching.specs.CertForm.{card_form, is_card_octets}
use Rattle.rule_matching.specs.Known.{Listed, Knows, heads_of}
use Rattle.rule_matching.proofs.Known.{form_small}

-- ---- tests

either : (t u : Bool) → t || u ≡ true → (t ≡ true) ⊎ (u ≡ true)
either true u e = inl refl
either false u e = inr e

second : (t u : Bool) → u ≡ true → t || u ≡ true
second true u e = refl
second false u e = e

one_answer : (t u : Bool) → (t ≡ true → u ≡ true) → (u ≡ true → t ≡ true) → t ≡ u
one_answer true u f g = sym (f refl)
one_answer false true f g = g refl
one_answer false false f g = refl

module _ (name key serial : List ℕ) where
  -- the octets with an algorithm and these fields
  abbrev form_with : Algorithm → List ℕ
  form_with a = card_form (algorithm_identifier.enc a) name key serial

  -- such octets have an algorithm of the list
  heads_listed : (l : List Algorithm) (part : List ℕ) → is_card_octets (heads_of l) name key serial part ≡ true
      → (a : Algorithm) × Listed a l × (part ≡ form_with a)
  unfolding is_card_octets
  heads_listed [] part e = impossible e
  heads_listed (a ∷ l) part e = go (λ u. heads_listed l part u) (either (same_of part (form_with a)) _ e)
    where
      go : (is_card_octets (heads_of l) name key serial part ≡ true → (b : Algorithm) × Listed b l × (part ≡ form_with b))
          → (same_of part (form_with a) ≡ true) ⊎ (is_card_octets (heads_of l) name key serial part ≡ true)
          → (b : Algorithm) × Listed b (a ∷ l) × (part ≡ form_with b)
      go rest (inl t) = (a, inl refl, same_true part (form_with a) t)
      go rest (inr u) = let (b, m, q) = rest u in (b, inr m, q)

  listed_heads : (l : List Algorithm) (a : Algorithm) → Listed a l → is_card_octets (heads_of l) name key serial (form_with a) ≡ true
  unfolding is_card_octets
  listed_heads [] a m = absurd m
  listed_heads (b ∷ l) a (inl i) = rw (i, same_refl (form_with b))
  listed_heads (b ∷ l) a (inr m) = second (same_of (form_with a) (form_with b)) _ (listed_heads l a m)

  -- the CertID with an algorithm and these fields
  abbrev cert_with : Algorithm → CertId
  cert_with a = record { algorithm = a; name_hash = name; key_hash = key; serial = value_of serial }

  module _ (n : HashOk name) (k : HashOk key) (o : Octets serial) (q : serial_ok serial ≡ true) where
    -- it has those octets
    with_form : (a : Algorithm) → cert_body.enc (cert_with a) ≡ form_with a
    unfolding cert_body kinds.hash kinds.serial card_form
    with_form a =
        ap (λ (s : List ℕ). algorithm_identifier.enc a ++ (form_of 0x04 name ++ (form_of 0x04 key ++ form_of 0x02 s))) (sym (serial_sound serial o q).1)

    -- is within the limits
    with_ok : (a : Algorithm) → AlgorithmOk a → cert_body.ok (cert_with a)
    unfolding cert_id
    with_ok a h = (cert_limits (cert_with a)).1 record { algorithm = h; name_hash = n; key_hash = k; serial = (serial_sound serial o q).0 }

    -- and not too long
    with_small : (a : Algorithm) → length (algorithm_identifier.enc a) ≤ 1024 → length (form_with a) < 2 ^ 64
    unfolding card_form
    with_small a h =
        let x = form_small 0x04 name (omega (arith, n.most)) in
        let y = form_small 0x04 key (omega (arith, k.most)) in
        let z = form_small 0x02 serial (omega (arith, serial_most serial q)) in
        simp length-append (omega (arith, n.most, k.most, serial_most serial q))

    -- such octets read as that CertID
    with_read : (a : Algorithm) → AlgorithmOk a → length (algorithm_identifier.enc a) ≤ 1024 → cert_body.dec (form_with a) ≡ read (cert_with a)
    with_read a h z = rw (← with_form a) (cert_body.complete (cert_with a) (with_ok a h) (rw (with_form a) (with_small a z)))

    -- octets of an algorithm that is known and of these fields read as a CertID that matches
    pub octets_read_lem : (known : Algorithm → Bool) (l : List Algorithm) → Knows known l
        → (part : List ℕ) → is_card_octets (heads_of l) name key serial part ≡ true
        → (c : CertId) × (cert_body.dec part ≡ read c) × (matches known name key (value_of serial) c ≡ true)
    octets_read_lem known l w part t =
        let (a, m, i) = heads_listed l part t in
        let f = w.fits a m in
        let e = rw (← i) at (with_read a f.0 f.1) in
        let v : Matched known name key (value_of serial) (cert_with a) = record { algorithm = w.knows a m; name_hash = refl; key_hash = refl; serial = refl } in
        (cert_with a, e, (match_exactly known name key (value_of serial) (cert_with a)).1 v)

    module _ (known : Algorithm → Bool) (l : List Algorithm) (w : Knows known l) (part : List ℕ) (c : CertId)
        (p : Octets part) (e : cert_body.dec part ≡ read c) where
      octets_then : is_card_octets (heads_of l) name key serial part ≡ true → matches known name key (value_of serial) c ≡ true
      octets_then t =
          let (d, i, m) = octets_read_lem known l w part t in
          let g : d ≡ c = cc in
          rw (← g) m

      match_then : matches known name key (value_of serial) c ≡ true → is_card_octets (heads_of l) name key serial part ≡ true
      match_then t =
          let m = (match_exactly known name key (value_of serial) c).0 t in
          let g : c ≡ cert_with c.algorithm =
          λ i. record { algorithm = c.algorithm; name_hash = m.name_hash i; key_hash = m.key_hash i; serial = m.serial i } in
          let j : part ≡ form_with c.algorithm = (cert_body.sound part c p e).1 ∙ ap cert_body.enc g ∙ with_form c.algorithm in
          rw j (listed_heads l c.algorithm (w.only c.algorithm m.algorithm))

      -- a CertID matches exactly where its octets are those of an algorithm that is known and of these fields
      pub octets_match : is_card_octets (heads_of l) name key serial part ≡ matches known name key (value_of serial) c
      octets_match = one_answer _ _ octets_then match_then
