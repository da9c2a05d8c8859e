-- Laws of the request's octets: how many they are, the parts that they are made of, and that the layout's codecs read
-- from them the CertID that is asked about. Hashes have any length, and the algorithm is any.
-- card_length, form_length, form_parts; with_form, with_read.
-- The definitions are in Request, Heads and RequestFormat. Assumes nothing.
use Prim.Native.Nat.{ℕ, ◌+◌, ◌^◌, ◌≤◌, ◌<◌}
use native.Mathlib.Omega.{arith}
use Rattle.std.specs.Prelude.{◌≡◌, true}
use Rattle.std.proofs.Common.{sym, ◌∙◌}
use Rattle.std.proofs.Math.Path.{ap}
use mathlib.Core.List.{List, ◌++◌, append_assoc}
use Rattle.std.proofs.Math.ListN.{length, length-append}
use Rattle.octets.specs.Octets.{Octets}
use Rattle.element.specs.Form.{head_form, form_of}
use Rattle.element.specs.FormLaws as forms
use Rattle.element.specs.FormLaws.{form_before}
use Rattle.content.specs.Serial.{serial_ok}
use Rattle.content.specs.SerialLaws.{serial_sound, serial_most}
use Rattle.codec.specs.Codec.{read}
use Rattle.layout.specs.Reading.{Algorithm}
use Rattle.layout.specs.Limits.{AlgorithmOk, HashOk}
use Rattle.layout.proofs.PartLimitsLaws.{cert_limits}
use Rattle.layout.proofs.ElementKinds as kinds
use Rattle.layout.proofs.EntryFormat.{algorithm_identifier, cert_body, cert_id}
use Rattle.rule_matching.specs.CertForm.{card_form}
use Rattle.request.specs.Request.{request_form}
use Rattle.request.specs.RequestFormat.{single_request, request_list, tbs_request, ocsp_request, cert_with}
use Rattle.request.specs.Heads.{heads_form, front_form}
use Rattle.request.proofs.Heads.{element_length, heads_form_lem}

module _ (head name key serial : List ℕ) (s : length head + length name + length key + length serial ≤ 113) where
  -- the CertID's content: three headers more than its fields
  pub card_length : length (card_form head name key serial) ≡ 6 + (length head + length name + length key + length serial)
  unfolding card_form
  card_length =
      let x = element_length 0x04 name (omega arith) in
      let y = element_length 0x04 key (omega arith) in
      let z = element_length 0x02 serial (omega arith) in
      simp length-append (omega arith)

  -- the request: five headers more
  pub form_length : length (request_form head name key serial) ≡ 16 + (length head + length name + length key + length serial)
  unfolding request_form
  form_length =
      let b = card_form head name key serial in
      let l = card_length in
      let e₁ = element_length 0x30 b (omega arith) in
      let e₂ = element_length 0x30 (form_of 0x30 b) (omega arith) in
      let e₃ = element_length 0x30 (form_of 0x30 (form_of 0x30 b)) (omega arith) in
      let e₄ = element_length 0x30 (form_of 0x30 (form_of 0x30 (form_of 0x30 b))) (omega arith) in
      let e₅ = element_length 0x30 (form_of 0x30 (form_of 0x30 (form_of 0x30 (form_of 0x30 b)))) (omega arith) in
      omega arith

  -- the request: what stands before the name hash, both hashes, the serial
  pub form_parts : front_form head (length name) (6 + (length head + length name + length key + length serial))
      ++ ((name ++ form_of 0x04 key) ++ form_of 0x02 serial)
      ≡ request_form head name key serial
  unfolding request_form card_form front_form
  form_parts =
      let c = card_form head name key serial in
      let n : ℕ = 6 + (length head + length name + length key + length serial) in
      let h : List ℕ = head_form 0x04 (length name) in
      let k : List ℕ = form_of 0x04 key in
      let r : List ℕ = form_of 0x02 serial in
      let l : length c ≡ n = card_length in
      append_assoc (heads_form n) (head ++ h) ((name ++ k) ++ r)
      ∙ ap (λ (z : List ℕ). heads_form n ++ z) (append_assoc head h ((name ++ k) ++ r))
      ∙ ap (λ (z : List ℕ). heads_form n ++ (head ++ (h ++ z))) (append_assoc name k r)
      ∙ ap (λ (z : List ℕ). heads_form n ++ (head ++ z)) (sym (form_before 0x04 name (k ++ r)))
      ∙ rw (← l) (heads_form_lem c (omega arith))

-- an element has at most ten octets more than its content
more : (t m : ℕ) (c : List ℕ) → length c ≤ m → m ≤ 4096 → length (form_of t c) ≤ m + 10
more t m c l h = omega (arith, forms.form_length t c, forms.head_size_lem (length c) (omega arith))

-- a request of an algorithm, hashes and a serial of few octets has few
form_few : (head name key serial : List ℕ) → length head ≤ 1024 → length name ≤ 64 → length key ≤ 64 → length serial ≤ 20
    → length (request_form head name key serial) < 2 ^ 64
unfolding request_form card_form
form_few head name key serial h n k s =
    let b = card_form head name key serial in
    let x = more 0x04 64 name n (omega arith) in
    let y = more 0x04 64 key k (omega arith) in
    let z = more 0x02 20 serial s (omega arith) in
    let l : length b ≤ 1202 = simp length-append (omega arith) in
    let m₁ = more 0x30 1202 b l (omega arith) in
    let m₂ = more 0x30 1212 (form_of 0x30 b) m₁ (omega arith) in
    let m₃ = more 0x30 1222 (form_of 0x30 (form_of 0x30 b)) m₂ (omega arith) in
    let m₄ = more 0x30 1232 (form_of 0x30 (form_of 0x30 (form_of 0x30 b))) m₃ (omega arith) in
    let m₅ = more 0x30 1242 (form_of 0x30 (form_of 0x30 (form_of 0x30 (form_of 0x30 b)))) m₄ (omega arith) in
    omega arith

module _ (a : Algorithm) (name key serial : List ℕ) (h : AlgorithmOk a) (n : HashOk name) (k : HashOk key)
    (o : Octets serial) (q : serial_ok serial ≡ true) where
  -- the request is the form of its CertID in the layout
  pub with_form : request_form (algorithm_identifier.enc a) name key serial ≡ ocsp_request.enc (cert_with a name key serial)
  unfolding request_form ocsp_request tbs_request request_list single_request cert_id cert_body kinds.hash kinds.serial card_form
  with_form =
      ap (λ (s : List ℕ). request_form (algorithm_identifier.enc a) name key s) (serial_sound serial o q).1

  -- which is within the limits
  with_ok : ocsp_request.ok (cert_with a name key serial)
  unfolding ocsp_request tbs_request request_list single_request
  with_ok = (cert_limits (cert_with a name key serial)).1 record { algorithm = h; name_hash = n; key_hash = k; serial = (serial_sound serial o q).0 }

  -- and of no great length
  with_small : length (algorithm_identifier.enc a) ≤ 1024 → length (ocsp_request.enc (cert_with a name key serial)) < 2 ^ 64
  with_small z = rw (← with_form) (form_few (algorithm_identifier.enc a) name key serial z n.most k.most (serial_most serial q))

  -- so the layout reads that CertID from the request
  pub with_read : length (algorithm_identifier.enc a) ≤ 1024
      → ocsp_request.dec (request_form (algorithm_identifier.enc a) name key serial) ≡ read (cert_with a name key serial)
  with_read z = rw with_form (ocsp_request.complete (cert_with a name key serial) with_ok (with_small z))
