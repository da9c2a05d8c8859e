-- The octets where the extensions of an entry are seen are their form, and end where the entry does.
-- entry_extensions. The other values of an entry are in SeenLaws.
-- The definitions are in Looks. Assumes nothing.
use Rattle.std.specs.Prelude.{ℕ, ◌+◌, ◌-◌, ◌≡◌, refl, List, [], ◌++◌, length, take, drop}
use Rattle.std.proofs.Common.{arith, sym, ap, ◌∙◌, append_assoc, append-nil, length-append, take_at, drop_at}
use Rattle.octets.specs.Octets.{Octets}
use Rattle.element.specs.Form.{head_form, form_of}
use Rattle.codec.specs.Codec.{got}
use Rattle.codec.proofs.CodecLaws.{got_size}
use Rattle.codec.specs.Option.{option_enc}
use Rattle.layout.specs.Reading.{Entry}
use Rattle.layout.proofs.ElementKinds.{time}
use Rattle.layout.proofs.Format.{cert_id, cert_status, extensions, next_update, single_body, single_response}
use Rattle.read_entry_values.specs.Looks.{entry_seen}

-- ── the last octets ──
-- the octets end with these
abbrev Ends : List ℕ → List ℕ → Type 0
Ends c s = (x : List ℕ) × (s ≡ x ++ c)

ends_after : (y c s : List ℕ) → Ends c s → Ends c (y ++ s)
ends_after y c s e = (y ++ e.0, ap (λ (r : List ℕ). y ++ r) e.1 ∙ sym (append_assoc y e.0 c))

-- an entry's form ends with its extensions
extensions_last : (e : Entry) → Ends (option_enc extensions.enc e.extensions) (single_response.enc e)
unfolding single_response single_body form_of
extensions_last e =
    let x = option_enc extensions.enc e.extensions in
    let last = ends_after (option_enc next_update.enc e.next_update) x _ ([], append-nil x) in
    let body = ends_after (cert_id.enc e.cert) x _ (ends_after (cert_status.enc e.status) x _ (ends_after (time.enc e.this_update) x _ last)) in
    ends_after (head_form 0x30 (length (single_body.enc e))) x _ body

-- the octets where its extensions are seen are their form, and end where the entry does
pub entry_extensions : (s : List ℕ) (e : Entry) (n : ℕ) → single_response.dec s ≡ got e n → Octets s
    → ((entry_seen n e).from + (entry_seen n e).len ≡ n)
    × (take (entry_seen n e).len (drop (entry_seen n e).from s) ≡ option_enc extensions.enc e.extensions)
entry_extensions s e n q o =
    let x = option_enc extensions.enc e.extensions in
    let (y, i) = extensions_last e in
    let j = got_size single_response s e n o q in
    let k = length-append y x in
    let z = ap length i in
    let f : s ≡ y ++ (x ++ drop n s) = (single_response.sound s e n o q).1 ∙ ap (λ (r : List ℕ). r ++ drop n s) i ∙ append_assoc y x (drop n s) in
    let g : drop (n - length x) s ≡ x ++ drop n s = ap (drop (n - length x)) f ∙ drop_at y (x ++ drop n s) (n - length x) (omega arith) in
    (omega arith, ap (take (length x)) g ∙ take_at x (drop n s) (length x) refl)
