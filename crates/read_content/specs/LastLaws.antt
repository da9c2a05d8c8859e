-- Elements whose value is their last octets, so that the value's place follows from its length.
-- Last; last_primitive, last_string, last_hash, last_oid, last_bits. What a spot then tells
-- is in SpotLaws.
-- Assumes nothing.
use Rattle.std.specs.Prelude.{ℕ, ◌+◌, ◌-◌, ◌≤◌, ◌<◌, ◌≡◌, Bool, true, false, cond, List, [], ◌∷◌, eqb, length, take, drop}
use Rattle.std.proofs.Common.{arith, ap, ◌∙◌, length-drop, length-take-le, drop-drop, drop_at, take-add}
use Rattle.std.proofs.Math.Option.{Option, none, some}
use Rattle.content.specs.Oid.{oid_ok}
use Rattle.element.specs.Tag.{tag_ok}
use Rattle.element.specs.HeaderLaws.{header_inside}
use Rattle.codec.specs.Codec.{got, Element}
use Rattle.codec.specs.Tagged.{tagged_dec, own}
use Rattle.codec.proofs.Tagged.{primitive}
use Rattle.codec.specs.Contents.{octets_read, filled_dec}
use Rattle.codec.proofs.Contents.{octets_content}
use Rattle.layout.specs.Words.{between, bits_read}
use Rattle.layout.proofs.ElementKinds.{string, oid, hash}
use Rattle.layout.proofs.Format.{signature_bits}
use Rattle.read_content.specs.ExpectLaws.{never}
use Rattle.read_content.specs.PrimitiveLaws.{primitive_got}

-- the value is the element's last octets
abbrev pub Last : Element (List ℕ) → Type 0
Last e = (s x : List ℕ) (n : ℕ) → e.dec s ≡ got x n → (length x ≤ n) × (x ≡ take (length x) (drop (n - length x) s))

-- a content whose value is its last octets
abbrev Tail : (List ℕ → Option (List ℕ)) → Type 0
Tail d = (c x : List ℕ) → d c ≡ some x → (length x ≤ length c) × (x ≡ drop (length c - length x) c)

drop_take : (k m : ℕ) (l : List ℕ) → k + m ≤ length l → drop k (take (k + m) l) ≡ take m (drop k l)
drop_take k m l h = rw (take-add k m l) (drop_at (take k l) (take m (drop k l)) k (length-take-le k l (omega arith)))

module _ (s x : List ℕ) (h m n : ℕ) (sum : h + m ≡ n) (inside : h + m ≤ length s) where
  -- the content's octets from its (k + 1)st on, seen in the list
  cut_last : (k : ℕ) → k + length x ≡ m → x ≡ drop k (take m (drop h s)) → x ≡ take (length x) (drop (n - length x) s)
  cut_last k i e =
      let j : h + k ≡ n - length x = omega arith in
      let f : x ≡ drop k (take (k + length x) (drop h s)) = rw i e in
      let g = drop_take k (length x) (drop h s) (simp length-drop (omega arith)) in
      f ∙ g ∙ ap (take (length x)) (drop-drop k h s ∙ ap (λ (a : ℕ). drop a s) j)

  last_of : length x ≤ length (take m (drop h s)) → x ≡ drop (length (take m (drop h s)) - length x) (take m (drop h s))
      → (length x ≤ n) × (x ≡ take (length x) (drop (n - length x) s))
  last_of le e =
      let long : length (take m (drop h s)) ≡ m = length-take-le m (drop h s) (simp length-drop (omega arith)) in
      (omega arith, cut_last (m - length x) (omega arith) (rw long at e))

tail_last : (t : ℕ) (d : List ℕ → Option (List ℕ)) → Tail d → (s x : List ℕ) (n : ℕ) → tagged_dec own t (filled_dec d) s ≡ got x n
    → (length x ≤ n) × (x ≡ take (length x) (drop (n - length x) s))
tail_last t d v s x n e =
    let (h, m, f, i, g) = primitive_got t s d x n e in
    let w = v (take m (drop h s)) x g in
    last_of s x h m n i (header_inside s t h m f).1 w.0 w.1

octets_tail : (test : List ℕ → Bool) → Tail (octets_read test)
unfolding octets_read
octets_tail test c x e = go (test c) e
  where
    go : (k : Bool) → cond k (some c) none ≡ some x → (length x ≤ length c) × (x ≡ drop (length c - length x) c)
    go true e = let i : c ≡ x = cc in let z : length c - length c ≡ 0 = omega arith in rw (← i) (omega arith, rw z)
    go false e = never (cc)

bits_tail : Tail bits_read
unfolding bits_read
bits_tail [] x e = never (cc)
bits_tail (a ∷ []) x e = never (cc)
bits_tail (a ∷ b ∷ c) x e = go (eqb a 0) e
  where
    go : (k : Bool) → cond k (some (b ∷ c)) none ≡ some x → (length x ≤ length (a ∷ b ∷ c)) × (x ≡ drop (length (a ∷ b ∷ c) - length x) (a ∷ b ∷ c))
    go true e =
        let i : b ∷ c ≡ x = cc in
        let z : length (a ∷ b ∷ c) - length (b ∷ c) ≡ 1 = omega arith in
        rw (← i) (omega arith, rw z)
    go false e = never (cc)

pub last_primitive : (t : ℕ) (test : List ℕ → Bool) (k : tag_ok t ≡ true) (o : t < 256) → Last (primitive t (octets_content test) k o)
last_primitive t test k o = tail_last t (octets_read test) (octets_tail test)

pub last_string : (test : List ℕ → Bool) → Last (string test)
last_string test = tail_last 0x04 (octets_read test) (octets_tail test)

pub last_hash : Last hash
unfolding hash
last_hash = last_string (between 1 64)

pub last_oid : Last oid
unfolding oid
last_oid = tail_last 0x06 (octets_read oid_ok) (octets_tail oid_ok)

pub last_bits : Last signature_bits
unfolding signature_bits
last_bits = tail_last 0x03 bits_read bits_tail
