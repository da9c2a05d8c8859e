-- The plain limits of what an entry is made of are exactly what its codecs ask.
-- option_limits, all_limits, there_limits; between_limits; reason_limits, free_limits, sequence_limits, oid_limits,
-- hash_limits, time_limits, serial_limits; algorithm_limits, cert_limits, revoked_limits, status_limits,
-- extension_limits, extensions_limits. The entry and the response are in LimitsLaws.
-- Assumes nothing.
use Rattle.std.specs.Prelude.{ℕ, ◌^◌, ◌≤◌, ◌<◌, ◌≡◌, refl, Bool, true, false, cond, List, [], ◌∷◌, ◌↔◌, leb, eqb, length}
use Rattle.std.proofs.Common.{arith, leb-true, le-leb, ne_eqb}
use Rattle.std.proofs.Math.Option.{Option, none, some}
use Rattle.std.proofs.lemmas.Bool.{eqb-false}
use Rattle.octets.specs.SameLaws.{impossible}
use Rattle.content.specs.Oid.{oid_ok}
use Rattle.codec.specs.Option.{OptionOk}
use Rattle.codec.specs.Many.{All}
use Rattle.codec.specs.Keys.{new_to, new_test}
use Rattle.codec.specs.Tree.{Tree, Upto}
use Rattle.layout.specs.Reading.{Algorithm, CertId, Status, good, revoked, unknown, Extension}
use Rattle.layout.specs.Limits.{TimeOk, OidOk, FreeOk, SequenceOk, HashOk, ReasonOk, AlgorithmOk, CertOk, RevokedOk, StatusOk, ExtensionOk, ExtensionsOk}
use Rattle.layout.specs.Words.{between, reason_ok}
use Rattle.layout.proofs.ElementKinds.{free, free_sequence, time, serial, oid, hash}
use Rattle.layout.specs.Names.{there}
use Rattle.layout.proofs.Format.{algorithm_body, algorithm_identifier, cert_body, cert_id, reason, good_status, unknown_status, revoked_body, revoked_status, cert_status, new_oid, critical, extension_body, extension_after, extension_list, extensions}

-- ── where a value may be missing, and of each in a list ──
pub option_limits : {A : Type 0} (f g : A → Type 0) → ((a : A) → f a ↔ g a) → (o : Option A) → OptionOk f o ↔ OptionOk g o
option_limits f g h none = (λ x. x, λ x. x)
option_limits f g h (some a) = h a

all_there : {A : Type 0} (f g : A → Type 0) → ((a : A) → f a → g a) → (l : List A) → All f l → All g l
all_there f g h [] x = tt
all_there f g h (a ∷ l) x = (h a x.0, all_there f g h l x.1)

pub all_limits : {A : Type 0} (f g : A → Type 0) → ((a : A) → f a ↔ g a) → (l : List A) → All f l ↔ All g l
all_limits f g h l = (all_there f g (λ a. (h a).0) l, all_there g f (λ a. (h a).1) l)

-- an element without a value has no limits, written or not
pub there_limits : (f : Unit {0} → Type 0) → f tt → (b : Bool) → OptionOk f (there b)
there_limits f h true = h
there_limits f h false = tt

-- ── tests ──
both : (b c : Bool) → cond b c false ≡ true → (b ≡ true) × (c ≡ true)
both true c h = (refl, h)
both false c h = impossible h

pub between_limits : (lo hi : ℕ) (c : List ℕ) → (between lo hi c ≡ true) ↔ ((lo ≤ length c) × (length c ≤ hi))
unfolding between
between_limits lo hi c = (
  λ h. let v = both _ _ h in (leb-true lo (length c) v.0, leb-true (length c) hi v.1),
  λ h. rw (le-leb lo (length c) h.0) (le-leb (length c) hi h.1),
)

-- at most one number, and not another
pub most_but : (m k n : ℕ) → (cond (leb n m) (cond (eqb n k) false true) false ≡ true) ↔ ((n ≤ m) × (n ≡ k → ⊥))
most_but m k n = (
  λ h. let v = both _ _ h in (leb-true n m v.0, eqb-false n k (other (eqb n k) v.1)),
  λ h. rw (le-leb n m h.0, ne_eqb n k h.1),
)
  where
    other : (b : Bool) → cond b false true ≡ true → b ≡ false
    other true h = impossible h
    other false h = refl

pub reason_limits : (n : ℕ) → reason.ok n ↔ ReasonOk n
unfolding reason reason_ok
reason_limits n = (
  λ h. let v = (most_but 10 7 n).0 h.1 in record { most = v.0; not7 = v.1 },
  λ h. (omega (arith, h.most), (most_but 10 7 n).1 (h.most, h.not7)),
)

-- ── contents ──
pub free_limits : (a : Tree) → free.ok a ↔ FreeOk a
unfolding free Upto
free_limits a = (λ h. record { tree = h.0; deep = h.1 }, λ h. (h.tree, h.deep))

pub sequence_limits : (a : Tree) → free_sequence.ok a ↔ SequenceOk a
unfolding free_sequence Upto
sequence_limits a =
    (λ h. record { tag = h.0; free = record { tree = h.1.0; deep = h.1.1 } }, λ h. (h.tag, (h.free.tree, h.free.deep)))

pub oid_limits : (c : List ℕ) → oid.ok c ↔ OidOk c
unfolding oid
oid_limits c = (λ h. record { octets = h.0; rule = h.1 }, λ h. (h.octets, h.rule))

pub hash_limits : (c : List ℕ) → hash.ok c ↔ HashOk c
unfolding hash
hash_limits c = (
  λ h. let v = (between_limits 1 64 c).0 h.1 in record { octets = h.0; least = v.0; most = v.1 },
  λ h. (h.octets, (between_limits 1 64 c).1 (h.least, h.most)),
)

pub time_limits : (n : ℕ) → time.ok n ↔ TimeOk n
unfolding time
time_limits n = (λ h. h, λ h. h)

pub serial_limits : (n : ℕ) → serial.ok n ↔ (n < 2 ^ 159)
unfolding serial
serial_limits n = (λ h. h, λ h. h)

-- ── what an entry is made of ──
pub algorithm_limits : (a : Algorithm) → algorithm_identifier.ok a ↔ AlgorithmOk a
unfolding algorithm_identifier algorithm_body
algorithm_limits a =
    let p = option_limits free.ok FreeOk free_limits a.parameters in (
      λ h. record { oid = (oid_limits a.oid).0 h.0; parameters = p.0 h.1 },
      λ h. ((oid_limits a.oid).1 h.oid, p.1 h.parameters),
    )

pub cert_limits : (c : CertId) → cert_id.ok c ↔ CertOk c
unfolding cert_id cert_body
cert_limits c = (
  λ h. record {
    algorithm = (algorithm_limits c.algorithm).0 h.0;
    name_hash = (hash_limits c.name_hash).0 h.1.0;
    key_hash = (hash_limits c.key_hash).0 h.1.1.0;
    serial = (serial_limits c.serial).0 h.1.1.1;
  },
  λ h. (
    (algorithm_limits c.algorithm).1 h.algorithm,
    ((hash_limits c.name_hash).1 h.name_hash, ((hash_limits c.key_hash).1 h.key_hash, (serial_limits c.serial).1 h.serial)),
  ),
)

pub revoked_limits : (t : ℕ) (r : Option ℕ) → revoked_status.ok (t, r) ↔ RevokedOk t r
unfolding revoked_status revoked_body
revoked_limits t r =
    let p = option_limits reason.ok ReasonOk reason_limits r in (
      λ h. record { time = (time_limits t).0 h.0; reason = p.0 h.1.0 },
      λ h. ((time_limits t).1 h.time, (p.1 h.reason, tt)),
    )

pub status_limits : (s : Status) → cert_status.ok s ↔ StatusOk s
unfolding cert_status good_status unknown_status
status_limits good = (λ h. tt, λ h. tt)
status_limits unknown = (λ h. tt, λ h. tt)
status_limits (revoked t r) = revoked_limits t r

-- nothing was seen before the first
new_limits : (c : List ℕ) → (new_oid []).ok c ↔ OidOk c
unfolding new_oid new_test new_to
new_limits c =
    (λ h. record { octets = h.0; rule = (both (oid_ok c) true h.1).0 }, λ h. (h.octets, rw h.rule))

pub extension_limits : (e : Extension) → (extension_after []).ok e ↔ ExtensionOk e
unfolding extension_after extension_body critical
extension_limits e = (
  λ h. record { oid = (new_limits e.oid).0 h.0; value = h.1.1.0 },
  λ h. ((new_limits e.oid).1 h.oid, (there_limits critical.ok tt e.critical, (h.value, refl))),
)

pub extensions_limits : (l : List Extension) → extensions.ok l ↔ ExtensionsOk l
unfolding extensions extension_list
extensions_limits l =
    let a = all_limits (extension_after []).ok ExtensionOk extension_limits l in (
      λ h. record { each = a.0 h.0; once = h.1; least = h.2; most = h.3 },
      λ h. (a.1 h.each, h.once, h.least, h.most),
    )
