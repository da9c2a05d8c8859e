-- What a match says of a CertID, part by part.
-- both; Matched, match_exactly, match_same.
-- The definition is in Match. Hashes have any length, and what algorithms are known is any test.
-- The laws stand here, and what is made of them; the definitions in specs/Matched.
-- Assumes nothing.
use Rattle.std.specs.Prelude.{ℕ, ◌≡◌, refl, Bool, true, false, ◌&&◌, List, ◌↔◌, eqb}
use Rattle.std.proofs.Common.{sym, ◌∙◌, eqb-true, eq-eqb}
use Rattle.octets.specs.Same.{same_of}
use Rattle.octets.specs.SameLaws.{impossible, same_true, same_refl}
use Rattle.layout.specs.Reading.{Algorithm, CertId}
use Rattle.rule_matching.specs.Match.{matches}
use Rattle.rule_matching.specs.Matched.{Matched}

-- two tests that both hold
pub both : (t u : Bool) → t && u ≡ true → (t ≡ true) × (u ≡ true)
both true u e = (refl, e)
both false u e = impossible e

-- a match says that and no more
pub match_exactly : (known : Algorithm → Bool) (name key : List ℕ) (number : ℕ) (c : CertId)
    → (matches known name key number c ≡ true) ↔ Matched known name key number c
unfolding matches
match_exactly known name key number c = (
  λ e.
      let p = both _ (eqb c.serial number) e in
      let q = both _ (same_of c.key_hash key) p.0 in
      let r = both (known c.algorithm) (same_of c.name_hash name) q.0 in
      record {
        algorithm = r.0;
        name_hash = same_true c.name_hash name r.1;
        key_hash = same_true c.key_hash key q.1;
        serial = eqb-true c.serial number p.1;
      },
  λ m. rw (m.algorithm, m.name_hash, m.key_hash, m.serial, same_refl name, same_refl key, eq-eqb number number refl),
)

-- one CertID has one pair of hashes and one serial, whatever algorithms are known
pub match_same : (known other : Algorithm → Bool) (n k m l : List ℕ) (i j : ℕ) (c : CertId)
    → matches known n k i c ≡ true → matches other m l j c ≡ true → (n ≡ m) × (k ≡ l) × (i ≡ j)
match_same known other n k m l i j c e f =
    let x = (match_exactly known n k i c).0 e in
    let y = (match_exactly other m l j c).0 f in
    (sym x.name_hash ∙ y.name_hash, sym x.key_hash ∙ y.key_hash, sym x.serial ∙ y.serial)
