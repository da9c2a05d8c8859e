-- What was read of a list was read of its parts, and they stand where their headers lead.
-- tagged_content, rest_of, tag_of; field_of, only_of, Branched, branch_of_lem; filling, held.
-- The definitions stand here; the laws, and what is made of them, in proofs/PartLaws.
-- Assumes nothing.
use Rattle.std.specs.Prelude.{ℕ, ◌≡◌, Bool, false, List, ◌⊎◌}
use Rattle.std.proofs.Common.{inl, inr}
use Rattle.std.proofs.Math.Bool.{true}
use Rattle.std.proofs.Math.ListN.{drop}
use Rattle.codec.specs.Codec.{Read, read, Got, got}

-- by the element, one list or the other
abbrev pub Branched : {A B C : Type 0} → (List ℕ → Got A) → (A → Bool) → (List ℕ → Read B) → List ℕ → (A × B) ⊎ (A × C) → Type 0
Branched d test d' s (inl x) = (n : ℕ) × (d s ≡ got x.0 n) × (test x.0 ≡ true) × (d' (drop n s) ≡ read x.1)
Branched d test d' s (inr x) = (n : ℕ) × (d s ≡ got x.0 n) × (test x.0 ≡ false)
