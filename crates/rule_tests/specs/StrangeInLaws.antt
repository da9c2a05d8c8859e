-- Critical extensions that are not understood, by the octets of extensions and by their reading: the
-- place that crate read_critical finds is there exactly where some extension is so.
-- strange_response, strange_entry. The definitions are in StrangePlace, in Signer of crate rules and in Strange of
-- crate read_critical.
-- Assumes nothing.
use Rattle.std.specs.Prelude.{ℕ, ◌^◌, ◌<◌, ◌≡◌, Bool, ◌&&◌, not, length}
use Rattle.std.proofs.Math.Path.{refl, ap}
use Rattle.std.proofs.Common.{sym, ◌∙◌}
use Rattle.std.proofs.Math.Bool.{true, false, cond}
use mathlib.Core.List.{List, [], ◌∷◌, append-nil}
use Rattle.std.proofs.Math.Option.{Option, none, some}
use Rattle.octets.specs.Same.{same_of}
use Rattle.octets.specs.SameLaws.{impossible, same_true, same_refl}
use Rattle.codec.specs.Codec.{got}
use Rattle.codec.specs.Keys.{new_to}
use Rattle.codec.specs.Option.{option_enc, OptionOk}
use Rattle.layout.specs.Reading.{Extension}
use Rattle.layout.proofs.Format.{extensions}
use Rattle.read_critical.specs.Strange.{is_strange, strange_of}
use Rattle.read_critical.specs.Strange as by
use Rattle.read_critical.specs.StrangeLaws.{strange_clear, strange_found, strange_absent}
use Rattle.rules.specs.Signer.{ocsp_oid, in_response, in_entry, strange, strange_in}
use Rattle.rule_tests.specs.StrangePlace.{is_place, response_known, entry_known}

same_sym : (a b : List ℕ) → same_of a b ≡ same_of b a
same_sym a b = go (same_of a b) (same_of b a) refl refl
  where
    go : (t u : Bool) → same_of a b ≡ t → same_of b a ≡ u → t ≡ u
    go true true p q = refl
    go false false p q = refl
    go true false p q = impossible (sym q ∙ ap (λ (x : List ℕ). same_of b x) (same_true a b p) ∙ same_refl b)
    go false true p q = impossible (sym p ∙ ap (λ (x : List ℕ). same_of a x) (same_true b a q) ∙ same_refl a)

-- the known OIDs as a test and as a list
abbrev Alike : List (List ℕ) → (List ℕ → Bool) → Type 0
Alike l known = (o : List ℕ) → new_to l o ≡ not (known o)

response_alike : Alike response_known in_response
unfolding new_to
response_alike o = rw (same_sym (ocsp_oid 2) o, same_sym (ocsp_oid 9) o) (go (same_of o (ocsp_oid 2)) (same_of o (ocsp_oid 9)))
  where
    go : (t u : Bool) → cond t false (cond u false true) ≡ not (cond t true u)
    go true u = refl
    go false true = refl
    go false false = refl

entry_alike : Alike entry_known in_entry
unfolding new_to
entry_alike o = rw (same_sym (ocsp_oid 6) o) (go (same_of o (ocsp_oid 6)))
  where
    go : (t : Bool) → cond t false (cond t false true) ≡ not t
    go true = refl
    go false = refl

module _ (l : List (List ℕ)) (known : List ℕ → Bool) (alike : Alike l known) where
  one_alike : (e : Extension) → is_strange l e ≡ e.critical && not (known e.oid)
  unfolding is_strange
  one_alike e = rw (alike e.oid) (go e.critical (not (known e.oid)))
    where
      go : (t u : Bool) → cond t u false ≡ t && u
      go true u = refl
      go false u = refl

  list_alike : (x : List Extension) → by.any_strange l x ≡ strange known x
  unfolding by.any_strange strange
  list_alike [] = refl
  list_alike (e ∷ x) = rw (one_alike e, list_alike x)

  place_some : (x : List Extension) → extensions.ok x → length (extensions.enc x) < 2 ^ 64 → is_place (strange_of l (extensions.enc x)) ≡ strange known x
  unfolding is_place
  place_some x h z = go (strange known x) refl
    where
      q : extensions.dec (extensions.enc x) ≡ got x (length (extensions.enc x))
      q = rw append-nil at (extensions.complete x [] h z)

      go : (b : Bool) → strange known x ≡ b → is_place (strange_of l (extensions.enc x)) ≡ strange known x
      go false i = ap is_place (strange_clear l (extensions.enc x) x q (list_alike x ∙ i)) ∙ sym i
      go true i = let (p, j) = strange_found l (extensions.enc x) x q (list_alike x ∙ i) in ap is_place j ∙ sym i

  place_in : (x : Option (List Extension)) → OptionOk extensions.ok x → length (option_enc extensions.enc x) < 2 ^ 64
      → is_place (strange_of l (option_enc extensions.enc x)) ≡ strange_in known x
  unfolding is_place
  place_in none h z = ap is_place (strange_absent l)
  place_in (some x) h z = place_some x h z

-- in the response
pub strange_response : (x : Option (List Extension)) → OptionOk extensions.ok x → length (option_enc extensions.enc x) < 2 ^ 64
    → is_place (strange_of response_known (option_enc extensions.enc x)) ≡ strange_in in_response x
strange_response = place_in response_known in_response response_alike

-- in an entry
pub strange_entry : (x : Option (List Extension)) → OptionOk extensions.ok x → length (option_enc extensions.enc x) < 2 ^ 64
    → is_place (strange_of entry_known (option_enc extensions.enc x)) ≡ strange_in in_entry x
strange_entry = place_in entry_known in_entry entry_alike
