-- Keys that are octets, and where a key stands: a content that is none of those before it, and the
-- element, sequence and names around it.
-- new_to, new_content; keyed_content, keyed_primitive, keyed_tagged, keyed_field, keyed_mapped_ok,
-- keyed_mapped.
-- The laws stand here, and what is made of them; the definitions in specs/Keys.
-- Assumes nothing.
use Rattle.std.specs.Prelude.{ℕ, ◌<◌, Bool, List, [], ◌∷◌, ◌++◌}
use Rattle.std.proofs.Common.{arith, ap}
use Rattle.std.proofs.Math.Path.{◌≡◌, refl}
use Rattle.std.proofs.Math.Bool.{true, false, cond}
use Rattle.octets.specs.Same.{same_of}
use Rattle.octets.specs.SameLaws.{same_true, same_false}
use Rattle.element.specs.Tag.{tag_ok}
use Rattle.element.specs.Form.{form_of}
use Rattle.codec.specs.Codec.{Content, Whole, Element}
use Rattle.codec.proofs.Contents.{octets_content}
use Rattle.codec.proofs.Tagged.{tagged, primitive}
use Rattle.codec.proofs.Mapped.{mapped, mapped_ok}
use Rattle.codec.proofs.Sequence.{field}
use Rattle.codec.specs.Each.{Fresh, Keyed, KeyedElement}
use Rattle.codec.specs.Keys.{new_test, new_to}

pub new_fresh : (seen : List (List ℕ)) (c : List ℕ) → new_to seen c ≡ true → Fresh seen c
unfolding new_to
new_fresh [] c h = tt
new_fresh (x ∷ seen) c h = go (same_of x c) refl h (λ q. new_fresh seen c q)
  where
    go : (b : Bool) → same_of x c ≡ b → cond b false (new_to seen c) ≡ true → (new_to seen c ≡ true → Fresh seen c)
        → (x ≡ c → ⊥) × Fresh seen c
    go true e h ih = let z : ◌≡◌ {A = ℕ} 0 1 = cc in absurd (omega arith)
    go false e h ih = (same_false x c e, ih h)

pub fresh_new : (seen : List (List ℕ)) (c : List ℕ) → Fresh seen c → new_to seen c ≡ true
unfolding new_to
fresh_new [] c h = refl
fresh_new (x ∷ seen) c h = go (same_of x c) refl (fresh_new seen c h.1)
  where
    go : (b : Bool) → same_of x c ≡ b → new_to seen c ≡ true → cond b false (new_to seen c) ≡ true
    go true e i = absurd (h.0 (same_true x c e))
    go false e i = i

abbrev pub new_content : (List ℕ → Bool) → List (List ℕ) → Content (List ℕ)
new_content test seen = octets_content (new_test test seen)

module _ (test : List ℕ → Bool) where
  new_parts : (seen : List (List ℕ)) (c : List ℕ) → new_test test seen c ≡ true → (test c ≡ true) × Fresh seen c
  unfolding new_test
  new_parts seen c h = go (test c) refl h
    where
      go : (b : Bool) → test c ≡ b → cond b (new_to seen c) false ≡ true → (test c ≡ true) × Fresh seen c
      go true e h = (e, new_fresh seen c h)
      go false e h = let z : ◌≡◌ {A = ℕ} 0 1 = cc in absurd (omega arith)

  new_both : (seen : List (List ℕ)) (c : List ℕ) → test c ≡ true → Fresh seen c → new_test test seen c ≡ true
  unfolding new_test
  new_both seen c t f = rw t (fresh_new seen c f)

  -- the content is the key
  pub keyed_content : Keyed (λ c. c) (λ seen. (new_content test seen).enc) (λ seen. (new_content test seen).ok)
  keyed_content = record {
    form = λ seen c. refl;
    fresh = λ seen c h. let v = new_parts seen c h.1 in ((h.0, new_both [] c v.0 tt), v.1);
    allowed = λ seen c h f. (h.0, new_both seen c (new_parts [] c h.1).0 f);
  }

-- an element is written with its tag and length, whatever it holds
keyed_form : {A K : Type 0} (t : ℕ) (key : A → K) (enc : List K → A → List ℕ) (ok : List K → A → Type 0) → Keyed key enc ok
    → Keyed key (λ seen a. form_of t (enc seen a)) ok
keyed_form t key enc ok k = record {
  form = λ seen a. ap (form_of t) (k.form seen a);
  fresh = k.fresh;
  allowed = k.allowed;
}

-- the key is that of the content
pub keyed_primitive : {A K : Type 0} (key : A → K) (t : ℕ) (c : List K → Content A) (k : tag_ok t ≡ true) (o : t < 256)
    → Keyed key (λ seen. (c seen).enc) (λ seen. (c seen).ok) → KeyedElement key (λ seen. primitive t (c seen) k o)
keyed_primitive key t c k o h = keyed_form t key (λ seen. (c seen).enc) (λ seen. (c seen).ok) h

pub keyed_tagged : {A K : Type 0} (key : A → K) (t : ℕ) (w : List K → Whole A) (k : tag_ok t ≡ true) (o : t < 256)
    → Keyed key (λ seen. (w seen).enc) (λ seen. (w seen).ok) → KeyedElement key (λ seen. tagged t (w seen) k o)
keyed_tagged key t w k o h = keyed_form t key (λ seen. (w seen).enc) (λ seen. (w seen).ok) h

-- the key is that of the first element
pub keyed_field : {A B K : Type 0} (key : A → K) (e : List K → Element A) (w : Whole B) → KeyedElement key e
    → Keyed (λ (x : A × B). key x.0) (λ seen. (field (e seen) w).enc) (λ seen. (field (e seen) w).ok)
keyed_field key e w k = record {
  form = λ seen x. ap (λ (y : List ℕ). y ++ w.enc x.1) (k.form seen x.0);
  fresh = λ seen x h. let v = k.fresh seen x.0 h.0 in ((v.0, h.1), v.1);
  allowed = λ seen x h f. (k.allowed seen x.0 h.0 f, h.1);
}

-- the same key under other names
pub keyed_mapped_ok : {A B K : Type 0} (key : A → K) (f : A → B) (g : B → A) (w : List K → Whole A)
    → (fg : (seen : List K) (b : B) → (w seen).ok (g b) → f (g b) ≡ b) (gf : (seen : List K) (a : A) → (w seen).ok a → g (f a) ≡ a)
    → Keyed key (λ seen. (w seen).enc) (λ seen. (w seen).ok)
    → Keyed (λ (b : B). key (g b)) (λ seen. (mapped_ok f g (w seen) (fg seen) (gf seen)).enc)
    (λ seen. (mapped_ok f g (w seen) (fg seen) (gf seen)).ok)
keyed_mapped_ok key f g w fg gf k = record {
  form = λ seen b. k.form seen (g b);
  fresh = λ seen b h. k.fresh seen (g b) h;
  allowed = λ seen b h f. k.allowed seen (g b) h f;
}

pub keyed_mapped : {A B K : Type 0} (key : A → K) (f : A → B) (g : B → A)
    → (fg : (b : B) → f (g b) ≡ b) (gf : (a : A) → g (f a) ≡ a) (w : List K → Whole A) → Keyed key (λ seen. (w seen).enc) (λ seen. (w seen).ok)
    → Keyed (λ (b : B). key (g b)) (λ seen. (mapped f g fg gf (w seen)).enc) (λ seen. (mapped f g fg gf (w seen)).ok)
keyed_mapped key f g fg gf w k = keyed_mapped_ok key f g w (λ seen b h. fg b) (λ seen a h. gf a) k
