-- A free element whose own tag is wanted. The header counts first, then the tag, then what the
-- element holds: a wrong tag refuses the element's own place, 0.
-- tree_tagged. Any free element is in TreeRead.
-- The laws stand here, and what is made of them; the definitions in specs/TreeTagged.
-- Assumes nothing.
use Rattle.std.specs.Prelude.{ℕ, ◌^◌, ◌≤◌, ◌<◌, ◌≡◌, Bool, List, ◌++◌, eqb, get_or, drop, Ok, Err}
use Rattle.std.proofs.Math.Path.{refl}
use Rattle.std.proofs.Common.{sym, ap, ◌∙◌}
use Rattle.std.proofs.Math.Bool.{true, false, cond}
use Rattle.std.proofs.Math.ListN.{length}
use borrow.Author.Tests.{eqb-true, eq-eqb}
use Rattle.octets.specs.Octets.{Octets}
use Rattle.element.specs.Form.{form_of}
use Rattle.element.specs.Header.{header_of}
use Rattle.element.specs.HeaderLaws.{header_within, header_tag}
use Rattle.element.specs.Places.{HeaderRead, header}
use Rattle.codec.specs.Codec.{got, bad, Element}
use Rattle.codec.proofs.Outcome.{bad_got, start_head, tested_got}
use Rattle.codec.proofs.PartLaws.{form_found, small_content}
use Rattle.codec.specs.Tree.{Tree, prim, node, tree_tag, tree_enc, run_enc, TreeOk, Upto}
use Rattle.codec.specs.TreeRead.{tree_dec}
use Rattle.codec.proofs.TreeRead.{tree_laws, upto_octets}
use Rattle.codec.specs.TreeTagged.{TreeTaggedOk, tree_tagged_dec, wanted_of}

-- a tree's octets begin with its tag
pub tree_first : (a : Tree) (r : List ℕ) → get_or (tree_enc a ++ r) 0 0 ≡ tree_tag a
unfolding tree_enc form_of
tree_first (prim t c) r = refl
tree_first (node t x) r = refl

-- and have its header at their head
tree_found : (d : ℕ) (a : Tree) (r : List ℕ) → Upto d a → length (tree_enc a) < 2 ^ 64
    → (h : ℕ) × (n : ℕ) × (header_of (tree_enc a ++ r) ≡ Ok (header (tree_tag a) h n))
unfolding Upto TreeOk tree_enc
tree_found d (prim t c) r h z = (_, _, form_found t c r h.0.0 (small_content t c z))
tree_found d (node t x) r h z = (_, _, form_found t (run_enc x) r h.0.0 (small_content t (run_enc x) z))

module _ (t d : ℕ) where
  -- what was read was read as a free element, at a header with this tag
  wanted : (s : List ℕ) (a : Tree) (n : ℕ) → tree_tagged_dec t d s ≡ got a n → (get_or s 0 0 ≡ t) × (tree_dec d s ≡ got a n)
  unfolding tree_tagged_dec
  wanted s a n q = go (header_of s) refl q
    where
      go : (x : HeaderRead) → header_of s ≡ x → wanted_of t (tree_dec d) s x ≡ got a n → (get_or s 0 0 ≡ t) × (tree_dec d s ≡ got a n)
      go (Err p) ex q = bad_got q
      go (Ok h) ex q =
          let v = tested_got (eqb h.tag t) (tree_dec d s) 0 a n q in
          (header_tag s h.tag h.start h.len ex ∙ eqb-true h.tag t v.0, v.1)

  pub tree_tagged_sound : (s : List ℕ) (a : Tree) (n : ℕ) → Octets s → tree_tagged_dec t d s ≡ got a n
      → TreeTaggedOk t d a × (s ≡ tree_enc a ++ drop n s)
  tree_tagged_sound s a n o q =
      let w = wanted s a n q in
      let v = (tree_laws d).sound s a n o w.1 in
      let first : tree_tag a ≡ get_or s 0 0 = sym (ap (λ (l : List ℕ). get_or l 0 0) v.1 ∙ tree_first a (drop n s)) in
      ((first ∙ w.0, v.0), v.1)

  pub tree_tagged_complete : (a : Tree) (r : List ℕ) → TreeTaggedOk t d a → length (tree_enc a) < 2 ^ 64
      → tree_tagged_dec t d (tree_enc a ++ r) ≡ got a (length (tree_enc a))
  unfolding tree_tagged_dec
  tree_tagged_complete a r h z =
      rw ((tree_found d a r h.1 z).2, eq-eqb (tree_tag a) t h.0) ((tree_laws d).complete a r h.1 z)

  pub tree_tagged_within : (s : List ℕ) (p : ℕ) → tree_tagged_dec t d s ≡ bad p → p ≤ length s
  unfolding tree_tagged_dec
  tree_tagged_within s p q = go (header_of s) refl q
    where
      on : (b : Bool) → cond b (tree_dec d s) (bad 0) ≡ bad p → p ≤ length s
      on true q = (tree_laws d).within s p q
      on false q = start_head {A = Tree} s p q

      go : (x : HeaderRead) → header_of s ≡ x → wanted_of t (tree_dec d) s x ≡ bad p → p ≤ length s
      go (Err j) ex q = let i : j.place ≡ p = cc in rw i at (header_within s j.place ex)
      go (Ok h) ex q = on (eqb h.tag t) q

  pub tree_tagged_inside : (s : List ℕ) (a : Tree) (n : ℕ) → tree_tagged_dec t d s ≡ got a n → (0 < n) × (n ≤ length s)
  tree_tagged_inside s a n q = (tree_laws d).inside s a n (wanted s a n q).1

  -- a free element with this tag, at most d deep
  abbrev pub tree_tagged : Element Tree
  tree_tagged = record {
    dec = tree_tagged_dec t d;
    enc = tree_enc;
    ok = TreeTaggedOk t d;
    sound = tree_tagged_sound;
    complete = tree_tagged_complete;
    octets = λ a h z. upto_octets d a h.1 z;
    within = tree_tagged_within;
    inside = tree_tagged_inside;
  }
