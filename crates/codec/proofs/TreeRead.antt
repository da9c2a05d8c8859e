-- The reading of free elements, at most d deep: an element beyond is refused at its first octet,
-- whatever it is.
-- tree. The trees, their octets and their limits are in Tree; one with a wanted tag in TreeTagged.
-- The laws stand here, and what is made of them; the definitions in specs/TreeRead.
-- Assumes nothing.
use Rattle.std.specs.Prelude.{ℕ, zero, suc, ◌+◌, ◌^◌, ◌≤◌, ◌<◌, ◌≡◌, Bool, drop, Ok, Err}
use native.Mathlib.Omega.{arith}
use Rattle.std.proofs.Math.Path.{refl, sym}
use Rattle.std.proofs.Common.{ap, ◌∙◌}
use Rattle.std.proofs.Math.Bool.{true, false, cond}
use mathlib.Core.List.{List, ◌++◌}
use Rattle.std.proofs.Math.ListN.{length, take, length-drop}
use Rattle.std.proofs.Math.Seq.{length-take-le}
use Rattle.octets.specs.Octets.{Octets}
use Rattle.element.specs.FormLaws.{form_length}
use Rattle.element.specs.Header.{header_of}
use Rattle.element.specs.HeaderLaws.{header_inside, header_within}
use Rattle.element.specs.Places.{HeaderRead}
use Rattle.codec.specs.Codec.{read, Got, got, bad, Element}
use Rattle.codec.specs.Outcome.{renamed, attach}
use Rattle.codec.proofs.Outcome.{bad_got, got_bad, start_head, renamed_read, renamed_broke, attach_got, attach_bad}
use Rattle.codec.specs.PartLaws.{Part}
use Rattle.codec.proofs.PartLaws.{part_of, form_found, form_content, small_content}
use Rattle.codec.specs.Tagged.{inner}
use Rattle.codec.specs.Many.{all_dec, forms}
use Rattle.codec.proofs.Any.{all}
use Rattle.codec.specs.Tree.{Tree, prim, node, constructed, depth, tree_enc, run_enc, TreeOk, Upto, run_of, list_of}
use Rattle.codec.proofs.Tree.{tree_octets, run_list, run_forms, run_ok, ok_run, depth_some}
use Rattle.codec.specs.TreeRead.{TreeLaws, node_dec, node_of, tree_dec}

pub upto_octets : (d : ℕ) (a : Tree) → Upto d a → length (tree_enc a) < 2 ^ 64 → Octets (tree_enc a)
unfolding Upto
upto_octets d a h z = tree_octets a h.0 z

element_of : (d : ℕ) (dec : List ℕ → Got Tree) → TreeLaws d dec → Element Tree
element_of d dec l = record {
  dec = dec;
  enc = tree_enc;
  ok = Upto d;
  sound = l.sound;
  complete = l.complete;
  octets = upto_octets d;
  within = l.within;
  inside = l.inside;
}

module _ (d : ℕ) (dec : List ℕ → Got Tree) (laws : TreeLaws d dec) where
  abbrev Is : List ℕ → Tree → ℕ → Type 0
  Is s a n = Upto (suc d) a × (s ≡ tree_enc a ++ drop n s)

  -- a run that was read
  node_run : (s : List ℕ) (t m : ℕ) (c : List ℕ) → constructed t ≡ true → Part s t c m
      → (l : List Tree) → all_dec dec c ≡ read l → (a : Tree) → node t (run_of l) ≡ a → (n : ℕ) → m ≡ n → Is s a n
  unfolding Upto TreeOk tree_enc depth element_of
  node_run s t m c eb g l el a ea n en =
      let v = (all (element_of d dec laws)).sound c l g.octets el in
      let k = run_ok d l v.0 in
      let ec : c ≡ run_enc (run_of l) = v.1 ∙ sym (run_forms l) in
      rw (← ea, ← en) (((g.tag, g.octet, eb, k.0), omega (arith, k.1)), rw ec at g.same)

  node_sound : (s : List ℕ) (a : Tree) (n : ℕ) → Octets s → node_dec dec s ≡ got a n → Is s a n
  unfolding node_dec Upto TreeOk tree_enc depth
  node_sound s a n o q = go (header_of s) refl q
    where
      on : (t m : ℕ) (h : ℕ) (c : List ℕ) → Part s t c m → (b : Bool) → constructed t ≡ b
          → cond b (attach (inner h) m (renamed (λ l. node t (run_of l)) (all_dec dec c))) (got (prim t c) m) ≡ got a n → Is s a n
      on t m h c g false eb q =
          let ea : prim t c ≡ a = cc in
          let en : m ≡ n = cc in
          rw (← ea, ← en) (((g.tag, g.octet, eb, g.octets), omega arith), g.same)
      on t m h c g true eb q =
          let (eo, en) = attach_got (inner h) m (renamed (λ l. node t (run_of l)) (all_dec dec c)) a n q in
          let (l, el, ea) = renamed_read (λ l. node t (run_of l)) (all_dec dec c) a eo in
          node_run s t m c eb g l el a ea n en

      go : (x : HeaderRead) → header_of s ≡ x → node_of dec s x ≡ got a n → Is s a n
      go (Err p) ex q = bad_got q
      go (Ok h) ex q = on h.tag (h.start + h.len) h.start (take h.len (drop h.start s)) (part_of s h.tag h.start h.len o ex) (constructed h.tag) refl q

  node_complete : (a : Tree) (r : List ℕ) → Upto (suc d) a → length (tree_enc a) < 2 ^ 64
      → node_dec dec (tree_enc a ++ r) ≡ got a (length (tree_enc a))
  unfolding node_dec Upto TreeOk tree_enc depth element_of
  node_complete (prim t c) r h z =
      rw (form_found t c r h.0.0 (small_content t c z), h.0.2, form_content t c r) (ap (got (prim t c)) (sym (form_length t c)))
  node_complete (node t x) r h z =
      let y = small_content t (run_enc x) z in
      let o = ok_run d x h.0.3 (omega (arith, h.1)) in
      let ee : run_enc x ≡ forms tree_enc (list_of x) = sym (ap run_enc (run_list x)) ∙ run_forms (list_of x) in
      let k : all_dec dec (run_enc x) ≡ read (list_of x) = rw ee ((all (element_of d dec laws)).complete (list_of x) o (rw ee at y)) in
      rw (form_found t (run_enc x) r h.0.0 y, h.0.2, form_content t (run_enc x) r, k, run_list x)
      (ap (got (node t x)) (sym (form_length t (run_enc x))))

  node_within : (s : List ℕ) (p : ℕ) → node_dec dec s ≡ bad p → p ≤ length s
  unfolding node_dec element_of
  node_within s p q = go (header_of s) refl q
    where
      on : (t h m : ℕ) → h + m ≤ length s → (b : Bool)
          → cond b (attach (inner h) (h + m) (renamed (λ l. node t (run_of l)) (all_dec dec (take m (drop h s))))) (got (prim t (take m (drop h s))) (h + m)) ≡ bad p → p ≤ length s
      on t h m le false q = got_bad q
      on t h m le true q =
          let c = take m (drop h s) in
          let (j, ej, i) = attach_bad (inner h) (h + m) (renamed (λ l. node t (run_of l)) (all_dec dec c)) p q in
          let u = (all (element_of d dec laws)).within c j (renamed_broke (λ l. node t (run_of l)) (all_dec dec c) j ej) in
          let long : length c ≡ m = length-take-le m (drop h s) (simp length-drop (omega arith)) in
          omega arith

      go : (x : HeaderRead) → header_of s ≡ x → node_of dec s x ≡ bad p → p ≤ length s
      go (Err j) ex q = let i : j.place ≡ p = cc in rw i at (header_within s j.place ex)
      go (Ok h) ex q = on h.tag h.start h.len (header_inside s h.tag h.start h.len ex).1 (constructed h.tag) q

  node_inside : (s : List ℕ) (a : Tree) (n : ℕ) → node_dec dec s ≡ got a n → (0 < n) × (n ≤ length s)
  unfolding node_dec
  node_inside s a n q = go (header_of s) refl q
    where
      on : (t h m : ℕ) → (2 ≤ h) × (h + m ≤ length s) → (b : Bool)
          → cond b (attach (inner h) (h + m) (renamed (λ l. node t (run_of l)) (all_dec dec (take m (drop h s))))) (got (prim t (take m (drop h s))) (h + m)) ≡ got a n → (0 < n) × (n ≤ length s)
      on t h m i false q = let e : h + m ≡ n = cc in omega arith
      on t h m i true q =
          let e = (attach_got (inner h) (h + m) (renamed (λ l. node t (run_of l)) (all_dec dec (take m (drop h s)))) a n q).1 in
          omega arith

      go : (x : HeaderRead) → header_of s ≡ x → node_of dec s x ≡ got a n → (0 < n) × (n ≤ length s)
      go (Err p) ex q = bad_got q
      go (Ok h) ex q = on h.tag h.start h.len (header_inside s h.tag h.start h.len ex) (constructed h.tag) q

  node_laws : TreeLaws (suc d) (node_dec dec)
  node_laws = record { sound = node_sound; complete = node_complete; within = node_within; inside = node_inside }

pub tree_laws : (d : ℕ) → TreeLaws d (tree_dec d)
unfolding tree_dec Upto
tree_laws zero = record {
  sound = λ s a n o q. bad_got q;
  complete = λ a r h z. absurd (omega (arith, depth_some a, h.1));
  within = λ s p q. start_head s p q;
  inside = λ s a n q. bad_got q;
}
tree_laws (suc d) = node_laws d (tree_dec d) (tree_laws d)

-- any element, at most d deep
abbrev pub tree : ℕ → Element Tree
tree d = record {
  dec = tree_dec d;
  enc = tree_enc;
  ok = Upto d;
  sound = (tree_laws d).sound;
  complete = (tree_laws d).complete;
  octets = upto_octets d;
  within = (tree_laws d).within;
  inside = (tree_laws d).inside;
}
