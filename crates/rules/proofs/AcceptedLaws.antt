-- Each test of the check against the plain condition that it stands for.
-- both; range_exactly, signer_exactly, signer_empty, marks_exactly, strange_exactly, response_exactly, entry_exactly;
-- outcome_basic, entries_one.
-- Those of times are in TimesLaws. The definitions are in Accepted, and in Question, Signer and Order. Assumes nothing.
use Rattle.std.specs.Prelude.{ℕ, ◌%◌, ◌≤◌, ◌↔◌, ◌≡◌, Bool, ◌&&◌, leb, eqb, length}
use Rattle.std.proofs.Common.{arith, inl, inr, ⊎_elim, sym, ap, ◌∙◌, leb-true, le-leb, eqb-true}
use Rattle.std.proofs.Math.Path.{refl}
use Rattle.std.proofs.Math.Bool.{true, false, cond, not}
use mathlib.Core.List.Memᴰ
use mathlib.Core.List.{List, [], ◌∷◌, Memᴰ}
use Rattle.std.proofs.Math.Option.{Option, none, some}
use Rattle.std.proofs.lemmas.Bool.{eqb-false}
use Rattle.calendar.specs.Time.{last_second}
use Rattle.octets.specs.Same.{same_of}
use Rattle.octets.specs.SameLaws.{impossible, same_true, same_false, same_refl}
use Rattle.element.specs.Form.{form_of}
use Rattle.codec.specs.Tree.{Tree, prim, node, tree_enc}
use Rattle.layout.specs.Reading.{Extension, Responder, by_name, by_key, Entry, Basic, failed, basic}
use Rattle.layout.specs.Read.{Outcome, reads, other_type, unfit}
use Rattle.answer.specs.Card.{card_ok}
use Rattle.rules.specs.declared.Question.{Question}
use Rattle.rules.specs.Question.{in_range}
use Rattle.rules.specs.Signer.{is_signer, ocsp_oid, in_response, in_entry, strange, strange_in}
use Rattle.rules.specs.Order.{is_unfit, is_failed, is_other, is_none, are_more, lacks_mark}
use Rattle.rules.specs.Accepted.{InRange, Signs, KnownInResponse, KnownInEntry, Understood}

-- two tests that both hold
pub both : (t u : Bool) → t && u ≡ true → (t ≡ true) × (u ≡ true)
both true u e = (refl, e)
both false u e = impossible e

-- 1: the question is in range
pub range_exactly : (q : Question) (name : List ℕ) → in_range q name ≡ true ↔ InRange q name
unfolding in_range
range_exactly q name = (
  λ e.
      let a = both _ (leb (length name) 256) e in
      let b = both _ (leb q.marks 7) a.0 in
      let c = both _ (leb q.role 3) b.0 in
      let d = both _ (leb 1 q.role) c.0 in
      let f = both _ (leb q.verdict 2) d.0 in
      let g = both _ (leb q.tolerance 3600) f.0 in
      let h = both (card_ok q.card) (leb q.now last_second) g.0 in
      record {
        serial = h.0;
        now = leb-true _ _ h.1;
        tolerance = leb-true _ _ g.1;
        verdict = leb-true _ _ f.1;
        role_least = leb-true _ _ d.1;
        role_most = leb-true _ _ c.1;
        marks = leb-true _ _ b.1;
        name_size = leb-true _ _ a.1;
      },
  λ r.
      rw (
        r.serial,
        le-leb _ _ r.now,
        le-leb _ _ r.tolerance,
        le-leb _ _ r.verdict,
        le-leb _ _ r.role_least,
        le-leb _ _ r.role_most,
        le-leb _ _ r.marks,
        le-leb _ _ r.name_size,
      ),
)

-- 7: the responder id is the signer's
pub signer_exactly : (key name : List ℕ) (r : Responder) → is_signer key name r ≡ true ↔ Signs key name r
unfolding is_signer
signer_exactly key name (by_key k) = (same_true k key, λ e. rw e (same_refl key))
signer_exactly key name (by_name n) = (same_true (tree_enc n) name, λ e. rw e (same_refl name))

-- an empty Name is no responder's
pub signer_empty : (key : List ℕ) (n : Tree) → Signs key [] (by_name n) → ⊥
unfolding tree_enc form_of
signer_empty key (prim t c) e = let z : ◌≡◌ {A = ℕ} 0 1 = cc in omega arith
signer_empty key (node t r) e = let z : ◌≡◌ {A = ℕ} 0 1 = cc in omega arith

-- 8: a delegate has all three marks
pub marks_exactly : (role marks : ℕ) → marks ≤ 7 → eqb role 2 && lacks_mark marks ≡ false ↔ (role ≡ 2 → marks ≡ 7)
marks_exactly role marks h = go (eqb role 2) (eqb (marks % 8) 7) refl refl
  where
    go : (t u : Bool) → eqb role 2 ≡ t → eqb (marks % 8) 7 ≡ u → (t && not u) ≡ false ↔ (role ≡ 2 → marks ≡ 7)
    go false u p q = (λ e r. absurd (eqb-false role 2 p r), λ f. refl)
    go true true p q = (λ e r. omega (arith, eqb-true (marks % 8) 7 q), λ f. refl)
    go true false p q = (λ e. impossible (sym e), λ f. absurd (eqb-false (marks % 8) 7 q (omega (arith, f (eqb-true role 2 p)))))

-- ---- 9 and 12: each critical extension is understood

module _ (known : List ℕ → Bool) (Known : List ℕ → Type 0) (exactly : (o : List ℕ) → known o ≡ true ↔ Known o) where
  -- the first is, and the others are
  strange_cons : (x : Extension) (l : List Extension) → (x.critical ≡ true → Known x.oid) → Understood Known (some l) → Understood Known (some (x ∷ l))
  strange_cons x l h r y m c =
      ⊎_elim
      (λ (e : y ≡ x). rw e (h (ap (λ (z : Extension). z.critical) (sym e) ∙ c)))
      (λ (n : Memᴰ y l). r y n c)
      (Memᴰ.cases_cons m)

  -- of a list
  strange_list : (l : List Extension) → strange known l ≡ false ↔ Understood Known (some l)
  unfolding strange
  strange_list [] = (λ e x m c. absurd (Memᴰ.not-nil m), λ h. refl)
  strange_list (x ∷ l) = go x.critical (known x.oid) refl refl (strange_list l)
    where
      go : (t u : Bool) → x.critical ≡ t → known x.oid ≡ u → (strange known l ≡ false ↔ Understood Known (some l))
          → cond (t && not u) true (strange known l) ≡ false ↔ Understood Known (some (x ∷ l))
      go true true p q r = (
        λ e. strange_cons x l (λ c. (exactly x.oid).0 q) (r.0 e),
        λ h. r.1 (λ y m. h y (Memᴰ.tail m)),
      )
      go true false p q r = (
        λ e. impossible (sym e),
        λ h. impossible (sym q ∙ (exactly x.oid).1 (h x (Memᴰ.head refl) p)),
      )
      go false u p q r = (
        λ e. strange_cons x l (λ c. impossible (sym p ∙ c)) (r.0 e),
        λ h. r.1 (λ y m. h y (Memᴰ.tail m)),
      )

  pub strange_exactly : (l : Option (List Extension)) → strange_in known l ≡ false ↔ Understood Known l
  strange_exactly none = (λ e. tt, λ h. refl)
  strange_exactly (some l) = strange_list l

-- in the response nonce and extended revoke are
pub response_exactly : (o : List ℕ) → in_response o ≡ true ↔ KnownInResponse o
response_exactly o = go (same_of o (ocsp_oid 2)) refl
  where
    go : (t : Bool) → same_of o (ocsp_oid 2) ≡ t → cond t true (same_of o (ocsp_oid 9)) ≡ true ↔ KnownInResponse o
    go true p = (λ e. inl (same_true o (ocsp_oid 2) p), λ h. refl)
    go false p = (
      λ e. inr (same_true o (ocsp_oid 9) e),
      ⊎_elim (λ (h : o ≡ ocsp_oid 2). absurd (same_false o (ocsp_oid 2) p h)) (λ (h : o ≡ ocsp_oid 9). rw h (same_refl (ocsp_oid 9))),
    )

-- in an entry archive cutoff is
pub entry_exactly : (o : List ℕ) → in_entry o ≡ true ↔ KnownInEntry o
entry_exactly o = (same_true o (ocsp_oid 6), λ h. rw h (same_refl (ocsp_oid 6)))

-- ---- what is left where 3 to 5, and 10 and 11, do not apply

pub outcome_basic : (o : Outcome) → is_unfit o ≡ false → is_failed o ≡ false → is_other o ≡ false → (b : Basic) × (o ≡ reads (basic b))
outcome_basic (unfit p) e f g = impossible (sym e)
outcome_basic other_type e f g = impossible (sym g)
outcome_basic (reads (failed n)) e f g = impossible (sym f)
outcome_basic (reads (basic b)) e f g = (b, refl)

pub entries_one : (l : List Entry) → is_none l ≡ false → are_more l ≡ false → (e : Entry) × (l ≡ e ∷ [])
entries_one [] e f = impossible (sym e)
entries_one (x ∷ []) e f = (x, refl)
entries_one (x ∷ y ∷ l) e f = impossible (sym f)
