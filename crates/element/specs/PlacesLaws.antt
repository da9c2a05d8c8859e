-- Laws of answers that hold a place, a part or a header: where two are equal, so are their numbers.
-- same_place, same_span, same_header. The names are in Places.
-- Assumes nothing.
use Rattle.std.specs.Prelude.{◌≡◌, Result, Ok, Err}
use Rattle.std.proofs.Common.{ap}
use Rattle.element.specs.declared.Misfit.{Misfit}
use Rattle.element.specs.declared.Span.{Span}
use Rattle.element.specs.declared.Header.{Header}
use Rattle.element.specs.Places.{HeaderRead, Spot}

-- two refusals
pub same_place : {A : Type 0} {p q : Misfit} → ◌≡◌ {A = Result A Misfit} (Err p) (Err q) → p.place ≡ q.place
same_place {p = p} {q = q} e = let i : p ≡ q = cc in ap (λ (x : Misfit). x.place) i

-- two parts
pub same_span : {v w : Span} → ◌≡◌ {A = Spot} (Ok v) (Ok w) → (v.start ≡ w.start) × (v.len ≡ w.len)
same_span {v = v} {w = w} e = let i : v ≡ w = cc in (ap (λ (x : Span). x.start) i, ap (λ (x : Span). x.len) i)

-- two headers
pub same_header : {h g : Header} → ◌≡◌ {A = HeaderRead} (Ok h) (Ok g) → (h.tag ≡ g.tag) × (h.start ≡ g.start) × (h.len ≡ g.len)
same_header {h = h} {g = g} e =
    let i : h ≡ g = cc in
    (ap (λ (x : Header). x.tag) i, ap (λ (x : Header). x.start) i, ap (λ (x : Header). x.len) i)
