-- An element with a tag, around a whole list or a content. The header counts first, then the tag,
-- then the content: a wrong tag refuses the element's own place, 0.
-- tagged (a place in the content is a place in the element), primitive (a content that is not read
-- refuses the element's own place).
-- The definitions stand here; the laws, and what is made of them, in proofs/Tagged.
-- Assumes nothing.
use Rattle.std.specs.Prelude.{ℕ, ◌+◌, List, eqb, take, Ok, Err}
use Rattle.std.proofs.Math.Bool.{cond}
use Rattle.std.proofs.Math.ListN.{drop}
use Rattle.element.specs.Header.{header_of}
use Rattle.element.specs.Places.{HeaderRead}
use Rattle.codec.specs.Codec.{Read, Got, bad}
use Rattle.codec.specs.Outcome.{attach}

-- where a place in the content is, after a header of h octets: there, or at the element itself
abbrev pub inner : ℕ → ℕ → ℕ
inner h p = h + p

abbrev pub own : ℕ → ℕ → ℕ
own h p = 0

-- by the header: the tag is the one that is wanted, and the content is read
abbrev pub tagged_of : {A : Type 0} → (ℕ → ℕ → ℕ) → ℕ → (List ℕ → Read A) → List ℕ → HeaderRead → Got A
tagged_of at t d s (Ok h) = cond (eqb h.tag t) (attach (at h.start) (h.start + h.len) (d (take h.len (drop h.start s)))) (bad 0)
tagged_of at t d s (Err p) = bad p.place

unfoldable pub tagged_dec : {A : Type 0} → (ℕ → ℕ → ℕ) → ℕ → (List ℕ → Read A) → List ℕ → Got A
tagged_dec at t d s = tagged_of at t d s (header_of s)
