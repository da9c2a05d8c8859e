-- M11 of document 01: thisUpdate 1,114,909,200 and nextUpdate 1,115,082,000 (source document 000, 6.2), and what is refused.
-- Assumes nothing.
use Rattle.std.specs.Prelude.{◌≡◌, refl, Some, None, Ok, Err}
use Rattle.freshness.specs.declared.Missed.TheVariants.{Reversed, Early, Late}
use Rattle.freshness.specs.Fresh.{fresh_of, fresh_refusal}

-- M11: with tolerance 0 now 1,115,082,000 passes
m11_passes : fresh_of 1114909200 (Some 1115082000) 1115082000 0 ≡ Ok tt
unfolding fresh_of
m11_passes = refl

-- M11: one more gives 16, a second late
m11_late : fresh_of 1114909200 (Some 1115082000) 1115082001 0 ≡ Err (Late 1)
unfolding fresh_of
m11_late = refl

m11_refused : fresh_refusal (fresh_of 1114909200 (Some 1115082000) 1115082001 0) ≡ 16
unfolding fresh_of
m11_refused = refl

-- M11: with tolerance 1 it passes
m11_tolerated : fresh_of 1114909200 (Some 1115082000) 1115082001 1 ≡ Ok tt
unfolding fresh_of
m11_tolerated = refl

-- now equal to thisUpdate passes; a second before it gives 15, and no tolerance helps
first_second : fresh_of 1114909200 (Some 1115082000) 1114909200 0 ≡ Ok tt
unfolding fresh_of
first_second = refl

second_before : fresh_of 1114909200 (Some 1115082000) 1114909199 3600 ≡ Err (Early 1)
unfolding fresh_of
second_before = refl

-- both 14 and 15 apply: 14 is given
both_wrong : fresh_of 1115082000 (Some 1114909200) 1114909199 3600 ≡ Err (Reversed 172800)
unfolding fresh_of
both_wrong = refl

-- nextUpdate may equal thisUpdate
one_second : fresh_of 1114909200 (Some 1114909200) 1114909200 0 ≡ Ok tt
unfolding fresh_of
one_second = refl

-- no nextUpdate gives 13, whatever else is wrong
no_end : fresh_refusal (fresh_of 1114909200 None 1114909199 0) ≡ 13
unfolding fresh_of
no_end = refl
