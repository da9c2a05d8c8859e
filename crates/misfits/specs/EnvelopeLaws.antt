-- What was read of an envelope stands where its headers lead.
-- Stands, envelope_stands.
-- The definitions stand here; the laws, and what is made of them, in proofs/EnvelopeLaws.
-- Assumes nothing.
use Rattle.std.specs.Prelude.{ℕ, ◌≡◌, true, false, List}
use Rattle.layout.specs.Names.{Envelope, failure, success}
use Rattle.misfits.specs.Tests.{is_zero}
use Rattle.misfits.specs.Misfits.{status_content, type_content, string_content}

-- the status; with status 0 the type and the string
abbrev pub Stands : List ℕ → Envelope → Type 0
Stands s (failure n) = is_zero (status_content s) ≡ false
Stands s (success t c) = (is_zero (status_content s) ≡ true) × (type_content s ≡ t) × (string_content s ≡ c)
