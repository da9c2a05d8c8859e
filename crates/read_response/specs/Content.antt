-- The content of a basic response, seen as where its parts are: what the code answers.
-- content_of. The parts are in Parts.
-- Assumes nothing.
use Rattle.std.specs.Prelude.{ℕ, ◌+◌, Result, Ok, Err}
use Rattle.element.specs.Places.{misfit}
use Rattle.element.specs.declared.Misfit.{Misfit}
use Rattle.codec.specs.Codec.{Read, read, broke}
use Rattle.layout.specs.Reading.{Basic}
use Rattle.read_response.specs.Parts.{parts_from}
use Rattle.read_response.specs.declared.Parts.{Parts}

-- the content of a basic response, which starts at a place of the response
unfoldable pub content_of : ℕ → Read Basic → Result Parts Misfit
content_of at (read b) = Ok (parts_from at b)
content_of at (broke p) = Err (misfit (at + p))
