-- The run of certificates that a response holds, under a name of its own.
-- certificate_run.
-- Assumes nothing.
use Rattle.std.specs.Prelude.{List}
use Rattle.codec.specs.Codec.{Whole}
use Rattle.codec.proofs.Many.{many}
use Rattle.codec.specs.Tree.{Tree}
use Rattle.layout.proofs.ElementKinds.{free_sequence}

-- 0 to 8 certificates
unfoldable pub certificate_run : Whole (List Tree)
certificate_run = many 0 8 free_sequence
