-- The pieces of which layout's Format makes extensions, around the list: what each reader here reads.
-- sequenced, held; key, read_after, by which the list is read. The codecs are what Format has at those places.
-- Assumes nothing.
use Rattle.std.specs.Prelude.{ℕ, List}
use Rattle.codec.specs.Codec.{Got, Whole, Element}
use Rattle.codec.proofs.Sequence.{only}
use Rattle.layout.proofs.ElementKinds.{sequence}
use Rattle.layout.specs.Reading.{Extension}
use Rattle.layout.proofs.Format.{extension_after, extension_list}

-- the list in its 30
unfoldable pub sequenced : Element (List Extension)
sequenced = sequence extension_list

-- the 30, and nothing more: what an A1 holds
unfoldable pub held : Whole (List Extension)
held = only (sequence extension_list)

-- what no two extensions of a list share, and what is read after those seen
abbrev pub key : Extension → List ℕ
key e = e.oid

abbrev pub read_after : List (List ℕ) → List ℕ → Got Extension
read_after seen = (extension_after seen).dec
