-- The signature and the entries of a basic response, by computing.
-- full_signature, first_entry, second_entry, no_entry. The response is full of crate read_response.
-- Assumes nothing.
use Rattle.std.specs.Prelude.{◌≡◌, refl, [], ◌∷◌}
use Rattle.layout.proofs.Opened.{opened}
use Rattle.read_response.specs.Parts.{parts_from, judged_as, judged_of}
use Rattle.read_response.proofs.Examples.{full}
use Rattle.show.specs.Shown.{signature_in, signature_of, entry_in, entry_as, entry_of}
use Rattle.show.specs.declared.Entry.TheVariants as entry

full_signature : signature_of full ≡ 0xaa ∷ 0xbb ∷ []
unfolding opened judged_of judged_as parts_from signature_of signature_in
full_signature = refl

-- its entries, and past them
first_entry : entry_of full 0 ≡ entry.At 58 100
unfolding opened judged_as parts_from entry_of entry_as entry_in
first_entry = refl

second_entry : entry_of full 1 ≡ entry.At 158 41
unfolding opened judged_as parts_from entry_of entry_as entry_in
second_entry = refl

no_entry : entry_of full 2 ≡ entry.End
unfolding opened judged_as parts_from entry_of entry_as entry_in
no_entry = refl
