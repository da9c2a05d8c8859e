-- Headers of contents of fewer than 128 octets, and what stands before the name hash of a request.
-- element_length; heads_form, front_form; heads_is, heads_form_lem.
-- The definitions stand here; the laws, and what is made of them, in proofs/Heads.
-- Assumes nothing.
use Rattle.std.specs.Prelude.{ℕ, ◌+◌, List, ◌++◌}
use Rattle.element.specs.Form.{head_form}

-- the headers of five sequences, each holding only the next, the last n octets
unfoldable pub heads_form : ℕ → List ℕ
heads_form n = head_form 0x30 (n + 8) ++ (head_form 0x30 (n + 6) ++ (head_form 0x30 (n + 4) ++ (head_form 0x30 (n + 2) ++ head_form 0x30 n)))

-- what stands before a name hash: those headers, an algorithm identifier, and the header of the hash
unfoldable pub front_form : List ℕ → ℕ → ℕ → List ℕ
front_form head hash n = heads_form n ++ (head ++ head_form 0x04 hash)
