-- What faults compute with, in one list: a proof that says `unfolding opened` opens all that they name.
-- For examples only; it has no other meaning.
-- opened.
-- Assumes nothing.
use Rattle.octets.specs.Number.{value_of}
use Rattle.octets.specs.Same.{same_of}
use Rattle.element.specs.Tag.{tag_ok}
use Rattle.element.specs.Length.{shortest}
use Rattle.element.specs.Header.{inside_of, long_of, length_at, header_of}
use Rattle.codec.specs.Starts.{starts_with}
use Rattle.codec.specs.Keys.{new_to, new_test}
use Rattle.faults.specs.Faults.{content_at, rest_at, then_faults, end_faults, perhaps_faults, one_faults, several_faults, any_faults, keys_at, distinct_faults, leaf_faults, around_faults, free_faults, free_with_faults, item_faults, line_faults}

unfoldable pub opened : Unit {0}
unfolding value_of same_of tag_ok shortest inside_of long_of length_at header_of starts_with new_to new_test content_at rest_at then_faults end_faults perhaps_faults one_faults several_faults any_faults keys_at distinct_faults leaf_faults around_faults free_faults free_with_faults item_faults line_faults
opened = tt
