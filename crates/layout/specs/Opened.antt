-- What a reading and a DER form compute with, in four lists: a proof that says `unfolding opened` opens
-- all that they name. For examples only; they have no other meaning.
-- opened: below, combined, contents, page.
-- The definitions stand here; the laws, and what is made of them, in proofs/Opened.
-- Assumes nothing.
use Rattle.std.specs.Int.Count.{count_leading_zeros}
use Rattle.octets.specs.Number.{value_of, octets_of}
use Rattle.octets.specs.Same.{same_of}
use Rattle.element.specs.Tag.{tag_ok}
use Rattle.element.specs.Length.{length_count, length_form, shortest}
use Rattle.element.specs.Header.{inside_of, long_of, length_at, header_of}
use Rattle.element.specs.Form.{form_of}
use Rattle.content.specs.Oid.{oid_from, oid_ok}
use Rattle.content.specs.Serial.{lead_ok, serial_ok, serial_count, serial_form}
use Rattle.calendar.specs.Split.{before, find}
use Rattle.calendar.specs.Date.{leap_of, year_len, month_len}
use Rattle.calendar.specs.Time.{is_real, seconds_of, pair_of, clock_of, time_of, moment_of, time_form, moment_form}
use Rattle.codec.specs.Contents.{octets_read, fixed_read, filled_dec}
use Rattle.codec.specs.Tagged.{tagged_dec}
use Rattle.codec.specs.Mapped.{mapped_dec, called_dec}
use Rattle.codec.specs.Sequence.{end_dec, field_dec, only_dec}
use Rattle.codec.specs.Starts.{starts_with}
use Rattle.codec.specs.Option.{option_of, option_dec}
use Rattle.codec.specs.Maybe.{maybe_dec}
use Rattle.codec.specs.Branch.{branch_of, branch_dec}
use Rattle.codec.specs.Choice.{choice_of, choice_dec}
use Rattle.codec.specs.Many.{many_dec, all_dec}
use Rattle.codec.specs.Each.{each_dec}
use Rattle.codec.specs.Keys.{new_to, new_test}
use Rattle.codec.specs.Tree.{tree_enc}
use Rattle.codec.specs.TreeRead.{node_dec, tree_dec}
use Rattle.codec.specs.TreeTagged.{tree_tagged_dec}

-- octets, elements, OIDs, serials and times
unfoldable pub below : Unit {0}
unfolding value_of octets_of same_of tag_ok count_leading_zeros length_count length_form shortest inside_of long_of length_at header_of form_of oid_from oid_ok lead_ok serial_ok serial_count serial_form before find leap_of year_len month_len is_real seconds_of pair_of clock_of time_of moment_of time_form moment_form
below = tt

-- codecs
unfoldable pub combined : Unit {0}
unfolding octets_read fixed_read filled_dec tagged_dec mapped_dec called_dec end_dec field_dec only_dec starts_with option_of option_dec maybe_dec branch_of branch_dec choice_of choice_dec many_dec all_dec each_dec new_to new_test tree_enc node_dec tree_dec tree_tagged_dec
combined = tt
