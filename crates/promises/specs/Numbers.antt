-- Document 01's number and values for each case of what a writer or a reader of a part answers with.
-- Told, given, number_alone, wrong; written_told, formed_told, output_told; number_told, time_told, header_told, step_told, fit_told,
-- count_told, spot_told, code_told, name_told, inside_told, tail_told, view_told, cover_told.
-- A place where a reader gave up is no value of the document: such a case has the number 3 and nothing more. Those of a
-- response and of the check are in NumbersOfCheck. What the writers answer is in Buffers.
-- Assumes nothing.
use Rattle.std.specs.Prelude.{ℕ, true, false, List, [], ◌∷◌, ◌++◌, Option, Some, None, Result, Ok, Err}
use Rattle.element.specs.Places.{HeaderRead, Spot}
use Rattle.element.specs.declared.Misfit.{Misfit}
use Rattle.element.specs.declared.Unformed.{Unformed}
use Rattle.element.specs.declared.Unformed.TheVariants as unformed
use Rattle.codec.specs.Steps.{Step, Fit}
use Rattle.read_codes.specs.declared.Code.{Code}
use Rattle.read_oids.specs.declared.Name.{Name}
use Rattle.read_entry_values.specs.declared.Standing.{Standing}
use Rattle.read_entry_values.specs.declared.Standing.TheVariants as standing
use Rattle.read_entry_values.specs.declared.View.{View}
use Rattle.read_envelope.specs.declared.Cover.{Cover}
use Rattle.read_envelope.specs.declared.Cover.TheVariants as cover
use Rattle.read_basic.specs.declared.Inside.{Inside}
use Rattle.read_basic.specs.declared.Tail.{Tail}
use Rattle.fields.specs.declared.Output.{Output}
use Rattle.fields.specs.declared.Output.TheVariants as output

-- what an answer says in document 01's terms: the number of its refusal, 0 where there is none; the status that goes with
-- 4, else 0; and its values, of which a refusal has none
pub record Told : Type 0 where
  pub number : ℕ
  pub status : ℕ
  pub values : List ℕ

-- no refusal, with values; a refusal with a number; 3, octets don't fit the layout
abbrev pub given : List ℕ → Told
given l = record { number = 0; status = 0; values = l }

abbrev pub number_alone : ℕ → Told
number_alone n = record { number = n; status = 0; values = [] }

abbrev pub wrong : Told
wrong = number_alone 3

-- ── writers ──

-- the place after what was written, or 18
abbrev pub written_told : Option ℕ → Told
written_told (Some n) = given (n ∷ [])
written_told None = number_alone 18

-- the place after a header, or 18; a tag that no element may have doesn't fit
abbrev pub formed_told : Result ℕ Unformed → Told
formed_told (Ok n) = given (n ∷ [])
formed_told (Err unformed.Short) = number_alone 18
formed_told (Err unformed.NoTag) = wrong

-- how many octets were written, or the number of the refusal
abbrev pub output_told : Output → Told
output_told (output.Octets n) = given (n ∷ [])
output_told (output.Refused n) = number_alone n

-- ── readers of octets ──

-- a number
abbrev pub number_told : Option ℕ → Told
number_told (Some n) = given (n ∷ [])
number_told None = wrong

-- seconds since 1970
abbrev pub time_told : Option ℕ → Told
time_told (Some n) = given (n ∷ [])
time_told None = wrong

-- the tag, and where the content is
abbrev pub header_told : HeaderRead → Told
header_told (Ok h) = given (h.tag ∷ h.start ∷ h.len ∷ [])
header_told (Err p) = wrong

-- how many octets an element takes
abbrev pub step_told : Step → Told
step_told (Ok n) = given (n ∷ [])
step_told (Err p) = wrong

-- that a part is read
abbrev pub fit_told : Fit → Told
fit_told (Ok u) = given []
fit_told (Err p) = wrong

-- how many elements there are
abbrev pub count_told : Result ℕ Misfit → Told
count_told (Ok n) = given (n ∷ [])
count_told (Err p) = wrong

-- where a content is
abbrev pub spot_told : Spot → Told
spot_told (Ok v) = given (v.start ∷ v.len ∷ [])
spot_told (Err p) = wrong

-- the octet that an element holds, and the place after it
abbrev pub code_told : Result Code Misfit → Told
code_told (Ok c) = given (c.value ∷ c.next ∷ [])
code_told (Err p) = wrong

-- where an OID is, and how many octets the extension takes
abbrev pub name_told : Option Name → Told
name_told (Some n) = given (n.start ∷ n.len ∷ n.next ∷ [])
name_told None = wrong

-- where the responder id is, after the version, and how many octets it takes; where the entries are, and how many
abbrev pub inside_told : Result Inside Misfit → Told
inside_told (Ok i) = given (i.from ∷ i.responder ∷ i.start ∷ i.len ∷ i.count ∷ [])
inside_told (Err p) = wrong

-- how many octets the algorithm takes, and where the signature is
abbrev pub tail_told : Result Tail Misfit → Told
tail_told (Ok t) = given (t.algorithm ∷ t.start ∷ t.len ∷ [])
tail_told (Err p) = wrong

-- a reason, FF if absent; a status: its kind, and for revoked the revocationTime and the reason; nextUpdate, or nothing
abbrev pub why_value : Option ℕ → ℕ
why_value (Some n) = n
why_value None = 255

abbrev pub standing_values : Standing → List ℕ
standing_values standing.Good = 1 ∷ []
standing_values (standing.Revoked at reason) = 2 ∷ at ∷ why_value reason ∷ []
standing_values standing.Unknown = 3 ∷ []

abbrev pub until_values : Option ℕ → List ℕ
until_values (Some n) = n ∷ []
until_values None = []

-- the values of an entry: thisUpdate, nextUpdate or nothing, its status
abbrev pub view_told : View → Told
view_told v = given (v.this ∷ (until_values v.until ++ standing_values v.standing))

-- an envelope: 4 with its status; how many octets the string of a basic response has; 5
abbrev pub cover_told : Result Cover Misfit → Told
cover_told (Ok (cover.Failed n)) = record { number = 4; status = n; values = [] }
cover_told (Ok (cover.Holds true len)) = given (len ∷ [])
cover_told (Ok (cover.Holds false len)) = number_alone 5
cover_told (Err p) = wrong
