-- How much room the program has for its input (document 01, "Request and slip", and refusal 2): a question of 353 octets, the
-- longest response, of 16,384 octets, and one octet more.
-- question_size, response_most, room_least. That this much is enough is in KeptLaws and SameLineLaws.
-- Assumes nothing.
use Rattle.std.specs.Prelude.{ℕ, ◌+◌}

-- the octets of a question
abbrev pub question_size : ℕ
question_size = 353

-- the octets of the longest response that is read
abbrev pub response_most : ℕ
response_most = 16384

-- the least room
abbrev pub room_least : ℕ
room_least = question_size + response_most + 1
