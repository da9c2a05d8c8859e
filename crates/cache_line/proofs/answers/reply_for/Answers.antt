-- `cache_line::answers::reply_for` meets its contract. Assumes nothing.
use Rattle.cache_line.proofs.InputCases.{input_new, input_new_cache, input_short, input_short_cache, input_line, input_cache}
use Rattle.cache_line.proofs.answers.reply_for.Goals as goal

pub returns-then-is_new : goal.returns-then-is_new
returns-then-is_new c = record { wrote = search input_new; wrote_2 = search input_new_cache }

pub returns-then-at-eq0 : goal.returns-then-at-eq0
returns-then-at-eq0 c = record { wrote = search input_short; wrote_2 = search input_short_cache }

pub returns : goal.returns
returns c = record { wrote = search input_line; wrote_2 = search input_cache }
