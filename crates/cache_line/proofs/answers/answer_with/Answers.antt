-- `cache_line::answers::answer_with` meets its contract. Assumes nothing.
use Rattle.cache_line.proofs.AskCases.{with_file, with_file_cache, with_same_cache}
use Rattle.cache_line.proofs.answers.answer_with.Goals as goal

pub returns-then-operation-eq1 : goal.returns-then-operation-eq1
returns-then-operation-eq1 c = record { wrote = search with_file; wrote_2 = search with_file_cache }

pub returns-clause-wrote_2 : goal.returns-clause-wrote_2
returns-clause-wrote_2 c = search with_same_cache
