-- `cache_line::answers::tell_filed` meets its contract. Assumes nothing.
use Rattle.cache_line.proofs.Cases.{told_count, told_count_cache, told_refused, told_nothing}
use Rattle.cache_line.proofs.answers.tell_filed.Goals as goal

pub returns-in-Ok : goal.returns-in-Ok
returns-in-Ok c = record { wrote = search told_count; wrote_2 = search told_count_cache }

pub returns-in-Err : goal.returns-in-Err
returns-in-Err c = record { wrote = search told_refused; wrote_2 = search told_nothing }
