-- `cache_line::answers::answer_file` meets its contract. Assumes nothing.
use Rattle.cache_line.proofs.Cases.{filed_line, filed_cache_lem}
use Rattle.cache_line.proofs.answers.answer_file.Goals as goal

pub returns : goal.returns
returns c = record { wrote = search filed_line; wrote_2 = search filed_cache_lem }
