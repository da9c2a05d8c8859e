-- What is left to show of `freshness::judge_times`: an early answer, and one whose nextUpdate is not past.
-- Assumes nothing.
use Rattle.freshness.proofs.Cases.{judge_early, judge_before}
use Rattle.freshness.proofs.judge_times.Goals as goal

pub returns-then-now-this : goal.returns-then-now-this
returns-then-now-this c = search judge_early

pub returns-then-now-end : goal.returns-then-now-end
returns-then-now-end c = search judge_before
