-- The line that is printed for work on a tree.
-- This project's own.
use Rattle.std.specs.Prelude.{◌≡◌, ℕ, List}
use Rattle.tree_config.specs.Tree.{Tree}
use Rattle.tree_rules.specs.declared.call.Call.TheVariants.{Generate}
use Rattle.rbg_bench.specs.Calls.{CameToOn, outcome_line}
use Rattle.rbg_bench.specs.Draws.{DrewOn}
use Rattle.rbg_bench.specs.declared.outcome.Outcome.{Outcome}
use Rattle.rbg_bench.specs.declared.tree_job.TreeJob.{TreeJob}
use Rattle.rbg_bench.specs.declared.tree_job.TreeJob.TheVariants.{Calls, Draws}

-- it tells what the work on a tree of the plan came to
abbrev pub IsTreeLine : Tree → TreeJob → List ℕ → Type 0
IsTreeLine p (Calls n b pr t) line = (outcome : Outcome) × CameToOn p (Generate n b 0 pr) t outcome × (line ≡ outcome_line outcome)
IsTreeLine p (Draws b t) line = (outcome : Outcome) × DrewOn p b t outcome × (line ≡ outcome_line outcome)
