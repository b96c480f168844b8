use Rattle.std.proofs.Common.{◌≡◌, drop}
use Rattle.tree_rules.specs.Replies.{first_reply}
use Rattle.tree_core.proofs.table.first_reply.Given as goal

abbrev pub invariant-loop-row : goal.invariant-loop-row
invariant-loop-row l = first_reply l.rows ≡ first_reply (drop l.row-index l.rows)
