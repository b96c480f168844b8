use Rattle.std.proofs.Common.{◌≡◌, ◌+◌, ◌<◌, List, length}
use Rattle.tree_rules.specs.History.{Entry, Opening}
use Rattle.tree_rules.specs.Openings.{IsHistory}
use Rattle.tree_core.specs.Made.{samples_in}
use Rattle.tree_core.specs.Solo.{StandAfter}
use Rattle.tree_load.specs.Load.{reached, stated_calls}
use Rattle.tree_load.specs.Made.{AreMade}
use Rattle.tree_load.proofs.load.make_stated_calls.Given as goal

abbrev pub invariant-calls : goal.invariant-calls
invariant-calls g l = record {
  nodes_are : l.stated.nodes ≡ length l.fn.tree.plan.nodes;
  some : 0 < l.stated.nodes;
  reached_are : l.stated.reached ≡ reached l.seed l._i;
  plan_is : l.tree.plan ≡ l.fn.tree.plan;
  calls_are : l.tree.calls ≡ l.fn.tree.calls + l._i;
  all : l.done + l.refused ≡ l._i;
  made : (f : Opening) (o h : List Entry) → IsHistory f o h → f.plan ≡ l.fn.tree.plan
      → StandAfter g.S.Samples.told g.S.Samples.faults f o h l.fn.tree.nodes l.fn.tree.sources
      → AreMade g.S.Samples.told g.S.Samples.faults g.S.Samples.reads f o h (samples_in l.fn.tree.sources) (stated_calls (length l.fn.tree.plan.nodes) l.seed l._i) l.done l.refused l.tree.nodes l.tree.sources;
}
