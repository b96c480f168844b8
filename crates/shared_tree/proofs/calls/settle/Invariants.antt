use Rattle.std.specs.Prelude.{take}
use Rattle.shared_tree.specs.Rows.{what_of}
use Rattle.shared_tree.specs.Carries.{Marks}
use Rattle.shared_tree.proofs.calls.settle.Given as goal

abbrev pub ghosts-enter : goal.ghosts-enter
ghosts-enter g a = record {
  is = Marks g.S.Samples.told g.S.Samples.faults (what_of a.row.now) a.call.now a.input.now a.reply.now (take a.reply.now.len a.out.now) a.pass.now.view;
}
