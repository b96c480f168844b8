use Rattle.std.proofs.Common.{map}
use Rattle.shared_tree.specs.Opens.{IsOpeningOf}
use Rattle.shared_tree.proofs.opening.open_table.Given as goal

abbrev pub ghosts-begin : goal.ghosts-begin
ghosts-begin g a = record {
  is = IsOpeningOf g.S.Samples.told g.S.Samples.faults a.plan.now a.samples.now.value.items (map (λ x. x.items) a.seeds.now.value.items);
}
