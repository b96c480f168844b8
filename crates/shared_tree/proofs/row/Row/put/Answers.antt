use Rattle.std.proofs.Common.{arith, subst}
use Rattle.shared_tree.specs.declared.machine.SlotValue.{SlotValue}
use Rattle.shared_tree.specs.Rows.{HasRoom}
use Rattle.shared_tree.proofs.Empties.{is_empty}
use Rattle.shared_tree.proofs.row.Row.put.Goals as goal

pub returns-in-Source-clause-places : goal.returns-in-Source-clause-places
returns-in-Source-clause-places g c = let e = is_empty c.args.self.now.source (subst (λ (z : SlotValue g.row.S.Denot). HasRoom c.args.self.now z) c.in-Source.is c.requires.room) in omega arith
