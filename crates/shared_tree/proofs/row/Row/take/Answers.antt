use Rattle.std.proofs.Common.{Bool, sym, subst, true≢false}
use Rattle.std.specs.Prelude.{IsTrue}
use Rattle.shared_tree.specs.Rows.{nodes_of}
use Rattle.shared_tree.proofs.Maps.{none_of}
use Rattle.shared_tree.proofs.row.Row.take.Goals as goal

pub returns-clause-there : goal.returns-clause-there
returns-clause-there g c = (none_of (nodes_of c.args.self.now c.args.slot) (λ is. true≢false (sym (subst (λ (b : Bool). IsTrue b) c.if-has.false (c.has.ensures.1 is)))), c.take-2.ensures.there)
