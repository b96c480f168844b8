use Rattle.shared_tree.specs.Rows.{what_of}
use Rattle.shared_tree.proofs.Leaving.{may_put, to_leave}
use Rattle.shared_tree.proofs.calls.leave.Goals as goal

pub take-value-requires : goal.take-value-requires
take-value-requires g c = to_leave g.S.Samples.told g.S.Samples.faults (what_of c.args.row.now) c.args.slot c.args.pass.now.view c.requires.held

pub put_back-requires-clause-turn : goal.put_back-requires-clause-turn
put_back-requires-clause-turn g c = may_put g.S.Samples.told g.S.Samples.faults (what_of c.args.row.now) c.args.slot c.args.pass.now.view c.take-value.result c.requires.held c.take-value.ensures.there
