use Rattle.std.proofs.Common.{arith}
use Rattle.rbg_talk.proofs.Served.{call_served}
use Rattle.rbg_talk.proofs.call.Options.call.Goals as goal

pub returns-clause-served : goal.returns-clause-served
returns-clause-served c =
    call_served c.args.operation c.args.self _ c.op.ensures c.from.ensures (omega (arith, c.ranges.node.fits)) (omega (arith, c.ranges.count.fits)) c.requires.count c.unwrap_or.ensures
    c.unwrap_or.type_inv c.unwrap_or-2.ensures c.requires.allowed
