use Rattle.vector_replay.proofs.Judging.{takes_differs, takes_refused, takes_same, takes_unwritten}
use Rattle.vector_replay.proofs.replaying.take_case.Goals as goal

pub returns-in-Same-clause-takes : goal.returns-in-Same-clause-takes
returns-in-Same-clause-takes g c = takes_same c.args.totals.now c.args.case.now (g.O.ByteSink.out c.args.output.now) (tt {0}) c.in-Same.ensures.verdict

pub returns-in-BadLengths-clause-takes : goal.returns-in-BadLengths-clause-takes
returns-in-BadLengths-clause-takes g c = takes_refused (Unit {0}) c.args.totals.now c.args.case.now (g.O.ByteSink.out c.args.output.now) c.in-BadLengths.ensures.verdict

pub returns-in-Ok-clause-takes : goal.returns-in-Ok-clause-takes
returns-in-Ok-clause-takes g c =
    takes_differs c.args.totals.now c.args.case.now c.verdict.new.got (g.O.ByteSink.out c.args.output.now) (g.O.ByteSink.out c.write_difference.new.output) (tt {0})
    c.in-Differs.ensures.verdict c.in-Differs.ensures.got c.in-Ok.ensures.bytes

pub returns-in-Err-clause-takes : goal.returns-in-Err-clause-takes
returns-in-Err-clause-takes g c =
    takes_unwritten (Unit {0}) c.args.totals.now c.args.case.now c.verdict.new.got (g.O.ByteSink.out c.args.output.now) (g.O.ByteSink.out c.write_difference.new.output) c.fault_count.result
    c.in-Differs.ensures.verdict c.in-Differs.ensures.got c.in-Err.ensures.bytes
