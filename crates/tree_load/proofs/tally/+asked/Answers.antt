use Rattle.std.proofs.Common.{◌∙◌, sym, arith}
use Rattle.tree_load.specs.Tallied.{asked_of}
use Rattle.tree_load.specs.Fits.{counts_in}
use Rattle.tree_load.proofs.Weighing.{alone, begins, below_fits, child, ends, no_child}
use Rattle.tree_load.proofs.tally.+asked.Goals as goal
use Rattle.tree_load.proofs.tally.+asked.Goals.{then-is_child, else-is_child}

pub returns-then-far-eq0 : goal.returns-then-far-eq0
returns-then-far-eq0 t c = λ all fit.
    alone c.args.plan.now (counts_in c.args.before.now) (asked_of c.args.calls.now) c.args.weight c.args.far c.args.n fit c.if-far-eq0.true c.of_calls-sum.result c.of_calls-sum.ensures

pub children-init : goal.children-init
children-init t c = λ all fit.
    begins c.args.plan.now (counts_in c.args.before.now) (asked_of c.args.calls.now) c.args.weight c.args.far c.args.n fit c.nodes-m-end.ensures.range c.if-far-eq0.false c.of_calls-sum.result c.of_calls-sum.ensures

pub children-preserved : goal.children-preserved
children-preserved t c = λ all fit.
    let p = c.args.plan.now in let before = counts_in c.args.before.now in let own = asked_of c.args.calls.now in
    let m = c.children.m in
    elim c.if-is_child.branch [
      | then-is_child w ↦ w.sum-is ∙ child p before own c.args.weight c.args.far c.args.n fit c.nodes-m-end.ensures.range c.if-far-eq0.false m c.children.sum (omega (arith, c.children-test.true, c.children.auto.m-end, c.nodes-m-end.ensures.count)) (c.children.invariant all fit)
          (sym c.is_child.ensures ∙ w.if-is_child.true) all c.requires.deep w.asked-times.result w.handed.result w.saturating_add-sum.result (w.asked-times.ensures all (below_fits p before own all c.args.far c.children.m c.requires.deep (omega (arith, c.children-test.true, c.children.auto.m-end, c.nodes-m-end.ensures.count)))) w.handed.ensures w.saturating_add-sum.ensures
      | else-is_child w ↦ w.sum-is ∙ no_child p before own c.args.weight c.args.far c.args.n fit c.nodes-m-end.ensures.range c.if-far-eq0.false m c.children.sum (omega (arith, c.children-test.true, c.children.auto.m-end, c.nodes-m-end.ensures.count)) (c.children.invariant all fit) (sym c.is_child.ensures ∙ w.if-is_child.false)
    ]

pub returns : goal.returns
returns t c = λ all fit.
    ends c.args.plan.now (counts_in c.args.before.now) (asked_of c.args.calls.now) c.args.weight c.args.far c.args.n fit c.nodes-m-end.ensures.range c.if-far-eq0.false c.children.m c.children.sum (omega (arith, c.children-test.false, c.children.auto.m-end, c.nodes-m-end.ensures.count)) (c.children.invariant all fit)
