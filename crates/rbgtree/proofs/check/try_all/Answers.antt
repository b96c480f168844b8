use Rattle.std.proofs.Common.{◌<◌, ◌+◌, ℕ, length, sym, ◌∙◌, subst, arith}
use Rattle.std.proofs.Math.ListN.{set, length-set}
use Rattle.rbgtree.specs.Check.{AreTriedUpTo}
use Rattle.rbgtree.proofs.Tries.{nothing, drop_next, drop_within, tried_more, tried_all}
use Rattle.rbgtree.proofs.check.try_all.Goals as goal

pub overflow_add-number : goal.overflow_add-number
overflow_add-number g c =
    let within = drop_within c.args.opened.items c.loop-samples.number c.in-Some.samples c.next.new.self.rest.items (c.loop-samples.invariant.1 ∙ c.in-Some.ensures.steps.0) in
    omega (arith, within, c.requires.samples, c.requires.few)

pub loop-samples-preserved : goal.loop-samples-preserved
loop-samples-preserved g c =
    let opened = c.args.opened.items in
    let i = c.loop-samples.number in
    let rest = c.next.new.self.rest.items in
    let here = c.loop-samples.invariant.1 ∙ c.in-Some.ensures.steps.0 in
    let within : i < length opened = drop_within opened i c.in-Some.samples rest here in
    let room : i < length c.loop-samples.lines = omega (arith, within, c.requires.samples, c.requires.few, c.loop-samples.invariant.3, c.told-lines) in
    let more = tried_more g.S.Samples.told g.S.Samples.faults g.S.Samples.reads c.args.plan.now.sources opened c.loop-samples.lines i c.source.result.now c.in-Some.samples rest c.try_samples.result
    c.loop-samples.invariant.0 c.source.ensures.value here room c.try_samples.ensures in (
      subst (λ (k : ℕ). AreTriedUpTo g.S.Samples.told g.S.Samples.faults g.S.Samples.reads (i + 1) c.args.plan.now.sources opened (set c.loop-samples.lines k c.try_samples.result)) (sym c.from.ensures) more,
      drop_next opened i c.in-Some.samples rest here,
      omega (arith, within),
      length-set c.loop-samples.lines c.from.result c.try_samples.result ∙ c.loop-samples.invariant.3,
    )

pub returns : goal.returns
returns g c = record {
  tried = tried_all g.S.Samples.told g.S.Samples.faults g.S.Samples.reads c.args.plan.now.sources c.args.opened.items c.loop-samples.lines c.loop-samples.number
      c.loop-samples.invariant.0 c.requires.samples (c.loop-samples.invariant.1 ∙ nothing c.loop-samples.samples-iterator.rest.items (omega (arith, c.loop-samples.samples-iterator.rest.ok, c.in-None.ensures.steps.0))) (omega (arith, c.requires.few, c.told-lines, c.loop-samples.invariant.3));
}
