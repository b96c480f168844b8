use Rattle.std.proofs.Common.{rules, arith, ◌≡◌, ◌∙◌, ◌+◌, ◌∷◌, [], length, sym, ap, subst, false}
use Rattle.std.specs.Prelude.{Some, None, nat_lt, if◌then◌else◌}
use Rattle.std.proofs.lemmas.Bool.Decides.{nat_tests}
use Rattle.tree_rules.specs.Slots.{source_slot}
use Rattle.tree_acts.specs.Drew.{Drew}
use Rattle.tree_acts.proofs.Chunking.{drew_nothing}
use Rattle.tree_acts.proofs.mixed.draw_some.Goals as goal

pub returns-then-is_empty : goal.returns-then-is_empty
returns-then-is_empty g c =
    let told = g.S.Samples.told in let faults = g.S.Samples.faults in let p = c.args.plan.now in let h = g.H.Holdings.what c.args.hold.now in
    let j = c.args.j in
    let slot : c.nodes.result + c.from.result ≡ source_slot p j = ap (λ n. n + c.from.result) c.nodes.ensures.count ∙ ap (λ i. length p.nodes + i) c.from.ensures in
    let at : h.sources (source_slot p j) ≡ Some c.source.result.now = subst (λ k. h.sources k ≡ Some c.source.result.now) slot c.source.ensures in
    let none : nat_lt 0 (length c.args.out.now) ≡ false = (let e : length c.args.out.now ≡ 0 = search rules in grind (arith, nat_tests)) in
    subst (λ b. Drew told faults g.S.Samples.reads p h h j (if b then length c.args.out.now ∷ [] else []) None (if b then c.args.out.now ∷ [] else [])) (sym none)
    (drew_nothing told faults p g.S.Samples.reads h j c.source.result.now c.requires.plan at c.taken-few.ensures.source c.requires.runs.mode)
