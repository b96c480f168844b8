use Rattle.std.proofs.Common.{rules, ◌≡◌, ◌∙◌, ◌+◌, length, ap}
use Rattle.std.specs.Prelude.{Result}
use Rattle.entropy_source.specs.declared.answers.Range.{Range}
use Rattle.entropy_source.specs.declared.answers.SourceRefusal.{SourceRefusal}
use Rattle.tree_rules.specs.Slots.{source_slot}
use Rattle.tree_acts.proofs.Drawing.{drew_at, why_of}
use Rattle.tree_acts.proofs.acts.draw_at.Goals as goal

pub returns-in-Ok : goal.returns-in-Ok
returns-in-Ok g c =
    let told = g.S.Samples.told in let faults = g.S.Samples.faults in let p = c.args.plan.now in let h = g.H.Holdings.what c.args.hold.now in
    let k = c.nodes.result + c.from.result in let w = c.draw-drawn.new.self in
    let slot : k ≡ source_slot p c.args.j = ap (λ n. n + c.from.result) c.nodes.ensures.count ∙ ap (λ i. length p.nodes + i) c.from.ensures in
    drew_at told faults p g.S.Samples.reads h (g.H.Holdings.what (g.H.Holdings.with_source c.args.hold.now k w)) c.args.j k c.source_mut.result.now c.source.result.now w (length c.args.out.now) c.draw-drawn.new.out
    c.draw-drawn.result _ slot c.requires.plan c.source_mut.ensures.value c.source.ensures (g.met.H.Holdings.puts_source c.args.hold.now k w (search rules)) c.draw-drawn.ensures.row c.taken-taken.ensures.source c.requires.runs
    c.requires.some c.draw-drawn.ensures.acts c.draw-drawn.ensures.drawn (ap (λ (r : Result Range SourceRefusal). why_of r) c.in-Ok.is)

pub returns-in-Err : goal.returns-in-Err
returns-in-Err g c =
    let told = g.S.Samples.told in let faults = g.S.Samples.faults in let p = c.args.plan.now in let h = g.H.Holdings.what c.args.hold.now in
    let k = c.nodes.result + c.from.result in let w = c.draw-drawn.new.self in
    let slot : k ≡ source_slot p c.args.j = ap (λ n. n + c.from.result) c.nodes.ensures.count ∙ ap (λ i. length p.nodes + i) c.from.ensures in
    drew_at told faults p g.S.Samples.reads h (g.H.Holdings.what (g.H.Holdings.with_source c.args.hold.now k w)) c.args.j k c.source_mut.result.now c.source.result.now w (length c.args.out.now) c.draw-drawn.new.out
    c.draw-drawn.result _ slot c.requires.plan c.source_mut.ensures.value c.source.ensures (g.met.H.Holdings.puts_source c.args.hold.now k w (search rules)) c.draw-drawn.ensures.row c.taken-taken.ensures.source c.requires.runs
    c.requires.some c.draw-drawn.ensures.acts c.draw-drawn.ensures.drawn (ap (λ (r : Result Range SourceRefusal). why_of r) c.in-Err.is)
