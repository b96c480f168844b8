use Rattle.std.proofs.Common.{rules, ◌≡◌, ◌+◌, ap}
use Rattle.entropy_source.specs.Views.{without_bytes}
use Rattle.tree_rules.specs.Slots.{source_slot}
use Rattle.tree_acts.proofs.Starting.{started_at}
use Rattle.tree_acts.proofs.acts.start_at.Goals as goal

pub returns-in-Ok : goal.returns-in-Ok
returns-in-Ok g c =
    let told = g.S.Samples.told in let faults = g.S.Samples.faults in let p = c.args.plan.now in let h = g.H.Holdings.what c.args.hold.now in
    let k = c.nodes.result + c.args.j in let w = c.start-started.new.self in
    let slot : k ≡ source_slot p c.args.j = ap (λ n. n + c.args.j) c.nodes.ensures.count in
    started_at told faults p g.S.Samples.reads h (g.H.Holdings.what (g.H.Holdings.with_source c.args.hold.now k w)) c.args.j k c.source_mut.result.now w c.start-started.result _
    slot c.requires.plan c.source_mut.ensures.value (g.met.H.Holdings.puts_source c.args.hold.now k w (search rules)) c.start-started.ensures.row c.requires.room c.start-started.ensures.acts
    (ap (λ r. without_bytes r) c.in-Ok.is)

pub returns-in-Err : goal.returns-in-Err
returns-in-Err g c =
    let told = g.S.Samples.told in let faults = g.S.Samples.faults in let p = c.args.plan.now in let h = g.H.Holdings.what c.args.hold.now in
    let k = c.nodes.result + c.args.j in let w = c.start-started.new.self in
    let slot : k ≡ source_slot p c.args.j = ap (λ n. n + c.args.j) c.nodes.ensures.count in
    started_at told faults p g.S.Samples.reads h (g.H.Holdings.what (g.H.Holdings.with_source c.args.hold.now k w)) c.args.j k c.source_mut.result.now w c.start-started.result _
    slot c.requires.plan c.source_mut.ensures.value (g.met.H.Holdings.puts_source c.args.hold.now k w (search rules)) c.start-started.ensures.row c.requires.room c.start-started.ensures.acts
    (ap (λ r. without_bytes r) c.in-Err.is)
