use Rattle.std.proofs.Common.{◌≡◌, ◌∙◌, ◌∷◌, [], length, sym, ap, subst}
use Rattle.rbg_nodes.specs.Node.{Gave, Renew, Seeded, given_bytes, node_after}
use Rattle.tree_rules.specs.History.{AtNode}
use Rattle.tree_rules.specs.Links.{link}
use Rattle.tree_rules.specs.Slots.{node_row}
use Rattle.tree_acts.specs.Chained.{len_of}
use Rattle.tree_acts.specs.Did.{Did}
use Rattle.tree_acts.specs.Hold.{node_held, states_held}
use Rattle.tree_acts.specs.Plain.{task_in}
use Rattle.tree_acts.specs.Work.{seeded_part}
use Rattle.tree_acts.specs.declared.step.Asked.{Asked}
use Rattle.tree_acts.proofs.Chunking.{node_acted}
use Rattle.tree_acts.proofs.Doing.{did_join}
use Rattle.tree_acts.proofs.part.part_at.Goals as goal

pub returns-in-Give-clause-did : goal.returns-in-Give-clause-did
returns-in-Give-clause-did g c =
    let told = g.S.Samples.told in let faults = g.S.Samples.faults in let reads = g.S.Samples.reads in let p = c.args.plan.now in
    let h = g.H.Holdings.what c.args.hold.now in let t = g.H.Holdings.what c.reseed_at-in-Give.new.hold in let u = g.H.Holdings.what c.give_at.new.hold in
    let n = c.args.n in let row = node_row p n in
    let seeded = Seeded Renew c.args.material.now c.args.string.now in
    let now = node_after row (node_held told faults h n) seeded in
    let one = node_acted told faults p reads h t n seeded c.requires.there c.reseed_at-in-Give.ensures in
    let len : length c.args.out.now ≡ c.in-Give.len = c.requires.asks ∙ ap (λ (a : Asked). len_of (task_in a)) c.in-Give.is in
    let bytes : c.give_at.new.out ≡ given_bytes row now [] c.in-Give.len =
    c.give_at.ensures.bytes ∙ (ap (λ s. given_bytes row s [] (length c.args.out.now)) one ∙ ap (λ k. given_bytes row now [] k) len) in
    let gives = subst (λ z. Did told faults reads p t u (record { slot = n; act = AtNode (Gave [] c.in-Give.len z) } ∷ [])) bytes
    (subst (λ k. Did told faults reads p t u (record { slot = n; act = AtNode (Gave [] k c.give_at.new.out) } ∷ [])) len c.give_at.ensures.did) in
    subst (λ (a : Asked). Did told faults reads p h u (seeded_part (link p n (task_in a) (states_held told faults h n)) c.args.material.now c.args.string.now (task_in a)).acts) (sym c.in-Give.is)
    (did_join told faults p reads h t u (record { slot = n; act = AtNode seeded } ∷ []) (record { slot = n; act = AtNode (Gave [] c.in-Give.len (given_bytes row now [] c.in-Give.len)) } ∷ []) c.reseed_at-in-Give.ensures gives)
