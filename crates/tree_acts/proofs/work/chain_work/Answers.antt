use Rattle.std.proofs.Common.{rules, arith, ◌≡◌, ◌∙◌, ◌++◌, length, ap, sym, subst}
use Rattle.std.specs.Prelude.{Option, replicate, take}
use Rattle.tree_rules.specs.declared.reply.Reply.{Reply}
use Rattle.tree_rules.specs.Chain.{asks_pr, node_chain}
use Rattle.tree_acts.specs.Plain.{task_in}
use Rattle.tree_acts.specs.Hold.{states_held}
use Rattle.tree_acts.specs.Made.{ServedBy}
use Rattle.tree_acts.specs.Wiped.{IsWipedBehind}
use Rattle.tree_acts.specs.Work.{Worked}
use Rattle.tree_acts.proofs.Top.{named_there, count_within, room_behind, ready_top, worked_top, served_some, served_none, no_len}
use Rattle.tree_acts.proofs.Wiping.{wiped_behind, wiped_whole}
use Rattle.tree_acts.proofs.work.chain_work.Goals as goal

pub spare_len-requires : goal.spare_len-requires
spare_len-requires g c = record {
  there = named_there g.S.Samples.told g.S.Samples.faults c.args.plan.now (states_held g.S.Samples.told g.S.Samples.faults (g.H.Holdings.what c.args.hold.now)) c.args.call c.args.input.now
      c.requires.kind c.requires.free c.nodes-far.ensures.range;
}

pub split_at_mut-spare-requires : goal.split_at_mut-spare-requires
split_at_mut-spare-requires g c =
    let front = c.split_at_mut-answer.ensures.front_len in let back = c.split_at_mut-answer.ensures.back_len in
    let room = room_behind g.S.Samples.told g.S.Samples.faults c.args.plan.now (states_held g.S.Samples.told g.S.Samples.faults (g.H.Holdings.what c.args.hold.now)) c.args.call c.args.input.now
    c.requires.kind c.requires.free c.nodes-far.ensures.range (length c.split_at_mut-answer.result.0.now) (length c.split_at_mut-answer.result.1.now) (length c.args.out.now)
    c.nodes-far.ensures.tree (front ∙ c.asked_count-count.ensures) (omega (arith, front, back)) c.requires.room in
    let len = c.spare_len.ensures in omega (arith, room, len)

pub climb-refused-requires : goal.climb-refused-requires
climb-refused-requires g c =
    let front = c.split_at_mut-answer.ensures.front_len in let spare = c.split_at_mut-spare.ensures.front_len in
    ready_top g.S.Samples.told g.S.Samples.faults c.args.plan.now (g.H.Holdings.what c.args.hold.now) c.args.call c.args.input.now _ _
    c.requires.kind c.requires.free c.requires.plan c.requires.held c.requires.counts c.nodes-far.ensures.range c.nodes-far.ensures.tree (front ∙ c.asked_count-count.ensures) (spare ∙ c.spare_len.ensures)
    c.asks_pr.result (task_in c.asked.result) c.named.result c.nodes-far.result c.asks_pr.ensures c.asked.ensures c.named.ensures c.nodes-far.ensures.count

pub returns-in-Some-clause-served : goal.returns-in-Some-clause-served
returns-in-Some-clause-served g c =
    let told = g.S.Samples.told in let faults = g.S.Samples.faults in let p = c.args.plan.now in let h = g.H.Holdings.what c.args.hold.now in
    let t = g.H.Holdings.what c.climb-refused.new.hold in
    let w = worked_top told faults p g.S.Samples.reads h t c.args.call c.args.input.now c.climb-refused.result c.climb-refused.new.out c.asks_pr.result (task_in c.asked.result) c.named.result c.nodes-far.result
    c.asks_pr.ensures c.asked.ensures c.named.ensures c.nodes-far.ensures.count c.climb-refused.ensures in
    let w' = subst (λ (r : Option Reply). Worked told faults g.S.Samples.reads p h t (asks_pr c.args.call) c.args.input.now (node_chain p (states_held told faults h) c.args.call).links (node_chain p (states_held told faults h) c.args.call).source r c.climb-refused.new.out) c.in-Some.is w in
    served_some told faults p g.S.Samples.reads h t c.args.call c.args.input.now c.in-Some.reply c.climb-refused.new.out (c.wipe-in-Some.new.out ++ (c.wipe.new.out ++ c.split_at_mut-spare.result.1.now)) c.requires.kind c.requires.free w'

pub returns-in-Some-clause-behind : goal.returns-in-Some-clause-behind
returns-in-Some-clause-behind g c =
    let told = g.S.Samples.told in let faults = g.S.Samples.faults in let p = c.args.plan.now in let h = g.H.Holdings.what c.args.hold.now in
    let t = g.H.Holdings.what c.climb-refused.new.hold in
    let w = worked_top told faults p g.S.Samples.reads h t c.args.call c.args.input.now c.climb-refused.result c.climb-refused.new.out c.asks_pr.result (task_in c.asked.result) c.named.result c.nodes-far.result
    c.asks_pr.ensures c.asked.ensures c.named.ensures c.nodes-far.ensures.count c.climb-refused.ensures in
    let w' = subst (λ (r : Option Reply). Worked told faults g.S.Samples.reads p h t (asks_pr c.args.call) c.args.input.now (node_chain p (states_held told faults h) c.args.call).links (node_chain p (states_held told faults h) c.args.call).source r c.climb-refused.new.out) c.in-Some.is w in
    let none = no_len told faults p g.S.Samples.reads h t (asks_pr c.args.call) c.args.input.now (node_chain p (states_held told faults h) c.args.call).links (node_chain p (states_held told faults h) c.args.call).source c.in-Some.reply c.climb-refused.new.out w' in
    let front = c.split_at_mut-answer.result.0.now in let spare = c.split_at_mut-spare.result.0.now in let rest = c.split_at_mut-spare.result.1.now in
    let old : c.args.out.now ≡ front ++ (spare ++ rest) = c.split_at_mut-answer.ensures.value ∙ ap (λ z. front ++ z) c.split_at_mut-spare.ensures.value in
    subst (λ xs. IsWipedBehind c.in-Some.reply.len xs (c.wipe-in-Some.new.out ++ (c.wipe.new.out ++ rest))) (sym old)
    (subst (λ z. IsWipedBehind c.in-Some.reply.len (front ++ (spare ++ rest)) (z ++ (c.wipe.new.out ++ rest))) (sym c.wipe-in-Some.ensures)
    (subst (λ z. IsWipedBehind c.in-Some.reply.len (front ++ (spare ++ rest)) (replicate (length c.climb-refused.new.out) 0 ++ (z ++ rest))) (sym c.wipe.ensures)
    (wiped_whole front spare rest c.in-Some.reply.len (length c.climb-refused.new.out) (length c.climb-refused.new.spare) none c.climb-refused.auto.out c.climb-refused.auto.spare)))

pub returns-in-None-clause-served : goal.returns-in-None-clause-served
returns-in-None-clause-served g c =
    let told = g.S.Samples.told in let faults = g.S.Samples.faults in let p = c.args.plan.now in let h = g.H.Holdings.what c.args.hold.now in
    let t = g.H.Holdings.what c.climb-refused.new.hold in
    let w = worked_top told faults p g.S.Samples.reads h t c.args.call c.args.input.now c.climb-refused.result c.climb-refused.new.out c.asks_pr.result (task_in c.asked.result) c.named.result c.nodes-far.result
    c.asks_pr.ensures c.asked.ensures c.named.ensures c.nodes-far.ensures.count c.climb-refused.ensures in
    let w' = subst (λ (r : Option Reply). Worked told faults g.S.Samples.reads p h t (asks_pr c.args.call) c.args.input.now (node_chain p (states_held told faults h) c.args.call).links (node_chain p (states_held told faults h) c.args.call).source r c.climb-refused.new.out) c.in-None.is w in
    let behind = c.wipe.new.out ++ c.split_at_mut-spare.result.1.now in
    subst (λ (r : Reply). ServedBy told faults g.S.Samples.reads p h t c.args.call c.args.input.now r (take r.len (c.climb-refused.new.out ++ behind))) (sym c.done.ensures)
    (served_none told faults p g.S.Samples.reads h t c.args.call c.args.input.now c.climb-refused.new.out behind c.asked_count-count.result c.requires.kind (let front = c.split_at_mut-answer.ensures.front_len in let same = c.climb-refused.auto.out in search rules) c.requires.free w')

pub returns-in-None-clause-behind : goal.returns-in-None-clause-behind
returns-in-None-clause-behind g c =
    let front = c.split_at_mut-answer.result.0.now in let spare = c.split_at_mut-spare.result.0.now in let rest = c.split_at_mut-spare.result.1.now in
    let old : c.args.out.now ≡ front ++ (spare ++ rest) = c.split_at_mut-answer.ensures.value ∙ ap (λ z. front ++ z) c.split_at_mut-spare.ensures.value in
    let len : c.done.result.len ≡ c.asked_count-count.result = ap (λ (r : Reply). r.len) c.done.ensures in
    let first : length front ≡ c.done.result.len = c.split_at_mut-answer.ensures.front_len ∙ sym len in
    subst (λ xs. IsWipedBehind c.done.result.len xs (c.climb-refused.new.out ++ (c.wipe.new.out ++ rest))) (sym old)
    (subst (λ z. IsWipedBehind c.done.result.len (front ++ (spare ++ rest)) (c.climb-refused.new.out ++ (z ++ rest))) (sym c.wipe.ensures)
    (wiped_behind front c.climb-refused.new.out spare rest c.done.result.len (length c.climb-refused.new.spare) first (c.climb-refused.auto.out ∙ first) c.climb-refused.auto.spare))

pub returns-in-Some-clause-within : goal.returns-in-Some-clause-within
returns-in-Some-clause-within g c =
    let told = g.S.Samples.told in let faults = g.S.Samples.faults in let p = c.args.plan.now in let h = g.H.Holdings.what c.args.hold.now in
    let t = g.H.Holdings.what c.climb-refused.new.hold in
    let w = worked_top told faults p g.S.Samples.reads h t c.args.call c.args.input.now c.climb-refused.result c.climb-refused.new.out c.asks_pr.result (task_in c.asked.result) c.named.result c.nodes-far.result
    c.asks_pr.ensures c.asked.ensures c.named.ensures c.nodes-far.ensures.count c.climb-refused.ensures in
    let w' = subst (λ (r : Option Reply). Worked told faults g.S.Samples.reads p h t (asks_pr c.args.call) c.args.input.now (node_chain p (states_held told faults h) c.args.call).links (node_chain p (states_held told faults h) c.args.call).source r c.climb-refused.new.out) c.in-Some.is w in
    let none = no_len told faults p g.S.Samples.reads h t (asks_pr c.args.call) c.args.input.now (node_chain p (states_held told faults h) c.args.call).links (node_chain p (states_held told faults h) c.args.call).source c.in-Some.reply c.climb-refused.new.out w' in
    omega (arith, none)

pub returns-in-None-clause-within : goal.returns-in-None-clause-within
returns-in-None-clause-within g c =
    let low = count_within g.S.Samples.told g.S.Samples.faults c.args.plan.now (states_held g.S.Samples.told g.S.Samples.faults (g.H.Holdings.what c.args.hold.now)) c.args.call c.args.input.now
    c.requires.kind c.requires.free c.nodes-far.ensures.range c.nodes-far.ensures.tree in
    let len : c.done.result.len ≡ c.asked_count-count.result = ap (λ (r : Reply). r.len) c.done.ensures in
    let is = c.asked_count-count.ensures in omega (arith, low, len, is)
