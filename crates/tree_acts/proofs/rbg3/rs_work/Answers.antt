use Rattle.std.proofs.Common.{rules, arith, ◌≡◌, ◌∙◌, ◌≤◌, ◌+◌, ◌*◌, [], length, sym, ap, subst, refl}
use Rattle.std.specs.Prelude.{Option, max, not}
use Rattle.std.specs.Int.{div_ceil}
use Rattle.entropy_source.specs.declared.answers.SourceRefusal.{SourceRefusal}
use Rattle.entropy_source.specs.Source.{need_of}
use Rattle.rbg_nodes.specs.Node.{entropy_len}
use Rattle.tree_rules.specs.Slots.{node_plan, node_row, source_row}
use Rattle.tree_rules.specs.History.{SlotState, node_in}
use Rattle.tree_rules.specs.Links.{Task, Gives, Rests, Link, link, wanted, chunk_lens, starts}
use Rattle.tree_rules.specs.Works.{Work, task_work, chunked}
use Rattle.tree_acts.specs.Plain.{task_in}
use Rattle.tree_acts.specs.Hold.{states_held}
use Rattle.tree_acts.specs.Did.{Did}
use Rattle.tree_acts.specs.Drew.{Drew, Runs}
use Rattle.tree_acts.specs.Chained.{len_of}
use Rattle.tree_acts.specs.Pieces.{same_lens, pieces}
use Rattle.tree_acts.proofs.Rising.{plan_still, few_at}
use Rattle.tree_acts.proofs.Sourced.{drew_still, runs_here, first_here, alive_here, sw_refused, sw_done}
use Rattle.tree_acts.proofs.Chunking.{none_refused, room_by, rs_wants, rs_part, rs_limit, chunked_same}
use Rattle.tree_acts.proofs.rbg3.rs_work.Goals as goal

pub draw_strings-refused-requires-clause-room : goal.draw_strings-refused-requires-clause-room
draw_strings-refused-requires-clause-room g c =
    let told = g.S.Samples.told in let faults = g.S.Samples.faults in let p = c.args.plan.now in let h = g.H.Holdings.what c.args.hold.now in
    let s = states_held told faults h in let pr = c.args.pr in let task = task_in c.args.asked in let n = c.args.n in let j = c.args.j in let l = link p n task (s n) in
    let step = c.step_at-step.result in let o = (node_plan p step.slot).origin in
    let ls = length c.args.string.now in let lo = length c.args.out.now in let lp = length c.args.spare.now in
    let row : step.row ≡ node_row p n = ap (λ (l : Link). l.row) (c.step_at-step.ensures.link o) in
    let e = entropy_len (node_row p n) in
    let entropy : c.entropy_len-entropy.result ≡ e = c.entropy_len-entropy.ensures.len ∙ ap (λ r. entropy_len r) row in
    let count = c.chunks-count.result in
    let gives : task ≡ Gives lo = c.requires.gives ∙ ap (λ k. Gives k) (sym c.requires.ready.asks) in
    let many : count ≡ max 1 (div_ceil lo e) = c.chunks-count.ensures.count ∙ ap (λ r. max 1 (div_ceil lo (entropy_len r))) row in
    let limit = rs_limit (node_row p n).kind (len_of task) c.requires.rs in let low = c.requires.ready.able.few in let size = c.requires.ready.asks in let top = limit.0 in let space = limit.1 in
    let few : lo ≤ 4096 = omega (arith, low, size, top) in
    let rooms = room_by (node_row p n) (node_row p n).drbg refl count lo many few in
    let wants : wanted pr l ≡ same_lens count (c.entropy_len-entropy.result + 8) = rs_wants pr l lo count gives c.requires.rs many ∙ ap (λ k. same_lens count (k + 8)) (sym entropy) in
    let room = c.requires.ready.room in let a = rooms.0 in
    let b : count * (e + 8) ≤ lp = omega (arith, a, room, space, size) in
    subst (λ k. count * (k + 8) ≤ lp) (sym entropy) b

pub draw_strings-refused-requires-clause-runs : goal.draw_strings-refused-requires-clause-runs
draw_strings-refused-requires-clause-runs g c =
    let told = g.S.Samples.told in let faults = g.S.Samples.faults in let p = c.args.plan.now in let h = g.H.Holdings.what c.args.hold.now in
    let s = states_held told faults h in let pr = c.args.pr in let task = task_in c.args.asked in let n = c.args.n in let j = c.args.j in let l = link p n task (s n) in
    let step = c.step_at-step.result in let o = (node_plan p step.slot).origin in
    let ls = length c.args.string.now in let lo = length c.args.out.now in let lp = length c.args.spare.now in
    let row : step.row ≡ node_row p n = ap (λ (l : Link). l.row) (c.step_at-step.ensures.link o) in
    let e = entropy_len (node_row p n) in
    let entropy : c.entropy_len-entropy.result ≡ e = c.entropy_len-entropy.ensures.len ∙ ap (λ r. entropy_len r) row in
    let count = c.chunks-count.result in
    let gives : task ≡ Gives lo = c.requires.gives ∙ ap (λ k. Gives k) (sym c.requires.ready.asks) in
    let many : count ≡ max 1 (div_ceil lo e) = c.chunks-count.ensures.count ∙ ap (λ r. max 1 (div_ceil lo (entropy_len r))) row in
    let limit = rs_limit (node_row p n).kind (len_of task) c.requires.rs in let low = c.requires.ready.able.few in let size = c.requires.ready.asks in let top = limit.0 in let space = limit.1 in
    let few : lo ≤ 4096 = omega (arith, low, size, top) in
    let rooms = room_by (node_row p n) (node_row p n).drbg refl count lo many few in
    let wants : wanted pr l ≡ same_lens count (c.entropy_len-entropy.result + 8) = rs_wants pr l lo count gives c.requires.rs many ∙ ap (λ k. same_lens count (k + 8)) (sym entropy) in
    subst (λ z. Runs told faults p h j (need_of (source_row p j) z)) wants (runs_here told faults p h pr task n j ls lo lp l c.requires.on c.requires.ready)

pub returns-then-is_some : goal.returns-then-is_some
returns-then-is_some g c =
    let told = g.S.Samples.told in let faults = g.S.Samples.faults in let p = c.args.plan.now in let h = g.H.Holdings.what c.args.hold.now in
    let s = states_held told faults h in let pr = c.args.pr in let task = task_in c.args.asked in let n = c.args.n in let j = c.args.j in let l = link p n task (s n) in
    let step = c.step_at-step.result in let o = (node_plan p step.slot).origin in
    let ls = length c.args.string.now in let lo = length c.args.out.now in let lp = length c.args.spare.now in
    let row : step.row ≡ node_row p n = ap (λ (l : Link). l.row) (c.step_at-step.ensures.link o) in
    let e = entropy_len (node_row p n) in
    let entropy : c.entropy_len-entropy.result ≡ e = c.entropy_len-entropy.ensures.len ∙ ap (λ r. entropy_len r) row in
    let count = c.chunks-count.result in
    let gives : task ≡ Gives lo = c.requires.gives ∙ ap (λ k. Gives k) (sym c.requires.ready.asks) in
    let many : count ≡ max 1 (div_ceil lo e) = c.chunks-count.ensures.count ∙ ap (λ r. max 1 (div_ceil lo (entropy_len r))) row in
    let limit = rs_limit (node_row p n).kind (len_of task) c.requires.rs in let low = c.requires.ready.able.few in let size = c.requires.ready.asks in let top = limit.0 in let space = limit.1 in
    let few : lo ≤ 4096 = omega (arith, low, size, top) in
    let rooms = room_by (node_row p n) (node_row p n).drbg refl count lo many few in
    let wants : wanted pr l ≡ same_lens count (c.entropy_len-entropy.result + 8) = rs_wants pr l lo count gives c.requires.rs many ∙ ap (λ k. same_lens count (k + 8)) (sym entropy) in
    let t1 = g.H.Holdings.what c.draw_strings-refused.new.hold in
    let spare = c.draw_strings-refused.new.spare in
    let ss = pieces count (c.entropy_len-entropy.result + 8) spare in
    let drew = subst (λ z. Drew told faults g.S.Samples.reads p h t1 j z c.draw_strings-refused.result ss) (sym wants) c.draw_strings-refused.ensures in
    let still = drew_still told faults p g.S.Samples.reads h t1 j n (wanted pr l) c.draw_strings-refused.result ss c.requires.ready.planned drew in
    sw_refused told faults p g.S.Samples.reads h t1 pr c.args.string.now c.args.out.now l j c.draw_strings-refused.result ss (search rules) drew

pub give_chunks-requires-clause-plan : goal.give_chunks-requires-clause-plan
give_chunks-requires-clause-plan g c =
    let told = g.S.Samples.told in let faults = g.S.Samples.faults in let p = c.args.plan.now in let h = g.H.Holdings.what c.args.hold.now in
    let s = states_held told faults h in let pr = c.args.pr in let task = task_in c.args.asked in let n = c.args.n in let j = c.args.j in let l = link p n task (s n) in
    let step = c.step_at-step.result in let o = (node_plan p step.slot).origin in
    let ls = length c.args.string.now in let lo = length c.args.out.now in let lp = length c.args.spare.now in
    let row : step.row ≡ node_row p n = ap (λ (l : Link). l.row) (c.step_at-step.ensures.link o) in
    let e = entropy_len (node_row p n) in
    let entropy : c.entropy_len-entropy.result ≡ e = c.entropy_len-entropy.ensures.len ∙ ap (λ r. entropy_len r) row in
    let count = c.chunks-count.result in
    let gives : task ≡ Gives lo = c.requires.gives ∙ ap (λ k. Gives k) (sym c.requires.ready.asks) in
    let many : count ≡ max 1 (div_ceil lo e) = c.chunks-count.ensures.count ∙ ap (λ r. max 1 (div_ceil lo (entropy_len r))) row in
    let limit = rs_limit (node_row p n).kind (len_of task) c.requires.rs in let low = c.requires.ready.able.few in let size = c.requires.ready.asks in let top = limit.0 in let space = limit.1 in
    let few : lo ≤ 4096 = omega (arith, low, size, top) in
    let rooms = room_by (node_row p n) (node_row p n).drbg refl count lo many few in
    let wants : wanted pr l ≡ same_lens count (c.entropy_len-entropy.result + 8) = rs_wants pr l lo count gives c.requires.rs many ∙ ap (λ k. same_lens count (k + 8)) (sym entropy) in
    let t1 = g.H.Holdings.what c.draw_strings-refused.new.hold in
    let spare = c.draw_strings-refused.new.spare in
    let ss = pieces count (c.entropy_len-entropy.result + 8) spare in
    let drew = subst (λ z. Drew told faults g.S.Samples.reads p h t1 j z c.draw_strings-refused.result ss) (sym wants) c.draw_strings-refused.ensures in
    let still = drew_still told faults p g.S.Samples.reads h t1 j n (wanted pr l) c.draw_strings-refused.result ss c.requires.ready.planned drew in
    plan_still told faults p g.S.Samples.reads h t1 _ drew.did c.requires.ready.plan

pub give_chunks-requires-clause-live : goal.give_chunks-requires-clause-live
give_chunks-requires-clause-live g c =
    let told = g.S.Samples.told in let faults = g.S.Samples.faults in let p = c.args.plan.now in let h = g.H.Holdings.what c.args.hold.now in
    let s = states_held told faults h in let pr = c.args.pr in let task = task_in c.args.asked in let n = c.args.n in let j = c.args.j in let l = link p n task (s n) in
    let step = c.step_at-step.result in let o = (node_plan p step.slot).origin in
    let ls = length c.args.string.now in let lo = length c.args.out.now in let lp = length c.args.spare.now in
    let row : step.row ≡ node_row p n = ap (λ (l : Link). l.row) (c.step_at-step.ensures.link o) in
    let e = entropy_len (node_row p n) in
    let entropy : c.entropy_len-entropy.result ≡ e = c.entropy_len-entropy.ensures.len ∙ ap (λ r. entropy_len r) row in
    let count = c.chunks-count.result in
    let gives : task ≡ Gives lo = c.requires.gives ∙ ap (λ k. Gives k) (sym c.requires.ready.asks) in
    let many : count ≡ max 1 (div_ceil lo e) = c.chunks-count.ensures.count ∙ ap (λ r. max 1 (div_ceil lo (entropy_len r))) row in
    let limit = rs_limit (node_row p n).kind (len_of task) c.requires.rs in let low = c.requires.ready.able.few in let size = c.requires.ready.asks in let top = limit.0 in let space = limit.1 in
    let few : lo ≤ 4096 = omega (arith, low, size, top) in
    let rooms = room_by (node_row p n) (node_row p n).drbg refl count lo many few in
    let wants : wanted pr l ≡ same_lens count (c.entropy_len-entropy.result + 8) = rs_wants pr l lo count gives c.requires.rs many ∙ ap (λ k. same_lens count (k + 8)) (sym entropy) in
    let t1 = g.H.Holdings.what c.draw_strings-refused.new.hold in
    let spare = c.draw_strings-refused.new.spare in
    let ss = pieces count (c.entropy_len-entropy.result + 8) spare in
    let drew = subst (λ z. Drew told faults g.S.Samples.reads p h t1 j z c.draw_strings-refused.result ss) (sym wants) c.draw_strings-refused.ensures in
    let still = drew_still told faults p g.S.Samples.reads h t1 j n (wanted pr l) c.draw_strings-refused.result ss c.requires.ready.planned drew in
    ap (λ (x : SlotState). (node_in x).live) still ∙ (alive_here told faults p h pr task n ls lo lp l c.requires.ready ∙ ap (λ (t : Task). not (starts t)) gives)

pub give_chunks-requires-clause-seeds : goal.give_chunks-requires-clause-seeds
give_chunks-requires-clause-seeds g c =
    let told = g.S.Samples.told in let faults = g.S.Samples.faults in let p = c.args.plan.now in let h = g.H.Holdings.what c.args.hold.now in
    let s = states_held told faults h in let pr = c.args.pr in let task = task_in c.args.asked in let n = c.args.n in let j = c.args.j in let l = link p n task (s n) in
    let step = c.step_at-step.result in let o = (node_plan p step.slot).origin in
    let ls = length c.args.string.now in let lo = length c.args.out.now in let lp = length c.args.spare.now in
    let row : step.row ≡ node_row p n = ap (λ (l : Link). l.row) (c.step_at-step.ensures.link o) in
    let e = entropy_len (node_row p n) in
    let entropy : c.entropy_len-entropy.result ≡ e = c.entropy_len-entropy.ensures.len ∙ ap (λ r. entropy_len r) row in
    let count = c.chunks-count.result in
    let gives : task ≡ Gives lo = c.requires.gives ∙ ap (λ k. Gives k) (sym c.requires.ready.asks) in
    let many : count ≡ max 1 (div_ceil lo e) = c.chunks-count.ensures.count ∙ ap (λ r. max 1 (div_ceil lo (entropy_len r))) row in
    let limit = rs_limit (node_row p n).kind (len_of task) c.requires.rs in let low = c.requires.ready.able.few in let size = c.requires.ready.asks in let top = limit.0 in let space = limit.1 in
    let few : lo ≤ 4096 = omega (arith, low, size, top) in
    let rooms = room_by (node_row p n) (node_row p n).drbg refl count lo many few in
    let wants : wanted pr l ≡ same_lens count (c.entropy_len-entropy.result + 8) = rs_wants pr l lo count gives c.requires.rs many ∙ ap (λ k. same_lens count (k + 8)) (sym entropy) in
    let t1 = g.H.Holdings.what c.draw_strings-refused.new.hold in
    let spare = c.draw_strings-refused.new.spare in
    let ss = pieces count (c.entropy_len-entropy.result + 8) spare in
    let drew = subst (λ z. Drew told faults g.S.Samples.reads p h t1 j z c.draw_strings-refused.result ss) (sym wants) c.draw_strings-refused.ensures in
    let still = drew_still told faults p g.S.Samples.reads h t1 j n (wanted pr l) c.draw_strings-refused.result ss c.requires.ready.planned drew in
    let low = (few_at told faults p h n c.requires.ready.counts (first_here told faults p h pr task n ls lo lp l refl c.requires.ready)).0 in
    let same = ap (λ (x : SlotState). (node_in x).seeds) still in let most = rooms.1.0 in omega (arith, low, same, most)

pub give_chunks-requires-clause-gives : goal.give_chunks-requires-clause-gives
give_chunks-requires-clause-gives g c =
    let told = g.S.Samples.told in let faults = g.S.Samples.faults in let p = c.args.plan.now in let h = g.H.Holdings.what c.args.hold.now in
    let s = states_held told faults h in let pr = c.args.pr in let task = task_in c.args.asked in let n = c.args.n in let j = c.args.j in let l = link p n task (s n) in
    let step = c.step_at-step.result in let o = (node_plan p step.slot).origin in
    let ls = length c.args.string.now in let lo = length c.args.out.now in let lp = length c.args.spare.now in
    let row : step.row ≡ node_row p n = ap (λ (l : Link). l.row) (c.step_at-step.ensures.link o) in
    let e = entropy_len (node_row p n) in
    let entropy : c.entropy_len-entropy.result ≡ e = c.entropy_len-entropy.ensures.len ∙ ap (λ r. entropy_len r) row in
    let count = c.chunks-count.result in
    let gives : task ≡ Gives lo = c.requires.gives ∙ ap (λ k. Gives k) (sym c.requires.ready.asks) in
    let many : count ≡ max 1 (div_ceil lo e) = c.chunks-count.ensures.count ∙ ap (λ r. max 1 (div_ceil lo (entropy_len r))) row in
    let limit = rs_limit (node_row p n).kind (len_of task) c.requires.rs in let low = c.requires.ready.able.few in let size = c.requires.ready.asks in let top = limit.0 in let space = limit.1 in
    let few : lo ≤ 4096 = omega (arith, low, size, top) in
    let rooms = room_by (node_row p n) (node_row p n).drbg refl count lo many few in
    let wants : wanted pr l ≡ same_lens count (c.entropy_len-entropy.result + 8) = rs_wants pr l lo count gives c.requires.rs many ∙ ap (λ k. same_lens count (k + 8)) (sym entropy) in
    let t1 = g.H.Holdings.what c.draw_strings-refused.new.hold in
    let spare = c.draw_strings-refused.new.spare in
    let ss = pieces count (c.entropy_len-entropy.result + 8) spare in
    let drew = subst (λ z. Drew told faults g.S.Samples.reads p h t1 j z c.draw_strings-refused.result ss) (sym wants) c.draw_strings-refused.ensures in
    let still = drew_still told faults p g.S.Samples.reads h t1 j n (wanted pr l) c.draw_strings-refused.result ss c.requires.ready.planned drew in
    let low = (few_at told faults p h n c.requires.ready.counts (first_here told faults p h pr task n ls lo lp l refl c.requires.ready)).1 in
    let same = ap (λ (x : SlotState). (node_in x).gives) still in let most = rooms.1.0 in omega (arith, low, same, most)

pub give_chunks-requires-clause-strings : goal.give_chunks-requires-clause-strings
give_chunks-requires-clause-strings g c =
    let told = g.S.Samples.told in let faults = g.S.Samples.faults in let p = c.args.plan.now in let h = g.H.Holdings.what c.args.hold.now in
    let s = states_held told faults h in let pr = c.args.pr in let task = task_in c.args.asked in let n = c.args.n in let j = c.args.j in let l = link p n task (s n) in
    let step = c.step_at-step.result in let o = (node_plan p step.slot).origin in
    let ls = length c.args.string.now in let lo = length c.args.out.now in let lp = length c.args.spare.now in
    let row : step.row ≡ node_row p n = ap (λ (l : Link). l.row) (c.step_at-step.ensures.link o) in
    let e = entropy_len (node_row p n) in
    let entropy : c.entropy_len-entropy.result ≡ e = c.entropy_len-entropy.ensures.len ∙ ap (λ r. entropy_len r) row in
    let count = c.chunks-count.result in
    let gives : task ≡ Gives lo = c.requires.gives ∙ ap (λ k. Gives k) (sym c.requires.ready.asks) in
    let many : count ≡ max 1 (div_ceil lo e) = c.chunks-count.ensures.count ∙ ap (λ r. max 1 (div_ceil lo (entropy_len r))) row in
    let limit = rs_limit (node_row p n).kind (len_of task) c.requires.rs in let low = c.requires.ready.able.few in let size = c.requires.ready.asks in let top = limit.0 in let space = limit.1 in
    let few : lo ≤ 4096 = omega (arith, low, size, top) in
    let rooms = room_by (node_row p n) (node_row p n).drbg refl count lo many few in
    let wants : wanted pr l ≡ same_lens count (c.entropy_len-entropy.result + 8) = rs_wants pr l lo count gives c.requires.rs many ∙ ap (λ k. same_lens count (k + 8)) (sym entropy) in
    let t1 = g.H.Holdings.what c.draw_strings-refused.new.hold in
    let spare = c.draw_strings-refused.new.spare in
    let ss = pieces count (c.entropy_len-entropy.result + 8) spare in
    let drew = subst (λ z. Drew told faults g.S.Samples.reads p h t1 j z c.draw_strings-refused.result ss) (sym wants) c.draw_strings-refused.ensures in
    let still = drew_still told faults p g.S.Samples.reads h t1 j n (wanted pr l) c.draw_strings-refused.result ss c.requires.ready.planned drew in
    let room = c.requires.ready.room in let a = rooms.0 in let new = c.draw_strings-refused.auto.spare in
    let b : count * (e + 8) ≤ length spare = omega (arith, a, room, space, size, new) in
    subst (λ k. count * (k + 8) ≤ length spare) (sym entropy) b

pub returns : goal.returns
returns g c =
    let told = g.S.Samples.told in let faults = g.S.Samples.faults in let p = c.args.plan.now in let h = g.H.Holdings.what c.args.hold.now in
    let s = states_held told faults h in let pr = c.args.pr in let task = task_in c.args.asked in let n = c.args.n in let j = c.args.j in let l = link p n task (s n) in
    let step = c.step_at-step.result in let o = (node_plan p step.slot).origin in
    let ls = length c.args.string.now in let lo = length c.args.out.now in let lp = length c.args.spare.now in
    let row : step.row ≡ node_row p n = ap (λ (l : Link). l.row) (c.step_at-step.ensures.link o) in
    let e = entropy_len (node_row p n) in
    let entropy : c.entropy_len-entropy.result ≡ e = c.entropy_len-entropy.ensures.len ∙ ap (λ r. entropy_len r) row in
    let count = c.chunks-count.result in
    let gives : task ≡ Gives lo = c.requires.gives ∙ ap (λ k. Gives k) (sym c.requires.ready.asks) in
    let many : count ≡ max 1 (div_ceil lo e) = c.chunks-count.ensures.count ∙ ap (λ r. max 1 (div_ceil lo (entropy_len r))) row in
    let limit = rs_limit (node_row p n).kind (len_of task) c.requires.rs in let low = c.requires.ready.able.few in let size = c.requires.ready.asks in let top = limit.0 in let space = limit.1 in
    let few : lo ≤ 4096 = omega (arith, low, size, top) in
    let rooms = room_by (node_row p n) (node_row p n).drbg refl count lo many few in
    let wants : wanted pr l ≡ same_lens count (c.entropy_len-entropy.result + 8) = rs_wants pr l lo count gives c.requires.rs many ∙ ap (λ k. same_lens count (k + 8)) (sym entropy) in
    let t1 = g.H.Holdings.what c.draw_strings-refused.new.hold in
    let spare = c.draw_strings-refused.new.spare in
    let ss = pieces count (c.entropy_len-entropy.result + 8) spare in
    let drew = subst (λ z. Drew told faults g.S.Samples.reads p h t1 j z c.draw_strings-refused.result ss) (sym wants) c.draw_strings-refused.ensures in
    let still = drew_still told faults p g.S.Samples.reads h t1 j n (wanted pr l) c.draw_strings-refused.result ss c.requires.ready.planned drew in
    let u = g.H.Holdings.what c.give_chunks.new.hold in
    let none = none_refused told faults p c.draw_strings-refused.result (search rules) in
    let drew' = subst (λ (r : Option SourceRefusal). Drew told faults g.S.Samples.reads p h t1 j (wanted pr l) r ss) none drew in
    let x = c.entropy_len-entropy.result in
    let same : chunked (link p n Rests (states_held told faults t1 n)) (node_in (states_held told faults t1 n)) c.args.string.now ss (chunk_lens count x lo) ≡ task_work pr ss c.args.string.now l [] task =
    ap (λ (v : SlotState). chunked (link p n Rests v) (node_in v) c.args.string.now ss (chunk_lens count x lo)) still
    ∙ (chunked_same p n Rests task (s n) (s n) (node_in (s n)) c.args.string.now ss (chunk_lens count x lo)
    ∙ (ap (λ k. chunked l (node_in (s n)) c.args.string.now ss (chunk_lens count k lo)) entropy
    ∙ (sym (rs_part pr l lo count c.args.string.now [] ss c.requires.rs many) ∙ ap (λ (t : Task). task_work pr ss c.args.string.now l [] t) (sym gives)))) in
    sw_done told faults p g.S.Samples.reads h t1 u pr c.args.string.now c.give_chunks.new.out l j ss drew' (subst (λ (w : Work). Did told faults g.S.Samples.reads p t1 u w.acts) same c.give_chunks.ensures.did) (c.give_chunks.ensures.bytes ∙ ap (λ (w : Work). w.bytes) same)
