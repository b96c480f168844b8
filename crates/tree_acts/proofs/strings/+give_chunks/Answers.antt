use Rattle.std.proofs.Common.{rules, arith, ◌≡◌, ◌≢◌, ◌∙◌, ◌+◌, ◌-◌, ◌∷◌, [], length, ap, subst}
use Rattle.std.specs.Prelude.{take, drop, min}
use Rattle.rbg_nodes.specs.Node.{NodeState, Seeded, Gave, Renew, given_bytes}
use Rattle.tree_rules.specs.History.{AtNode}
use Rattle.tree_rules.specs.Slots.{node_row}
use Rattle.tree_rules.specs.Links.{Rests, link, chunk_lens}
use Rattle.tree_rules.specs.Works.{chunked}
use Rattle.tree_acts.specs.Hold.{node_held, states_held}
use Rattle.tree_acts.specs.Did.{Did}
use Rattle.tree_acts.specs.Pieces.{pieces}
use Rattle.tree_acts.proofs.Rising.{plan_still, node_still}
use Rattle.tree_acts.proofs.Chunking.{chunks_none, chunks_on, node_twice, less_one}
use Rattle.tree_acts.proofs.strings.+give_chunks.Goals as goal

pub returns-then-count-eq0 : goal.returns-then-count-eq0
returns-then-count-eq0 g t c =
    let told = g.S.Samples.told in let faults = g.S.Samples.faults in let p = c.args.plan.now in let h = g.H.Holdings.what c.args.hold.now in
    let both = chunks_none told faults p g.S.Samples.reads h c.args.n c.args.entropy c.args.count c.args.string.now c.args.strings.now c.args.out.now c.if-count-eq0.true c.requires.out in
    record { did = both.0; bytes = both.1 }

pub give_at-requires-clause-plan : goal.give_at-requires-clause-plan
give_at-requires-clause-plan g t c =
    let told = g.S.Samples.told in let faults = g.S.Samples.faults in let p = c.args.plan.now in let h = g.H.Holdings.what c.args.hold.now in
    let n = c.args.n in let entropy = c.args.entropy in let count = c.args.count in let strings = c.args.strings.now in let out = length c.args.out.now in
    let more : count ≢ 0 = c.if-count-eq0.false in
    let f : c.split_at.result.0.now ≡ take (entropy + 8) strings = c.split_at.ensures.front in
    let t1 = g.H.Holdings.what c.reseed_at.new.hold in
    let seeds = subst (λ z. Did told faults g.S.Samples.reads p h t1 (record { slot = n; act = AtNode (Seeded Renew z c.args.string.now) } ∷ [])) f c.reseed_at.ensures in
    plan_still told faults p g.S.Samples.reads h t1 _ seeds c.requires.plan

pub give_chunks-requires : goal.give_chunks-requires
give_chunks-requires g t c = λ κs lives.
    let told = g.S.Samples.told in let faults = g.S.Samples.faults in let p = c.args.plan.now in let h = g.H.Holdings.what c.args.hold.now in
    let n = c.args.n in let entropy = c.args.entropy in let count = c.args.count in let strings = c.args.strings.now in let out = length c.args.out.now in
    let more : count ≢ 0 = c.if-count-eq0.false in
    let f : c.split_at.result.0.now ≡ take (entropy + 8) strings = c.split_at.ensures.front in
    let t1 = g.H.Holdings.what c.reseed_at.new.hold in
    let seeds = subst (λ z. Did told faults g.S.Samples.reads p h t1 (record { slot = n; act = AtNode (Seeded Renew z c.args.string.now) } ∷ [])) f c.reseed_at.ensures in
    let u = g.H.Holdings.what c.give_at.new.hold in
    let piece = c.give_at.new.out in
    let len : length c.split_at_mut-piece.result.0.now ≡ min entropy out = c.split_at_mut-piece.ensures.front_len ∙ c.min-len.ensures in
    let gives = subst (λ k. Did told faults g.S.Samples.reads p t1 u (record { slot = n; act = AtNode (Gave [] k piece) } ∷ [])) len c.give_at.ensures.did in
    let given = subst (λ k. piece ≡ given_bytes (node_row p n) (node_held told faults t1 n) [] k) len c.give_at.ensures.bytes in
    let plan1 = plan_still told faults p g.S.Samples.reads h t1 _ seeds c.requires.plan in
    let there1 = node_still told faults p g.S.Samples.reads h t1 _ n seeds c.requires.there in
    let two = node_twice told faults p g.S.Samples.reads h t1 u n _ _ c.requires.there seeds gives in
    let more_seeds = ap (λ (s : NodeState). s.seeds) two in let more_gives = ap (λ (s : NodeState). s.gives) two in
    let a = c.requires.seeds in let b = c.requires.gives in
    let x = less_one count (entropy + 8) more in let y = less_one count entropy more in
    let back = c.split_at.ensures.back_len in let room = c.requires.strings in
    let back2 = c.split_at_mut-piece.ensures.back_len in let few = c.requires.out in let m = c.min-len.ensures in (
      omega (arith, more),
      (
        search rules,
        (
          search rules,
          (
            plan_still told faults p g.S.Samples.reads t1 u _ gives plan1,
            (
              c.requires.planned,
              (
                node_still told faults p g.S.Samples.reads t1 u _ n gives there1,
                (ap (λ (s : NodeState). s.live) two, (omega (arith, more_seeds, a, more), (omega (arith, more_gives, b, more), (c.requires.entropy, (omega (arith, x, back, room), (omega (arith, y, back2, few, m), omega arith)))))),
              ),
            ),
          ),
        ),
      ),
    )

pub returns : goal.returns
returns g t c =
    let told = g.S.Samples.told in let faults = g.S.Samples.faults in let p = c.args.plan.now in let h = g.H.Holdings.what c.args.hold.now in
    let n = c.args.n in let entropy = c.args.entropy in let count = c.args.count in let strings = c.args.strings.now in let out = length c.args.out.now in
    let more : count ≢ 0 = c.if-count-eq0.false in
    let f : c.split_at.result.0.now ≡ take (entropy + 8) strings = c.split_at.ensures.front in
    let t1 = g.H.Holdings.what c.reseed_at.new.hold in
    let seeds = subst (λ z. Did told faults g.S.Samples.reads p h t1 (record { slot = n; act = AtNode (Seeded Renew z c.args.string.now) } ∷ [])) f c.reseed_at.ensures in
    let u = g.H.Holdings.what c.give_at.new.hold in
    let piece = c.give_at.new.out in
    let len : length c.split_at_mut-piece.result.0.now ≡ min entropy out = c.split_at_mut-piece.ensures.front_len ∙ c.min-len.ensures in
    let gives = subst (λ k. Did told faults g.S.Samples.reads p t1 u (record { slot = n; act = AtNode (Gave [] k piece) } ∷ [])) len c.give_at.ensures.did in
    let given = subst (λ k. piece ≡ given_bytes (node_row p n) (node_held told faults t1 n) [] k) len c.give_at.ensures.bytes in
    let w = g.H.Holdings.what c.give_chunks.new.hold in
    let b : c.split_at.result.1.now ≡ drop (entropy + 8) strings = c.split_at.ensures.back in
    let left : length c.split_at_mut-piece.result.1.now ≡ out - entropy = (let back2 = c.split_at_mut-piece.ensures.back_len in let m = c.min-len.ensures in omega (arith, back2, m)) in
    let l = link p n Rests (states_held told faults u n) in let s = node_held told faults u n in
    let rest = subst (λ k. Did told faults g.S.Samples.reads p u w (chunked l s [] (pieces (count - 1) (entropy + 8) (drop (entropy + 8) strings)) (chunk_lens (count - 1) entropy k)).acts) left
    (subst (λ z. Did told faults g.S.Samples.reads p u w (chunked l s [] (pieces (count - 1) (entropy + 8) z) (chunk_lens (count - 1) entropy (length c.split_at_mut-piece.result.1.now))).acts) b c.give_chunks.ensures.did) in
    let bytes = subst (λ k. c.give_chunks.new.out ≡ (chunked l s [] (pieces (count - 1) (entropy + 8) (drop (entropy + 8) strings)) (chunk_lens (count - 1) entropy k)).bytes) left
    (subst (λ z. c.give_chunks.new.out ≡ (chunked l s [] (pieces (count - 1) (entropy + 8) z) (chunk_lens (count - 1) entropy (length c.split_at_mut-piece.result.1.now))).bytes) b c.give_chunks.ensures.bytes) in
    let both = chunks_on told faults p g.S.Samples.reads h t1 u w n entropy count c.args.string.now strings piece c.give_chunks.new.out out more c.requires.there seeds gives given rest bytes in
    record { did = both.0; bytes = both.1 }
