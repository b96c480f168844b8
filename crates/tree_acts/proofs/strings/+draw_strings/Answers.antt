use Rattle.std.proofs.Common.{rules, arith, ◌≡◌, ◌≢◌, ◌∙◌, ◌+◌, ◌-◌, ◌++◌, ◌∷◌, [], length, sym, ap, subst}
use Rattle.std.specs.Prelude.{Option, Some, None}
use Rattle.entropy_source.specs.declared.answers.SourceRefusal.{SourceRefusal}
use Rattle.entropy_source.specs.Source.{need_of}
use Rattle.tree_rules.specs.Slots.{source_slot, source_row}
use Rattle.tree_acts.specs.Drew.{Drew, Runs}
use Rattle.tree_acts.specs.Pieces.{same_lens, pieces}
use Rattle.tree_acts.proofs.Drawing.{drew_join}
use Rattle.tree_acts.proofs.Rising.{plan_still}
use Rattle.tree_acts.proofs.Chunking.{count_cons, pieces_cons, some_refused, none_refused, source_still, drew_nothing, runs_first, runs_rest, less_one}
use Rattle.tree_acts.proofs.strings.+draw_strings.Goals as goal

pub returns-then-count-eq0 : goal.returns-then-count-eq0
returns-then-count-eq0 g t c =
    let told = g.S.Samples.told in let faults = g.S.Samples.faults in let p = c.args.plan.now in let h = g.H.Holdings.what c.args.hold.now in
    let j = c.args.j in let size = c.args.size in let count = c.args.count in
    let slot : c.nodes.result + c.from.result ≡ source_slot p j = ap (λ n. n + c.from.result) c.nodes.ensures.count ∙ ap (λ i. length p.nodes + i) c.from.ensures in
    let at : h.sources (source_slot p j) ≡ Some c.source.result.now = subst (λ k. h.sources k ≡ Some c.source.result.now) slot c.source.ensures in
    subst (λ k. Drew told faults g.S.Samples.reads p h h j (same_lens k size) None (pieces k size c.args.spare.now)) (sym c.if-count-eq0.true)
    (drew_nothing told faults p g.S.Samples.reads h j c.source.result.now c.requires.plan at c.taken-few.ensures.source c.requires.runs.mode)

pub draw_at-refused-requires-clause-runs : goal.draw_at-refused-requires-clause-runs
draw_at-refused-requires-clause-runs g t c =
    let told = g.S.Samples.told in let faults = g.S.Samples.faults in let p = c.args.plan.now in let h = g.H.Holdings.what c.args.hold.now in
    let j = c.args.j in let size = c.args.size in let count = c.args.count in
    let slot : c.nodes.result + c.from.result ≡ source_slot p j = ap (λ n. n + c.from.result) c.nodes.ensures.count ∙ ap (λ i. length p.nodes + i) c.from.ensures in
    let at : h.sources (source_slot p j) ≡ Some c.source.result.now = subst (λ k. h.sources k ≡ Some c.source.result.now) slot c.source.ensures in
    let more : count ≢ 0 = c.if-count-eq0.false in
    let lens = count_cons count size more in
    let whole = subst (λ z. Runs told faults p h j (need_of (source_row p j) z)) lens c.requires.runs in
    subst (λ k. Runs told faults p h j (need_of (source_row p j) (k ∷ []))) (sym c.split_at_mut-front.ensures.front_len)
    (runs_first told faults p h j (size ∷ []) (same_lens (count - 1) size) whole)

pub returns-then-is_some : goal.returns-then-is_some
returns-then-is_some g t c =
    let told = g.S.Samples.told in let faults = g.S.Samples.faults in let p = c.args.plan.now in let h = g.H.Holdings.what c.args.hold.now in
    let j = c.args.j in let size = c.args.size in let count = c.args.count in
    let slot : c.nodes.result + c.from.result ≡ source_slot p j = ap (λ n. n + c.from.result) c.nodes.ensures.count ∙ ap (λ i. length p.nodes + i) c.from.ensures in
    let at : h.sources (source_slot p j) ≡ Some c.source.result.now = subst (λ k. h.sources k ≡ Some c.source.result.now) slot c.source.ensures in
    let more : count ≢ 0 = c.if-count-eq0.false in
    let lens = count_cons count size more in
    let whole = subst (λ z. Runs told faults p h j (need_of (source_row p j) z)) lens c.requires.runs in
    let t1 = g.H.Holdings.what c.draw_at-refused.new.hold in
    let front = c.draw_at-refused.new.out in
    let first = subst (λ k. Drew told faults g.S.Samples.reads p h t1 j (k ∷ []) c.draw_at-refused.result (front ∷ [])) c.split_at_mut-front.ensures.front_len c.draw_at-refused.ensures in
    subst (λ z. Drew told faults g.S.Samples.reads p h t1 j z c.draw_at-refused.result (pieces count size (front ++ c.split_at_mut-front.result.1.now))) (sym lens)
    (some_refused told faults p g.S.Samples.reads h t1 j (size ∷ []) (same_lens (count - 1) size) (front ∷ []) (pieces count size (front ++ c.split_at_mut-front.result.1.now)) c.draw_at-refused.result (search rules) first)

pub draw_strings-requires : goal.draw_strings-requires
draw_strings-requires g t c = λ κs lives.
    let told = g.S.Samples.told in let faults = g.S.Samples.faults in let p = c.args.plan.now in let h = g.H.Holdings.what c.args.hold.now in
    let j = c.args.j in let size = c.args.size in let count = c.args.count in
    let slot : c.nodes.result + c.from.result ≡ source_slot p j = ap (λ n. n + c.from.result) c.nodes.ensures.count ∙ ap (λ i. length p.nodes + i) c.from.ensures in
    let at : h.sources (source_slot p j) ≡ Some c.source.result.now = subst (λ k. h.sources k ≡ Some c.source.result.now) slot c.source.ensures in
    let more : count ≢ 0 = c.if-count-eq0.false in
    let lens = count_cons count size more in
    let whole = subst (λ z. Runs told faults p h j (need_of (source_row p j) z)) lens c.requires.runs in
    let t1 = g.H.Holdings.what c.draw_at-refused.new.hold in
    let front = c.draw_at-refused.new.out in
    let first = subst (λ k. Drew told faults g.S.Samples.reads p h t1 j (k ∷ []) c.draw_at-refused.result (front ∷ [])) c.split_at_mut-front.ensures.front_len c.draw_at-refused.ensures in
    let none = none_refused told faults p c.draw_at-refused.result (search rules) in
    let first' = subst (λ (r : Option SourceRefusal). Drew told faults g.S.Samples.reads p h t1 j (size ∷ []) r (front ∷ [])) none first in
    let back = c.split_at_mut-front.ensures.back_len in let product = less_one count size more in let room = c.requires.room in (
      omega (arith, more),
      (
        search rules,
        (
          search rules,
          (
            plan_still told faults p g.S.Samples.reads h t1 _ first'.did c.requires.plan,
            (
              c.requires.planned,
              (
                source_still told faults p g.S.Samples.reads h t1 _ (source_slot p j) first'.did c.requires.there,
                (
                  c.requires.size,
                  (
                    omega (arith, back, product, room),
                    runs_rest told faults p g.S.Samples.reads h t1 j (size ∷ []) (same_lens (count - 1) size) (front ∷ []) whole first',
                  ),
                ),
              ),
            ),
          ),
        ),
      ),
    )

pub returns : goal.returns
returns g t c =
    let told = g.S.Samples.told in let faults = g.S.Samples.faults in let p = c.args.plan.now in let h = g.H.Holdings.what c.args.hold.now in
    let j = c.args.j in let size = c.args.size in let count = c.args.count in
    let slot : c.nodes.result + c.from.result ≡ source_slot p j = ap (λ n. n + c.from.result) c.nodes.ensures.count ∙ ap (λ i. length p.nodes + i) c.from.ensures in
    let at : h.sources (source_slot p j) ≡ Some c.source.result.now = subst (λ k. h.sources k ≡ Some c.source.result.now) slot c.source.ensures in
    let more : count ≢ 0 = c.if-count-eq0.false in
    let lens = count_cons count size more in
    let whole = subst (λ z. Runs told faults p h j (need_of (source_row p j) z)) lens c.requires.runs in
    let t1 = g.H.Holdings.what c.draw_at-refused.new.hold in
    let front = c.draw_at-refused.new.out in
    let first = subst (λ k. Drew told faults g.S.Samples.reads p h t1 j (k ∷ []) c.draw_at-refused.result (front ∷ [])) c.split_at_mut-front.ensures.front_len c.draw_at-refused.ensures in
    let none = none_refused told faults p c.draw_at-refused.result (search rules) in
    let first' = subst (λ (r : Option SourceRefusal). Drew told faults g.S.Samples.reads p h t1 j (size ∷ []) r (front ∷ [])) none first in
    let u = g.H.Holdings.what c.draw_strings.new.hold in
    let len : length front ≡ size = let same = c.draw_at-refused.auto.out in let f = c.split_at_mut-front.ensures.front_len in search rules in
    let both = drew_join told faults p g.S.Samples.reads h t1 u j c.source.result.now (size ∷ []) (same_lens (count - 1) size) (front ∷ []) (pieces (count - 1) size c.draw_strings.new.spare) c.draw_strings.result
    c.requires.plan at first' c.draw_strings.ensures in
    subst (λ z. Drew told faults g.S.Samples.reads p h u j z c.draw_strings.result (pieces count size (front ++ c.draw_strings.new.spare))) (sym lens)
    (subst (λ z. Drew told faults g.S.Samples.reads p h u j (size ∷ same_lens (count - 1) size) c.draw_strings.result z) (sym (pieces_cons count size front c.draw_strings.new.spare more len)) both)
