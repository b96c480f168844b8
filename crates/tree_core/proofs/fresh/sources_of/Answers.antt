use Rattle.std.proofs.Common.{◌≡◌, ◌++◌, ◌∷◌, ◌∙◌, ◌+◌, ℕ, suc, List, [], length, sym, ap, arith, length-append}
use Rattle.health_tests.specs.Numbers.{no_tail}
use Rattle.entropy_source.specs.Views.{opened_view}
use Rattle.tree_rules.specs.Slots.{source_row}
use Rattle.tree_core.specs.Fresh.{sources_from}
use Rattle.tree_core.proofs.Freshness.{one_opened}
use Rattle.tree_core.proofs.fresh.sources_of.Goals as goal

pub loop-s-preserved : goal.loop-s-preserved
loop-s-preserved g c =
    let p = c.args.plan.now in let done = c.loop-s.yielded in let s = c.in-Some.s in
    let items = c.loop-s.invariant.0 in let count : c.loop-s.j ≡ length done = c.loop-s.invariant.1 in let left = c.loop-s.invariant.2 in
    let len : length (done ++ s ∷ []) ≡ length done + 1 = length-append done (s ∷ []) in
    let rest : length c.loop-s.s-iterator.rest.items ≡ suc (length c.next.new.self.rest.items) = ap (λ (xs : List g.row.S.Denot). length xs) c.in-Some.ensures.steps.0 in
    let last : c.loop-s.j ≡ 0 + length done = omega (arith, count) in
    let view = c.source_at.ensures ∙ ap (λ (k : ℕ). opened_view (source_row p k) no_tail s) last in (
      c.in-Ok-push.ensures.items
          ∙ (ap (λ xs. xs ++ c.source_at.result ∷ []) items ∙ (ap (λ v. sources_from p 0 done ++ v ∷ []) view ∙ sym (one_opened p 0 done s))),
      omega (arith, count, len),
      omega (arith, left, rest),
    )
