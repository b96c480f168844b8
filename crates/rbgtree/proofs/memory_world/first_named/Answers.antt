use Rattle.std.proofs.Common.{◌≡◌, ◌≢◌, ℕ, refl, sym, ◌∙◌, ap, subst, drop, ◌+◌, arith, rules}
use Rattle.std.specs.Prelude.{string_bytes}
use Rattle.rbgtree.specs.MemoryFiles.{names, IsFirstAt}
use Rattle.rbgtree.proofs.Found.{IsAsLater, as_itself, found_here, found_later, found_nowhere}
use Rattle.rbgtree.proofs.memory_world.first_named.Goals as goal

pub loop-entry-init : goal.loop-entry-init
loop-entry-init g c = (as_itself c.args.entries.now c.args.name.now, refl)

pub returns-then-eq-clause-some : goal.returns-then-eq-clause-some
returns-then-eq-clause-some g c =
    let same : c.as_str.result.now ≡ c.args.name.now = search rules in
    let later = subst (λ (n : ℕ). IsAsLater (names c.args.entries.now) (names (drop c.loop-entry.entry-index c.args.entries.now)) c.args.name.now n) c.loop-entry.invariant.1 c.loop-entry.invariant.0 in
    subst (λ (n : ℕ). IsFirstAt (names c.args.entries.now) c.args.name.now n) (sym c.loop-entry.invariant.1)
    (found_here c.args.entries.now c.loop-entry.entry-index c.entry-item.result c.args.name.now c.loop-entry-test.true c.entry-item.is (sym c.as_str.ensures.value ∙ same) later)

pub loop-entry-preserved : goal.loop-entry-preserved
loop-entry-preserved g c =
    let other : c.as_str.result.now ≢ c.args.name.now = search rules in
    let later = subst (λ (n : ℕ). IsAsLater (names c.args.entries.now) (names (drop c.loop-entry.entry-index c.args.entries.now)) c.args.name.now n) c.loop-entry.invariant.1 c.loop-entry.invariant.0 in
    let more = found_later c.args.entries.now c.loop-entry.entry-index c.entry-item.result c.args.name.now c.loop-entry-test.true c.entry-item.is
    (λ (e : string_bytes c.entry-item.result.0 ≡ c.args.name.now). other (c.as_str.ensures.value ∙ e)) later in (
      subst (λ (n : ℕ). IsAsLater (names c.args.entries.now) (names (drop (c.loop-entry.entry-index + 1) c.args.entries.now)) c.args.name.now (n + 1)) (sym c.loop-entry.invariant.1) more,
      ap (λ (n : ℕ). n + 1) c.loop-entry.invariant.1,
    )

pub returns-clause-none : goal.returns-clause-none
returns-clause-none g c = found_nowhere c.args.entries.now c.loop-entry.entry-index c.args.name.now (omega (arith, c.loop-entry-test.false))
    (subst (λ (n : ℕ). IsAsLater (names c.args.entries.now) (names (drop c.loop-entry.entry-index c.args.entries.now)) c.args.name.now n) c.loop-entry.invariant.1 c.loop-entry.invariant.0)
