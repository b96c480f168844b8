use Rattle.std.proofs.Common.{◌≤◌, ◌∙◌, ℕ, List, length, subst, arith}
use Rattle.std.specs.Prelude.{None}
use Rattle.vector_text.proofs.Readings.{fits_found}
use Rattle.vector_text.proofs.reading.Reading.next_held.Goals as goal

pub take-requires-clause-fits : goal.take-requires-clause-fits
take-requires-clause-fits c = fits_found c.in-Some.found c.lines.self.feed c.in-Some.ensures.some

pub lines-preserved : goal.lines-preserved
lines-preserved c =
    let inv = c.lines.invariant in (
      λ (more : List ℕ) (short : length more ≤ c.take.new.self.feed.room).
          let kept : length more ≤ c.lines.self.feed.room = subst (λ (k : ℕ). length more ≤ k) c.in-Goes.ensures.room short in
          inv.0 more kept ∙ c.in-Goes.ensures.says None more (c.in-Some.ensures.some None) kept,
      c.in-Goes.ensures.reading,
      c.in-Goes.ensures.room ∙ inv.2,
      omega (arith, inv.3, c.in-Goes.ensures.smaller),
      omega (arith, inv.4, c.in-Goes.ensures.counts),
    )

pub returns-in-Case-clause-some : goal.returns-in-Case-clause-some
returns-in-Case-clause-some c = λ more short.
    let kept : length more ≤ c.lines.self.feed.room = subst (λ (k : ℕ). length more ≤ k) c.in-Case.ensures.room short in
    c.lines.invariant.0 more kept ∙ c.in-Case.ensures.says None more (c.in-Some.ensures.some None) kept

pub returns-in-Skipped-clause-some : goal.returns-in-Skipped-clause-some
returns-in-Skipped-clause-some c = λ more short.
    let kept : length more ≤ c.lines.self.feed.room = subst (λ (k : ℕ). length more ≤ k) c.in-Skipped.ensures.room short in
    c.lines.invariant.0 more kept ∙ c.in-Skipped.ensures.says None more (c.in-Some.ensures.some None) kept

pub returns-in-End-clause-some : goal.returns-in-End-clause-some
returns-in-End-clause-some c = λ more short.
    let kept : length more ≤ c.lines.self.feed.room = subst (λ (k : ℕ). length more ≤ k) c.in-End.ensures.room short in
    c.lines.invariant.0 more kept ∙ c.in-End.ensures.says None more (c.in-Some.ensures.some None) kept

pub returns-in-Fault-clause-some : goal.returns-in-Fault-clause-some
returns-in-Fault-clause-some c = λ more short.
    let kept : length more ≤ c.lines.self.feed.room = subst (λ (k : ℕ). length more ≤ k) c.in-Fault.ensures.room short in
    c.lines.invariant.0 more kept ∙ c.in-Fault.ensures.says None more (c.in-Some.ensures.some None) kept
