use Rattle.std.proofs.Common.{◌≡◌, ◌∙◌, ℕ, List, ap, sym, subst, arith, length, false}
use Rattle.std.specs.List.{All}
use Rattle.vector_text.specs.Feeding.{Window, is_line_feed, last_found}
use Rattle.vector_text.proofs.Windows.{found_last, found_long}
use Rattle.vector_text.proofs.feed.Feed.found.Goals as goal

pub returns-then-self-eq0-clause-some : goal.returns-then-self-eq0-clause-some
returns-then-self-eq0-clause-some c left =
    let none = subst (All (λ (x : ℕ). is_line_feed x ≡ false)) c.ahead.ensures.value (c.in_default.ensures.none) in
    found_last left c.args.self.now c.last.result (sym (ap (λ (w : Window). w.room) c.self.view_is) ∙ c.if-self-eq0.true) none
    (c.last.ensures ∙ ap (λ (x : List ℕ). last_found (length x)) c.ahead-len.ensures.value)

pub returns-then-len-clause-some : goal.returns-then-len-clause-some
returns-then-len-clause-some c left =
    let none = subst (All (λ (x : ℕ). is_line_feed x ≡ false)) c.ahead.ensures.value (c.in_default.ensures.none) in
    found_long left c.args.self.now none (omega (arith, c.if-len.true, ap (λ (x : List ℕ). length x) c.ahead-len.ensures.value))
