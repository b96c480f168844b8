use Rattle.std.proofs.Common.{◌≤◌, List, ℕ, ◌∙◌, drop, length, subst, sym, ap}
use Rattle.vector_text.specs.Feeding.{Window}
use Rattle.vector_text.proofs.Windows.{taken_front}
use Rattle.vector_text.proofs.feed.Feed.take.Goals as goal

pub returns : goal.returns
returns c =
    let i = c.self.inside in
    let within = subst (λ (w : Window). c.args.count ≤ length w.ahead) (sym c.self.view_is) c.requires in
    ap (λ (x : List ℕ). record { ahead = x; room = i.room }) (taken_front i.buffer.items i.at i.end c.args.count within)
    ∙ ap (λ (w : Window). record { ahead = drop c.args.count w.ahead; room = w.room }) c.self.view_is
