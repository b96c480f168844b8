use Rattle.std.proofs.Common.{◌≡◌, ◌≤◌, ◌+◌, ◌-◌, ◌++◌, take, length, List, ℕ}
use Rattle.session_core.specs.Answers.{Answered}
use Rattle.session_core.specs.Session.{Began, IsReady, Stands, moment}
use Rattle.session_core.proofs.solo.take_piece.Given as goal

abbrev pub invariant-frames : goal.invariant-frames
invariant-frames g l =
    IsReady (moment l.inbox l.frames l.tree)
    × (l.at ≤ length l.piece)
    × (l.inbox.decoder.offset ≡ l.fn.inbox.decoder.offset + l.at)
    × (g.O.ByteSink.faults l.output ≡ g.O.ByteSink.faults l.fn.output)
    × (l.inbox.max_frames ≡ l.fn.inbox.max_frames)
    × (l.tree.plan ≡ l.fn.tree.plan)
    × ((b : Began _) (taken : List ℕ) (es : List Answered) → Stands g.S.Samples.told g.S.Samples.faults g.S.Samples.reads b taken es (moment l.fn.inbox l.fn.frames l.fn.tree) (g.O.ByteSink.out l.fn.output) →
    (es' : List Answered) × Stands g.S.Samples.told g.S.Samples.faults g.S.Samples.reads b (taken ++ take l.at l.piece) es' (moment l.inbox l.frames l.tree) (g.O.ByteSink.out l.output))

abbrev pub decreases-frames : goal.decreases-frames
decreases-frames g l = length l.piece - l.at
