use Rattle.std.proofs.Common.{◌≡◌, ◌-◌, ◌*◌, List, length}
use Rattle.frame_codec.proofs.Lengths.{longest}
use Rattle.tree_rules.specs.History.{Entry, Opening}
use Rattle.tree_rules.specs.Openings.{IsHistory}
use Rattle.tree_core.specs.Made.{samples_in}
use Rattle.tree_core.specs.Solo.{StandAfter}
use Rattle.session_core.specs.Session.{IsReady, moment}
use Rattle.session_core.proofs.Whole.{HasTaken}
use Rattle.session_core.proofs.solo.session_solo.Given as goal

abbrev pub invariant-reads : goal.invariant-reads
invariant-reads g l =
    IsReady (moment l.buffers.inbox l.frames l.tree)
    × (l.buffers.inbox.max_frames ≡ l.fn.buffers.inbox.max_frames)
    × (length l.buffers.reply.items ≡ 65568)
    × (l.tree.plan ≡ l.fn.tree.plan)
    × (g.I.ByteSource.faults l.input ≡ g.I.ByteSource.faults l.fn.input)
    × (g.O.ByteSink.faults l.output ≡ g.O.ByteSink.faults l.fn.output)
    × ((f : Opening) (o h : List Entry) → IsHistory f o h → f.plan ≡ l.fn.tree.plan
    → StandAfter g.S.Samples.told g.S.Samples.faults f o h l.fn.tree.nodes l.fn.tree.sources
    → HasTaken g.S.Samples.told g.S.Samples.faults g.S.Samples.reads (record { f = f; o = o; h = h; samples = samples_in l.fn.tree.sources; calls = l.fn.tree.calls; max = l.fn.buffers.inbox.max_frames; out = g.O.ByteSink.out l.fn.output })
    (g.I.ByteSource.left l.fn.input) (g.I.ByteSource.left l.input) (moment l.buffers.inbox l.frames l.tree) (g.O.ByteSink.out l.output))

abbrev pub decreases-reads : goal.decreases-reads
decreases-reads g l = longest * l.buffers.inbox.max_frames - l.buffers.inbox.decoder.offset
