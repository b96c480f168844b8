use Rattle.std.proofs.Common.{◌≡◌, ◌≤◌, ◌*◌, List, length}
use Rattle.frame_codec.specs.Frames.{Asked}
use Rattle.frame_codec.specs.Decoding.{Reads}
use Rattle.frame_bench.specs.Counted.{copies}
use Rattle.frame_bench.proofs.frames.frames_in_copies.Given as goal

abbrev pub invariant-loop-copy : goal.invariant-loop-copy
invariant-loop-copy l =
    (l.decoder.offset ≤ 16777216 * l.copy)
    × (l.count ≤ l.decoder.offset)
    × ((rs : List Asked) × Reads (copies l.copy l.stream) rs l.decoder × (l.count ≡ length rs))
