use Rattle.std.proofs.Common.{◌≡◌, ◌≤◌, ◌+◌, ◌-◌, List, ℕ, length}
use Rattle.frame_codec.specs.Frames.{Asked}
use Rattle.frame_codec.specs.Decoding.{Reads}
use Rattle.frame_bench.proofs.Counting.{HasCounted}
use Rattle.frame_bench.proofs.frames.count_on.Given as goal

abbrev pub invariant-frames : goal.invariant-frames
invariant-frames l =
    (l.at ≤ length l.stream)
    × (l.decoder.offset ≡ l.fn.decoder.offset + l.at)
    × (l.count ≤ l.decoder.offset)
    × ((b : List ℕ) (rs : List Asked) → Reads b rs l.fn.decoder → l.fn.count ≡ length rs → HasCounted b l.stream l.at l.decoder l.count)

abbrev pub decreases-frames : goal.decreases-frames
decreases-frames l = length l.stream - l.at
