use Rattle.std.proofs.Common.{◌≡◌, take}
use Rattle.frame_codec.proofs.decoder.begins_with.Given as goal

abbrev pub invariant-loop-at : goal.invariant-loop-at
invariant-loop-at l = take l.at l.bytes ≡ take l.at l.head
