use Rattle.std.proofs.Common.{◌≡◌}
use Rattle.frame_codec.proofs.tests.replied.Given as goal

abbrev pub invariant-loop-byte : goal.invariant-loop-byte
invariant-loop-byte l = l.decoder.offset ≡ l.byte-index
