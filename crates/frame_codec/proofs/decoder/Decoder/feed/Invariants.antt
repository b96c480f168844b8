use Rattle.std.proofs.Common.{◌-◌, length}
use Rattle.frame_codec.proofs.Decoding.{IsFed}
use Rattle.frame_codec.proofs.decoder.Decoder.feed.Given as goal

abbrev pub invariant-pieces : goal.invariant-pieces
invariant-pieces l = IsFed l.initial.self l.self l.bytes l.at

abbrev pub decreases-pieces : goal.decreases-pieces
decreases-pieces l = length l.bytes - l.at
