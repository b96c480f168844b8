use Rattle.std.proofs.Common.{rules}
use Rattle.hmac_core.proofs.Padding.{zero_padded_over}
use Rattle.hmac_core.proofs.mac.padded.Goals as goal

pub returns : goal.returns
returns c = let zeros = zero_padded_over c.args.key.now 128 in search rules
