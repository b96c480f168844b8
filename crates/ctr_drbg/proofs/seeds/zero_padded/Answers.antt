use Rattle.std.proofs.Common.{rules}
use Rattle.ctr_drbg.proofs.Rows.{padded_front}
use Rattle.ctr_drbg.proofs.seeds.zero_padded.Goals as goal

pub returns : goal.returns
returns c =
    let h = padded_front c.args.bytes.now c.args.n 48 c.requires.fits c.requires.bound in
    search rules
