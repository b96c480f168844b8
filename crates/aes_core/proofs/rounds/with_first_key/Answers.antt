use Rattle.std.proofs.Common.{refl}
use Rattle.aes_core.specs.Aes.{add_round_key}
use Rattle.aes_core.proofs.Rows.{first_is}
use Rattle.aes_core.proofs.rounds.with_first_key.Goals as goal

pub returns : goal.returns
unfolding add_round_key
returns c =
    first_is (add_round_key c.args.keys.now 0) c.args.block _ _ _ c.first.ensures c.with_key.ensures c.four_times.ensures c.fits-block.0 refl
