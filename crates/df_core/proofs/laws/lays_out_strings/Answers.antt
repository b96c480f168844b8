use Rattle.std.proofs.Common.{refl}
use Rattle.df_core.specs.Df.{df_header, df_string}
use Rattle.df_core.proofs.laws.lays_out_strings.Goals as goal

pub returns : goal.returns
unfolding df_header df_string
returns c = record { three_bytes = refl; no_bytes = refl }
