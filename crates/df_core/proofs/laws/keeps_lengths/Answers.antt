use Rattle.df_core.proofs.Lengths.{length-df, whole-df_string}
use Rattle.df_core.proofs.laws.keeps_lengths.Goals as goal

pub returns-clause-result_len : goal.returns-clause-result_len
returns-clause-result_len c = λ keylen want input. length-df keylen input want

pub returns-clause-whole_blocks : goal.returns-clause-whole_blocks
returns-clause-whole_blocks c = λ want input. whole-df_string input want
