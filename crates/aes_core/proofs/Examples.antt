-- The published examples of FIPS 197, computed from the definition.
use Rattle.std.proofs.Common.{refl}
use Rattle.aes_core.specs.Field.{times, inverse, sub_byte}
use Rattle.aes_core.specs.Aes.{aes, encrypted, after_rounds, expanded, expansion, next_word, add_round_key, mix_columns, shift_rows, sub_bytes}
use Rattle.aes_core.specs.Examples.{MeetsExamples}

pub examples : MeetsExamples
unfolding times inverse sub_byte aes encrypted after_rounds expanded expansion next_word add_round_key mix_columns shift_rows sub_bytes
examples = record { aes_128 = refl; aes_192 = refl; aes_256 = refl }
