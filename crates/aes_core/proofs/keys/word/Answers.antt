use Rattle.std.proofs.Common.{◌-◌, ◌*◌, drop, arith, ◌∙◌}
use Rattle.std.proofs.lemmas.List.{take-take}
use Rattle.aes_core.proofs.Words.{word_is}
use Rattle.aes_core.proofs.keys.word.Goals as goal

pub returns : goal.returns
returns c =
    take-take 4 (240 - 4 * c.args.i) (drop (4 * c.args.i) c.args.keys.now) (omega arith) ∙ word_is c.args.keys.now c.args.i (omega arith)
