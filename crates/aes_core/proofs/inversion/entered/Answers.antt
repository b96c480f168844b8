use Rattle.std.proofs.Common.{bit_xor}
use Rattle.std.proofs.lemmas.Simd.{zip2_of_maps}
use Rattle.aes_core.specs.Code.Inversion.{look, lower_of, upper_of}
use Rattle.aes_core.specs.declared.tables.TheConstants.{IN_HIGH, IN_LOW}
use Rattle.aes_core.proofs.Lanes.{after, reads}
use Rattle.aes_core.proofs.inversion.entered.Goals as goal

pub look_up-requires : goal.look_up-requires
look_up-requires c = reads lower_of c.args.v _ c.fits-v c.lower.ensures tt

pub look_up-requires-2 : goal.look_up-requires-2
look_up-requires-2 c = reads upper_of c.args.v _ c.fits-v c.upper.ensures tt

pub returns : goal.returns
returns c =
    let v = c.args.v in
    zip2_of_maps bit_xor (λ b. look IN_LOW (lower_of b)) (λ b. look IN_HIGH (upper_of b)) v
    (after (look IN_LOW) lower_of v _ _ c.look_up.ensures c.lower.ensures) (after (look IN_HIGH) upper_of v _ _ c.look_up-2.ensures c.upper.ensures)
