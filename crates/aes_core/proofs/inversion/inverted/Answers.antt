use Rattle.std.proofs.Common.{bit_xor}
use Rattle.std.proofs.lemmas.Simd.{zip2_of_maps}
use Rattle.aes_core.specs.Code.Inversion.{first_of, look, second_of}
use Rattle.aes_core.specs.declared.tables.TheConstants.{OUT_FIRST, OUT_SECOND}
use Rattle.aes_core.proofs.Lanes.{after, reads, with_splat}
use Rattle.aes_core.proofs.inversion.inverted.Goals as goal

pub look_up-requires : goal.look_up-requires
look_up-requires c = reads first_of c.args.y _ c.fits-y c.first.ensures tt

pub look_up-requires-2 : goal.look_up-requires-2
look_up-requires-2 c = reads second_of c.args.y _ c.fits-y c.second.ensures tt

pub returns : goal.returns
returns c =
    let y = c.args.y in
    let sum = zip2_of_maps bit_xor (λ b. look OUT_FIRST (first_of b)) (λ b. look OUT_SECOND (second_of b)) y
    (after (look OUT_FIRST) first_of y _ _ c.look_up.ensures c.first.ensures) (after (look OUT_SECOND) second_of y _ _ c.look_up-2.ensures c.second.ensures) in
    with_splat bit_xor (λ b. bit_xor (look OUT_FIRST (first_of b)) (look OUT_SECOND (second_of b))) 0x63 y _ c.fits-y.0 sum
