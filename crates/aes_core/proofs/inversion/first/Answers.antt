use Rattle.std.proofs.Common.{bit_xor}
use Rattle.std.proofs.lemmas.Simd.{zip2_of_maps}
use Rattle.aes_core.specs.Code.Inversion.{look, first_place, sum_of}
use Rattle.aes_core.specs.declared.tables.TheConstants.{INVERSE}
use Rattle.aes_core.proofs.Lanes.{after, reads}
use Rattle.aes_core.proofs.inversion.first.Goals as goal

pub look_up-requires : goal.look_up-requires
look_up-requires c = reads first_place c.args.y _ c.fits-y c.first_place.ensures tt

pub returns : goal.returns
returns c =
    zip2_of_maps bit_xor (λ y. look INVERSE (first_place y)) sum_of c.args.y
    (after (look INVERSE) first_place c.args.y _ _ c.look_up.ensures c.first_place.ensures) c.sum.ensures
