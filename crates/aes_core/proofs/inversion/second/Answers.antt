use Rattle.std.proofs.Common.{bit_xor}
use Rattle.std.proofs.lemmas.Simd.{zip2_of_maps}
use Rattle.aes_core.specs.Code.Inversion.{look, second_place, upper_of}
use Rattle.aes_core.specs.declared.tables.TheConstants.{INVERSE}
use Rattle.aes_core.proofs.Lanes.{after, reads}
use Rattle.aes_core.proofs.inversion.second.Goals as goal

pub look_up-requires : goal.look_up-requires
look_up-requires c = reads second_place c.args.y _ c.fits-y c.second_place.ensures tt

pub returns : goal.returns
returns c =
    zip2_of_maps bit_xor (λ y. look INVERSE (second_place y)) upper_of c.args.y
    (after (look INVERSE) second_place c.args.y _ _ c.look_up.ensures c.second_place.ensures) c.upper.ensures
