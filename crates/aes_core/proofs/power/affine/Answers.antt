use Rattle.std.proofs.Common.{bit_xor, ◌∙◌}
use Rattle.std.proofs.lemmas.Simd.{zip2_of_maps}
use Rattle.aes_core.specs.Code.Power.{turned_of}
use Rattle.aes_core.proofs.Lanes.{map_same, with_splat}
use Rattle.aes_core.proofs.Powers.{one_turn, three_turns, two_turns, four_turns, turns_are}
use Rattle.aes_core.proofs.power.affine.Goals as goal

pub returns : goal.returns
returns c =
    let y = c.args.y in
    let one = zip2_of_maps bit_xor (λ x. x) (turned_of 1) y (map_same y) c.turned.ensures in
    let two = zip2_of_maps bit_xor one_turn (turned_of 2) y one c.turned-2.ensures in
    let three = zip2_of_maps bit_xor two_turns (turned_of 3) y two c.turned-3.ensures in
    let four = zip2_of_maps bit_xor three_turns (turned_of 4) y three c.turned-4.ensures in
    with_splat bit_xor four_turns 0x63 y _ c.fits-y.0 four ∙ turns_are y c.fits-y
