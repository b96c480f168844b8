use Rattle.std.proofs.Common.{◌∙◌}
use Rattle.std.proofs.lemmas.Simd.{zip2_of_maps}
use Rattle.aes_core.specs.Field.{times}
use Rattle.aes_core.proofs.Lanes.{map_same}
use Rattle.aes_core.proofs.Powers.{p2, p3, p6, p12, p15, p30, p60, p120, p240, p252, powers_are}
use Rattle.aes_core.proofs.power.inverse.Goals as goal

pub returns : goal.returns
returns c =
    let v = c.args.x in
    let same = map_same v in
    let x2 = c.product-x2.ensures ∙ zip2_of_maps times (λ x. x) (λ x. x) v same same in
    let x3 = c.product-x3.ensures ∙ zip2_of_maps times p2 (λ x. x) v x2 same in
    let x6 = c.product-x6.ensures ∙ zip2_of_maps times p3 p3 v x3 x3 in
    let x12 = c.product-x12.ensures ∙ zip2_of_maps times p6 p6 v x6 x6 in
    let x15 = c.product-x15.ensures ∙ zip2_of_maps times p12 p3 v x12 x3 in
    let x30 = c.product-x30.ensures ∙ zip2_of_maps times p15 p15 v x15 x15 in
    let x60 = c.product-x60.ensures ∙ zip2_of_maps times p30 p30 v x30 x30 in
    let x120 = c.product-x120.ensures ∙ zip2_of_maps times p60 p60 v x60 x60 in
    let x240 = c.product-x240.ensures ∙ zip2_of_maps times p120 p120 v x120 x120 in
    let x252 = c.product-x252.ensures ∙ zip2_of_maps times p240 p12 v x240 x12 in
    c.product.ensures ∙ (zip2_of_maps times p252 p2 v x252 x2 ∙ powers_are v c.fits-x)
