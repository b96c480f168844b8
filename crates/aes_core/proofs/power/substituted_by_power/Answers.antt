use Rattle.std.proofs.Common.{map, ap, ◌∙◌}
use Rattle.std.proofs.lemmas.Simd.{map-map}
use Rattle.aes_core.specs.Field.{affine, inverse, sub_byte}
use Rattle.aes_core.proofs.power.substituted_by_power.Goals as goal

pub returns : goal.returns
unfolding sub_byte
returns c = c.affine.ensures ∙ (ap (map affine) c.inverse.ensures ∙ map-map affine inverse c.args.s)
