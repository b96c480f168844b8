use Rattle.std.proofs.Common.{◌∙◌}
use Rattle.aes_core.specs.Code.Inversion.{entered_of, result_of}
use Rattle.aes_core.proofs.Lanes.{after}
use Rattle.aes_core.proofs.Sbox.{inversion_is}
use Rattle.aes_core.proofs.inversion.substituted.Goals as goal

pub returns : goal.returns
returns c = after result_of entered_of c.args.s _ _ c.inverted.ensures c.entered.ensures ∙ inversion_is c.args.s c.fits-s
