use Rattle.std.proofs.Common.{◌≡◌, length, slice_get, Some, ap, refl, arith}
use Rattle.std.proofs.lemmas.Option.{slice_get_read}
use Rattle.tree_config.proofs.tree_plan.TreePlan.source.Goals as goal

pub returns-clause-range : goal.returns-clause-range
returns-clause-range c =
    let sources = c.self.inside.sources.items in
    let size : length sources ≡ length c.args.self.now.sources = ap (λ t. length t.sources) c.self.view_is in
    let here : slice_get sources c.from.result ≡ Some c.index.result.now = slice_get_read sources _ _ _ refl (omega arith) c.index.ensures in
    c.self.invariant.0.source c.from.result c.index.result.now here
