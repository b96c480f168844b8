use Rattle.std.proofs.Common.{◌≡◌, ◌+◌, ◌*◌, ◌<◌, ◌++◌, length, take, arith, ◌∙◌, append-nil, get_or, refl, [], rules}
use Rattle.std.specs.List.{concat}
use Rattle.std.proofs.lemmas.List.{take_more}
use Rattle.std.proofs.lemmas.List.Folds.{concat-append}
use Rattle.df_core.proofs.chaining.joined.Goals as goal

pub chains-preserved : goal.chains-preserved
chains-preserved c =
    let chains = c.args.chains.now in
    let i = c.chains.i in
    let within : c.chains.i < length c.args.chains.now = search rules in
    let long : length (get_or c.args.chains.now c.chains.i []) ≡ 16 = search rules in
    let at : 16 * (c.chains.i + 1) ≡ 16 * c.chains.i + length (get_or c.args.chains.now c.chains.i []) = omega arith in
    let more : concat (take (c.chains.i + 1) c.args.chains.now) ≡ concat (take c.chains.i c.args.chains.now) ++ get_or c.args.chains.now c.chains.i [] =
    rw (take_more chains i [] within, concat-append, append-nil) refl in (
      c.put_at.auto.out ∙ c.chains.invariant.0,
      rw (at, more, ← c.chains.invariant.1) c.put_at.ensures.front,
    )
