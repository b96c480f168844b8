use Rattle.std.proofs.Common.{◌∷◌, [], List, ℕ, sym, subst}
use Rattle.rbgtree.specs.Commands.{IsLoadCommand}
use Rattle.rbgtree.proofs.top.load_command.Goals as goal

pub returns-in-Some-clause-some : goal.returns-in-Some-clause-some
returns-in-Some-clause-some c =
    subst (λ (word : List ℕ). IsLoadCommand (word ∷ c.args.name.now ∷ c.args.count.now ∷ c.args.seed.now ∷ []) c.args.name.now c.in-Some.load) (sym c.in-load.is)
    (c.in-Some.ensures.some c.args.name.now)
