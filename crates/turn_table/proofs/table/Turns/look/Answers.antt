use Rattle.std.proofs.Common.{rules, ◌≡◌, length, sym, ap, ◌∙◌, subst}
use Rattle.turn_table.specs.declared.view.View.{View}
use Rattle.std.specs.declared.option.Option.{Option}
use Rattle.atomic_table.specs.Table.{Me}
use Rattle.turn_table.specs.Passes.{Standing}
use Rattle.turn_table.specs.Calls.{Looks}
use Rattle.turn_table.proofs.Looks.{looks}
use Rattle.turn_table.proofs.Rests.{settled_seen}
use Rattle.turn_table.proofs.table.Turns.look.Goals as goal

pub load-requires : goal.load-requires
load-requires g c = (search rules, search rules, looks g.M.Machine.meaning _ _ _ _ c.pass.invariant.3.live)

pub invariant_of-pass : goal.invariant_of-pass
invariant_of-pass g c = settled_seen c.load.ensures.2.0 _ _ _ _ _ _ c.load.ensures.0 c.load.ensures.2.3 c.pass.invariant

pub returns-clause-looked : goal.returns-clause-looked
returns-clause-looked g c =
    let e : c.pass.inside.seat.me.0 ≡ c.args.pass.now.view = ap (λ (z : Standing). z.view) c.pass.view_is in
    let t = c.load.ensures.2 in
    subst (λ (v : View). Looks g.M.Machine.meaning v c.load.new.seat.me.0) e record { history = t.0; finds = t.1; after = ap (λ (m : Me (Option g.row.M-Value.Denot) View). m.0) t.3 }

pub returns-clause-count : goal.returns-clause-count
returns-clause-count g c = let t = c.load.ensures.2 in t.2 ∙ ap (λ (m : Me (Option g.row.M-Value.Denot) View). length m.0.seen) (sym t.3)
