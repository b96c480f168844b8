use Rattle.std.proofs.Common.{◌≡◌, List, ℕ, [], ◌∷◌, ◌++◌, All, sym, ap, ◌∙◌, subst, append_assoc}
use Rattle.std.specs.declared.option.Option.{Option}
use Rattle.atomic_table.specs.Table.{Me}
use Rattle.turn_table.specs.declared.view.View.{View}
use Rattle.turn_table.specs.Views.{joined}
use Rattle.turn_table.specs.Passes.{Standing, IsIdle, opening_of}
use Rattle.turn_table.specs.Closes.{Gathered}
use Rattle.turn_table.proofs.Gathers.{gathers_first, gathers_more, all_init, all_end}
use Rattle.turn_table.proofs.table.Turns.gather.Goals as goal

pub loop-other-init : goal.loop-other-init
loop-other-init g c =
    let pop = c.in-Some.ensures in
    let o : List ℕ = opening_of c.args.passes.items in
    let Q : Standing → Type 0 = λ p. (p.table ≡ c.args.self.now.table) × IsIdle o c.args.self.now.callers p.view in
    let all : All Q (c.pop.new.self.items ++ c.in-Some.first ∷ []) = subst (λ (l : List Standing). All Q l) pop.items c.requires.idle in
    let it = all_end Q c.pop.new.self.items c.in-Some.first all in
    let seat = c.into_seat-seat.ensures.seat in
    let e : c.into_seat-seat.result.me.0 ≡ c.in-Some.first.view = ap (λ (m : Me (Option g.row.M-Value.Denot) View). m.0) seat.1 in record {
      own = seat.0 ∙ it.0;
      left = all_init Q c.pop.new.self.items c.in-Some.first all;
      done = (
        c.in-Some.first ∷ [],
        pop.items,
        subst (Gathered o c.args.self.now.callers (c.in-Some.first ∷ [])) (sym e) (gathers_first _ c.args.self.now.callers o c.in-Some.first c.into_seat-seat.ensures.rest it.1),
      );
    }

pub loop-other-preserved : goal.loop-other-preserved
loop-other-preserved g c =
    let inv = c.loop-other.invariant in
    let pop = c.in-Some-pop.ensures in
    let o : List ℕ = opening_of c.args.passes.items in
    let Q : Standing → Type 0 = λ p. (p.table ≡ c.args.self.now.table) × IsIdle o c.args.self.now.callers p.view in
    let all : All Q (c.pop-in-loop-other.new.self.items ++ c.in-Some-pop.other ∷ []) = subst (λ (l : List Standing). All Q l) pop.items inv.left in
    let it = all_end Q c.pop-in-loop-other.new.self.items c.in-Some-pop.other all in
    let done = inv.done in
    let e : c.take_in.new.seat.me.0 ≡ joined c.loop-other.seat.me.0 c.in-Some-pop.other.view = ap (λ (m : Me (Option g.row.M-Value.Denot) View). m.0) c.take_in.ensures.joined in record {
      own = c.take_in.ensures.own ∙ inv.own;
      left = all_init Q c.pop-in-loop-other.new.self.items c.in-Some-pop.other all;
      done = (
        c.in-Some-pop.other ∷ done.0,
        done.1 ∙ (ap (λ (l : List Standing). l ++ done.0) pop.items ∙ append_assoc c.pop-in-loop-other.new.self.items (c.in-Some-pop.other ∷ []) done.0),
        subst (Gathered o c.args.self.now.callers (c.in-Some-pop.other ∷ done.0)) (sym e) (gathers_more _ c.args.self.now.callers o done.0 c.loop-other.seat.me.0 c.in-Some-pop.other done.2 c.take_in.ensures.rest it.1),
      );
    }
