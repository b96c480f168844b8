use Rattle.std.proofs.Common.{sym, subst}
use Rattle.turn_table.specs.Opens.{MayBegin}
use Rattle.turn_table.proofs.Opens.{may_begin}
use Rattle.turn_table.proofs.table.Turns.open.Goals as goal

pub begin-requires-clause-opening : goal.begin-requires-clause-opening
begin-requires-clause-opening g c = subst (MayBegin g.M.Machine.meaning g.E.Entered.is) (sym c.in-Ok-make.ensures.given.1) (may_begin g.M.Machine.meaning g.E.Entered.is c.args.values.items c.requires.opening)
