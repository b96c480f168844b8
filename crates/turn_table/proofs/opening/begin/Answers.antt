use Rattle.turn_table.proofs.Opens.{open_goes}
use Rattle.turn_table.proofs.opening.begin.Goals as goal

pub load-requires : goal.load-requires
load-requires g c = let o = c.requires.opening in (
  c.requires.own,
  c.requires.words,
  open_goes g.M.Machine.meaning (c.args.table.now.shared.key.0, c.args.table.now.shared.key.1.value.items) o.opening o.legal c.requires.callers.0 c.requires.callers.1 o.values_are g.E.Entered.is o.passes _ _ c.args.seat.now.me c.requires.blank,
)
