-- What a place ends as, once the source in it was lent.
-- This project's own.
use Rattle.std.specs.Borrow.{Lends, MutBor, Fml, RattleType}
use Rattle.shared_tree.specs.declared.row.SourcePlace.{SourcePlace}
use Rattle.shared_tree.specs.contracts.row.SourcePlace as place

abbrev pub LendsPlace : (E : RattleType) → MutBor (SourcePlace E.Denot) → MutBor E.Denot → (E.Denot → SourcePlace E.Denot) → Fml
LendsPlace E s r f = Lends (place.the_row E) E s r f
