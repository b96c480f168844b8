-- What a box ends as, once the value in it was lent.
-- This project's own.
use Rattle.std.specs.Borrow.{Lends, MutBor, Fml, RattleType}
use Rattle.shared_tree.specs.contracts.boxed.Apart as apart
use Rattle.shared_tree.specs.contracts.boxed.Boxed as boxed

abbrev pub LendsApart : (T : RattleType) → MutBor T.Denot → MutBor T.Denot → Fml
LendsApart T s r = Lends (apart.the_row T) T s r (λ w. w)

abbrev pub LendsBox : (T : RattleType) → MutBor T.Denot → MutBor T.Denot → Fml
LendsBox T s r = Lends (boxed.the_row T) T s r (λ w. w)
