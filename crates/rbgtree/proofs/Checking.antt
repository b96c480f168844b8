-- Pieces that are written one after another.
use Rattle.std.proofs.Common.{ℕ, List, ◌++◌}
use Rattle.std.specs.Prelude.{Option, Result, Ok, Err}
use Rattle.std.specs.Io.KnownBytes.{Appends}
use Rattle.rbg_bytes.specs.Streams.{TakesAll}
use Rattle.rbg_bytes.proofs.Fronts.{appends_both, front_after}

-- pieces that are written after whole ones, or a front of them where a write fails
pub takes_after : {T E : Type 0} (a b c : Option (List ℕ)) (bs cs : List ℕ) (result : Result T E) → Appends a b bs → TakesAll b c result cs → TakesAll a c result (bs ++ cs)
takes_after a b c bs cs (Ok done) before later = appends_both a b c bs cs before later
takes_after a b c bs cs (Err failed) before later = front_after a b c bs cs before later
