-- Four blocks in a row, as the lanes hold them.
-- This project's own.
use Rattle.std.specs.Prelude.{List, ℕ, ◌++◌, take, drop}

-- each of four blocks in a row becomes its value under f
abbrev pub each_block : (List ℕ → List ℕ) → List ℕ → List ℕ
each_block f s = f (take 16 s) ++ f (take 16 (drop 16 s)) ++ f (take 16 (drop 32 s)) ++ f (take 16 (drop 48 s))
