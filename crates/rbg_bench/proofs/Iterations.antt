-- A block that is encrypted once more.
use Rattle.std.proofs.Common.{◌≡◌, ℕ, ◌+◌, List, refl, add-one}
use Rattle.aes_core.specs.Aes.{aes}
use Rattle.rbg_bench.specs.Iterated.{iterated}

pub none : (key block : List ℕ) → iterated key 0 block ≡ block
unfolding iterated
none key block = refl

pub more : (key block : List ℕ) (times : ℕ) → iterated key (times + 1) block ≡ aes key (iterated key times block)
unfolding iterated
more key block times = rw (add-one times) refl
