-- How long a result is.
use Rattle.std.proofs.Common.{◌≡◌, ℕ, List, length, refl}
use Rattle.aes_core.specs.Aes.{add_round_key, aes, encrypted}

-- a block's encryption is a block
pub length-aes : (key block : List ℕ) → length (aes key block) ≡ 16
unfolding aes encrypted add_round_key
length-aes key block = refl
