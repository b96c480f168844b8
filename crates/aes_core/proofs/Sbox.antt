-- The inversion over GF(16) gives the S-box, found by computing both for all 256 bytes.
use Rattle.std.proofs.Common.{◌≡◌, ℕ, List, length, map, refl, ap, ◌∙◌}
use Rattle.aes_core.specs.Field.{times, inverse, sub_byte}
use Rattle.aes_core.specs.Aes.{sub_bytes}
use Rattle.aes_core.specs.Code.Blocks.{each_block}
use Rattle.aes_core.specs.Code.Inversion.{entered_of, result_of}
use Rattle.aes_core.proofs.Lanes.{AreBlocks, lanes_same, of_each}
use Rattle.aes_core.proofs.Rows.{each_alike, each_map, each_same}

pub inversion_is : (v : List ℕ) → AreBlocks v → map (λ b. result_of (entered_of b)) v ≡ map sub_byte v
unfolding times inverse sub_byte
inversion_is v fits = lanes_same (λ b. result_of (entered_of b)) sub_byte v fits tt

-- the S-box on each byte of a state is SubBytes
sub_bytes_is : (b : List ℕ) → length b ≡ 16 → map sub_byte b ≡ sub_bytes b
unfolding sub_bytes
sub_bytes_is b long = of_each 16 (λ b. map sub_byte b ≡ sub_bytes b) (λ x0 x1 x2 x3 x4 x5 x6 x7 x8 x9 x10 x11 x12 x13 x14 x15. refl) b long

-- and on the bytes of four states, that of each
pub lanes_are : (v : List ℕ) → AreBlocks v → map sub_byte v ≡ each_block sub_bytes v
lanes_are v fits =
    ap (map sub_byte) (each_same v fits.0)
    ∙ (each_map sub_byte (λ b. b) v ∙ each_alike (map sub_byte) sub_bytes v fits (λ b is. sub_bytes_is b is.0))
