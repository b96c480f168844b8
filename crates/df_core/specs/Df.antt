-- BCC and Block_Cipher_df on lists of bytes, with AES as the block cipher.
-- SP 800-90A Rev. 1, 10.3.2 and 10.3.3.
use Rattle.std.specs.Prelude.{ℕ, zero, suc, ◌+◌, ◌-◌, ◌/◌, ◌%◌, List, [], ◌∷◌, ◌++◌, length, fold, take, drop, replicate}
use Rattle.std.specs.List.{range_with_len}
use Rattle.std.specs.Int.{w32, to_be_bytes}
use Rattle.aes_core.specs.Aes.{aes}
use Rattle.rbg_bytes.specs.Xor.{xor_bytes}

-- one step of BCC: the block is added to the chaining value, and the sum encrypted (10.3.3)
unfoldable pub chained : List ℕ → List ℕ → List ℕ → List ℕ
chained key value block = aes key (xor_bytes value block)

-- BCC: from a block of zeros through all blocks in order (10.3.3)
abbrev pub bcc : List ℕ → List (List ℕ) → List ℕ
bcc key blocks = fold (chained key) (replicate 16 0) blocks

-- the first n blocks of a row of bytes
abbrev pub first_blocks : ℕ → List ℕ → List (List ℕ)
first_blocks zero s = []
first_blocks (suc n) s = take 16 s ∷ first_blocks n (drop 16 s)

-- the blocks of a row of whole blocks
unfoldable pub blocks_of : List ℕ → List (List ℕ)
blocks_of s = first_blocks (length s / 16) s

-- a number in four bytes
abbrev pub four_bytes : ℕ → List ℕ
four_bytes n = to_be_bytes w32 n

-- what S begins with: the input's length and the number of bytes wanted (10.3.2, steps 2 and 3)
unfoldable pub df_header : ℕ → ℕ → List ℕ
df_header total want = four_bytes total ++ four_bytes want

-- S: the input's length, the number of bytes wanted, the input, the byte 80, and zeros up to whole blocks
-- (10.3.2, steps 2 to 5)
unfoldable pub df_string : List ℕ → ℕ → List ℕ
df_string input want =
    let s = df_header (length input) want ++ input in
    s ++ 0x80 ∷ replicate (15 - length s % 16) 0

-- the block before S in the pass i: i in four bytes, and zeros (step 9.1)
abbrev pub pass_block : ℕ → List ℕ
pass_block i = four_bytes i ++ replicate 12 0

-- the results of BCC in the first n passes, one after another (step 9)
unfoldable pub passes : List ℕ → List (List ℕ) → ℕ → List ℕ
passes key blocks zero = []
passes key blocks (suc n) = passes key blocks n ++ bcc key (pass_block n ∷ blocks)

-- X after n turns of X = AES(K, X) (step 13.1)
unfoldable pub turned : List ℕ → List ℕ → ℕ → List ℕ
turned key x zero = x
turned key x (suc n) = aes key (turned key x n)

-- the X of each of n turns, one after another (step 13)
unfoldable pub turns : List ℕ → List ℕ → ℕ → List ℕ
turns key x zero = []
turns key x (suc n) = turns key x n ++ turned key x (suc n)

-- the bytes 00, 01, 02 and so on (step 8)
abbrev pub first_key : ℕ → List ℕ
first_key keylen = range_with_len 0 keylen

-- how many blocks hold n bytes
abbrev pub blocks_for : ℕ → ℕ
blocks_for n = (n + 15) / 16

-- the key and X that the passes give (steps 9 to 11)
unfoldable pub temp_of : ℕ → List ℕ → ℕ → List ℕ
temp_of keylen input want = passes (first_key keylen) (blocks_of (df_string input want)) (blocks_for (keylen + 16))

-- Block_Cipher_df of an input, with so many bytes wanted, 64 at most (10.3.2)
unfoldable pub df : ℕ → List ℕ → ℕ → List ℕ
df keylen input want =
    let temp = temp_of keylen input want in
    take want (turns (take keylen temp) (take 16 (drop keylen temp)) (blocks_for want))
