-- What a Df in progress holds: the text of S so far, cut into blocks, and what each pass has made of them.
-- SP 800-90A Rev. 1, 10.3.2, steps 2 to 9, in progress.
use Rattle.std.specs.Prelude.{◌≡◌, ℕ, ◌+◌, List, ◌++◌, All, length, take}
use Rattle.std.specs.List.{concat}
use Rattle.df_core.specs.Df.{blocks_for, first_key, df_header}
use Rattle.df_core.specs.KeyLen.{key_bytes}
use Rattle.df_core.specs.Chains.{AreChained}
use Rattle.df_core.specs.declared.derive.Df.{Df}

-- the blocks, 16 bytes each, and then the rest are the text
pub record IsCut (text : List ℕ) (blocks : List (List ℕ)) (rest : List ℕ) : Type 0 where
  pub whole : All (λ b. length b ≡ 16) blocks
  pub joined : text ≡ concat blocks ++ rest

-- the state holds the text that begins S, for a key of so many bytes and so many wanted
pub record HoldsText (d : Df) (keylen want : ℕ) (text : List ℕ) : Type 0 where
  pub key : key_bytes d.keylen ≡ keylen
  pub wanted : d.want ≡ want
  pub cipher : d.aes ≡ first_key keylen
  pub cut : (blocks : List (List ℕ)) × IsCut text blocks (take d.fill d.buf) × AreChained d.aes d.chains (blocks_for (keylen + 16)) blocks

-- the state holds the first bytes of an input of so many
abbrev pub HoldsInput : Df → ℕ → ℕ → ℕ → List ℕ → Type 0
HoldsInput d keylen total want input = HoldsText d keylen want (df_header total want ++ input)
