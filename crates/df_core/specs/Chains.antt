-- The chaining values of several passes of BCC side by side.
-- SP 800-90A Rev. 1, 10.3.2, step 9.
use Rattle.std.specs.Prelude.{◌≡◌, ◌<◌, ℕ, List, [], ◌∷◌, get_or}
use Rattle.df_core.specs.Df.{bcc, pass_block}

-- the value of each of the first n passes has taken in the pass's own block and the blocks after it
abbrev pub AreChained : List ℕ → List (List ℕ) → ℕ → List (List ℕ) → Type 0
AreChained key chains n blocks = (i : ℕ) → i < n → get_or chains i [] ≡ bcc key (pass_block i ∷ blocks)
