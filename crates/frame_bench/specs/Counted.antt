-- Frames of a stream, counted, and copies of a stream in a row.
-- This project's own.
use Rattle.std.specs.Prelude.{◌≡◌, ℕ, suc, zero, List, [], ◌++◌, length, Bool, true, false, ◌⊎◌}
use Rattle.frame_codec.specs.Frames.{Asked, IsScript, IsBadAt}
use Rattle.frame_codec.specs.Decoding.{Begun, Reads}

-- so many copies in a row
abbrev pub copies : ℕ → List ℕ → List ℕ
copies zero stream = []
copies (suc n) stream = copies n stream ++ stream

-- the bytes are so many frames, and then a part of one or a byte with which none goes on
pub record HasFrames (b : List ℕ) (count : ℕ) : Type 0 where
  pub rs : List Asked
  pub count_is : count ≡ length rs
  pub goes : ((rest : List ℕ) × IsScript b rs rest) ⊎ ((offset : ℕ) × (why : ℕ) × IsBadAt b rs offset why)

-- a decoder that had read b has read the stream behind it too, or a byte in it is bad; the frames up to there are counted
abbrev pub CountsOn : List ℕ → List ℕ → Bool → Begun → ℕ → Type 0
CountsOn b stream true new count = (rs : List Asked) × Reads (b ++ stream) rs new × (count ≡ length rs)
CountsOn b stream false new count = (rs : List Asked) × (offset : ℕ) × (why : ℕ) × IsBadAt (b ++ stream) rs offset why × (count ≡ length rs)
