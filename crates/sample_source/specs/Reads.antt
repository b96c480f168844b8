-- What a read of samples gives, and what the reads of recorded samples are.
-- SP 800-90B 2.2.1 for the noise source; the rest is this project's own.
use Rattle.std.specs.Prelude.{◌≡◌, ℕ, List, length, take, drop, min, Option, Some, None, Result, Ok, Err, Contains, MatchOption}
use Rattle.rbg_bytes.specs.Memory.{Incoming, after_read, after_failed_read}

-- what a read gave: the samples at the front of the buffer, or None where it failed
abbrev pub given_by : {E : Type 0} → Result ℕ E → List ℕ → Option (List ℕ)
given_by (Ok count) buffer = Some (take count buffer)
given_by (Err why) buffer = None

-- a read of recorded samples: it gives as many as are asked for and left
abbrev pub ReadsRecorded : List ℕ → ℕ → Option (List ℕ) → List ℕ → Type 0
ReadsRecorded left asked got rest = (got ≡ Some (take asked left)) × (rest ≡ drop asked left)

-- a read of recorded samples that come in pieces: it fails where its number was listed, and gives as many as are asked for and
-- left, at most a piece, where it was not
abbrev pub ReadsPiece : Incoming → ℕ → Option (List ℕ) → Incoming → Type 0
ReadsPiece s asked got now =
    MatchOption got (Contains s.fail s.calls × (now ≡ after_failed_read s))
    (λ xs. (¬ Contains s.fail s.calls) × (xs ≡ take (min asked s.piece) s.left) × (now ≡ after_read s (length xs)))
