-- Bytes that were read and not yet taken, what may follow them, and the line at their front.
-- This project's own.
use Rattle.std.specs.Prelude.{◌≡◌, ◌≤◌, ◌<◌, ℕ, ◌+◌, ◌-◌, ◌^◌, ◌==◌, Bool, List, [], ◌∷◌, ◌++◌, length, take, drop, nat_eq, if◌then◌else◌, Option, Some, None}
use Rattle.std.specs.Str.Lines.{lines}
use Rattle.vector_text.specs.declared.feed.Found.{Found}
use Rattle.vector_text.specs.declared.feed.Found.TheVariants.{End, Line, Long}

-- the bytes that were read and not yet taken, and how many more may be read: none once the end was seen
pub record Window : Type 0 where
  pub ahead : List ℕ
  pub room : ℕ

-- a piece of the text was taken in: an empty one is its end
abbrev pub given : List ℕ → Window → Window
given [] w = record w { room = 0 }
given (byte ∷ piece) w = record { ahead = w.ahead ++ take w.room (byte ∷ piece); room = w.room - length (byte ∷ piece) }

-- a text is the first 2 ^ 63 bytes of its source
abbrev pub most_bytes : ℕ
most_bytes = 2 ^ 63

-- These bytes follow what was read of a source, of which so many more are read at most: where it tells its bytes they are
-- what it has left.
abbrev pub Follows : Option (List ℕ) → ℕ → List ℕ → Type 0
Follows None room more = length more ≤ room
Follows (Some left) room more = more ≡ take room left

abbrev pub is_line_feed : ℕ → Bool
is_line_feed = λ c. c == 10

-- what begins with these bytes has a first line of so many of them, with its end so many, whatever follows
pub record IsLineEnd (ahead : List ℕ) (len whole : ℕ) : Type 0 where
  pub short : len ≤ whole
  pub some : 0 < whole
  pub within : whole ≤ length ahead
  pub line : (more : List ℕ) → lines (ahead ++ more) ≡ take len ahead ∷ lines (drop whole ahead ++ more)

-- bytes were read, and nothing was taken
pub record Grows (left : Option (List ℕ)) (w : Window) (left' : Option (List ℕ)) (w' : Window) : Type 0 where
  pub got : List ℕ
  pub ahead : w'.ahead ≡ w.ahead ++ got
  pub follows : (more : List ℕ) → Follows left' w'.room more → Follows left w.room (got ++ more)
  pub size : length got + w'.room ≤ w.room

-- a line at the front, of what may follow
pub record HasLine (left : Option (List ℕ)) (w : Window) (len whole : ℕ) : Type 0 where
  pub short : len ≤ whole
  pub some : 0 < whole
  pub within : whole ≤ length w.ahead
  pub line : (more : List ℕ) → Follows left w.room more → lines (w.ahead ++ more) ≡ take len w.ahead ∷ lines (drop whole w.ahead ++ more)

-- a line of more than 16,384 bytes before others
abbrev pub BeginsLong : List (List ℕ) → Type 0
BeginsLong [] = ⊥
BeginsLong (line ∷ later) = 16384 < length line

-- what stands at the front
abbrev pub Finds : Found → Option (List ℕ) → Window → Type 0
Finds End left w = (more : List ℕ) → Follows left w.room more → w.ahead ++ more ≡ []
Finds (Line len whole) left w = HasLine left w len whole
Finds Long left w = (more : List ℕ) → Follows left w.room more → BeginsLong (lines (w.ahead ++ more))

-- what stands at the front where so many bytes without a line feed are the last
abbrev pub last_found : ℕ → Found
last_found len = if nat_eq len 0 then End else Line len len
