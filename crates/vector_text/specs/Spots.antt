-- The place of a text that is kept, and what an answer says of the text from there on.
-- This project's own.
use Rattle.std.specs.Prelude.{◌≡◌, ℕ, ◌+◌, ⊤, Bool, true, false, List, [], ◌∷◌, drop, if◌then◌else◌, Option, Some, None}
use Rattle.vector_text.specs.declared.case.Case.{Case}
use Rattle.vector_text.specs.declared.spot.Spot.{Spot}
use Rattle.vector_text.specs.declared.spot.Took as tooks
use Rattle.vector_text.specs.declared.spot.Answer as answers
use Rattle.vector_text.specs.Groups.{Group, is_whole}
use Rattle.vector_text.specs.Gathered.{group_of}
use Rattle.vector_text.specs.Feeding.{Window}
use Rattle.vector_text.specs.Text.{Entry, ACase, ASkip, TheEnd, AFault, Place, Step, Goes, Skips, Fails}

-- the group that is open, if one is
abbrev pub opened : Bool → Group → Option Group
opened false g = None
opened true g = Some g

abbrev pub place_of : Spot → Place
place_of s = record { section = s.section; pr = s.pr; number = s.number; group = opened s.is_open (group_of s.group) }

-- what a line did, and the place behind it
abbrev pub took_of : tooks.Took → Place → Step
took_of tooks.TheVariants.Goes q = Goes q
took_of tooks.TheVariants.Skips q = Skips q
took_of (tooks.TheVariants.Fails why) q = Fails why

-- how many lines stand before the next
abbrev pub number_behind : tooks.Took → ℕ → ℕ
number_behind tooks.TheVariants.Goes n = n + 1
number_behind tooks.TheVariants.Skips n = n + 1
number_behind (tooks.TheVariants.Fails why) n = n

-- what comes of a line with this number
abbrev pub answer_of : tooks.Took → ℕ → answers.Answer
answer_of tooks.TheVariants.Goes number = answers.TheVariants.Goes
answer_of tooks.TheVariants.Skips number = answers.TheVariants.Skipped
answer_of (tooks.TheVariants.Fails why) number = answers.TheVariants.Fault number why

-- what comes of the end of a group
abbrev pub closes : Group → answers.Answer
closes g = if is_whole g then answers.TheVariants.Case else answers.TheVariants.Fault g.line 5

-- what an answer says of what stands in the text from before it on and from behind it on
abbrev pub Says : answers.Answer → List Entry → Case → List Entry → Type 0
Says answers.TheVariants.Goes before case after = before ≡ after
Says answers.TheVariants.Case before case after = before ≡ ACase case ∷ after
Says answers.TheVariants.Skipped before case after = before ≡ ASkip ∷ after
Says answers.TheVariants.End before case after = before ≡ TheEnd ∷ []
Says (answers.TheVariants.Fault line why) before case after = before ≡ AFault line why ∷ []

-- the lines that are left behind an answer to the first: a line that ends a group is not taken yet
abbrev pub lines_behind : answers.Answer → List ℕ → List (List ℕ) → List (List ℕ)
lines_behind answers.TheVariants.Goes line later = later
lines_behind answers.TheVariants.Case line later = line ∷ later
lines_behind answers.TheVariants.Skipped line later = later
lines_behind answers.TheVariants.End line later = later
lines_behind (answers.TheVariants.Fault number why) line later = later

-- the bytes that are left behind an answer to a line of so many bytes with its end
abbrev pub window_behind : answers.Answer → ℕ → Window → Window
window_behind answers.TheVariants.Goes whole w = record w { ahead = drop whole w.ahead }
window_behind answers.TheVariants.Case whole w = w
window_behind answers.TheVariants.Skipped whole w = record w { ahead = drop whole w.ahead }
window_behind answers.TheVariants.End whole w = w
window_behind (answers.TheVariants.Fault number why) whole w = w

-- how many lines were taken
abbrev pub lines_taken : answers.Answer → ℕ
lines_taken answers.TheVariants.Goes = 1
lines_taken answers.TheVariants.Case = 0
lines_taken answers.TheVariants.Skipped = 1
lines_taken answers.TheVariants.End = 0
lines_taken (answers.TheVariants.Fault line why) = 0

-- a case closes a group that was open, and a skipped group leaves what was open as it was
abbrev pub OpenBehind : answers.Answer → Bool → Bool → Type 0
OpenBehind answers.TheVariants.Goes old new = ⊤
OpenBehind answers.TheVariants.Case old new = (old ≡ true) × (new ≡ false)
OpenBehind answers.TheVariants.Skipped old new = new ≡ old
OpenBehind answers.TheVariants.End old new = ⊤
OpenBehind (answers.TheVariants.Fault line why) old new = ⊤

-- the end of a text takes no line
abbrev pub EndsText : answers.Answer → Type 0
EndsText answers.TheVariants.Goes = ⊥
EndsText answers.TheVariants.Case = ⊤
EndsText answers.TheVariants.Skipped = ⊥
EndsText answers.TheVariants.End = ⊤
EndsText (answers.TheVariants.Fault line why) = ⊤

-- a group that is skipped leaves what was open as it was
abbrev pub OpenTook : tooks.Took → Bool → Bool → Type 0
OpenTook tooks.TheVariants.Goes old new = ⊤
OpenTook tooks.TheVariants.Skips old new = new ≡ old
OpenTook (tooks.TheVariants.Fails why) old new = ⊤
