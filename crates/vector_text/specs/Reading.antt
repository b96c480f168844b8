-- What a reader of a text keeps, and what an answer of it says of the text.
-- This project's own.
use Rattle.std.specs.Prelude.{◌≡◌, ◌≤◌, ◌<◌, ℕ, ◌+◌, ◌*◌, ◌^◌, ⊤, List, [], ◌++◌, length, Option, Some, None, Result, Ok, Err}
use Rattle.std.specs.Str.Lines.{lines}
use Rattle.rbg_bytes.specs.Streams.{Rose}
use Rattle.vector_text.specs.declared.case.Family.{Family}
use Rattle.vector_text.specs.declared.case.Case.{Case}
use Rattle.vector_text.specs.declared.feed.Found.{Found}
use Rattle.vector_text.specs.declared.feed.Found.TheVariants as founds
use Rattle.vector_text.specs.declared.spot.Answer as answers
use Rattle.vector_text.specs.declared.reading.Reading.{Reading}
use Rattle.vector_text.specs.declared.reader.Item as items
use Rattle.vector_text.specs.declared.reader.TextRefusal as refusals
use Rattle.vector_text.specs.Groups.{Group}
use Rattle.vector_text.specs.Feeding.{Window, Follows, most_bytes}
use Rattle.vector_text.specs.Text.{Entry, Place, at_start, entries_from}
use Rattle.vector_text.specs.Spots.{place_of, Says}

-- a reader: where it stands, what it has read, and the case that it gave last
pub record Reader : Type 0 where
  pub family : Family
  pub place : Place
  pub window : Window
  pub case : Case

abbrev pub reader_of : Reading → Reader
reader_of r = record { family = r.family; place = place_of r.spot; window = r.feed; case = r.spot.group.case }

-- there are no more lines than bytes, and there is room for the bytes of a line of digits
pub record IsReading (r : Reading) : Type 0 where
  pub number : r.spot.number + length r.feed.ahead + r.feed.room ≤ 2 ^ 63
  pub room : length r.room.items ≡ 32768

-- a reader at the begin of a text
pub record Begins (family : Family) (r : Reader) : Type 0 where
  pub family_is : r.family ≡ family
  pub place : r.place ≡ at_start
  pub window : r.window ≡ record { ahead = []; room = most_bytes }

-- what stands in the text from here on, where these bytes follow those that were read
abbrev pub left_of : Reader → List ℕ → List Entry
left_of r more = entries_from r.family r.place (lines (r.window.ahead ++ more))

-- one group is open, or none
abbrev pub groups_in : Option Group → ℕ
groups_in None = 0
groups_in (Some g) = 1

-- how much is left at most: each byte twice, and the group that is open
abbrev pub size_of : Reader → ℕ
size_of r = 2 * (length r.window.ahead + r.window.room) + groups_in r.place.group

-- a line at the front is within the bytes that were read
abbrev pub FitsFound : Found → Window → Type 0
FitsFound founds.End w = ⊤
FitsFound (founds.Line len whole) w = (len ≤ whole) × (0 < whole) × (whole ≤ length w.ahead)
FitsFound founds.Long w = ⊤

-- less is left
abbrev pub Shrinks : answers.Answer → ℕ → ℕ → Type 0
Shrinks answers.TheVariants.Goes old new = new < old
Shrinks answers.TheVariants.Case old new = new < old
Shrinks answers.TheVariants.Skipped old new = new < old
Shrinks answers.TheVariants.End old new = ⊤
Shrinks (answers.TheVariants.Fault line why) old new = ⊤

-- Each case and each skipped group has a line of its own before the place, but for the group that is open.
abbrev pub Counts : answers.Answer → Place → Place → Type 0
Counts answers.TheVariants.Goes old new = old.number + groups_in new.group ≤ new.number + groups_in old.group
Counts answers.TheVariants.Case old new = old.number + groups_in new.group + 1 ≤ new.number + groups_in old.group
Counts answers.TheVariants.Skipped old new = old.number + groups_in new.group + 1 ≤ new.number + groups_in old.group
Counts answers.TheVariants.End old new = ⊤
Counts (answers.TheVariants.Fault line why) old new = ⊤

-- Whatever may follow now, it may have followed something before from where the answer leads here. Where the source tells its
-- bytes there is one such text.
abbrev pub Leads : Option (List ℕ) → Reader → Option (List ℕ) → Reader → answers.Answer → Type 0
Leads left old left' new answer =
    (more : List ℕ) → Follows left' new.window.room more
    → (before : List ℕ) × Follows left old.window.room before × Says answer (left_of old before) new.case (left_of new more)

-- the answer that a result is; a read that failed leaves the text where it was
abbrev pub Gives : Option (List ℕ) → Reader → Option (List ℕ) → Reader → Result items.Item refusals.TextRefusal → Type 0
Gives left old left' new (Ok items.TheVariants.Case) = Leads left old left' new answers.TheVariants.Case
Gives left old left' new (Ok items.TheVariants.Skipped) = Leads left old left' new answers.TheVariants.Skipped
Gives left old left' new (Ok items.TheVariants.End) = Leads left old left' new answers.TheVariants.End
Gives left old left' new (Err (refusals.TheVariants.Fault line why)) = Leads left old left' new (answers.TheVariants.Fault line why)
Gives left old left' new (Err (refusals.TheVariants.ReadFault count)) = Leads left old left' new answers.TheVariants.Goes

-- Whatever follows what was read, an answer says this of it. Nothing more was read.
abbrev pub SaysOf : Reader → Reader → answers.Answer → Type 0
SaysOf old new answer = (more : List ℕ) → length more ≤ new.window.room → Says answer (left_of old more) new.case (left_of new more)

-- the answer that a result is, where it rests on what was read alone
abbrev pub GivesHeld : Reader → Reader → Result items.Item refusals.TextRefusal → Type 0
GivesHeld old new (Ok items.TheVariants.Case) = SaysOf old new answers.TheVariants.Case
GivesHeld old new (Ok items.TheVariants.Skipped) = SaysOf old new answers.TheVariants.Skipped
GivesHeld old new (Ok items.TheVariants.End) = SaysOf old new answers.TheVariants.End
GivesHeld old new (Err (refusals.TheVariants.Fault line why)) = SaysOf old new (answers.TheVariants.Fault line why)
GivesHeld old new (Err (refusals.TheVariants.ReadFault count)) = ⊥

-- There is no item yet: less than 16,386 bytes are left, and more may follow.
pub record Waits (old new : Reader) : Type 0 where
  pub says : SaysOf old new answers.TheVariants.Goes
  pub room : 0 < new.window.room
  pub short : length new.window.ahead < 16386

-- A case or a skipped group leaves less, and has a line of its own before the place, but for the group that is open.
abbrev pub Nears : Result items.Item refusals.TextRefusal → Reader → Reader → Type 0
Nears (Ok items.TheVariants.Case) old new = Shrinks answers.TheVariants.Case (size_of old) (size_of new) × Counts answers.TheVariants.Case old.place new.place
Nears (Ok items.TheVariants.Skipped) old new = Shrinks answers.TheVariants.Skipped (size_of old) (size_of new) × Counts answers.TheVariants.Skipped old.place new.place
Nears (Ok items.TheVariants.End) old new = ⊤
Nears (Err why) old new = ⊤

-- the source's count of faults rose where a read failed, and is as it was otherwise
abbrev pub HasReadCause : {T : Type 0} → ℕ → ℕ → Result T refusals.TextRefusal → Type 0
HasReadCause before now (Err (refusals.TheVariants.ReadFault count)) = Rose before now × (count ≡ now)
HasReadCause before now (Err (refusals.TheVariants.Fault line why)) = now ≡ before
HasReadCause before now (Ok done) = now ≡ before
