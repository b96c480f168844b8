-- What stands in a text: its cases and its skipped groups in order, and then its end or its first fault.
-- This project's own, after the layout of NIST's DRBGVS response files.
use Rattle.std.specs.Prelude.{◌≡◌, ℕ, ◌+◌, Bool, false, List, [], ◌∷◌, length, nat_lt, if◌then◌else◌, Option, Some, None, Result, Ok, Err}
use Rattle.std.specs.Str.Lines.{lines}
use Rattle.hex.specs.Hex.{decode_of}
use Rattle.hex.specs.declared.error.FromHexError.{FromHexError}
use Rattle.vector_text.specs.declared.case.Family.{Family}
use Rattle.vector_text.specs.declared.case.Case.{Case}
use Rattle.vector_text.specs.declared.shape.Field.{Field}
use Rattle.vector_text.specs.declared.shape.Section.{Section}
use Rattle.vector_text.specs.declared.shape.Section.TheVariants.{Nowhere, Skipped, Under}
use Rattle.vector_text.specs.declared.shape.Shape.{Shape}
use Rattle.vector_text.specs.declared.shape.Shape.TheVariants.{Long, Nothing, Mechanism, Resistance, BadResistance, Setting, Count, BadCount, Value, Other, Unshaped}
use Rattle.vector_text.specs.Shapes.{shape_of, ends_group, value_of}
use Rattle.vector_text.specs.Groups.{Group, begun, has_place, with_value, is_whole, case_of}

-- what stands in a text
pub data Entry : Type 0 where
  -- a case
  ACase : Case → Entry
  -- a group under a mechanism that is skipped
  ASkip : Entry
  -- the end of the text
  TheEnd : Entry
  -- the first fault, by its line and its number
  AFault : (line why : ℕ) → Entry

-- a place in a text: the mechanism and PredictionResistance that its lines stand under, how many lines stand before it, and
-- the group that is open
pub record Place : Type 0 where
  pub section : Section
  pub pr : Bool
  pub number : ℕ
  pub group : Option Group

abbrev pub at_start : Place
at_start = record { section = Nowhere; pr = false; number = 0; group = None }

-- what a line does at a place: the text goes on, it goes on behind a skipped group, or the line has a fault
pub data Step : Type 0 where
  Goes : Place → Step
  Skips : Place → Step
  Fails : ℕ → Step

-- behind a line that changes nothing else
abbrev pub behind : Place → Place
behind p = record p { number = p.number + 1 }

-- a group begins, under a mechanism that is read
abbrev pub counts : Place → ℕ → Section → Step
counts p n Nowhere = Fails 6
counts p n Skipped = Skips (behind p)
counts p n (Under mech) = Goes (record (behind p) { group = Some (begun (p.number + 1) n mech p.pr) })

-- under a mechanism that is skipped a COUNT line begins a group whatever its value
abbrev pub counts_badly : Place → Section → Step
counts_badly p Nowhere = Fails 2
counts_badly p Skipped = Skips (behind p)
counts_badly p (Under mech) = Fails 2

-- under a mechanism that is skipped other lines without brackets are passed over
abbrev pub unless_skipped : Place → Section → Step → Step
unless_skipped p Nowhere step = step
unless_skipped p Skipped step = Goes (behind p)
unless_skipped p (Under mech) step = step

-- a value of the open group
abbrev pub placed : Place → Field → List ℕ → Option Group → Step
placed p f bytes None = Fails 4
placed p f bytes (Some g) = if has_place f g then Goes (record (behind p) { group = Some (with_value f bytes g) }) else Fails 4

-- a value in hexadecimal digits, of at most 4,096 bytes
abbrev pub decoded : Place → Field → Result (List ℕ) FromHexError → Step
decoded p f (Ok bytes) = if nat_lt 4096 (length bytes) then Fails 7 else placed p f bytes p.group
decoded p f (Err why) = Fails 3

-- what a line of a shape does, where the group that it ends, if it ends one, is closed
abbrev pub does : Place → List ℕ → Shape → Step
does p line Long = Fails 1
does p line Nothing = Goes (behind p)
does p line (Mechanism section) = Goes (record (behind p) { section = section; pr = false })
does p line (Resistance pr) = Goes (record (behind p) { pr = pr })
does p line BadResistance = Fails 2
does p line Setting = Goes (behind p)
does p line (Count n) = counts p n p.section
does p line BadCount = counts_badly p p.section
does p line (Value f) = unless_skipped p p.section (decoded p f (decode_of (value_of line)))
does p line Other = Goes (behind p)
does p line Unshaped = unless_skipped p p.section (Fails 2)

-- a place without its group
abbrev pub closed : Place → Place
closed p = record p { group = None }

-- the group that was open comes first; where it lacks a field, that is the fault, at its COUNT line, and nothing follows
abbrev pub closing : Option Group → List Entry → List Entry
closing None later = later
closing (Some g) later = if is_whole g then ACase (case_of g) ∷ later else AFault g.line 5 ∷ []

-- what follows a line with this number that did this
abbrev pub behind_step : ℕ → Step → (Place → List Entry) → List Entry
behind_step number (Goes q) later = later q
behind_step number (Skips q) later = ASkip ∷ later q
behind_step number (Fails why) later = AFault number why ∷ []

-- what follows from a line on
abbrev pub from_line : Place → List ℕ → Shape → (Place → List Entry) → List Entry
from_line p line shape later =
    if ends_group shape then closing p.group (behind_step (p.number + 1) (does (closed p) line shape) later)
    else behind_step (p.number + 1) (does p line shape) later

-- what stands in lines from a place on
unfoldable pub entries_from : Family → Place → List (List ℕ) → List Entry
entries_from family p [] = closing p.group (TheEnd ∷ [])
entries_from family p (line ∷ later) = from_line p line (shape_of family line) (λ q. entries_from family q later)

-- What stands in a text. Its lines end with LF or with CR LF, and the last may lack its end.
abbrev pub entries : Family → List ℕ → List Entry
entries family text = entries_from family at_start (lines text)

-- these entries are those of a text
abbrev pub Vector : Family → List ℕ → List Entry → Type 0
Vector family text es = es ≡ entries family text

-- cases and skipped groups, and then an end or a fault, which is the last
abbrev pub EndsOnce : List Entry → Type 0
EndsOnce [] = ⊥
EndsOnce (ACase case ∷ later) = EndsOnce later
EndsOnce (ASkip ∷ later) = EndsOnce later
EndsOnce (TheEnd ∷ later) = later ≡ []
EndsOnce (AFault line why ∷ later) = later ≡ []
