-- What is printed of a text that is replayed, and how it ends.
-- This project's own.
use Rattle.std.specs.Prelude.{ℕ, ◌+◌, List, [], ◌∷◌, ◌++◌, codes, decimal, if◌then◌else◌, Option, Some, None}
use Rattle.std.specs.Str.{bytes_eq}
use Rattle.hex.specs.Hex.{encode_lower}
use Rattle.vector_text.specs.declared.case.Case.{Case}
use Rattle.vector_text.specs.Text.{Entry, ACase, ASkip, TheEnd, AFault}
use Rattle.vector_replay.specs.declared.totals.Totals.{Totals}
use Rattle.vector_replay.specs.Run.{output_of}

-- how replaying a text ends: counted, or at a fault of the text or of a case's lengths
pub data End : Type 0 where
  Counted : Totals → End
  Faulty : (line why : ℕ) → End

-- the lines that are printed, and the end
pub record Report : Type 0 where
  pub lines : List (List ℕ)
  pub end : End

abbrev pub none_yet : Totals
none_yet = record { passed = 0; differed = 0; skipped = 0 }

abbrev pub one_passed : Totals → Totals
one_passed t = record t { passed = t.passed + 1 }

abbrev pub one_differed : Totals → Totals
one_differed t = record t { differed = t.differed + 1 }

abbrev pub one_skipped : Totals → Totals
one_skipped t = record t { skipped = t.skipped + 1 }

-- which case differs
abbrev pub differs_line : Case → List ℕ
differs_line c = codes "differs line " ++ decimal c.line ++ codes " count " ++ decimal c.count ++ codes "\n"

-- bytes behind a word, in lower case digits
abbrev pub bytes_line : List ℕ → List ℕ → List ℕ
bytes_line word bytes = word ++ encode_lower bytes ++ codes "\n"

-- the lines of a case that differs: which it is, the bytes that it wants and the second output
abbrev pub difference : Case → List ℕ → List (List ℕ)
difference c bytes = differs_line c ∷ bytes_line (codes "want ") c.returned ∷ bytes_line (codes "got ") bytes ∷ []

abbrev pub totals_line : Totals → List ℕ
totals_line t =
    codes "passed " ++ decimal t.passed ++ codes " differed " ++ decimal t.differed ++ codes " skipped " ++ decimal t.skipped ++ codes "\n"

-- lines before a report
abbrev pub with_lines : List (List ℕ) → Report → Report
with_lines ls r = record r { lines = ls ++ r.lines }

-- a case with its second output
abbrev pub with_output : Totals → Case → Option (List ℕ) → (Totals → Report) → Report
with_output t c None later = record { lines = []; end = Faulty c.line 7 }
with_output t c (Some bytes) later =
    if bytes_eq bytes c.returned then later (one_passed t) else with_lines (difference c bytes) (later (one_differed t))

-- the report of what stands in a text, behind what was counted before
unfoldable pub report_of : Totals → List Entry → Report
report_of t [] = record { lines = []; end = Counted t }
report_of t (TheEnd ∷ later) = record { lines = totals_line t ∷ []; end = Counted t }
report_of t (AFault line why ∷ later) = record { lines = []; end = Faulty line why }
report_of t (ASkip ∷ later) = report_of (one_skipped t) later
report_of t (ACase c ∷ later) = with_output t c (output_of c) (λ u. report_of u later)
