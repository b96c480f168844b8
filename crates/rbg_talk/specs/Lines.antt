-- The lines of an input, and the words of a line.
-- This project's own.
use Rattle.std.specs.Prelude.{ℕ, ◌==◌, ◌||◌, Bool, true, false, List, [], ◌∷◌, filter}
use Rattle.std.specs.List.{slice_split}
use Rattle.std.specs.Str.Lines.{strip_carriage_return}

abbrev pub is_line_feed : ℕ → Bool
is_line_feed c = c == 10

-- what stands between line feeds; the last line has none behind it, and may be empty
abbrev pub lines : List ℕ → List (List ℕ)
lines b = slice_split is_line_feed b

-- a space or a tab
abbrev pub is_blank : ℕ → Bool
is_blank c = c == 32 || c == 9

abbrev pub is_some_word : List ℕ → Bool
is_some_word [] = false
is_some_word (c ∷ word) = true

-- what stands between spaces and tabs, where it isn't empty
abbrev pub words_in : List ℕ → List (List ℕ)
words_in text = filter is_some_word (slice_split is_blank text)

-- the words of a line, of which a carriage return at its end is no part
abbrev pub words : List ℕ → List (List ℕ)
words line = words_in (strip_carriage_return line)

-- a word before others; an empty one is none, and no others follow it
abbrev pub word_before : List ℕ → List (List ℕ) → List (List ℕ)
word_before [] later = []
word_before (c ∷ word) later = (c ∷ word) ∷ later
