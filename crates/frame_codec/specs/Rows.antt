-- Fields in a row, each of a fixed count of bytes, high byte first, and in spans that the numbers before it give.
-- This project's own.
use Rattle.std.specs.Prelude.{◌≡◌, ◌≤◌, ◌<◌, ◌⊎◌, ℕ, suc, zero, ◌*◌, ◌/◌, ◌%◌, ◌^◌, ◌-◌, List, [], ◌∷◌, ◌++◌, length, if◌then◌else◌, nat_lt}
use Rattle.frame_codec.specs.declared.table.Span.{Span}

-- a field: how many bytes, the number of a bad byte in it, and its spans, given the numbers of the fields before it
pub record Field : Type 0 where
  pub width : ℕ
  pub why : ℕ
  pub spans : List ℕ → List Span

-- the number is in one of the spans
abbrev pub IsInOne : List Span → ℕ → Type 0
IsInOne [] n = ⊥
IsInOne (s ∷ spans) n = ((s.low ≤ n) × (n ≤ s.high)) ⊎ IsInOne spans n

-- the number in so many bytes
abbrev pub digits : ℕ → ℕ → List ℕ
digits zero n = []
digits (suc width) n = digits width (n / 256) ++ n % 256 ∷ []

-- each field, after those before it, may have its number
abbrev pub Takes : List Field → List ℕ → List ℕ → Type 0
Takes [] before ns = ns ≡ []
Takes (f ∷ fields) before [] = ⊥
Takes (f ∷ fields) before (n ∷ ns) = (n < 2 ^ (8 * f.width)) × IsInOne (f.spans before) n × Takes fields (before ++ n ∷ []) ns

-- the bytes of the fields
abbrev pub spelled : List Field → List ℕ → List ℕ
spelled [] ns = []
spelled (f ∷ fields) [] = []
spelled (f ∷ fields) (n ∷ ns) = digits f.width n ++ spelled fields ns

-- the number of a bad byte at the place; a byte behind the fields is never bad
abbrev pub why_at : List Field → ℕ → ℕ
why_at [] place = 0
why_at (f ∷ fields) place = if nat_lt place f.width then f.why else why_at fields (place - f.width)

-- n is some number in one of the spans, without its last bytes, which are so many
abbrev pub Reaches : List Span → ℕ → ℕ → Type 0
Reaches [] left n = ⊥
Reaches (s ∷ spans) left n = ((s.low / 2 ^ (8 * left) ≤ n) × (n ≤ s.high / 2 ^ (8 * left))) ⊎ Reaches spans left n

-- b is a proper prefix of the fields' bytes at some numbers that they take
abbrev pub IsHeadPart : List Field → List ℕ → Type 0
IsHeadPart fields b = (ns more : List ℕ) × (0 < length more) × Takes fields [] ns × (b ++ more ≡ spelled fields ns)

-- b begins neither the fields' bytes at numbers that they take, nor those and a string behind them
abbrev pub BeginsNoHead : List Field → List ℕ → Type 0
BeginsNoHead fields b = (ns more string : List ℕ) → Takes fields [] ns → b ++ more ≡ spelled fields ns ++ string → ⊥
