-- What a call of the outside does to the bytes and to the count of faults.
-- This project's own; where bytes are known, std's words for reads and writes are used.
use Rattle.std.specs.Prelude.{◌≡◌, ◌≤◌, ℕ, ◌+◌, ◌-◌, ◌^◌, min, List, ◌++◌, Result, OnOk, OnErr, MatchResult}
use Rattle.std.specs.declared.option.Option.{Option}
use Rattle.std.specs.Io.KnownBytes.{Appends}

-- one more, which stands still at the greatest number of 64 bits
abbrev pub one_more : ℕ → ℕ
one_more count = min (count + 1) (2 ^ 64 - 1)

-- the count rose, or stands at its type's end
abbrev pub Rose : ℕ → ℕ → Type 0
Rose before now = one_more before ≤ now

-- a count of faults never falls, has risen where the call failed, and is as it was where it didn't
pub record HasCause {T E : Type 0} (before now : ℕ) (result : Result T E) : Type 0 where
  pub later : before ≤ now
  pub failed : OnErr result (Rose before now)
  pub kept : OnOk result (now ≡ before)

-- some front of the bytes was appended
abbrev pub AppendsFront : Option (List ℕ) → Option (List ℕ) → List ℕ → Type 0
AppendsFront old new bytes = (front rest : List ℕ) × (bytes ≡ front ++ rest) × Appends old new front

-- all of the bytes were appended, or where the call failed a front of them
abbrev pub TakesAll : {T E : Type 0} → Option (List ℕ) → Option (List ℕ) → Result T E → List ℕ → Type 0
TakesAll old new result bytes = MatchResult result (λ _. Appends old new bytes) (λ _. AppendsFront old new bytes)
