-- The files that a world tells, and what a read of one gives.
-- This project's own.
use Rattle.std.specs.Prelude.{◌≡◌, ◌≢◌, ◌≤◌, ◌⊎◌, ℕ, List, [], ◌∷◌, length, take, drop, Result, IfOk}
use Rattle.std.specs.declared.option.Option.{Option}
use Rattle.std.specs.declared.option.Option.TheVariants.{None, Some}

-- names, each with the bytes of its file
abbrev pub Entries : Type 0
Entries = List (List ℕ × List ℕ)

-- the first file of that name has these bytes
abbrev pub IsFile : Entries → List ℕ → List ℕ → Type 0
IsFile [] name bytes = ⊥
IsFile (entry ∷ entries) name bytes = ((entry.0 ≡ name) × (entry.1 ≡ bytes)) ⊎ ((entry.0 ≢ name) × IsFile entries name bytes)

-- there is no file of that name
abbrev pub IsMissing : Entries → List ℕ → Type 0
IsMissing [] name = Unit {0}
IsMissing (entry ∷ entries) name = (entry.0 ≢ name) × IsMissing entries name

-- where the files are told, a read of n bytes gave those from a place on, and none only at or past the end
abbrev pub ReadsFile : {E : Type 0} → Option Entries → List ℕ → ℕ → Result ℕ E → List ℕ → Type 0
ReadsFile None name at result buf = Unit {0}
ReadsFile (Some entries) name at result buf = IfOk result (λ n.
    (bytes : List ℕ) × IsFile entries name bytes × (take n (drop at bytes) ≡ take n buf) × (n ≤ length (drop at bytes))
    × (n ≡ 0 → length bytes ≤ at))

-- where the files are told, the first file of that name begins with these bytes
abbrev pub BeginsFile : Option Entries → List ℕ → List ℕ → Type 0
BeginsFile None name front = Unit {0}
BeginsFile (Some entries) name front = (bytes : List ℕ) × IsFile entries name bytes × (take (length front) bytes ≡ front)

-- where the files are told, these are all the bytes of the first file of that name
abbrev pub IsWholeFile : Option Entries → List ℕ → List ℕ → Type 0
IsWholeFile None name bytes = Unit {0}
IsWholeFile (Some entries) name bytes = IsFile entries name bytes
