-- What contracts see of files and samples in memory, and how a call changes them.
-- This project's own.
use Rattle.std.specs.Prelude.{◌≡◌, ◌≢◌, ℕ, zero, suc, List, [], ◌∷◌, map, string_bytes, Vec, String}
use Rattle.std.specs.declared.option.Option.{Option}
use Rattle.std.specs.declared.alloc.Global.{Global}
use Rattle.rbg_bytes.specs.Streams.{one_more}
use Rattle.rbgtree.specs.Files.{Entries}
use Rattle.rbgtree.specs.Recordings.{Recordings, recording_of}

-- the files, the samples, the calls that fail, the calls so far and the faults so far
pub record Shelf (S : Type 0) : Type 0 where
  pub files : Entries
  pub samples : List (List ℕ × S)
  pub fail : List ℕ
  pub calls : ℕ
  pub faults : ℕ

-- files with their names, as the code holds them
abbrev pub named : List (String Global × Vec ℕ Global) → Entries
named files = map (λ file. (string_bytes file.0, file.1.items)) files

-- samples with their names, as the code holds them
abbrev pub labelled : {S : Type 0} → List (String Global × S) → List (List ℕ × S)
labelled samples = map (λ entry. (string_bytes entry.0, entry.1)) samples

-- samples with their names, as recordings
abbrev pub recorded : {S : Type 0} → (S → Option (List ℕ)) → (S → ℕ) → List (List ℕ × S) → Recordings
recorded told faults samples = map (λ entry. (entry.0, recording_of told faults entry.1)) samples

-- the names of entries
abbrev pub names : {T : Type 0} → List (String Global × T) → List (List ℕ)
names entries = map (λ entry. string_bytes entry.0) entries

-- the first of that name is at this place
abbrev pub IsFirstAt : List (List ℕ) → List ℕ → ℕ → Type 0
IsFirstAt [] name i = ⊥
IsFirstAt (n ∷ ns) name zero = n ≡ name
IsFirstAt (n ∷ ns) name (suc i) = (n ≢ name) × IsFirstAt ns name i

-- none has that name
abbrev pub IsNoName : List (List ℕ) → List ℕ → Type 0
IsNoName [] name = Unit {0}
IsNoName (n ∷ ns) name = (n ≢ name) × IsNoName ns name

-- no samples have that name
abbrev pub AreMissing : {S : Type 0} → List (List ℕ × S) → List ℕ → Type 0
AreMissing samples name = IsNoName (map (λ entry. entry.0) samples) name

-- the files and samples after a call
abbrev pub after_call : {S : Type 0} → Shelf S → Shelf S
after_call w = record w { calls = one_more w.calls }

-- the files and samples after a call that failed
abbrev pub after_failed_call : {S : Type 0} → Shelf S → Shelf S
after_failed_call w = record w { calls = one_more w.calls; faults = one_more w.faults }

-- the files and samples after an opening that left these samples
abbrev pub after_opening : {S : Type 0} → Shelf S → List (List ℕ × S) → Shelf S
after_opening w samples = record w { samples = samples; calls = one_more w.calls }
