-- What holds of a refusal of one kind, and what a draw that was refused leaves in its buffer.
-- This project's own.
use Rattle.std.specs.Prelude.{◌≡◌, ℕ, List, length, replicate}
use Rattle.health_tests.specs.declared.windows.Test.{Test}
use Rattle.entropy_source.specs.declared.answers.Cause.{Cause}
use Rattle.entropy_source.specs.declared.answers.SourceRefusal.{SourceRefusal}
use Rattle.entropy_source.specs.declared.answers.SourceRefusal.TheVariants.{SourceSpent, InError, SourceFault, HealthFailed, WantOfEntropy}

abbrev pub IfSpent : SourceRefusal → (ℕ → ℕ → Type 0) → Type 0
IfSpent (SourceSpent taken need) P = P taken need
IfSpent _ P = Unit {0}

abbrev pub IfInError : SourceRefusal → (Cause → Type 0) → Type 0
IfInError (InError cause) P = P cause
IfInError _ P = Unit {0}

abbrev pub IfFault : SourceRefusal → (ℕ → Type 0) → Type 0
IfFault (SourceFault count) P = P count
IfFault _ P = Unit {0}

abbrev pub IfHealthFailed : SourceRefusal → (ℕ → Test → Type 0) → Type 0
IfHealthFailed (HealthFailed index test) P = P index test
IfHealthFailed _ P = Unit {0}

abbrev pub IfWant : SourceRefusal → (ℕ → Type 0) → Type 0
IfWant (WantOfEntropy missing) P = P missing
IfWant _ P = Unit {0}

-- what the buffer holds after a draw that was refused: zeros where samples were read, and else what it held
abbrev pub IsLetGo : SourceRefusal → List ℕ → List ℕ → Type 0
IsLetGo (SourceSpent taken need) old new = new ≡ old
IsLetGo (InError cause) old new = new ≡ old
IsLetGo (SourceFault count) old new = new ≡ replicate (length old) 0
IsLetGo (HealthFailed index test) old new = new ≡ replicate (length old) 0
IsLetGo (WantOfEntropy missing) old new = new ≡ replicate (length old) 0
