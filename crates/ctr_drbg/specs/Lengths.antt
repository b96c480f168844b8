-- The lengths of the entropy and of strings without the derivation function.
-- SP 800-90A Rev. 1, 10.2.1.3.1, 10.2.1.4.1 and 10.2.1.5.1.
use Rattle.std.specs.Prelude.{◌≡◌, ℕ, List, Option, None, Some, length, nat_eq, nat_lt, if◌then◌else◌}
use Rattle.ctr_drbg.specs.declared.seeds.Mode.{Mode}
use Rattle.ctr_drbg.specs.declared.seeds.Mode.TheVariants.{UseDf, NoDf}

-- the length of a string that is refused: without df a string has no more than seedlen bytes, n
abbrev pub long_string : Mode → ℕ → List ℕ → Option ℕ
long_string UseDf n string = None
long_string NoDf n string = if nat_lt n (length string) then Some (length string) else None

-- the length that is refused of entropy or else of a string: without df the entropy must have seedlen bytes, n
abbrev pub bad_length : Mode → ℕ → List ℕ → List ℕ → Option ℕ
bad_length UseDf n entropy string = None
bad_length NoDf n entropy string = if nat_eq (length entropy) n then long_string NoDf n string else Some (length entropy)

-- the string is not refused
abbrev pub FitsSeed : Mode → ℕ → List ℕ → Type 0
FitsSeed mode n string = long_string mode n string ≡ None
