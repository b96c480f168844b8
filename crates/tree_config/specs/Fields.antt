-- What stands at a key of a table, by its type and range: the value that is read, or the field at fault.
-- This project's own.
use Rattle.std.specs.Prelude.{ℕ, ℤ, pos, negsuc, Bool, true, false, ◌&&◌, if◌then◌else◌, nat_le, List, [], ◌∷◌, length, Option, Some, None, Result, Ok, Err, bytes_eq}
use Rattle.toml.specs.Data.{Data, integer, string}
use Rattle.tree_config.specs.declared.fault.Field.{Field}

-- one reader after the other: the first fault is the answer
infixl 10 ◌>>=◌
abbrev pub ◌>>=◌ : {A B E : Type 0} → Result A E → (A → Result B E) → Result B E
(Ok x) >>= f = f x
(Err e) >>= f = Err e

-- what was read, or the field where nothing was
abbrev pub or_fault : {A E : Type 0} → E → Option A → Result A E
or_fault field None = Err field
or_fault field (Some x) = Ok x

-- a key that has to be there
abbrev pub required : {A : Type 0} → Field → (Data → Option A) → Option Data → Result A Field
required field read None = Err field
required field read (Some d) = or_fault field (read d)

-- a key with a default
abbrev pub or_default : {A : Type 0} → A → Field → (Data → Option A) → Option Data → Result A Field
or_default default field read None = Ok default
or_default default field read (Some d) = or_fault field (read d)

-- a key that must not be there
abbrev pub absent : Field → Option Data → Result (Unit {0}) Field
absent field None = Ok tt
absent field (Some d) = Err field

-- a condition between keys
abbrev pub where_true : Field → Bool → Result (Unit {0}) Field
where_true field true = Ok tt
where_true field false = Err field

-- an integer in a range
abbrev pub within : ℕ → ℕ → ℤ → Option ℕ
within least most (pos n) = if nat_le least n && nat_le n most then Some n else None
within least most (negsuc n) = None

abbrev pub number_within : ℕ → ℕ → Data → Option ℕ
number_within least most (integer z) = within least most z
number_within least most _ = None

-- a text of so many bytes
abbrev pub text_within : ℕ → ℕ → Data → Option (List ℕ)
text_within least most (string s) = if nat_le least (length s) && nat_le (length s) most then Some s else None
text_within least most _ = None

-- what a name stands for
abbrev pub named : {A : Type 0} → List (List ℕ × A) → List ℕ → Option A
named [] s = None
named (e ∷ es) s = if bytes_eq e.0 s then Some e.1 else named es s

-- a text that is one of some names
abbrev pub one_of : {A : Type 0} → List (List ℕ × A) → Data → Option A
one_of names (string s) = named names s
one_of names _ = None
