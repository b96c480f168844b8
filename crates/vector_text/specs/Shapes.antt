-- What a line is by itself.
-- This project's own, after the layout of NIST's DRBGVS response files.
use Rattle.std.specs.Prelude.{ℕ, ◌-◌, ◌==◌, ◌&&◌, ◌||◌, Bool, true, false, List, [], length, take, drop, codes, slice_index, nat_lt, if◌then◌else◌, Option, Some, None}
use Rattle.std.specs.Str.{bytes_eq}
use Rattle.vector_text.specs.declared.case.Family.{Family}
use Rattle.vector_text.specs.declared.case.Mech.{Mech}
use Rattle.vector_text.specs.declared.trim.Blank.TheVariants.{SpaceOrTab}
use Rattle.vector_text.specs.declared.shape.Field.{Field}
use Rattle.vector_text.specs.declared.shape.Section.TheVariants.{Skipped, Under}
use Rattle.vector_text.specs.declared.shape.Shape.{Shape}
use Rattle.vector_text.specs.declared.shape.Shape.TheVariants.{Long, Nothing, Mechanism, Resistance, BadResistance, Setting, Count, BadCount, Value, Other, Unshaped}
use Rattle.vector_text.specs.Trims.{Parts, is_blank, parted, without_first, without_last}
use Rattle.vector_text.specs.Names.{mechanism_named, field_named, count_of}

-- a line without the spaces and tabs at both ends
abbrev pub trimmed : List ℕ → List ℕ
trimmed line = without_last (is_blank SpaceOrTab) (without_first (is_blank SpaceOrTab) line)

-- empty, or a comment
abbrev pub is_passed_over : List ℕ → Bool
is_passed_over t = length t == 0 || slice_index t 0 == 35 || (slice_index t 0 == 42 && slice_index t 1 == 42)

-- what stands between a bracket at the begin and one at the end
abbrev pub bracketed : List ℕ → Option (List ℕ)
bracketed t = if slice_index t 0 == 91 && slice_index t (length t - 1) == 93 then Some (take (length t - 2) (drop 1 t)) else None

-- the table of bracket lines

abbrev pub resistance_shape : List ℕ → Shape
resistance_shape value = if bytes_eq value (codes "True") then Resistance true else if bytes_eq value (codes "False") then Resistance false else BadResistance

abbrev pub setting_shape : Parts → Shape
setting_shape p = if bytes_eq p.name (codes "PredictionResistance") then resistance_shape p.value else Setting

abbrev pub section_of : Option Mech → Shape
section_of None = Mechanism Skipped
section_of (Some mech) = Mechanism (Under mech)

abbrev pub parted_bracket : Family → List ℕ → Option Parts → Shape
parted_bracket family inside None = section_of (mechanism_named family inside)
parted_bracket family inside (Some p) = setting_shape p

abbrev pub bracket_shape : Family → List ℕ → Shape
bracket_shape family inside = parted_bracket family inside (parted inside)

-- the table of field lines

abbrev pub shape_of_count : Option ℕ → Shape
shape_of_count None = BadCount
shape_of_count (Some n) = Count n

abbrev pub count_shape : List ℕ → Shape
count_shape value = shape_of_count (count_of value)

abbrev pub shape_of_name : Option Field → Shape
shape_of_name None = Other
shape_of_name (Some f) = Value f

abbrev pub parted_field : Option Parts → Shape
parted_field None = Unshaped
parted_field (Some p) = if bytes_eq p.name (codes "COUNT") then count_shape p.value else shape_of_name (field_named p.name)

abbrev pub field_shape : List ℕ → Shape
field_shape t = parted_field (parted t)

abbrev pub inner_shape : Family → List ℕ → Option (List ℕ) → Shape
inner_shape family t None = field_shape t
inner_shape family t (Some inside) = bracket_shape family inside

abbrev pub trimmed_shape : Family → List ℕ → Shape
trimmed_shape family t = if is_passed_over t then Nothing else inner_shape family t (bracketed t)

-- what a line is; its bytes are counted with the blanks at its ends, and without its end
unfoldable pub shape_of : Family → List ℕ → Shape
shape_of family line = if nat_lt 16384 (length line) then Long else trimmed_shape family (trimmed line)

-- a COUNT line and each bracket line end the group before them
abbrev pub ends_group : Shape → Bool
ends_group Long = false
ends_group Nothing = false
ends_group (Mechanism section) = true
ends_group (Resistance pr) = true
ends_group BadResistance = true
ends_group Setting = true
ends_group (Count n) = true
ends_group BadCount = true
ends_group (Value f) = false
ends_group Other = false
ends_group Unshaped = false

abbrev pub value_in : Option Parts → List ℕ
value_in None = []
value_in (Some p) = p.value

-- the value of a field line
unfoldable pub value_of : List ℕ → List ℕ
value_of line = value_in (parted (trimmed line))
