-- What single words mean: the names of operations, numbers and hexadecimal bytes.
-- This project's own.
use Rattle.std.specs.Prelude.{ℕ, List, [], ◌∷◌, length, codes, nat_eq, nat_lt, if◌then◌else◌, Option, Some, None, Result, Ok, Err}
use Rattle.std.specs.Str.{bytes_eq, all_ascii_digits}
use Rattle.std.specs.Str.Parse.{digits_value}
use Rattle.hex.specs.Hex.{decode_of}
use Rattle.hex.specs.declared.error.FromHexError.{FromHexError}
use Rattle.rbg_talk.specs.declared.grammar.Operation.{Operation}
use Rattle.rbg_talk.specs.declared.grammar.Operation.TheVariants.{Instantiate, Generate, Reseed, Uninstantiate, Start, Status}
use Rattle.rbg_talk.specs.declared.grammar.Fault.{Fault}
use Rattle.rbg_talk.specs.declared.grammar.Fault.TheVariants.{NoHex, LongString}

-- the word for an operation
abbrev pub name_of : Operation → List ℕ
name_of Instantiate = codes "instantiate"
name_of Generate = codes "generate"
name_of Reseed = codes "reseed"
name_of Uninstantiate = codes "uninstantiate"
name_of Start = codes "start"
name_of Status = codes "status"

-- its number in frames
abbrev pub op_of : Operation → ℕ
op_of Instantiate = 1
op_of Generate = 2
op_of Reseed = 3
op_of Uninstantiate = 4
op_of Start = 5
op_of Status = 6

-- the operation that a word names
abbrev pub operation_named : List ℕ → Option Operation
operation_named word =
    if bytes_eq word (codes "instantiate") then Some Instantiate
    else if bytes_eq word (codes "generate") then Some Generate
    else if bytes_eq word (codes "reseed") then Some Reseed
    else if bytes_eq word (codes "uninstantiate") then Some Uninstantiate
    else if bytes_eq word (codes "start") then Some Start
    else if bytes_eq word (codes "status") then Some Status
    else None

-- the operation with a number, which is one of these six
abbrev pub operation_numbered : ℕ → Operation
operation_numbered op =
    if nat_eq op 1 then Instantiate
    else if nat_eq op 2 then Generate
    else if nat_eq op 3 then Reseed
    else if nat_eq op 4 then Uninstantiate
    else if nat_eq op 5 then Start
    else Status

-- the number of digits, of which there must be some, where it is at most so much
abbrev pub value_up_to : ℕ → List ℕ → Option ℕ
value_up_to most [] = None
value_up_to most (digit ∷ digits) = if nat_lt most (digits_value 10 (digit ∷ digits)) then None else Some (digits_value 10 (digit ∷ digits))

-- the number that a word writes in decimal digits, where it is at most so much
abbrev pub number_up_to : ℕ → List ℕ → Option ℕ
number_up_to most word = if all_ascii_digits word then value_up_to most word else None

abbrev pub or_no_hex : Result (List ℕ) FromHexError → Result (List ℕ) Fault
or_no_hex (Ok bytes) = Ok bytes
or_no_hex (Err why) = Err NoHex

-- the bytes that a word writes in pairs of hexadecimal digits, at most 4,096 of them; no word writes none
abbrev pub bytes_written : List ℕ → Result (List ℕ) Fault
bytes_written [] = Err NoHex
bytes_written (digit ∷ digits) = if nat_lt 8192 (length (digit ∷ digits)) then Err LongString else or_no_hex (decode_of (digit ∷ digits))
