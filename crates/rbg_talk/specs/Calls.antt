-- What a line says: nothing, a call, or that something is wrong with it.
-- This project's own; which fields an operation takes is what the grammar of request frames lets differ from 0.
use Rattle.std.specs.Prelude.{ℕ, Bool, true, false, List, [], ◌∷◌, length, drop, codes, nat_eq, nat_lt, slice_index, if◌then◌else◌, unwrap_or, is_some, Option, Some, None, Result, Ok, Err}
use Rattle.std.specs.Str.{bytes_eq}
use Rattle.frame_codec.specs.Frames.{Asked}
use Rattle.rbg_talk.specs.declared.grammar.Operation.{Operation}
use Rattle.rbg_talk.specs.declared.grammar.Operation.TheVariants.{Instantiate, Generate, Reseed, Uninstantiate, Start, Status}
use Rattle.rbg_talk.specs.declared.grammar.Number as numbers
use Rattle.rbg_talk.specs.declared.grammar.Number.TheVariants.{Node, Source, Count, Strength}
use Rattle.rbg_talk.specs.declared.grammar.Word as option_words
use Rattle.rbg_talk.specs.declared.grammar.Word.TheVariants.{Pr, StrengthWord, StringWord}
use Rattle.rbg_talk.specs.declared.grammar.Fault.{Fault}
use Rattle.rbg_talk.specs.declared.grammar.Fault.TheVariants.{LongLine, NoOperation, NoNumber, NoOption, NotTaken, Twice}
use Rattle.rbg_talk.specs.Lines.{words}
use Rattle.rbg_talk.specs.Words.{op_of, operation_named, number_up_to, bytes_written}

-- the ? of the logic
infixl 10 ◌>>=◌
abbrev pub ◌>>=◌ : {A B : Type 0} → Result A Fault → (A → Result B Fault) → Result B Fault
Ok x >>= f = f x
Err why >>= f = Err why

-- whether an operation takes an option
abbrev pub takes : Operation → option_words.Word → Bool
takes Instantiate Pr = false
takes Instantiate StrengthWord = true
takes Instantiate StringWord = true
takes Generate Pr = true
takes Generate StrengthWord = true
takes Generate StringWord = true
takes Reseed Pr = true
takes Reseed StrengthWord = false
takes Reseed StringWord = true
takes Uninstantiate option = false
takes Start option = false
takes Status option = false

-- the options that stand so far
pub record Options : Type 0 where
  pub pr : Bool
  pub strength : Option ℕ
  pub string : Option (List ℕ)

abbrev pub no_options : Options
no_options = record { pr = false; strength = None; string = None }

-- an option may stand here where the operation takes it and it doesn't stand yet
abbrev pub may_stand : Operation → option_words.Word → Bool → Result Bool Fault
may_stand op option stands = if takes op option then (if stands then Err (Twice option) else Ok true) else Err (NotTaken option)

abbrev pub or_no_number : numbers.Number → Option ℕ → Result ℕ Fault
or_no_number what (Some n) = Ok n
or_no_number what None = Err (NoNumber what)

abbrev pub with_pr : Operation → Options → Result Options Fault
with_pr op o = do
  free ← may_stand op Pr o.pr
  Ok (record o { pr = true })

abbrev pub with_strength : Operation → Options → List ℕ → Result Options Fault
with_strength op o value = do
  free ← may_stand op StrengthWord (is_some o.strength)
  n ← or_no_number Strength (number_up_to 65535 value)
  Ok (record o { strength = Some n })

abbrev pub with_string : Operation → Options → List ℕ → Result Options Fault
with_string op o value = do
  free ← may_stand op StringWord (is_some o.string)
  bytes ← bytes_written value
  Ok (record o { string = Some bytes })

-- the options with one more, which a word names and, but for `pr`, the word behind it gives
abbrev pub with_option : Operation → Options → List ℕ → List ℕ → Result Options Fault
with_option op o word value =
    if bytes_eq word (codes "pr") then with_pr op o
    else if bytes_eq word (codes "strength") then with_strength op o value
    else if bytes_eq word (codes "string") then with_string op o value
    else Err NoOption

-- the options that words give beside those that stand, or what is wrong with the first that is none; no word is behind the last
abbrev pub with_options : Operation → Options → List (List ℕ) → Result Options Fault
with_options op o [] = Ok o
with_options op o (word ∷ []) = with_option op o word []
with_options op o (word ∷ value ∷ later) =
    with_option op o word value >>= (λ (more : Options). if bytes_eq word (codes "pr") then with_options op more (value ∷ later) else with_options op more later)

-- a call of an operation on a node or source, as a request with the id 0
abbrev pub call : Operation → ℕ → ℕ → Options → Asked
call op node count o = record {
  head = record {
    op = op_of op;
    flags = (if o.pr then 1 else 0);
    node = node;
    id = 0;
    count = count;
    strength = unwrap_or o.strength 0;
    len = length (unwrap_or o.string []);
  };
  string = unwrap_or o.string [];
}

-- the first word, empty where there is none
abbrev pub first : List (List ℕ) → List ℕ
first [] = []
first (word ∷ later) = word

-- what an operation is on
abbrev pub object : Operation → numbers.Number
object Instantiate = Node
object Generate = Node
object Reseed = Node
object Uninstantiate = Node
object Start = Source
object Status = Node

abbrev pub counted : Operation → Bool
counted Generate = true
counted Instantiate = false
counted Reseed = false
counted Uninstantiate = false
counted Start = false
counted Status = false

-- the call behind its node: a count where the operation has one, and options
abbrev pub call_on : Operation → ℕ → List (List ℕ) → Result Asked Fault
call_on op node later =
    if counted op then (do
      count ← or_no_number Count (number_up_to 4294967295 (first later))
      o ← with_options op no_options (drop 1 later)
      Ok (call op node count o))
    else (do
      o ← with_options op no_options later
      Ok (call op node 0 o))

-- the call of an operation by the words behind its name
abbrev pub call_of : Operation → List (List ℕ) → Result Asked Fault
call_of op later = do
  node ← or_no_number (object op) (number_up_to 255 (first later))
  call_on op node (drop 1 later)

abbrev pub named_call : Option Operation → List (List ℕ) → Result Asked Fault
named_call None later = Err NoOperation
named_call (Some op) later = call_of op later

abbrev pub as_some : Result Asked Fault → Result (Option Asked) Fault
as_some (Ok a) = Ok (Some a)
as_some (Err why) = Err why

-- what words say: nothing where there are none or the first begins with `#`
abbrev pub said : List (List ℕ) → Result (Option Asked) Fault
said [] = Ok None
said (word ∷ later) = if nat_eq (slice_index word 0) 35 then Ok None else as_some (named_call (operation_named word) later)

-- what a line says; more than 9,000 bytes are a fault of their own
abbrev pub line_says : List ℕ → Result (Option Asked) Fault
line_says line = if nat_lt 9000 (length line) then Err LongLine else said (words line)
