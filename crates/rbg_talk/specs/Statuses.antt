-- The statuses by number and by line, and what is printed of how the program is used.
-- This project's own.
use Rattle.std.specs.Prelude.{ℕ, List, [], ◌++◌, codes, decimal}
use Rattle.rbg_talk.specs.declared.grammar.Number as numbers
use Rattle.rbg_talk.specs.declared.grammar.Number.TheVariants.{Node, Source, Count, Strength}
use Rattle.rbg_talk.specs.declared.grammar.Word as option_words
use Rattle.rbg_talk.specs.declared.grammar.Word.TheVariants.{Pr, StrengthWord, StringWord}
use Rattle.rbg_talk.specs.declared.grammar.Fault.{Fault}
use Rattle.rbg_talk.specs.declared.grammar.Fault.TheVariants.{LongLine, NoOperation, NoNumber, NoHex, LongString, NoOption, NotTaken, Twice}
use Rattle.rbg_talk.specs.declared.status.Status as statuses
use Rattle.rbg_talk.specs.declared.status.Status.TheVariants.{Done, Usage, Line, Malformed, Cut, ReadFault, WriteFault, Refused, Memory, Quota}

-- the status with which the process ends
abbrev pub number_of : statuses.Status → ℕ
number_of Done = 0
number_of Usage = 1
number_of (Line number fault) = 2
number_of (Malformed offset why) = 3
number_of (Cut offset) = 3
number_of (ReadFault count) = 4
number_of (WriteFault count) = 5
number_of (Refused refusals) = 6
number_of Memory = 7
number_of (Quota bytes) = 9

abbrev pub number_text : numbers.Number → List ℕ
number_text Node = codes "NODE must be a number from 0 to 255"
number_text Source = codes "SOURCE must be a number from 0 to 255"
number_text Count = codes "COUNT must be a number from 0 to 4294967295"
number_text Strength = codes "the word behind strength must be a number from 0 to 65535"

abbrev pub option_text : option_words.Word → List ℕ
option_text Pr = codes "pr"
option_text StrengthWord = codes "strength"
option_text StringWord = codes "string"

-- what is wrong with a line
abbrev pub fault_text : Fault → List ℕ
fault_text LongLine = codes "more than 9000 bytes"
fault_text NoOperation = codes "no such operation"
fault_text (NoNumber what) = number_text what
fault_text NoHex = codes "the word behind string must be pairs of hexadecimal digits"
fault_text LongString = codes "the string must have at most 4096 bytes"
fault_text NoOption = codes "a word that is no option"
fault_text (NotTaken option) = codes "this operation takes no " ++ option_text option
fault_text (Twice option) = option_text option ++ codes " stands twice"

abbrev pub usage_text : List ℕ
usage_text = codes "usage: rbg_talk ask, show, bytes, --help\n"

-- the line on standard error
abbrev pub line_of : statuses.Status → List ℕ
line_of Done = []
line_of Usage = usage_text
line_of (Line number fault) = codes "line " ++ decimal number ++ codes ": " ++ fault_text fault ++ codes "\n"
line_of (Malformed offset why) = codes "malformed reply at " ++ decimal offset ++ codes ", why " ++ decimal why ++ codes "\n"
line_of (Cut offset) = codes "input cut at " ++ decimal offset ++ codes "\n"
line_of (ReadFault count) = codes "read fault " ++ decimal count ++ codes "\n"
line_of (WriteFault count) = codes "write fault " ++ decimal count ++ codes "\n"
line_of (Refused refusals) = codes "refusals " ++ decimal refusals ++ codes "\n"
line_of Memory = codes "out of memory\n"
line_of (Quota bytes) = codes "quota of " ++ decimal bytes ++ codes " bytes\n"

-- how the program is used
abbrev pub help_text : List ℕ
help_text =
    codes "usage: rbg_talk ask     lines on standard input become request frames on standard output\n       rbg_talk show    reply frames become lines\n       rbg_talk bytes   the bytes that replies to generate give, in binary\n\nA line is one of\n    instantiate NODE          generate NODE COUNT       reseed NODE\n    uninstantiate NODE        start SOURCE              status NODE\nand then, in any order, what the operation takes of: pr, strength N, string HEX.\nEmpty lines and lines that begin with # are passed over.\n"
