-- The statuses by number and by line, and those of a session's ends.
-- This project's own.
use Rattle.std.specs.Prelude.{ℕ, true, false, List, [], ◌++◌, codes, decimal}
use Rattle.tree_config.specs.Names.{field_text, place_text}
use Rattle.tree_config.specs.declared.fault.ConfigFault.{ConfigFault}
use Rattle.tree_config.specs.declared.fault.ConfigFault.TheVariants.{TooLarge, BadToml, BadField, TooMany, NoSuchParent, Cycle, TooDeep, StrengthRises}
use Rattle.session_core.specs.declared.end.End.{End}
use Rattle.session_core.specs.declared.end.End.TheVariants as ends
use Rattle.rbgtree.specs.declared.status.Status.{Status}
use Rattle.rbgtree.specs.declared.status.Status.TheVariants.{Done, Usage, Config, Malformed, Cut, Text, ReadFault, WriteFault, OpenFault, Memory, Differs, Quota, SeedShort, SourceRefused}

-- the status with which the process ends
abbrev pub number_of : Status → ℕ
number_of Done = 0
number_of Usage = 1
number_of (Config fault) = 2
number_of (Malformed offset why) = 3
number_of (Cut offset) = 3
number_of (Text line why) = 3
number_of (ReadFault count) = 4
number_of (WriteFault count) = 5
number_of (OpenFault count) = 6
number_of Memory = 7
number_of (Differs differed) = 8
number_of (Quota frames) = 9
number_of (SeedShort node have need) = 10
number_of (SourceRefused source) = 11

abbrev pub malformed_line : ℕ → ℕ → List ℕ
malformed_line offset why = codes "malformed frame at " ++ decimal offset ++ codes ", why " ++ decimal why ++ codes "\n"

abbrev pub text_fault_line : ℕ → ℕ → List ℕ
text_fault_line line why = codes "text fault at line " ++ decimal line ++ codes ", why " ++ decimal why ++ codes "\n"

abbrev pub seed_short_line : ℕ → ℕ → ℕ → List ℕ
seed_short_line node have need =
    codes "seed of node " ++ decimal node ++ codes " has " ++ decimal have ++ codes " of " ++ decimal need ++ codes " bytes\n"

-- what is wrong with a configuration
abbrev pub fault_text : ConfigFault → List ℕ
fault_text (TooLarge limit) = codes "too large"
fault_text BadToml = codes "not TOML"
fault_text (BadField place field) = codes "bad field " ++ field_text field ++ codes " at " ++ place_text place
fault_text (TooMany true count limit) = codes "too many nodes"
fault_text (TooMany false count limit) = codes "too many sources"
fault_text (NoSuchParent n parent) = codes "no such parent at node " ++ decimal n
fault_text (Cycle n) = codes "cycle at node " ++ decimal n
fault_text (TooDeep n) = codes "too deep at node " ++ decimal n
fault_text (StrengthRises n own parent) = codes "strength rises at node " ++ decimal n

-- the line on standard error
abbrev pub line_of : Status → List ℕ
line_of Done = []
line_of Usage =
    codes "usage: rbgtree seed FILE, answer CONFIG, check CONFIG, replay hmac FILE, replay ctr FILE, load CONFIG N SEED, load CONFIG N SEED WORKERS, serve CONFIG ADDR WORKERS CONNS\n"
line_of (Config fault) = codes "configuration: " ++ fault_text fault ++ codes "\n"
line_of (Malformed offset why) = malformed_line offset why
line_of (Cut offset) = codes "input cut at " ++ decimal offset ++ codes "\n"
line_of (Text line why) = text_fault_line line why
line_of (ReadFault count) = codes "read fault " ++ decimal count ++ codes "\n"
line_of (WriteFault count) = codes "write fault " ++ decimal count ++ codes "\n"
line_of (OpenFault count) = codes "open fault " ++ decimal count ++ codes "\n"
line_of Memory = codes "out of memory\n"
line_of (Differs differed) = codes "vectors differ: " ++ decimal differed ++ codes "\n"
line_of (Quota frames) = codes "quota of " ++ decimal frames ++ codes " frames\n"
line_of (SeedShort node have need) = seed_short_line node have need
line_of (SourceRefused source) = codes "source " ++ decimal source ++ codes " refused\n"

-- the status of a program whose one session ended so
abbrev pub status_of : End → Status
status_of (ends.Read frames) = Done
status_of (ends.Bad offset why) = Malformed offset why
status_of (ends.Cut offset) = Cut offset
status_of (ends.ReadFault count) = ReadFault count
status_of (ends.WriteFault count) = WriteFault count
status_of (ends.Quota frames) = Quota frames
