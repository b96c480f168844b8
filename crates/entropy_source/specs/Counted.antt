-- What is counted on acts in a row: the samples that they read, the blocks, the alarms, the mode in which they leave a source,
-- the samples since the tests were fresh, the faults, and what a block or a start-up lacks.
-- This project's own.
use Rattle.std.specs.Prelude.{ℕ, ◌+◌, ◌-◌, List, [], ◌∷◌, ◌++◌, length, Bool, true, false, Some, None, Result, Ok, Err}
use Rattle.entropy_source.specs.Source.{SourceAct, Began, Read, Alarmed, Started, Block, given}
use Rattle.entropy_source.specs.declared.answers.SourceRefusal.{SourceRefusal}
use Rattle.entropy_source.specs.declared.answers.SourceMode.{SourceMode}
use Rattle.entropy_source.specs.declared.answers.SourceMode.TheVariants as modes

-- the samples that acts read
abbrev pub samples_of : List SourceAct → List ℕ
samples_of [] = []
samples_of (Read asked got count ∷ acts) = given got ++ samples_of acts
samples_of (_ ∷ acts) = samples_of acts

abbrev pub blocks_of : List SourceAct → ℕ
blocks_of [] = 0
blocks_of (Block from to bytes ∷ acts) = blocks_of acts + 1
blocks_of (_ ∷ acts) = blocks_of acts

abbrev pub alarms_of : List SourceAct → ℕ
alarms_of [] = 0
alarms_of (Alarmed index test ∷ acts) = alarms_of acts + 1
alarms_of (_ ∷ acts) = alarms_of acts

-- the mode that the last of the acts Began, Started and Alarmed sets, or the one before where there is none of them
abbrev pub mode_after : SourceMode → List SourceAct → SourceMode
mode_after mode [] = mode
mode_after mode (Began ∷ acts) = mode_after modes.Idle acts
mode_after mode (Started ∷ acts) = mode_after modes.Running acts
mode_after mode (Alarmed index test ∷ acts) = mode_after (modes.Alarmed index test) acts
mode_after mode (_ ∷ acts) = mode_after mode acts

-- the samples read since the last act Began, behind those before the acts where there is none
abbrev pub tested_after : List ℕ → List SourceAct → List ℕ
tested_after before [] = before
tested_after before (Began ∷ acts) = tested_after [] acts
tested_after before (Read asked got count ∷ acts) = tested_after (before ++ given got) acts
tested_after before (_ ∷ acts) = tested_after before acts

-- whether there is an alarm since the last act Began, or there was one before the acts and there is no such act
abbrev pub alarmed_after : Bool → List SourceAct → Bool
alarmed_after before [] = before
alarmed_after before (Began ∷ acts) = alarmed_after false acts
alarmed_after before (Alarmed index test ∷ acts) = alarmed_after true acts
alarmed_after before (_ ∷ acts) = alarmed_after before acts

-- the count of faults after the last read, or the one before the acts where there is none
abbrev pub faults_after : ℕ → List SourceAct → ℕ
faults_after before [] = before
faults_after before (Read asked got count ∷ acts) = faults_after count acts
faults_after before (_ ∷ acts) = faults_after before acts

-- what the present block lacks, each being of so many samples, where it lacked so many before the acts; and so the start-up
abbrev pub lacking_after : ℕ → ℕ → List SourceAct → ℕ
lacking_after need lacks [] = lacks
lacking_after need lacks (Read asked got count ∷ acts) = lacking_after need (lacks - length (given got)) acts
lacking_after need lacks (Block from to bytes ∷ acts) = lacking_after need need acts
lacking_after need lacks (_ ∷ acts) = lacking_after need lacks acts

-- whether a read gave no sample, and whether a read failed
abbrev pub gave_none : List SourceAct → Bool
gave_none [] = false
gave_none (Read asked (Some []) count ∷ acts) = true
gave_none (_ ∷ acts) = gave_none acts

abbrev pub has_failed : List SourceAct → Bool
has_failed [] = false
has_failed (Read asked None count ∷ acts) = true
has_failed (_ ∷ acts) = has_failed acts

-- a result with bytes in front
abbrev pub behind : List ℕ → Result (List ℕ) SourceRefusal → Result (List ℕ) SourceRefusal
behind front (Ok bytes) = Ok (front ++ bytes)
behind front (Err why) = Err why
