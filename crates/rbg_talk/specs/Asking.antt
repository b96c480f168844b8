-- What an input of lines asks: its calls up to the first faulty line, their frames, and that line.
-- This project's own.
use Rattle.std.specs.Prelude.{ℕ, ◌+◌, ◌%◌, ◌^◌, List, [], ◌∷◌, ◌++◌, Option, Some, None, Result, Ok, Err}
use Rattle.frame_codec.specs.Grammar.{text_of}
use Rattle.frame_codec.specs.Frames.{Asked, requests}
use Rattle.rbg_talk.specs.declared.grammar.Fault.{Fault}
use Rattle.rbg_talk.specs.Calls.{line_says}

-- a call before others
abbrev pub then_calls : Result (Option Asked) Fault → List Asked → List Asked
then_calls (Ok None) later = later
then_calls (Ok (Some a)) later = a ∷ later
then_calls (Err why) later = []

-- the calls of lines up to the first faulty one
abbrev pub calls : List (List ℕ) → List Asked
calls [] = []
calls (line ∷ later) = then_calls (line_says line) (calls later)

-- a faulty line by its number, and what is wrong with it
pub record Wrong : Type 0 where
  pub number : ℕ
  pub fault : Fault

abbrev pub then_fault : ℕ → Result (Option Asked) Fault → Option Wrong → Option Wrong
then_fault number (Ok said) later = later
then_fault number (Err why) later = Some (record { number = number; fault = why })

-- the first faulty line, where the first line has this number
abbrev pub first_fault : ℕ → List (List ℕ) → Option Wrong
first_fault number [] = None
first_fault number (line ∷ later) = then_fault number (line_says line) (first_fault (number + 1) later)

-- the id of a call behind so many others: ids count from 1, and go on at 0 behind 2^32 - 1
abbrev pub id_behind : ℕ → ℕ
id_behind before = (before + 1) % 2 ^ 32

-- the frame of a call behind so many others
abbrev pub frame_behind : ℕ → Asked → List ℕ
frame_behind before a = text_of requests (record { head = record a.head { id = id_behind before }; string = a.string })

-- the frames of calls in a row, behind so many others
abbrev pub frames_behind : ℕ → List Asked → List ℕ
frames_behind before [] = []
frames_behind before (a ∷ later) = frame_behind before a ++ frames_behind (before + 1) later

abbrev pub frames : List Asked → List ℕ
frames cs = frames_behind 0 cs
