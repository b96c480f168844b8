-- The table of ends: what a session took, left and wrote, by the way it ended.
-- This project's own.
use Rattle.std.specs.Prelude.{◌≡◌, ◌<◌, ◌⊎◌, ℕ, List, [], ◌∷◌, ◌++◌, length, map, flat_map}
use Rattle.std.specs.declared.option.Option.{Option}
use Rattle.std.specs.Io.KnownBytes.{IsAtEnd}
use Rattle.frame_codec.specs.Grammar.{text_of}
use Rattle.frame_codec.specs.Frames.{Asked, replies, IsScript, IsBadAt, BeginsWith}
use Rattle.session_core.specs.declared.end.End.{End}
use Rattle.session_core.specs.declared.end.End.TheVariants.{Read, Bad, Cut, ReadFault, WriteFault, Quota}

-- how requests are answered by entries E: the calls C of requests, the call of an entry, and its reply frame
pub record Service (E C : Type 0) : Type 0 where
  pub calls : List Asked → List C
  pub call_of : E → C
  pub text : E → List ℕ

-- es has one entry for each call of the requests, in order
abbrev pub Answers : {E C : Type 0} → Service E C → List Asked → List E → Type 0
Answers v rs es = map v.call_of es ≡ v.calls rs

-- es has one entry for each of the first calls of the requests, in order
abbrev pub AnswersFirst : {E C : Type 0} → Service E C → List Asked → List E → Type 0
AnswersFirst {C = C} v rs es = (later : List C) × (map v.call_of es ++ later ≡ v.calls rs)

-- the reply frames of entries in a row
abbrev pub written : {E C : Type 0} → Service E C → List E → List ℕ
written v es = flat_map v.text es

-- the reply to a byte with which no frame goes on: code 255, its place and its number
abbrev pub malformed : ℕ → ℕ → List ℕ
malformed offset why =
    text_of replies (record { head = record { code = 255; op = 0; node = 0; id = 0; a = offset; b = why; len = 0 }; string = [] })

-- the text is whole frames and a front of the last
abbrev pub StopsIn : List ℕ → List ℕ → List ℕ → Type 0
StopsIn whole last text = (front back : List ℕ) × (last ≡ front ++ back) × (text ≡ whole ++ front)

-- These bytes were taken, that is left to read, and this was written, with entries es that are Right: fewer than `max` of them,
-- or exactly so many at the quota.
abbrev pub Ends : {E C : Type 0} → Service E C → (List E → Type 0) → ℕ → End → List ℕ → Option (List ℕ) → List ℕ → Type 0
Ends {E = E} v Right max (Read frames) taken left text =
    (rs : List Asked) × (es : List E) × IsScript taken rs [] × IsAtEnd left × Answers v rs es × Right es
    × (length es < max) × (frames ≡ length es) × (text ≡ written v es)
Ends {E = E} v Right max (Cut offset) taken left text =
    (rs : List Asked) × (es : List E) × (rest : List ℕ) × IsScript taken rs rest × (0 < length rest) × IsAtEnd left
    × Answers v rs es × Right es × (length es < max) × (offset ≡ length taken) × (text ≡ written v es)
Ends {E = E} v Right max (Bad offset why) taken left text =
    (rs : List Asked) × (es : List E) × IsBadAt taken rs offset why × Answers v rs es × Right es × (length es < max)
    × (text ≡ written v es ++ malformed offset why)
Ends {E = E} v Right max (ReadFault count) taken left text =
    (rs : List Asked) × (es : List E) × (rest : List ℕ) × IsScript taken rs rest × Answers v rs es × Right es
    × (length es < max) × (text ≡ written v es)
Ends {E = E} v Right max (WriteFault count) taken left text =
    ((rs : List Asked) × (es : List E) × (e : E) × BeginsWith taken rs × AnswersFirst v rs (es ++ e ∷ []) × Right (es ++ e ∷ [])
    × (length es < max) × StopsIn (written v es) (v.text e) text)
    ⊎ ((rs : List Asked) × (es : List E) × (offset why : ℕ) × IsBadAt taken rs offset why × Answers v rs es × Right es
    × (length es < max) × StopsIn (written v es) (malformed offset why) text)
Ends {E = E} v Right max (Quota frames) taken left text =
    (rs : List Asked) × (es : List E) × BeginsWith taken rs × AnswersFirst v rs es × Right es
    × (length es ≡ max) × (frames ≡ max) × (text ≡ written v es)
