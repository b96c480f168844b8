-- What has been read of a line: its options so far, and its call.
-- This project's own.
use Rattle.std.specs.Prelude.{◌≡◌, ◌≤◌, ◌<◌, ◌^◌, ℕ, true, false, List, [], take, option_map, IsSome, IfSome}
use Rattle.frame_codec.specs.declared.frames.Request.{Request}
use Rattle.frame_codec.specs.Rows.{Takes}
use Rattle.frame_codec.specs.Frames.{Asked, request_fields, request_numbers}
use Rattle.rbg_talk.specs.declared.call.Options as read
use Rattle.rbg_talk.specs.declared.grammar.Operation.{Operation}
use Rattle.rbg_talk.specs.declared.grammar.Word.TheVariants.{Pr, StrengthWord, StringWord}
use Rattle.rbg_talk.specs.Calls.{Options, takes, counted}

-- the options, where their string stands at the front of the buffer
abbrev pub options_of : read.Options → List ℕ → Options
options_of o buffer = record { pr = o.pr; strength = o.strength; string = option_map (λ (n : ℕ). take n buffer) o.string }

-- the operation takes the options that stand, and the string fits the buffer
pub record AreAllowed (op : Operation) (o : read.Options) : Type 0 where
  pub pr : o.pr ≡ true → takes op Pr ≡ true
  pub strength : IsSome o.strength → takes op StrengthWord ≡ true
  pub string : IsSome o.string → takes op StringWord ≡ true
  pub len : IfSome o.string (λ n. n ≤ 4096)

-- an operation without a count has the count 0
abbrev pub IsCountOf : Operation → ℕ → Type 0
IsCountOf op count = counted op ≡ false → count ≡ 0

-- a request with its string, which stands at the front of the buffer
abbrev pub asked_of : Request → List ℕ → Asked
asked_of r buffer = record { head = r; string = take r.len buffer }

-- with any id the request is one that frames may have
pub record IsServed (r : Request) : Type 0 where
  pub head : (id : ℕ) → id < 2 ^ 32 → Takes request_fields [] (request_numbers (record r { id = id }))
  pub len : r.len ≤ 4096
