-- What contracts see of a source and a sink in memory, and how a call changes them.
-- This project's own.
use Rattle.std.specs.Prelude.{ℕ, ◌-◌, List, ◌++◌, length, drop}
use Rattle.rbg_bytes.specs.Streams.{one_more}

-- the bytes to come, the most that one read gives, the reads that fail, the reads so far and the faults so far
pub record Incoming : Type 0 where
  pub left : List ℕ
  pub piece : ℕ
  pub fail : List ℕ
  pub calls : ℕ
  pub faults : ℕ

-- the source after a read that gave n bytes
abbrev pub after_read : Incoming → ℕ → Incoming
after_read s n = record s { left = drop n s.left; calls = one_more s.calls }

-- the source after a read that failed
abbrev pub after_failed_read : Incoming → Incoming
after_failed_read s = record s { calls = one_more s.calls; faults = one_more s.faults }

-- the bytes taken, how many more there is room for, the writes that fail, the writes so far and the faults so far
pub record Outgoing : Type 0 where
  pub out : List ℕ
  pub room : ℕ
  pub fail : List ℕ
  pub calls : ℕ
  pub faults : ℕ

-- the sink after a write that took all of the bytes
abbrev pub after_write : Outgoing → List ℕ → Outgoing
after_write s bytes = record s { out = s.out ++ bytes; room = s.room - length bytes; calls = one_more s.calls }

-- the sink after a write that failed and took the front of the bytes
abbrev pub after_failed_write : Outgoing → List ℕ → Outgoing
after_failed_write s front =
    record s { out = s.out ++ front; room = s.room - length front; calls = one_more s.calls; faults = one_more s.faults }
