-- Ends of the program's own, and the counts of faults.
use Rattle.std.proofs.Common.{◌≡◌, ℕ}
use Rattle.rbg_talk.specs.declared.status.Status.{Status}
use Rattle.rbg_talk.specs.declared.status.Status.TheVariants.{ReadFault, WriteFault}
use Rattle.rbg_talk.specs.Causes.{HasReadCause, HasWriteCause, IsOwnEnd, IsTellEnd}

pub own_read : (before now : ℕ) (status : Status) → IsOwnEnd status → now ≡ before → HasReadCause before now status
own_read before now (ReadFault count) kind same = absurd kind
own_read before now status kind same = same

pub tell_read : (before now : ℕ) (status : Status) → IsTellEnd status → now ≡ before → HasReadCause before now status
tell_read before now (ReadFault count) kind same = absurd kind
tell_read before now status kind same = same

pub tell_write : (before now : ℕ) (status : Status) → IsTellEnd status → now ≡ before → HasWriteCause before now status
tell_write before now (WriteFault count) kind same = absurd kind
tell_write before now status kind same = same
