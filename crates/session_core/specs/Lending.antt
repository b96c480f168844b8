-- What a session is once the frame that borrows it was written.
-- This project's own.
use Rattle.std.specs.Prelude.{◌≡◌, ⊤, length, take, drop, None}
use Rattle.std.specs.Borrow.{follows_so, MutBor, Fml}
use mathlib.Core.Option.{none}
use Rattle.session_core.specs.declared.session.Session.{Session}
use Rattle.session_core.specs.contracts.session.Session.{the_row}

-- The request is answered, and nothing else has changed but the head of the reply's frame, in the places 4 to 31.
pub record IsSettled (old new : Session) : Type 0 where
  pub decoder : new.inbox.decoder ≡ old.inbox.decoder
  pub asked : new.inbox.asked ≡ None
  pub max_frames : new.inbox.max_frames ≡ old.inbox.max_frames
  pub len : length new.reply.items ≡ length old.reply.items
  pub before : take 4 new.reply.items ≡ take 4 old.reply.items
  pub behind : drop 32 new.reply.items ≡ drop 32 old.reply.items

abbrev pub LeavesSettled : MutBor Session → Fml
LeavesSettled s = follows_so the_row the_row s.ghost_name none (λ _ _. ⊤) (λ last. IsSettled s.now last)
