-- After an alarm a source is quiet until it is started: it gives no block, and no call that needs its samples is Done.
-- This project's own; SP 800-90B 4.3 asks that a source whose test alarmed gives nothing.
use Rattle.std.specs.Prelude.{ℕ, List, [], ◌∷◌, ◌++◌, map, ◌==◌, ◌&&◌, not, nat_lt, Bool, true, false, Option, Some, None}
use Rattle.tree_config.specs.Tree.{Tree}
use Rattle.entropy_source.specs.Source.{SourceAct, Alarmed, Started, Block}
use Rattle.tree_rules.specs.Slots.{source_slot}
use Rattle.tree_rules.specs.History.{Entry, States, at_slot, after}
use Rattle.tree_rules.specs.Chain.{Chain, SourceLink, need}
use Rattle.tree_rules.specs.Replies.{chain_of, is_start}

-- what is seen of a source: its acts, and at the end of each entry whether it was Done and needed the source's samples for
-- another call than a Start
pub data Event : Type 0 where
  Acted : SourceAct → Event
  Ended : (served : Bool) → Event

abbrev pub needs_by : ℕ → Entry → ℕ → Option SourceLink → Bool
needs_by k e samples None = false
needs_by k e samples (Some t) = (t.slot == k) && (e.reply.code == 0) && nat_lt 0 samples && not (is_start e.call)

abbrev pub needs : ℕ → Entry → Chain → Bool
needs k e ch = needs_by k e (need e.call ch) ch.source

-- the events of the source at a slot, in entries in a row
abbrev pub events : Tree → States → ℕ → List Entry → List Event
events p s k [] = []
events p s k (e ∷ es) =
    map Acted (at_slot k e.acts) ++ Ended (needs k e (chain_of p s e.call e.string)) ∷ events p (λ i. after p i (s i) e) k es

-- until the next start was passed there is no block, and no entry that is Done needs the source
abbrev pub Silent : List Event → Type 0
Silent [] = Unit {0}
Silent (Acted Started ∷ more) = Unit {0}
Silent (Acted (Block from to bytes) ∷ more) = ⊥
Silent (Acted _ ∷ more) = Silent more
Silent (Ended true ∷ more) = ⊥
Silent (Ended false ∷ more) = Silent more

-- this is so after each alarm
abbrev pub IsQuiet : List Event → Type 0
IsQuiet [] = Unit {0}
IsQuiet (Acted (Alarmed index test) ∷ more) = Silent more × IsQuiet more
IsQuiet (_ ∷ more) = IsQuiet more

-- of every source
abbrev pub Quiet : Tree → States → List Entry → Type 0
Quiet p s es = (j : ℕ) → IsQuiet (events p s (source_slot p j) es)
