-- Why a call got its reply.
-- This project's own; SP 800-90B 4.3 for the alarm.
use Rattle.std.specs.Prelude.{◌≡◌, ◌↔◌, ℕ, List, [], Some, None}
use Rattle.tree_config.specs.Tree.{Tree}
use Rattle.entropy_source.specs.Source.{source_after_all}
use Rattle.tree_rules.specs.declared.reply.Reply.{Reply}
use Rattle.tree_rules.specs.History.{Entry, States, at_slot}
use Rattle.tree_rules.specs.Chain.{SourceLink, need, whole_chain}
use Rattle.tree_rules.specs.Causes.{IsOfTable, IsCaused, IsDone, HasEnough, LacksCause, bytes_of, blocks_left, chain_in, refusal_in}
use Rattle.tree_rules.specs.Free.{IsFree}

-- the entry's reply has its cause, in the states in which the call found the tree
pub record HasReason (p : Tree) (s : States) (e : Entry) : Type 0 where
  -- codes 1 to 11 come exactly where their row of the table is the first that stands, and none stands exactly where the call is free
  pub table : (r : Reply) → (refusal_in p s e ≡ Some r ↔ ((e.reply ≡ r) × IsOfTable r.code))
  pub free : refusal_in p s e ≡ None ↔ IsFree p e.call e.string (whole_chain p s e.call)
  -- a free call that needs no source is Done, with exactly the bytes that its chain says
  pub alone : refusal_in p s e ≡ None → (chain_in p s e).source ≡ None → IsDone (bytes_of e.call e.string (chain_in p s e) []) e
  -- else codes 12 to 14 come exactly by what the source read in this call
  pub caused : (t : SourceLink) → refusal_in p s e ≡ None → (chain_in p s e).source ≡ Some t →
      IsCaused e.call t (at_slot t.slot e.acts) (source_after_all t.row t.state (at_slot t.slot e.acts)) e.reply
  -- a free call is Done where no read gave none, no sample that was read is an alarm and the fault count did not rise
  pub quiet : (t : SourceLink) → refusal_in p s e ≡ None → (chain_in p s e).source ≡ Some t →
      LacksCause e.call t (at_slot t.slot e.acts) (source_after_all t.row t.state (at_slot t.slot e.acts)) → e.reply.code ≡ 0
  -- and where the source tells its samples, as many are left as the call takes, none of them is an alarm and the fault count did not rise, it
  -- is Done with exactly the bytes that its chain and these samples say
  pub told : (t : SourceLink) (left : List ℕ) → refusal_in p s e ≡ None → (chain_in p s e).source ≡ Some t →
      HasEnough e.call t (need e.call (chain_in p s e)) left (source_after_all t.row t.state (at_slot t.slot e.acts)) →
      IsDone (bytes_of e.call e.string (chain_in p s e) (blocks_left e.call (chain_in p s e) left)) e
