-- What a reply leaves of the call's source and of the node that it names.
-- This project's own.
use Rattle.std.specs.Prelude.{◌≡◌, ◌≢◌, ℕ, [], true, false, None, IfSome}
use Rattle.entropy_source.specs.declared.answers.SourceMode.TheVariants as modes
use Rattle.entropy_source.specs.Source.{SourceState}
use Rattle.rbg_nodes.specs.Node.{NodeState, no_working}
use Rattle.tree_rules.specs.declared.call.Call.{Call}
use Rattle.tree_rules.specs.declared.call.Call.TheVariants.{Generate, Status}
use Rattle.tree_rules.specs.declared.reply.Reply.{Reply}
use Rattle.tree_rules.specs.Replies.{is_start, error_index, error_test}

-- The source of a call that the table doesn't refuse: in error by the alarm of the reply, running after a Start that is Done, not started
-- after one that failed otherwise, and in its old mode after every other call. Where samples ran out, none is left of those told.
pub record LeavesSource (c : Call) (before now : SourceState) (r : Reply) : Type 0 where
  pub alarmed : r.code ≡ 13 → (error_index now.mode ≡ r.a) × (error_test now.mode ≡ r.b)
  pub started : is_start c ≡ true → r.code ≡ 0 → now.mode ≡ modes.Running
  pub halted : is_start c ≡ true → r.code ≢ 0 → r.code ≢ 13 → now.mode ≡ modes.Idle
  pub kept : is_start c ≡ false → r.code ≢ 13 → now.mode ≡ before.mode
  pub ended : r.code ≡ 14 → IfSome now.told (λ left. left ≡ [])

-- a node that was just instantiated or reseeded
pub record IsSeeded (s : NodeState) : Type 0 where
  pub live : s.live ≡ true
  pub counter : s.counter ≡ 1
  pub kept : s.kept ≡ None

-- a node that was uninstantiated
pub record IsCleared (s : NodeState) : Type 0 where
  pub live : s.live ≡ false
  pub counter : s.counter ≡ 0
  pub working : s.working ≡ no_working

-- How many bytes a call that is Done gives, where its kind alone says it: 25 of Status, and none of every call but a Generate.
abbrev pub HasLen : Call → ℕ → Type 0
HasLen (Generate n count strength pr) len = Unit {0}
HasLen (Status n) len = len ≡ 25
HasLen _ len = len ≡ 0
