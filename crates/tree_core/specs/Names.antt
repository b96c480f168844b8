-- What the next step of a call is, by what it holds.
-- This project's own.
use Rattle.std.specs.Prelude.{◌≡◌, ◌⊎◌, ◌<◌, ℕ, List, [], ◌∷◌, length, map, Option, Some, None, IsSome}
use Rattle.tree_config.specs.Tree.{Tree}
use Rattle.tree_config.specs.declared.plan.Origin.{Origin}
use Rattle.entropy_source.specs.Views.{SourceView}
use Rattle.tree_rules.specs.declared.call.Call.{Call}
use Rattle.tree_rules.specs.declared.reply.Reply.{Reply}
use Rattle.tree_rules.specs.declared.reply.ReplyRow.{ReplyRow}
use Rattle.tree_acts.specs.declared.step.Step.{Step}
use Rattle.tree_rules.specs.History.{States}
use Rattle.tree_rules.specs.Links.{Link, link, last_link}
use Rattle.tree_rules.specs.Chain.{Chain, SourceLink, need_by, slots_of, wants_of}
use Rattle.tree_rules.specs.Replies.{chain_of, mode_of, refusal, rows_by, taken_of}
use Rattle.tree_acts.specs.Plain.{link_of, task_in}
use Rattle.tree_acts.specs.Hold.{Hold, IsHeld, AreHeld, states_held}
use Rattle.tree_acts.specs.Plainly.{plain}
use Rattle.tree_core.specs.declared.step.Next.{Next}
use Rattle.tree_core.specs.declared.step.Next.TheVariants.{Take, Refuse, Ready}
use Rattle.tree_core.specs.declared.step.Reached.{Reached}
use Rattle.tree_core.specs.declared.step.Reached.TheVariants.{Missing, End}

-- the states are those of what is held, where it is held
pub record AreStates {S : Type 0} (told : S → Option (List ℕ)) (faults : S → ℕ) (h : Hold (SourceView S)) (s : States) : Type 0 where
  pub at : (k : ℕ) → IsHeld h k → s k ≡ states_held told faults h k

-- the first slot of a list that isn't held
abbrev pub IsFirstMissing : {V : Type 0} → Hold V → ℕ → List ℕ → Type 0
IsFirstMissing h k [] = ⊥
IsFirstMissing h k (x ∷ xs) = ((x ≡ k) × (IsHeld h x → ⊥)) ⊎ (IsHeld h x × IsFirstMissing h k xs)

-- the next step of a call with this chain
abbrev pub NamesBy : {V : Type 0} → Hold V → Chain → Option Reply → Next → Type 0
NamesBy h ch refused (Take k) = IsFirstMissing h k (slots_of ch)
NamesBy h ch refused (Refuse r) = AreHeld h (slots_of ch) × (refused ≡ Some r)
NamesBy h ch refused Ready = AreHeld h (slots_of ch) × (refused ≡ None)

-- what the table of refusals says, all being held
abbrev pub NextBy : Option Reply → Next → Type 0
NextBy None next = next ≡ Ready
NextBy (Some r) next = next ≡ Refuse r

-- the rows of a call that names a node, by its first and its last node and the source of the last one
abbrev pub end_rows : Call → Link → Link → Option SourceLink → List ReplyRow
end_rows c l e t = rows_by c l e (taken_of t) (mode_of t) (need_by c t (wants_of c (e ∷ []) t))

abbrev pub Names : {V : Type 0} → Tree → Hold V → States → Call → List ℕ → Next → Type 0
Names p h s c string next = let ch = chain_of p s c string in NamesBy h ch (refusal p c string ch) next

-- a step is a node that is held, in plain numbers
pub record IsStep {S : Type 0} (told : S → Option (List ℕ)) (faults : S → ℕ) (p : Tree) (h : Hold (SourceView S)) (x : Step) : Type 0 where
  pub planned : x.slot < length p.nodes
  pub there : IsSome (h.nodes x.slot)
  pub at : (o : Origin) → link_of x o ≡ plain (record (link p x.slot (task_in x.asked) (states_held told faults h x.slot)) { origin = o })

-- where a walk along links ends: at the first one that isn't held, or at the last one
abbrev pub Walks : {S : Type 0} → (S → Option (List ℕ)) → (S → ℕ) → Tree → Hold (SourceView S) → States → List Link → Reached → Type 0
Walks told faults p h s ls (Missing k) = IsFirstMissing h k (map (λ (l : Link). l.slot) ls)
Walks told faults p h s ls (End x) = AreHeld h (map (λ (l : Link). l.slot) ls) × (last_link ls ≡ link p x.slot (task_in x.asked) (s x.slot))

abbrev pub IsEnd : {S : Type 0} → (S → Option (List ℕ)) → (S → ℕ) → Tree → Hold (SourceView S) → Reached → Type 0
IsEnd told faults p h (Missing k) = Unit {0}
IsEnd told faults p h (End x) = IsStep told faults p h x
