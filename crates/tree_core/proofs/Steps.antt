-- A node that is held, read in plain numbers, is a step.
use Rattle.std.proofs.Common.{◌≡◌, ◌<◌, ℕ, List, length, sym, subst}
use Rattle.std.specs.Prelude.{Option, IsSome}
use Rattle.tree_config.specs.declared.plan.Origin.{Origin}
use Rattle.tree_config.specs.Tree.{Tree}
use Rattle.entropy_source.specs.Views.{SourceView}
use Rattle.tree_rules.specs.Links.{link}
use Rattle.tree_acts.specs.declared.step.Asked.{Asked}
use Rattle.tree_acts.specs.declared.step.Step.{Step}
use Rattle.tree_acts.specs.Hold.{Hold, IsHeld, IsOfPlan, states_held}
use Rattle.tree_acts.specs.Plain.{link_of, task_in}
use Rattle.tree_acts.specs.Plainly.{plain}
use Rattle.tree_acts.proofs.Rising.{node_there}
use Rattle.tree_core.specs.Names.{IsStep}

pub step_is : {S : Type 0} (told : S → Option (List ℕ)) (faults : S → ℕ) (p : Tree) (h : Hold (SourceView S)) (n : ℕ) (asked : Asked) (x : Step) → IsOfPlan p h → n < length p.nodes → IsHeld h n
    → x.slot ≡ n → x.asked ≡ asked → ((o : Origin) → link_of x o ≡ plain (record (link p n (task_in asked) (states_held told faults h n)) { origin = o }))
    → IsStep told faults p h x
step_is told faults p h n asked x plan low held slot is at = record {
  planned = subst (λ k. k < length p.nodes) (sym slot) low;
  there = subst (λ k. IsSome (h.nodes k)) (sym slot) (node_there told faults p h n plan low held);
  at = subst (λ (k : ℕ). (o : Origin) → link_of x o ≡ plain (record (link p k (task_in x.asked) (states_held told faults h k)) { origin = o })) (sym slot)
      (subst (λ (a : Asked). (o : Origin) → link_of x o ≡ plain (record (link p n (task_in a) (states_held told faults h n)) { origin = o })) (sym is) at);
}
