-- How counts grow with a call that was served.
use Rattle.std.proofs.Common.{◌≡◌, ◌∙◌, ◌+◌, ℕ, List, length, refl, sym, ap, subst, arith}
use Rattle.std.specs.Prelude.{Option}
use Rattle.std.proofs.lemmas.Option.{slice_get_within}
use Rattle.tree_config.specs.Tree.{Tree}
use Rattle.tree_config.specs.Planned.{IsPlanned}
use Rattle.entropy_source.specs.Views.{SourceView}
use Rattle.rbg_nodes.specs.Node.{NodeState}
use Rattle.rbg_nodes.specs.Views.{NodeView}
use Rattle.tree_rules.specs.declared.call.Call.{Call}
use Rattle.tree_rules.specs.declared.reply.Reply.{Reply}
use Rattle.tree_rules.specs.Counts.{IsRaised}
use Rattle.tree_rules.specs.History.{NodeIs, SlotState, node_in, own, slot_after_all}
use Rattle.tree_rules.specs.Served.{Served, entry_of}
use Rattle.tree_rules.proofs.Growing.{raised_entry}
use Rattle.tree_acts.specs.Hold.{Hold, states_held}
use Rattle.tree_core.specs.Raised.{AreRaised}
use Rattle.tree_core.specs.Whole.{AreAtMost, all_held}
use Rattle.tree_core.proofs.Wholes.{within}

pub raised_held : {S : Type 0} (told : S → Option (List ℕ)) (faults : S → ℕ) (p : Tree) (h t : Hold (SourceView S)) (c : Call) (string : List ℕ) (reply : Reply) (bytes : List ℕ)
    → IsPlanned 0 p → Served p (states_held told faults h) (states_held told faults t) c string reply bytes → AreRaised h t
raised_held told faults p h t c string reply bytes range served k v w at now =
    let e = entry_of p (states_held told faults h) c string reply bytes served.acts 0 in
    let old : states_held told faults h k ≡ NodeIs v.state = rw at refl in
    let new : states_held told faults t k ≡ NodeIs w.state = rw now refl in
    let (y, is, up) = raised_entry 0 p (states_held told faults h) e range (served.fits 0) k v.state in
    let same : w.state ≡ y = ap (λ (x : SlotState). node_in x) (sym new ∙ (served.leaves k ∙ (ap (λ x. slot_after_all p k x (own k served.acts)) old ∙ is))) in
    subst (λ (z : NodeState). IsRaised 256 v.state z) (sym same) up

pub at_most_more : {S : Type 0} (nodes ns : List NodeView) (sources ss : List (SourceView S)) (most : ℕ) → length ns ≡ length nodes
    → AreRaised (all_held nodes sources) (all_held ns ss) → AreAtMost nodes most → AreAtMost ns (most + 256)
at_most_more nodes ns sources ss most count raised few = record {
  seeds = λ k v at. (let low = slice_get_within ns k v at in let (x, was) = within nodes k (omega (arith, count, low)) in
      let a = (raised k x v was at).seeds_high in let b = few.seeds k x was in omega (arith, a, b));
  gives = λ k v at. (let low = slice_get_within ns k v at in let (x, was) = within nodes k (omega (arith, count, low)) in
      let a = (raised k x v was at).gives_high in let b = few.gives k x was in omega (arith, a, b));
}
