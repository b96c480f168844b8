-- The work of a node on a source, from its draw to its part.
use Rattle.std.proofs.Common.{◌≡◌, ◌∙◌, ◌∷◌, ◌+◌, ◌<◌, ◌≤◌, ◌^◌, ℕ, List, [], length, Bool, true, false, refl, sym, ap, subst, arith, inl, inr}
use Rattle.std.specs.Prelude.{◌==◌, Option, Some, None, IsSome, IfSome, is_some, not}
use Rattle.std.proofs.lemmas.Bool.Decides.{nat_tests}
use Rattle.tree_config.specs.Tree.{Tree}
use Rattle.entropy_source.specs.Views.{SourceView}
use Rattle.entropy_source.specs.declared.answers.SourceRefusal.{SourceRefusal}
use Rattle.entropy_source.specs.declared.answers.SourceMode.TheVariants.{Running}
use Rattle.entropy_source.specs.Source.{need_of}
use Rattle.rbg_nodes.specs.Views.{NodeView}
use Rattle.tree_rules.specs.Slots.{source_row, source_slot}
use Rattle.tree_rules.specs.History.{slot_after_all, has}
use Rattle.tree_rules.specs.Links.{Task, Link, wanted, starts}
use Rattle.tree_rules.specs.Chain.{SourceLink, source_of, source_at, slots_of_source}
use Rattle.tree_rules.specs.Works.{task_work}
use Rattle.tree_rules.proofs.Near.{has_first, has_rest}
use Rattle.tree_acts.specs.Hold.{Hold, IsHeld, states_held}
use Rattle.tree_acts.specs.Chained.{Ready}
use Rattle.tree_acts.specs.Did.{Did}
use Rattle.tree_acts.specs.Drew.{Drew, Runs}
use Rattle.tree_acts.specs.Ends.{SourceWorked}
use Rattle.tree_acts.proofs.Doing.{did_none, own_else}
use Rattle.tree_acts.proofs.Rising.{node_there, alive_is}

module _ {S : Type 0} (told : S → Option (List ℕ)) (faults : S → ℕ) (p : Tree) where
  -- a draw leaves nodes alone
  pub drew_still : (reads : S → ℕ → Option (List ℕ) → S → Type 0) (h t : Hold (SourceView S)) (j n : ℕ) (xs : List ℕ) (r : Option SourceRefusal) (ss : List (List ℕ)) → n < length p.nodes
      → Drew told faults reads p h t j xs r ss → states_held told faults t n ≡ states_held told faults h n
  drew_still reads h t j n xs r ss low d =
      let off : ((length p.nodes + j) == n) ≡ false = grind (arith, nat_tests) in
      d.did.states n ∙ ap (λ z. slot_after_all p n (states_held told faults h n) z) (own_else n (source_at p (states_held told faults h) j) d.acts off)

  pub runs_here : (h : Hold (SourceView S)) (pr : Bool) (task : Task) (n j string out spare : ℕ) (l : Link) → source_of p (states_held told faults h) pr l ≡ Some (source_at p (states_held told faults h) j)
      → Ready told faults p h pr task n (l ∷ []) string out spare → Runs told faults p h j (need_of (source_row p j) (wanted pr l))
  runs_here h pr task n j string out spare l on r =
      let both = subst (λ (o : Option SourceLink). IfSome o (λ t. (t.state.mode ≡ Running) × (t.state.taken + need_of t.row (wanted pr l) ≤ 2 ^ 60))) on r.able.runs in
      record { mode = both.0; room = both.1 }

  pub source_there : (h : Hold (SourceView S)) (pr : Bool) (task : Task) (n j string out spare : ℕ) (l : Link) → source_of p (states_held told faults h) pr l ≡ Some (source_at p (states_held told faults h) j)
      → Ready told faults p h pr task n (l ∷ []) string out spare → IsSome (h.sources (source_slot p j))
  source_there h pr task n j string out spare l on r =
      let held : IsHeld h (source_slot p j) = r.held (source_slot p j)
      (has_rest l.slot (slots_of_source (source_of p (states_held told faults h) pr l)) (source_slot p j)
      (subst (λ (o : Option SourceLink). has (slots_of_source o) (source_slot p j) ≡ true) (sym on) (has_first (source_slot p j) []))) in
      elim held [
        | inl is ↦ by (h.nodes (source_slot p j)) refl is
        | inr is ↦ is
      ] where
        by : (o : Option NodeView) → h.nodes (source_slot p j) ≡ o → IsSome o → IsSome (h.sources (source_slot p j))
        by (Some v) e is = absurd (let a = (r.plan.node (source_slot p j) v e).low in omega (arith, a))
        by None e is = absurd (let f : false ≡ true = is in cc)

  pub first_here : (h : Hold (SourceView S)) (pr : Bool) (task : Task) (n string out spare : ℕ) (l : Link) → l.slot ≡ n
      → Ready told faults p h pr task n (l ∷ []) string out spare → IsSome (h.nodes n)
  first_here h pr task n string out spare l e r =
      node_there told faults p h n r.plan r.planned (subst (λ k. IsHeld h k) e (r.held l.slot (has_first l.slot _)))

  pub alive_here : (h : Hold (SourceView S)) (pr : Bool) (task : Task) (n string out spare : ℕ) (l : Link)
      → Ready told faults p h pr task n (l ∷ []) string out spare → l.state.live ≡ not (starts l.task)
  alive_here h pr task n string out spare l r = alive_is told faults p pr l r.able.alive r.able.dead

  pub sw_refused : (reads : S → ℕ → Option (List ℕ) → S → Type 0) (h t : Hold (SourceView S)) (pr : Bool) (string bytes : List ℕ) (l : Link) (j : ℕ) (r : Option SourceRefusal) (ss : List (List ℕ)) → is_some r ≡ true
      → Drew told faults reads p h t j (wanted pr l) r ss → SourceWorked told faults reads p h t pr string l j r bytes
  sw_refused reads h t pr string bytes l j None ss is d = cc
  sw_refused reads h t pr string bytes l j (Some why) ss is d = record { mid = t; strings = ss; drew = d; acts = []; did = did_none told faults p reads t; works = refl }

  pub sw_done : (reads : S → ℕ → Option (List ℕ) → S → Type 0) (h t u : Hold (SourceView S)) (pr : Bool) (string bytes : List ℕ) (l : Link) (j : ℕ) (ss : List (List ℕ))
      → Drew told faults reads p h t j (wanted pr l) None ss → Did told faults reads p t u (task_work pr ss string l [] l.task).acts → bytes ≡ (task_work pr ss string l [] l.task).bytes
      → SourceWorked told faults reads p h u pr string l j None bytes
  sw_done reads h t u pr string bytes l j ss d did is = record { mid = t; strings = ss; drew = d; acts = (task_work pr ss string l [] l.task).acts; did = did; works = (refl, is) }
