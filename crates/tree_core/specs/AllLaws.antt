-- A node, or a source, put in place of another.
-- This project's own.
use Rattle.std.proofs.Common.{◌≡◌, ◌≢◌, ◌<◌, ◌≤◌, ◌-◌, ℕ, List, length, refl, sym, ap, ◌∙◌, subst, inl, inr, arith}
use Rattle.std.proofs.lemmas.Bool.{cases_lt}
use Rattle.std.proofs.lemmas.Bool.Decides.{nat_tests}
use Rattle.std.specs.Prelude.{Bool, true, false, Option, Some, None, slice_get, IsSome, slice_set, nat_lt, if◌then◌else◌}
use Rattle.std.proofs.Math.ListN.{set, length-set}
use Rattle.std.proofs.lemmas.Option.{slice_get_past, slice_get-get_or}
use Rattle.std.proofs.lemmas.List.{get_or-set_same, get_or-set_other}
use Rattle.entropy_source.specs.Views.{SourceView}
use Rattle.rbg_nodes.specs.Views.{NodeView}
use Rattle.tree_core.specs.declared.all.All.{All}
use Rattle.tree_acts.specs.Hold.{PutsNode, PutsSource}
use Rattle.tree_core.specs.Whole.{source_behind}
use Rattle.tree_core.specs.AllHeld.{what_all, with_node_in, with_source_in}

abbrev full : Bool → Type 0
full true = Unit {0}
full false = ⊥

none_some : {A : Type 0} (o : Option A) → o ≡ None → IsSome o → ⊥
none_some {A} o e is = subst full (sym (subst (λ (x : Option A). IsSome x) e is)) tt

at_same : {A : Type 0} (xs : List A) (k : ℕ) (w : A) → IsSome (slice_get xs k) → slice_get (slice_set xs k w) k ≡ Some w
at_same {A} xs k w is = elim (cases_lt k (length xs)) [
  | inl less ↦ (let l : k < length (set xs k w) = subst (λ n. k < n) (sym (length-set xs k w)) less in slice_get-get_or (set xs k w) k w l ∙ ap Some (get_or-set_same xs k w w less))
  | inr ge ↦ absurd (none_some (slice_get xs k) (slice_get_past xs k ge) is)
]

at_else : {A : Type 0} (xs : List A) (j k : ℕ) (w : A) → j ≢ k → slice_get (slice_set xs k w) j ≡ slice_get xs j
at_else xs j k w ne = elim (cases_lt j (length xs)) [
  | inl less ↦ (let l : j < length (set xs k w) = subst (λ n. j < n) (sym (length-set xs k w)) less in
      slice_get-get_or (set xs k w) j w l ∙ (ap Some (get_or-set_other xs k j w w ne) ∙ sym (slice_get-get_or xs j w less)))
  | inr ge ↦ (let l : length (set xs k w) ≤ j = subst (λ n. n ≤ j) (sym (length-set xs k w)) ge in slice_get_past (set xs k w) j l ∙ sym (slice_get_past xs j ge))
]

pub node_put : {S : Type 0} (h : All S) (k : ℕ) (w : NodeView) → IsSome ((what_all h).nodes k) → PutsNode (what_all h) (what_all (with_node_in h k w)) k w
node_put h k w is = record {
  there = at_same h.nodes.items k w is;
  others = λ j ne. at_else h.nodes.items j k w ne;
  sources = λ j. ap (λ n. source_behind n h.sources.items j) (length-set h.nodes.items k w);
}

pub source_put : {S : Type 0} (h : All S) (k : ℕ) (w : SourceView S) → IsSome ((what_all h).sources k) → PutsSource (what_all h) (what_all (with_source_in h k w)) k w
source_put {S} h k w is = record { there = there (nat_lt k (length h.nodes.items)) is; others = λ j ne. apart j ne (nat_lt j (length h.nodes.items)) refl (nat_lt k (length h.nodes.items)) refl is; nodes = λ j. refl } where
  there : (b : Bool) → IsSome (if b then None else slice_get h.sources.items (k - length h.nodes.items))
      → (if b then None else slice_get (slice_set h.sources.items (k - length h.nodes.items) w) (k - length h.nodes.items)) ≡ Some w
  there true is = absurd (none_some {A = SourceView S} None refl is)
  there false is = at_same h.sources.items (k - length h.nodes.items) w is

  apart : (j : ℕ) → j ≢ k → (a : Bool) → nat_lt j (length h.nodes.items) ≡ a → (b : Bool) → nat_lt k (length h.nodes.items) ≡ b
      → IsSome (if b then None else slice_get h.sources.items (k - length h.nodes.items))
      → (if a then None else slice_get (slice_set h.sources.items (k - length h.nodes.items) w) (j - length h.nodes.items))
      ≡ (if a then None else slice_get h.sources.items (j - length h.nodes.items))
  apart j ne true e b f is = refl
  apart j ne false e true f is = absurd (none_some {A = SourceView S} None refl is)
  apart j ne false e false f is =
      let l : length h.nodes.items ≤ j = grind (arith, nat_tests) in
      let m : length h.nodes.items ≤ k = grind (arith, nat_tests) in
      at_else h.sources.items (j - length h.nodes.items) (k - length h.nodes.items) w (λ same. ne (omega arith))

pub some_within : {A : Type 0} (xs : List A) (k : ℕ) → IsSome (slice_get xs k) → k < length xs
some_within {A} xs k is = elim (cases_lt k (length xs)) [
  | inl less ↦ less
  | inr ge ↦ absurd (none_some (slice_get xs k) (slice_get_past xs k ge) is)
]
