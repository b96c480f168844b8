-- The walk of `next` along a chain, in states that agree with what is held.
use Rattle.std.proofs.Common.{◌≡◌, ◌≢◌, ◌∙◌, ◌∷◌, ◌-◌, ℕ, List, [], Bool, true, false, refl, sym, ap, subst, arith, inl, inr}
use Rattle.std.specs.Prelude.{◌==◌, ◌||◌, ◌⊎◌, Option, Some}
use Rattle.std.proofs.lemmas.Bool.Decides.{nat_tests}
use Rattle.tree_config.specs.Tree.{Tree, parent_in}
use Rattle.entropy_source.specs.Views.{SourceView}
use Rattle.tree_acts.specs.declared.step.Step.{Step}
use Rattle.tree_rules.specs.Slots.{node_plan}
use Rattle.tree_rules.specs.History.{States, SlotState, has}
use Rattle.tree_rules.specs.Links.{Gives, Link, link, asks_parent, seeding_len}
use Rattle.tree_acts.specs.Plain.{link_of, task_in}
use Rattle.tree_rules.proofs.Leaves.{slots}
use Rattle.tree_acts.specs.Hold.{Hold, IsHeld, AreHeld, states_held}
use Rattle.tree_acts.specs.Chained.{links_from}
use Rattle.tree_core.specs.Names.{AreStates, IsStep, Walks}
use Rattle.tree_core.specs.declared.step.Reached.{Reached}
use Rattle.tree_core.specs.declared.step.Reached.TheVariants.{Missing, End}
use Rattle.tree_acts.proofs.Over.{links_step}
use Rattle.tree_acts.proofs.Rising.{only, step_asks}

is_same : (a b : ℕ) → (a == b) ≡ true → a ≡ b
is_same a b h = grind (arith, nat_tests)

or_cases : (a b : Bool) → (a || b) ≡ true → (a ≡ true) ⊎ (b ≡ true)
or_cases true b h = inl refl
or_cases false b h = inr h

pub held_cons : {V : Type 0} (h : Hold V) (n : ℕ) (xs : List ℕ) → IsHeld h n → AreHeld h xs → AreHeld h (n ∷ xs)
held_cons h n xs a b k i = elim (or_cases (n == k) (has xs k) i) [
  | inl e ↦ subst (λ k. IsHeld h k) (is_same n k e) a
  | inr e ↦ b k e
]

module _ {S : Type 0} (told : S → Option (List ℕ)) (faults : S → ℕ) (p : Tree) (h : Hold (SourceView S)) (pr : Bool) (x : Step) (far : ℕ)
    (is : IsStep told faults p h x) (s : States) (agree : AreStates told faults h s) where
  here : s x.slot ≡ states_held told faults h x.slot
  here = agree.at x.slot (inl is.there)

  asks_at : (b : Bool) → asks_parent pr (link_of x (node_plan p x.slot).origin) ≡ b → asks_parent pr (link p x.slot (task_in x.asked) (s x.slot)) ≡ b
  asks_at b e = ap (λ (v : SlotState). asks_parent pr (link p x.slot (task_in x.asked) v)) here
      ∙ step_asks told faults p pr (task_in x.asked) (states_held told faults h x.slot) x.slot x.slot (link_of x (node_plan p x.slot).origin) refl (is.at (node_plan p x.slot).origin) b e

  pub walk_ends : (far ≡ 0) ⊎ (asks_parent pr (link_of x (node_plan p x.slot).origin) ≡ false)
      → Walks told faults p h s (links_from p s pr (task_in x.asked) far x.slot) (End x)
  walk_ends o =
      let ends : (far ≡ 0) ⊎ (asks_parent pr (link p x.slot (task_in x.asked) (s x.slot)) ≡ false) = elim o [
        | inl e ↦ inl e
        | inr e ↦ inr (asks_at false e)
      ] in
      subst (λ ls. Walks told faults p h s ls (End x)) (sym (only told faults p s pr (task_in x.asked) far x.slot ends))
      (held_cons h x.slot [] (inl is.there) (λ k i. cc), refl)

  module _ (q : ℕ) (more : far ≢ 0) (asks : asks_parent pr (link_of x (node_plan p x.slot).origin) ≡ true) (parent : parent_in (node_plan p x.slot).origin ≡ Some q) where
    step : links_from p s pr (task_in x.asked) far x.slot
        ≡ link p x.slot (task_in x.asked) (s x.slot) ∷ links_from p s pr (Gives (seeding_len (link p x.slot (task_in x.asked) (s x.slot)))) (far - 1) q
    step = links_step p s pr (task_in x.asked) far x.slot q more (asks_at true asks) parent

    pub walk_misses : (IsHeld h q → ⊥) → Walks told faults p h s (links_from p s pr (task_in x.asked) far x.slot) (Missing q)
    walk_misses none = subst (λ ls. Walks told faults p h s ls (Missing q)) (sym step) (inr (inl is.there, inl (refl, none)))

    pub walk_on : (len : ℕ) → len ≡ seeding_len (link_of x (node_plan p x.slot).origin) → (w : Reached) → Walks told faults p h s (links_from p s pr (Gives len) (far - 1) q) w
        → Walks told faults p h s (links_from p s pr (task_in x.asked) far x.slot) w
    walk_on len e w h' =
        let l : len ≡ seeding_len (link p x.slot (task_in x.asked) (s x.slot)) =
        e ∙ (ap (λ (l : Link). seeding_len l) (is.at (node_plan p x.slot).origin) ∙ ap (λ (v : SlotState). seeding_len (link p x.slot (task_in x.asked) v)) (sym here)) in
        subst (λ ls. Walks told faults p h s ls w) (sym step) (by w (subst (λ k. Walks told faults p h s (links_from p s pr (Gives k) (far - 1) q) w) l h')) where
          up : List Link
          up = links_from p s pr (Gives (seeding_len (link p x.slot (task_in x.asked) (s x.slot)))) (far - 1) q

          by : (w : Reached) → Walks told faults p h s up w → Walks told faults p h s (link p x.slot (task_in x.asked) (s x.slot) ∷ up) w
          by (Missing k) m = inr (inl is.there, m)
          by (End y) (a, b) = (held_cons h x.slot (slots up) (inl is.there) a, b)
