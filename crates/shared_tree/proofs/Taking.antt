-- The turns that a call takes.
use Rattle.std.proofs.Common.{◌≡◌, ℕ, List, [], ◌∷◌, ◌++◌, refl, sym, ap, ◌∙◌, subst, append-nil, append_assoc, true}
use Rattle.std.proofs.lemmas.List.Elements.{All-append, All-cons, All-nil}
use Rattle.std.specs.Prelude.{Option}
use Rattle.turn_table.specs.declared.view.View.{View}
use Rattle.turn_table.specs.declared.view.Taken.{Taken}
use Rattle.turn_table.specs.Views.{freed}
use Rattle.turn_table.specs.Calls.{Meets, Takes}
use Rattle.tree_config.specs.Tree.{Tree}
use Rattle.tree_rules.specs.History.{has}
use Rattle.tree_rules.specs.Slots.{path}
use Rattle.shared_tree.specs.declared.machine.SlotValue.{SlotValue}
use Rattle.shared_tree.specs.Machine.{tree_meaning}
use Rattle.shared_tree.specs.Answers.{TakesFor}
use Rattle.shared_tree.specs.Carries.{TakesLater}

module _ (p : Tree) (t : ℕ) where
  abbrev IsFor : Taken → Type 0
  IsFor x = (has (path p t) x.slot ≡ true) × (x.target ≡ t)

  pub takes_none : (l m : List Taken) → m ≡ l → TakesFor p t l m
  takes_none l m e = record { turns = []; grows = e ∙ sym (append-nil l); each = All-nil IsFor }

  pub takes_on : (l m n : List Taken) → TakesFor p t l m → TakesFor p t m n → TakesFor p t l n
  takes_on l m n a b = record {
    turns = a.turns ++ b.turns;
    grows = b.grows ∙ (ap (λ (x : List Taken). x ++ b.turns) a.grows ∙ append_assoc l a.turns b.turns);
    each = All-append IsFor a.turns b.turns a.each b.each;
  }

  -- what a call took before a turn was given back
  pub takes_left : (k : ℕ) (v u w x : View) → TakesFor p t v.taken u.taken → TakesFor p t u.taken w.taken → x ≡ freed k w → TakesFor p t v.taken x.taken
  takes_left k v u w x a b is = subst (λ (z : View). TakesFor p t v.taken z.taken) (sym is) (takes_on v.taken u.taken w.taken a b)

  module _ {S : Type 0} (told : S → Option (List ℕ)) (faults : S → ℕ) (k target : ℕ) where
    pub takes_met : (holder : ℕ) (v w : View) → Meets (tree_meaning told faults) k target holder v w → TakesFor p t v.taken w.taken
    takes_met holder v w m = takes_none v.taken w.taken (ap (λ (z : View). z.taken) m.after)

    module _ (on : has (path p t) k ≡ true) (same : target ≡ t) where
      pub takes_one : (x : SlotValue S) (v w : View) → Takes (tree_meaning told faults) k target x v w → TakesFor p t v.taken w.taken
      takes_one x v w m = subst (λ (z : View). TakesFor p t v.taken z.taken) (sym m.after) record {
        turns = record { slot = k; target = target } ∷ [];
        grows = refl;
        each = All-cons IsFor (record { slot = k; target = target }) [] (on, same) (All-nil IsFor);
      }

      pub takes_one_later : (x : SlotValue S) (v w : View) → TakesLater told faults k target x v w → TakesFor p t v.taken w.taken
      takes_one_later x v w l = takes_on v.taken l.between.taken w.taken (takes_none v.taken l.between.taken l.stays.taken_is) (takes_one x l.between w l.takes)
