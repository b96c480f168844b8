-- What the lists of a table's history are lists of.
use Rattle.std.proofs.Common.{◌≡◌, ℕ, List, [], ◌∷◌, refl, sym, ◌∙◌, subst}
use Rattle.std.specs.Prelude.{Option}
use Rattle.turn_table.specs.History as table
use Rattle.tree_rules.specs.History.{Entry, Opening, SlotState, opened, states_after}
use Rattle.tree_rules.specs.Openings.{IsOpening, IsHistory, states_behind}
use Rattle.tree_rules.specs.Stands.{SlotView, StandsAt, StandsFor}
use Rattle.tree_rules.specs.Table.{opening_list, start, after_entry, Tells, FitsLists, LegalLists, lists_after}
use Rattle.tree_rules.proofs.Listing.{reads, slot_one, opening_one}
use Rattle.shared_tree.specs.Answers.{lists_of}

legal_lists : (l : List ℕ) (s : ℕ → List ℕ) (h : List (List ℕ)) → table.Legal (after_entry l) (FitsLists l) s h → LegalLists l s h
legal_lists l s [] x = tt
legal_lists l s (e ∷ h) x = (x.0, legal_lists l (λ k. after_entry l k (s k) e) h x.1)

lists_same : (l : List ℕ) (s : ℕ → List ℕ) (h : List (List ℕ)) (k : ℕ) → lists_after l s h k ≡ table.states (after_entry l) s h k
lists_same l s [] k = refl
lists_same l s (e ∷ h) k = lists_same l (λ j. after_entry l j (s j) e) h k

-- a history of the table, as entries
pub record Read (f : Opening) (o : List Entry) (h : List (List ℕ)) : Type 0 where
  pub entries : List Entry
  pub are : h ≡ lists_of entries
  pub history : IsHistory f o entries
  pub tell : (k : ℕ) → Tells f o k (table.states (after_entry (opening_list f o)) (start (opening_list f o)) h k) (states_behind f o entries k)

pub read : (f : Opening) (o : List Entry) (h : List (List ℕ)) → IsOpening f o
    → table.Legal (after_entry (opening_list f o)) (FitsLists (opening_list f o)) (start (opening_list f o)) h → Read f o h
read f o h is legal =
    let l = opening_list f o in
    let r = reads f o (start l) (states_after f.plan (opened f) o) h (λ k. record { touched = []; list_is = refl; state_is = refl }) (legal_lists l (start l) h legal) in
    record {
      entries = r.entries;
      are = r.are;
      history = record { opening = is; legal = r.legal };
      tell = λ k. subst (λ (z : List ℕ). Tells f o k z (states_behind f o r.entries k)) (lists_same l (start l) h k) (r.tell k);
    }

module _ {S : Type 0} (told : S → Option (List ℕ)) (faults : S → ℕ) where
  -- what stands for the list of a slot is of that slot, over the same opening
  pub stands_at : (f : Opening) (o : List Entry) (k : ℕ) (s : List ℕ) (y : SlotState) (x : SlotView S) → Tells f o k s y → StandsFor told faults x s → StandsAt told faults f o k s x
  stands_at f o k s y x tell stand =
      let one = slot_one stand.k k (opening_list stand.f stand.o) (opening_list f o) stand.at.tells.touched tell.touched (sym stand.at.tells.list_is ∙ tell.list_is) in
      let two = opening_one stand.f f stand.o o one.1 in
      at (stand.f) f stand.o o stand.k k s x two.0 two.1 one.0 stand.at where
        at : (f' f : Opening) (o' o : List Entry) (k' k : ℕ) (s : List ℕ) (x : SlotView S) → f' ≡ f → o' ≡ o → k' ≡ k → StandsAt told faults f' o' k' s x → StandsAt told faults f o k s x
        at f' f o' o k' k s x a b c t = subst (λ (z : Opening × (List Entry × ℕ)). StandsAt told faults z.0 z.1.0 z.1.1 s x) (λ i. (a i, (b i, c i))) t
