-- Where one view has all numbers and no turn, every turn is free, all entries are its own, and the others have none.
use Rattle.std.proofs.Common.{◌≡◌, ℕ, zero, suc, ◌+◌, ◌<◌, ◌≤◌, ◌≢◌, ⊎_elim, List, [], ◌∷◌, map, length, length-append, get_or, sym, refl, ap, ◌∙◌, subst, arith, Bool, true, false}
use mathlib.Core.Logic.{dite}
use mathlib.Core.Option.{some, some-injective, some-ne-none}
use native.Mathlib.Decide.{ℕ_discrete}
use lib.ListN.{get_elem?}
use Rattle.std.specs.declared.option.Option.{Option}
use Rattle.atomic_table.specs.Table.{State, Final, Seen}
use Rattle.std.specs.declared.option.Option.TheVariants.{Some}
use Rattle.turn_table.proofs.Totals.{one_of, two_of, nothing_listed}
use Rattle.turn_table.proofs.Keeps.{turned_of}
use Rattle.turn_table.proofs.Commits.{numbers_live, made_live}
use Rattle.turn_table.proofs.Lists.{if_false, few_entries}
use Rattle.turn_table.proofs.Joins.{length_map, none_of_zero}
use Rattle.turn_table.specs.declared.view.View.{View}
use Rattle.turn_table.specs.declared.view.Ended.{Ended}
use Rattle.turn_table.specs.Meaning.{Meaning}
use Rattle.turn_table.specs.History.{Entry, of_caller, state_of, LegalOver}
use Rattle.turn_table.specs.TurnRule.{total, times, once_to, made_by_ended, made, own_number, number_of_ended, numbers, IsFree, IsListed, TurnRule}
use Rattle.turn_table.specs.Kept.{Kept}
use Rattle.turn_table.specs.Closes.{IsLast, Leaves}

zero_of : (n : ℕ) → length (own_number n) ≡ 0 → n ≡ 0
zero_of zero e = refl
zero_of (suc n) e = absurd (let b : 0 + 1 ≡ 0 = e in omega arith)

word_is : (ws : List ℕ) (n : ℕ) → get_elem? ws 0 ≡ some n → get_or ws 0 0 ≡ n
word_is [] n e = absurd (some-ne-none n (sym e))
word_is (x ∷ xs) n e = some-injective x n e

no_number : (u : View) → u.live ≡ true → length (numbers u) ≡ 0 → u.number ≡ 0
no_number u live e = let a = ap (λ (l : List ℕ). length l) (numbers_live u live) in let b = length-append (own_number u.number) (map number_of_ended u.ended) in zero_of u.number (omega arith)

total_none : (f : View → ℕ) (vs : List View) → ((j : ℕ) (u : View) → get_elem? vs j ≡ some u → f u ≡ 0) → total f vs ≡ 0
total_none f [] none = refl
total_none f (x ∷ xs) none = let a = none 0 x refl in let b = total_none f xs (λ j u e. none (suc j) u e) in omega arith

-- where the others have nothing, the total is what one has
total_one : (f : View → ℕ) (vs : List View) (i : ℕ) (v : View) → get_elem? vs i ≡ some v → ((j : ℕ) (u : View) → j ≢ i → get_elem? vs j ≡ some u → f u ≡ 0) → total f vs ≡ f v
total_one f [] i v at none = absurd (some-ne-none v (sym at))
total_one f (x ∷ xs) zero v at none = let e : f x ≡ f v = ap f (some-injective x v at) in let b = total_none f xs (λ j u a. none (suc j) u (λ z. omega arith) a) in omega arith
total_one f (x ∷ xs) (suc i) v at none = let a = none 0 x (λ z. omega arith) refl in let b = total_one f xs i v at (λ j u ne a. none (suc j) u (λ z. ne (omega arith)) a) in omega arith

times_none : (n : ℕ) (xs : List ℕ) → length xs ≡ 0 → times n xs ≡ 0
times_none n [] e = refl
times_none n (x ∷ xs) e = absurd (omega arith)

ended_none : (xs : List Ended) → length xs ≡ 0 → made_by_ended xs ≡ 0
ended_none [] e = refl
ended_none (x ∷ xs) e = absurd (omega arith)

-- a view with no number has no entry
made_none : (u : View) (b : Bool) → u.live ≡ b → length (numbers u) ≡ 0 → (u.live ≡ true → length u.mine ≡ 0) → made u ≡ 0
made_none u true live e none = let a = made_live u live in let l = none live in let b = ap (λ (l : List ℕ). length l) (numbers_live u live) in
    let c = length-append (own_number u.number) (map number_of_ended u.ended) in let d = length_map number_of_ended u.ended in let n = ended_none u.ended (omega arith) in omega arith
made_none u false dead e none = if_false u.live (length u.mine + made_by_ended u.ended) 0 dead

module _ {S : Type 0} (M : Meaning S) where
  -- the others have no number
  none_else : (s : State (Option S) View) (r : TurnRule M s) (id : ℕ) (v : View) → get_elem? s.views id ≡ some v → v.live ≡ true → v.callers ≤ length (numbers v)
      → (j : ℕ) (u : View) → j ≢ id → get_elem? s.views j ≡ some u → length (numbers u) ≡ 0
  none_else s r id v at live all j u ne at' = let c = (r.knows id v at live).callers_is in let m = r.many in let p = r.parts in let two = two_of (λ u. length (numbers u)) s.views j id u v at' at ne in omega arith

  -- so many numbers were drawn
  all_drawn : (s : State (Option S) View) (r : TurnRule M s) (id : ℕ) (v : View) → get_elem? s.views id ≡ some v → v.live ≡ true → v.callers ≤ length (numbers v) → get_or s.words 1 0 ≡ v.callers
  all_drawn s r id v at live all = let c = (r.knows id v at live).callers_is in let m = r.many in let p = r.parts in let one = one_of (λ u. length (numbers u)) s.views id v at in omega arith

  numbers_whole : (s : State (Option S) View) (r : TurnRule M s) (id : ℕ) (v : View) → get_elem? s.views id ≡ some v → v.live ≡ true → v.callers ≤ length (numbers v) → (n : ℕ) → times n (numbers v) ≡ once_to n v.callers
  numbers_whole s r id v at live all n = sym (total_one (λ u. times n (numbers u)) s.views id v at (λ j u ne a. times_none n (numbers u) (none_else s r id v at live all j u ne a)))
      ∙ (r.once n ∙ ap (once_to n) (all_drawn s r id v at live all))

  made_whole : (s : State (Option S) View) (r : TurnRule M s) (id : ℕ) (v : View) → get_elem? s.views id ≡ some v → v.live ≡ true → v.callers ≤ length (numbers v) → length r.history ≡ made v
  made_whole s r id v at live all = sym r.shared_out ∙ total_one made s.views id v at (λ j u ne a. let z = none_else s r id v at live all j u ne a in
      made_none u u.live refl z (λ l. ap (λ (l : List Entry). length l) ((r.knows j u a l).mine ∙ (ap (λ (n : ℕ). of_caller n r.history) (no_number u l z) ∙ none_of_zero r.history (λ i e b. (r.drawn i e b).0)))))

  pub all_free : (s : State (Option S) View) (r : TurnRule M s) (id : ℕ) (v : View) → get_elem? s.views id ≡ some v → v.live ≡ true → v.leases ≡ [] → v.callers ≤ length (numbers v)
      → (k : ℕ) → k < length s.homes → IsFree M r.opening r.history s.words s.homes k
  all_free s r id v at live nothing all k inside = let kn = r.knows id v at live in let c = kn.callers_is in let m = r.many in let p = r.parts in ⊎_elim (λ f. f)
      (λ (t : IsListed s.views k). absurd (dite (ℕ_discrete t.0 id)
      (λ e. nothing_listed v.leases nothing t.2 t.3 (subst (λ (u : View). get_elem? u.leases t.2 ≡ some t.3) (some-injective t.1 v (sym t.4 ∙ (ap (get_elem? s.views) e ∙ at))) t.6))
      (λ ne. let two = two_of (λ u. length (numbers u)) s.views t.0 id t.1 v t.4 at ne in let z : length (numbers t.1) ≡ 0 = omega arith in
      nothing_listed t.1.leases ((r.knows t.0 t.1 t.4 t.5).unnumbered (no_number t.1 t.5 z)) t.2 t.3 t.6)))
      (r.turns k inside)

  pub ends : (given : ℕ × List (Option S)) (id : ℕ) (v : View) (ws : List ℕ) (xs : List (Option S)) (calls : ℕ) → IsLast v → get_elem? ws 0 ≡ some calls
      → Final (Seen (Kept M given) id v) ws xs → Leaves M v calls xs
  ends given id v ws xs calls last word f = let s = f.0 in let at = f.1.1 in let r = turned_of M given s id v f.1.0 at last.live in let kn = r.knows id v at last.live in let o = kn.opening_is in
      let c : calls ≡ length r.history = sym (word_is ws calls word) ∙ (ap (λ (l : List ℕ). get_or l 0 0) (sym f.2) ∙ r.counted) in record {
        history = r.history;
        legal = subst (λ (z : List ℕ). LegalOver M z r.history) (sym o) r.legal;
        length_is = c;
        sum_is = c ∙ made_whole s r id v at last.live last.all;
        numbers_are = numbers_whole s r id v at last.live last.all;
        few = let l = few_entries (get_or s.words 1 0) r.history r.drawn r.bounded in let p = r.parts in let q = r.few in omega arith;
        seen = kn.seen;
        mine = kn.mine;
        ended = kn.ended;
        olds = kn.olds;
        values_are = λ k inside. let w = all_free s r id v at last.live last.no_turn last.all k (subst (λ (n : ℕ). k < n) (sym f.3) inside) in
            (w.1.0, f.4 k (Some w.1.0) w.1.1, subst (λ (z : List ℕ). M.stands w.1.0 (state_of M z r.history k)) (sym o) w.1.2);
      }
