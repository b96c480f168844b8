-- A look at the history, and a take that wins or finds the turn held.
use Rattle.std.proofs.Common.{◌≡◌, ℕ, suc, ◌+◌, ◌*◌, ◌-◌, ◌<◌, ◌≢◌, inr, ⊎_elim, eqb, List, [], ◌∷◌, ◌++◌, length, get_or, set, sym, refl, ap, ◌∙◌, subst, arith, length-set, get_or-set_same, true, true≢false}
use mathlib.Core.Option.{none, some, some-injective}
use lib.ListN.{get_elem?}
use prog.Atomic.{either}
use Rattle.std.specs.declared.option.Option.{Option}
use Rattle.std.specs.declared.option.Option.TheVariants.{Some}
use Rattle.atomic_table.specs.Table.{State, Me, step, Act, keeps, takes, Valid, carried_after, stepped, Allows}
use Rattle.atomic_table.proofs.Lists.{set_here, at_snoc, at_last, at_longer, exchanged}
use Rattle.turn_table.specs.declared.view.View.{View}
use Rattle.turn_table.specs.declared.view.Lease.{Lease}
use Rattle.turn_table.specs.Meaning.{Meaning}
use Rattle.turn_table.specs.History.{state_of}
use Rattle.turn_table.specs.Views.{turn_word, with_seen, with_leases, with_taken, lease, HasTurn, met_at}
use Rattle.turn_table.specs.TurnRule.{IsLeased, Knows, IsFree, IsListed, TurnRule}
use Rattle.turn_table.specs.Kept.{Kept}
use Rattle.turn_table.specs.Steps.{looked, glanced, taken}
use Rattle.turn_table.proofs.Totals.{inside_of, nothing_listed, append_none}
use Rattle.turn_table.proofs.Keeps.{K, turned_of, quiet, loaded, sees, finds_at, Others, held_else, retold, holder_drawn, apart}

module _ {S : Type 0} (M : Meaning S) where
  pub glances : (values : ℕ × List (Option S)) (slots id i : ℕ) (me : Me (Option S) View) → me.0.live ≡ true
      → Allows (Kept M values) slots id me i (λ n. n) (glanced M (step slots i 0 0 none) me)
  glances values slots id i me live s kept _ at _ = let r = turned_of M values s id me.0 kept at live in let k = r.knows id me.0 at live in let w : View = with_seen r.history me.0 in (
    w,
    keeps,
    tt,
    inr (loaded M s i id me.1 w (quiet M s r id me.0 w at live (sees M s r me.0 k) (λ i t e. (i, t, e, refl)) (λ _. refl) refl refl refl)),
    (r.history, finds_at M s r me.0 k, refl),
  )

  pub looks : (values : ℕ × List (Option S)) (slots id : ℕ) (me : Me (Option S) View) → me.0.live ≡ true
      → Allows (Kept M values) slots id me 0 (λ n. n) (looked M (step slots 0 0 0 none) me)
  looks values slots id me live s kept _ at _ = let r = turned_of M values s id me.0 kept at live in let k = r.knows id me.0 at live in let w : View = with_seen r.history me.0 in (
    w,
    keeps,
    tt,
    inr (loaded M s 0 id me.1 w (quiet M s r id me.0 w at live (sees M s r me.0 k) (λ i t e. (i, t, e, refl)) (λ _. refl) refl refl refl)),
    (r.history, finds_at M s r me.0 k, r.counted, refl),
  )

  module _ (values : ℕ × List (Option S)) (slots id : ℕ) (me : Me (Option S) View) (k target : ℕ) where
    abbrev new : ℕ
    new = turn_word target me.0.number

    abbrev Won : (s : State (Option S) View) → ℕ → Type 0
    Won s m = (w : View) × (a : Act (Option S)) × Valid s.homes me.1 a × Kept M values (stepped s (8 + 8 * k) m id me.1 w a)
        × taken M (step slots (8 + 8 * k) 0 new none) me (get_or s.words (8 + 8 * k) 0) (w, carried_after me.1 a)

    take_wins : (s : State (Option S) View) (r : TurnRule M s) → k < length s.homes → get_elem? s.views id ≡ some me.0 → me.0.live ≡ true → me.0.number ≢ 0 → target < 65536 → M.path me.0.opening k target → (HasTurn me.0 k → ⊥)
        → get_or s.words (8 + 8 * k) 0 ≡ 0 → Won s new
    take_wins s r inside at live numbered small on free zero_word =
        let kn = r.knows id me.0 at live in
        let st : List ℕ = state_of M me.0.opening r.history k in
        let is_st : st ≡ state_of M r.opening r.history k = ap (λ (o : List ℕ). state_of M o r.history k) kn.opening_is in
        let h : Lease = lease k target st true in
        let w : View = with_seen r.history (with_taken (record { slot = k; target = target }) (with_leases (me.0.leases ++ h ∷ []) me.0)) in
        let wide = r.wide in
        let old : (i : ℕ) (t : Lease) → get_elem? me.0.leases i ≡ some t → t.slot ≢ k = λ i t e o. free (i, t, e, o) in
        let mine : IsLeased M r.opening r.history (set s.words (8 + 8 * k) new) (set s.homes k none) me.0.number h = record {
          inside = subst (λ (z : ℕ). k < z) (sym (length-set s.homes k none)) inside;
          target = small;
          word = get_or-set_same s.words (8 + 8 * k) new 0 (omega arith);
          state_is = is_st;
          on_path = subst (λ (o : List ℕ). M.path o k target) kn.opening_is on;
          home = λ o. absurd (true≢false o);
        } in
        let know : Knows M r.opening r.callers r.history (set s.words (8 + 8 * k) new) (set s.homes k none) w = record {
          old = kn.old;
          opening_is = kn.opening_is;
          callers_is = kn.callers_is;
          seen = ([], sym (append_none r.history));
          olds = kn.olds;
          mine = kn.mine;
          ended = kn.ended;
          leases = λ i t e. ⊎_elim
              (λ (a : get_elem? me.0.leases i ≡ some t). held_else M r.opening r.history s.words s.homes me.0.number t k new none (kn.leases i t a) (old i t a))
              (λ (a : h ≡ t). subst (IsLeased M r.opening r.history (set s.words (8 + 8 * k) new) (set s.homes k none) me.0.number) a mine)
              (at_snoc me.0.leases h t i e);
          unnumbered = λ z. absurd (numbered z);
        } in
        let others : Others M s r id k = λ j u ne a l i t e is. let q : get_or s.words (8 + 8 * t.slot) 0 ≡ turn_word t.target u.number = ((r.knows j u a l).leases i t e).word in
        let same : get_or s.words (8 + 8 * t.slot) 0 ≡ get_or s.words (8 + 8 * k) 0 = ap (λ (z : ℕ). get_or s.words (8 + 8 * z) 0) is in omega arith in
        ⊎_elim
        (λ (f : IsFree M r.opening r.history s.words s.homes k). (
          w,
          takes k (Some f.1.0),
          f.1.1,
          inr (retold M s r id k new none me.0 w at live others know (λ i t e _. (i, t, at_longer me.0.leases (h ∷ []) i t e, refl))
              (inr (id, w, length me.0.leases, h, set_here s.views id w (inside_of s.views id me.0 at), live, at_last me.0.leases h (length me.0.leases) refl, refl)) (λ _. refl) refl refl refl),
          (
            r.history,
            finds_at M s r me.0 kn,
            (λ _. record { value = f.1.0; slot = k; target = target; at = refl; wrote = refl; target_in = small; stands = subst (M.stands f.1.0) (sym is_st) f.1.2; after = refl }),
            (λ ne. absurd (ne zero_word)),
          ),
        ))
        (λ (t : IsListed s.views k). let q : get_or s.words (8 + 8 * t.3.slot) 0 ≡ turn_word t.3.target t.1.number = ((r.knows t.0 t.1 t.4 t.5).leases t.2 t.3 t.6).word in
        let same : get_or s.words (8 + 8 * t.3.slot) 0 ≡ get_or s.words (8 + 8 * k) 0 = ap (λ (z : ℕ). get_or s.words (8 + 8 * z) 0) t.7 in absurd (omega arith))
        (r.turns k inside)

    take_loses : (s : State (Option S) View) (r : TurnRule M s) → k < length s.homes → get_elem? s.views id ≡ some me.0 → me.0.live ≡ true → (HasTurn me.0 k → ⊥) → get_or s.words (8 + 8 * k) 0 ≢ 0 → Won s (get_or s.words (8 + 8 * k) 0)
    take_loses s r inside at live free some_word =
        let kn = r.knows id me.0 at live in
        let n : ℕ = get_or s.words (8 + 8 * k) 0 in
        let w : View = met_at r.history k n me.0 in
        let know : K M s r w = record {
          old = kn.old;
          opening_is = kn.opening_is;
          callers_is = kn.callers_is;
          seen = ([], sym (append_none r.history));
          olds = kn.olds;
          mine = kn.mine;
          ended = kn.ended;
          leases = kn.leases;
          unnumbered = kn.unnumbered;
        } in
        ⊎_elim
        (λ (f : IsFree M r.opening r.history s.words s.homes k). absurd (some_word f.0))
        (λ (t : IsListed s.views k). let u : View = t.1 in let kt = r.knows t.0 u t.4 t.5 in let q = kt.leases t.2 t.3 t.6 in let is : t.3.slot ≡ k = t.7 in
        let some_number : u.number ≢ 0 = λ z. nothing_listed u.leases (kt.unnumbered z) t.2 t.3 t.6 in
        let next : suc (u.number - 1) ≡ u.number = omega arith in
        let other : u.number ≢ me.0.number = λ e. let same = apart M s r id t.0 me.0 u (u.number - 1) at t.4 live t.5 (sym e ∙ sym next) (sym next) in
        let v : me.0 ≡ u = some-injective me.0 u (sym at ∙ (ap (get_elem? s.views) same ∙ t.4)) in
        free (t.2, t.3, subst (λ (x : View). get_elem? x.leases t.2 ≡ some t.3) (sym v) t.6, is) in
        let drawn = holder_drawn M s r t.0 u (u.number - 1) t.4 t.5 (sym next) in let c = kn.callers_is in let word = q.word in let tgt : t.3.target < 65536 = q.target in (
          w,
          keeps,
          tt,
          inr (loaded M s (8 + 8 * k) id me.1 w (quiet M s r id me.0 w at live know (λ i x e. (i, x, e, refl)) (λ _. refl) refl refl refl)),
          (
            r.history,
            finds_at M s r me.0 kn,
            (λ z. absurd (some_word z)),
            (λ _. record {
              slot = k;
              target = t.3.target;
              holder = u.number;
              at = refl;
              found = subst (λ (z : ℕ). get_or s.words (8 + 8 * z) 0 ≡ turn_word t.3.target u.number) is q.word;
              target_in = q.target;
              drawn = (omega arith, omega arith);
              small = let f = r.few in omega arith;
              another = other;
              on_path = subst (λ (z : List ℕ × ℕ). M.path z.0 z.1 t.3.target) (λ i. (sym kn.opening_is i, is i)) q.on_path;
              after = refl;
            }),
          ),
        ))
        (r.turns k inside)

    take_goes_new : me.0.live ≡ true → me.0.number ≢ 0 → k < slots → target < 65536 → M.path me.0.opening k target → (HasTurn me.0 k → ⊥)
        → Allows (Kept M values) slots id me (8 + 8 * k) (λ n. either (eqb n 0) new n) (taken M (step slots (8 + 8 * k) 0 new none) me)
    take_goes_new live numbered inside small on free s kept len at _ = let r = turned_of M values s id me.0 kept at live in let here : k < length s.homes = subst (λ (n : ℕ). k < n) (sym len) inside in
        exchanged (get_or s.words (8 + 8 * k) 0) 0 new (Won s) (take_wins s r here at live numbered small on free) (take_loses s r here at live free)

    pub take_goes : (word : ℕ) → word ≡ new → me.0.live ≡ true → me.0.number ≢ 0 → k < slots → target < 65536 → M.path me.0.opening k target → (HasTurn me.0 k → ⊥)
        → Allows (Kept M values) slots id me (8 + 8 * k) (λ n. either (eqb n 0) word n) (taken M (step slots (8 + 8 * k) 0 word none) me)
    take_goes word is live numbered inside small on free = subst (λ (z : ℕ). Allows (Kept M values) slots id me (8 + 8 * k) (λ n. either (eqb n 0) z n) (taken M (step slots (8 + 8 * k) 0 z none) me))
        (sym is) (take_goes_new live numbered inside small on free)
