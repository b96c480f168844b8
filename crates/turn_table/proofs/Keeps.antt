-- A step that changes one view alone, or one view and the turn of one slot, keeps the rule of turns.
use Rattle.std.proofs.Common.{◌≡◌, ℕ, suc, ◌+◌, ◌*◌, ◌<◌, ◌≤◌, ◌≢◌, ◌⊎◌, inl, inr, ⊎_elim, List, [], length, get_or, set, sym, ap, ◌∙◌, subst, arith, length-set, get_or-set_other, true, false}
use mathlib.Core.Logic.{dite}
use mathlib.Core.Option as known
use mathlib.Core.Option.{some, some-injective}
use native.Mathlib.Decide.{ℕ_discrete}
use lib.ListN.{get_elem?}
use lib.Seq.{set-get_or}
use Rattle.std.specs.declared.option.Option.{Option}
use Rattle.atomic_table.specs.Table.{State, keeps, stepped}
use Rattle.atomic_table.proofs.Lists.{at_set, set_here, set_else}
use Rattle.turn_table.specs.declared.view.View.{View}
use Rattle.turn_table.specs.declared.view.Lease.{Lease}
use Rattle.turn_table.specs.Meaning.{Meaning}
use Rattle.turn_table.specs.History.{Entry, caller_of, state_of, LegalOver}
use Rattle.turn_table.specs.Views.{with_seen}
use Rattle.turn_table.specs.TurnRule.{total, times, once_to, numbers, undrawn, Homes, IsLeased, Knows, IsFree, IsListed, made, TurnRule}
use Rattle.turn_table.specs.Kept.{Kept}
use Rattle.turn_table.specs.Calls.{Finds}
use Rattle.turn_table.proofs.Lists.{few_entries}
use Rattle.turn_table.proofs.Totals.{same_total, one_of, two_of, Relisted, taken_stays, inside_of, seen_stays, once_small, once_below, own_here, append_none, not_blank}

module _ {S : Type 0} (M : Meaning S) where
  abbrev pub St : Type 0
  St = State (Option S) View

  abbrev pub Rule : St → Type 0
  Rule = TurnRule M

  abbrev pub K : (s : St) → Rule s → View → Type 0
  K s r = Knows M r.opening r.callers r.history s.words s.homes

  pub turned_of : (values : ℕ × List (Option S)) (s : St) (id : ℕ) (v : View) → Kept M values s → get_elem? s.views id ≡ some v → v.live ≡ true → Rule s
  turned_of values s id v k at live = ⊎_elim
      (λ e. absurd (not_blank values.0 id v live (subst (λ (t : St). get_elem? t.views id ≡ some v) e at))) (λ r. r) k

  -- a step that changes one view alone
  pub quiet : (s : St) (r : Rule s) (id : ℕ) (v w : View) → get_elem? s.views id ≡ some v → w.live ≡ true → K s r w → Relisted v w → (v.seen ≡ r.history → w.seen ≡ r.history) → numbers w ≡ numbers v → undrawn w ≡ undrawn v
      → made w ≡ made v
      → Rule record { words = s.words; homes = s.homes; views = set s.views id w }
  quiet s r id v w at live knows list on nums und mades = record {
    opening = r.opening;
    callers = r.callers;
    history = r.history;
    legal = r.legal;
    few = r.few;
    wide = r.wide;
    counted = r.counted;
    opened = λ j u e. ⊎_elim (λ (t : (j ≡ id) × (w ≡ u)). subst (λ (z : View). z.fresh ≡ false) t.1 knows.old) (λ (t : (j ≢ id) × (get_elem? s.views j ≡ some u)). r.opened j u t.1) (at_set s.views id j w u e);
    knows = λ j u e l. ⊎_elim (λ (t : (j ≡ id) × (w ≡ u)). subst (K s r) t.1 knows) (λ (t : (j ≢ id) × (get_elem? s.views j ≡ some u)). r.knows j u t.1 l) (at_set s.views id j w u e);
    turns = λ k h. ⊎_elim (λ f. inl f) (λ t. inr (taken_stays s.views id v w at (inside_of s.views id v at) live list k t)) (r.turns k h);
    drawn = r.drawn;
    bounded = r.bounded;
    once = λ n. same_total (λ u. times n (numbers u)) s.views id v w at (ap (times n) nums) ∙ r.once n;
    many = same_total (λ u. length (numbers u)) s.views id v w at (ap (λ (l : List ℕ). length l) nums) ∙ r.many;
    parts = ap (λ (n : ℕ). n + get_or s.words 1 0) (same_total undrawn s.views id v w at und) ∙ r.parts;
    longest = seen_stays s.views id v w r.history at live on r.longest;
    shared_out = same_total made s.views id v w at mades ∙ r.shared_out;
  }

  -- a load
  pub loaded : (s : St) (i id : ℕ) (cs : List (ℕ × Option S)) (w : View) → Rule record { words = s.words; homes = s.homes; views = set s.views id w } → Rule (stepped s i (get_or s.words i 0) id cs w keeps)
  loaded s i id cs w r = subst (λ (ws : List ℕ). Rule record { words = ws; homes = s.homes; views = set s.views id w }) (sym (set-get_or s.words i 0)) r

  pub sees : (s : St) (r : Rule s) (v : View) → K s r v → K s r (with_seen r.history v)
  sees s r v k = record {
    old = k.old;
    opening_is = k.opening_is;
    callers_is = k.callers_is;
    seen = ([], sym (append_none r.history));
    olds = k.olds;
    mine = k.mine;
    ended = k.ended;
    leases = k.leases;
    unnumbered = k.unnumbered;
  }

  pub finds_at : (s : St) (r : Rule s) (v : View) → K s r v → Finds M v r.history
  finds_at s r v k = record {
    legal = subst (λ (o : List ℕ). LegalOver M o r.history) (sym k.opening_is) r.legal;
    seen = k.seen;
    mine = k.mine;
    states = λ i t e. subst (λ (o : List ℕ). t.state ≡ state_of M o r.history t.slot) (sym k.opening_is) (k.leases i t e).state_is;
    few = let l = few_entries (get_or s.words 1 0) r.history r.drawn r.bounded in let p = r.parts in let f = r.few in omega arith;
  }

  -- A step on the turn of the slot k, by the view id. Others do not list the slot.
  abbrev pub Others : (s : St) (r : Rule s) → ℕ → ℕ → Type 0
  Others s r id k = (j : ℕ) (u : View) → j ≢ id → get_elem? s.views j ≡ some u → u.live ≡ true → (i : ℕ) (t : Lease) → get_elem? u.leases i ≡ some t → t.slot ≢ k

  pub held_else : (o : List ℕ) (history : List Entry) (words : List ℕ) (homes : Homes S) (n : ℕ) (t : Lease) (k x : ℕ) (h : known.Option (Option S)) → IsLeased M o history words homes n t → t.slot ≢ k
      → IsLeased M o history (set words (8 + 8 * k) x) (set homes k h) n t
  held_else o history words homes n t k x h a ne = record {
    inside = subst (λ (z : ℕ). t.slot < z) (sym (length-set homes k h)) a.inside;
    target = a.target;
    word = get_or-set_other words (8 + 8 * k) (8 + 8 * t.slot) x 0 (λ e. ne (omega arith)) ∙ a.word;
    state_is = a.state_is;
    on_path = a.on_path;
    home = λ o. set_else homes k t.slot h ne ∙ a.home o;
  }

  pub knows_else : (s : St) (r : Rule s) (u : View) (k x : ℕ) (h : known.Option (Option S)) → K s r u → ((i : ℕ) (t : Lease) → get_elem? u.leases i ≡ some t → t.slot ≢ k)
      → Knows M r.opening r.callers r.history (set s.words (8 + 8 * k) x) (set s.homes k h) u
  knows_else s r u k x h a ne = record {
    old = a.old;
    opening_is = a.opening_is;
    callers_is = a.callers_is;
    seen = a.seen;
    olds = a.olds;
    mine = a.mine;
    ended = a.ended;
    leases = λ i t e. held_else r.opening r.history s.words s.homes u.number t k x h (a.leases i t e) (ne i t e);
    unnumbered = a.unnumbered;
  }

  abbrev pub Relisted_but : ℕ → View → View → Type 0
  Relisted_but k v w = (i : ℕ) (t : Lease) → get_elem? v.leases i ≡ some t → t.slot ≢ k → (i' : ℕ) × (t' : Lease) × (get_elem? w.leases i' ≡ some t') × (t'.slot ≡ t.slot)

  taken_else : (vs : List View) (id k : ℕ) (v w : View) → get_elem? vs id ≡ some v → w.live ≡ true → Relisted_but k v w → (k' : ℕ) → k' ≢ k → IsListed vs k' → IsListed (set vs id w) k'
  taken_else vs id k v w at live list k' ne t = dite (ℕ_discrete t.0 id)
      (λ e. let same : v ≡ t.1 = some-injective v t.1 (sym at ∙ (ap (get_elem? vs) (sym e) ∙ t.4)) in
      let h = list t.2 t.3 (subst (λ (u : View). get_elem? u.leases t.2 ≡ some t.3) (sym same) t.6) (λ (o : t.3.slot ≡ k). ne (sym t.7 ∙ o)) in
      (id, w, h.0, h.1, set_here vs id w (inside_of vs id v at), live, h.2, h.3 ∙ t.7))
      (λ other. (t.0, t.1, t.2, t.3, set_else vs id t.0 w other ∙ t.4, t.5, t.6, t.7))

  pub retold : (s : St) (r : Rule s) (id k x : ℕ) (h : known.Option (Option S)) (v w : View) → get_elem? s.views id ≡ some v → w.live ≡ true → Others s r id k
      → Knows M r.opening r.callers r.history (set s.words (8 + 8 * k) x) (set s.homes k h) w
      → Relisted_but k v w
      → (IsFree M r.opening r.history (set s.words (8 + 8 * k) x) (set s.homes k h) k ⊎ IsListed (set s.views id w) k)
      → (v.seen ≡ r.history → w.seen ≡ r.history) → numbers w ≡ numbers v → undrawn w ≡ undrawn v → made w ≡ made v
      → Rule record { words = set s.words (8 + 8 * k) x; homes = set s.homes k h; views = set s.views id w }
  retold s r id k x h v w at live others knows list here on nums und mades = let w0 : get_or (set s.words (8 + 8 * k) x) 0 0 ≡ get_or s.words 0 0 = get_or-set_other s.words (8 + 8 * k) 0 x 0 (λ e. omega arith) in
      let w1 : get_or (set s.words (8 + 8 * k) x) 1 0 ≡ get_or s.words 1 0 = get_or-set_other s.words (8 + 8 * k) 1 x 0 (λ e. omega arith) in record {
        opening = r.opening;
        callers = r.callers;
        history = r.history;
        legal = r.legal;
        few = r.few;
        wide = length-set s.words (8 + 8 * k) x ∙ (r.wide ∙ ap (λ (n : ℕ). 8 + 8 * n) (sym (length-set s.homes k h)));
        counted = w0 ∙ r.counted;
        opened = λ j u e. ⊎_elim (λ (t : (j ≡ id) × (w ≡ u)). subst (λ (z : View). z.fresh ≡ false) t.1 knows.old) (λ (t : (j ≢ id) × (get_elem? s.views j ≡ some u)). r.opened j u t.1) (at_set s.views id j w u e);
        knows = λ j u e l. ⊎_elim (λ (t : (j ≡ id) × (w ≡ u)). subst (Knows M r.opening r.callers r.history (set s.words (8 + 8 * k) x) (set s.homes k h)) t.1 knows)
            (λ (t : (j ≢ id) × (get_elem? s.views j ≡ some u)). knows_else s r u k x h (r.knows j u t.1 l) (others j u t.0 t.1 l)) (at_set s.views id j w u e);
        turns = λ k' i. dite (ℕ_discrete k' k)
            (λ e. subst (λ (z : ℕ). IsFree M r.opening r.history (set s.words (8 + 8 * k) x) (set s.homes k h) z ⊎ IsListed (set s.views id w) z) (sym e) here)
            (λ ne. ⊎_elim (λ (f : IsFree M r.opening r.history s.words s.homes k'). inl (get_or-set_other s.words (8 + 8 * k) (8 + 8 * k') x 0 (λ e. ne (omega arith)) ∙ f.0, (f.1.0, set_else s.homes k k' h ne ∙ f.1.1, f.1.2)))
            (λ t. inr (taken_else s.views id k v w at live list k' ne t)) (r.turns k' (subst (λ (n : ℕ). k' < n) (length-set s.homes k h) i)));
        drawn = λ i e a. let d = r.drawn i e a in (d.0, subst (λ (n : ℕ). caller_of e ≤ n) (sym w1) d.1);
        bounded = r.bounded;
        once = λ n. same_total (λ u. times n (numbers u)) s.views id v w at (ap (times n) nums) ∙ (r.once n ∙ ap (once_to n) (sym w1));
        many = same_total (λ u. length (numbers u)) s.views id v w at (ap (λ (l : List ℕ). length l) nums) ∙ (r.many ∙ sym w1);
        parts = ap (λ (n : ℕ). n + get_or (set s.words (8 + 8 * k) x) 1 0) (same_total undrawn s.views id v w at und) ∙ (ap (λ (n : ℕ). total undrawn s.views + n) w1 ∙ r.parts);
        longest = seen_stays s.views id v w r.history at live on r.longest;
        shared_out = same_total made s.views id v w at mades ∙ r.shared_out;
      }

  pub holder_drawn : (s : St) (r : Rule s) (j : ℕ) (u : View) (n : ℕ) → get_elem? s.views j ≡ some u → u.live ≡ true → u.number ≡ suc n → suc n ≤ r.callers
  holder_drawn s r j u n at live is = let o = own_here u n live is in let a = one_of (λ v. times (suc n) (numbers v)) s.views j u at in let e = r.once (suc n) in
      let b : suc n ≤ get_or s.words 1 0 = once_below (suc n) (get_or s.words 1 0) (omega arith) in let p = r.parts in omega arith

  -- two live views have different numbers
  pub apart : (s : St) (r : Rule s) (i j : ℕ) (v u : View) (n : ℕ) → get_elem? s.views i ≡ some v → get_elem? s.views j ≡ some u → v.live ≡ true → u.live ≡ true → v.number ≡ suc n → u.number ≡ suc n → i ≡ j
  apart s r i j v u n at at' live live' is is' = dite (ℕ_discrete i j) (λ e. e) (λ ne. let a = own_here v n live is in let b = own_here u n live' is' in
      let t = two_of (λ x. times (suc n) (numbers x)) s.views i j v u at at' ne in let e = r.once (suc n) in let o = once_small (suc n) (get_or s.words 1 0) in absurd (omega arith))
