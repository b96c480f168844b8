-- A number is drawn, a view is cut in two, and two views become one.
use Rattle.std.proofs.Common.{◌≡◌, ℕ, zero, suc, ◌+◌, ◌*◌, ◌-◌, ◌%◌, ◌^◌, ◌<◌, ◌≤◌, ◌≢◌, ◌⊎◌, inl, inr, ⊎_elim, List, [], ◌∷◌, ◌++◌, map, length, length-append, get_or, set, sym, refl, ap, ◌∙◌, subst, arith, length-set, get_or-set_other, get_or-set_same, eq-eqb, ne_eqb, Bool, true, false, true≢false, nat_lt}
use Rattle.std.proofs.lemmas.List.{map-append}
use mathlib.Core.Logic.{dite}
use native.Mathlib.Decide.{ℕ_discrete}
use borrow.Author.Tests.{ltb-true, ltb-false}
use mathlib.Core.Option.{none, some, some-injective, some-ne-none}
use lib.ListN.{get_elem?}
use Rattle.std.specs.Prelude.{◌==◌, if◌then◌else◌}
use Rattle.std.specs.declared.option.Option.{Option}
use Rattle.atomic_table.specs.Table.{State, Me, step, keeps, Allows, Splits, Joins}
use Rattle.atomic_table.proofs.Lists.{at_set, set_here, set_else, at_snoc, at_longer}
use Rattle.turn_table.proofs.Lists.{if_true, if_false, front_whole}
use Rattle.turn_table.proofs.Totals.{total_set, same_total, one_of, inside_of, nothing_listed, taken_stays, seen_stays}
use Rattle.turn_table.proofs.Keeps.{turned_of}
use Rattle.turn_table.proofs.Commits.{times_append, numbers_live, made_live}
use Rattle.turn_table.specs.declared.view.View.{View}
use Rattle.turn_table.specs.declared.view.Lease.{Lease}
use Rattle.turn_table.specs.declared.view.Ended.{Ended}
use Rattle.turn_table.specs.declared.view.Before.{Before}
use Rattle.turn_table.specs.Meaning.{Meaning}
use Rattle.turn_table.specs.History.{Entry, caller_of, of_caller, Begins}
use Rattle.turn_table.specs.Views.{kept_after, newcomer, numbered, longer, joined}
use Rattle.turn_table.specs.TurnRule.{total, times, once_to, own_number, number_of_ended, numbers, undrawn, made_by_ended, made, IsSeen, IsLeased, Knows, TurnRule}
use Rattle.turn_table.specs.Kept.{Kept}
use Rattle.turn_table.specs.Steps.{drew}

pub at_append : {A : Type 0} (l m : List A) (i : ℕ) (a : A) → get_elem? (l ++ m) i ≡ some a → ((j : ℕ) × (get_elem? l j ≡ some a)) ⊎ ((j : ℕ) × (get_elem? m j ≡ some a))
at_append [] m i a e = inr (i, e)
at_append (x ∷ xs) m zero a e = inl (zero, e)
at_append (x ∷ xs) m (suc i) a e = ⊎_elim (λ t. inl (suc t.0, t.1)) (λ t. inr t) (at_append xs m i a e)

pub length_map : {A B : Type 0} (f : A → B) (l : List A) → length (map f l) ≡ length l
length_map f [] = refl
length_map f (x ∷ xs) = ap suc (length_map f xs)

pub only : {A : Type 0} (x : A) (i : ℕ) (y : A) → get_elem? (x ∷ []) i ≡ some y → x ≡ y
only x zero y e = some-injective x y e
only x (suc i) y e = absurd (some-ne-none y (sym e))

total_snoc : (f : View → ℕ) (vs : List View) (v : View) → total f (vs ++ v ∷ []) ≡ total f vs + f v
total_snoc f [] v = omega arith
total_snoc f (x ∷ xs) v = let i = total_snoc f xs v in omega arith

pub none_of_zero : (log : List Entry) → ((i : ℕ) (e : Entry) → get_elem? log i ≡ some e → 1 ≤ caller_of e) → of_caller 0 log ≡ []
none_of_zero [] all = refl
none_of_zero (x ∷ xs) all = if_false (caller_of x == 0) (x ∷ of_caller 0 xs) (of_caller 0 xs) (ne_eqb (caller_of x) 0 (λ e. let a = all 0 x refl in omega arith)) ∙ none_of_zero xs (λ i e a. all (suc i) e a)

none_above : (n : ℕ) (log : List Entry) → ((i : ℕ) (e : Entry) → get_elem? log i ≡ some e → caller_of e < n) → of_caller n log ≡ []
none_above n [] all = refl
none_above n (x ∷ xs) all = if_false (caller_of x == n) (x ∷ of_caller n xs) (of_caller n xs) (ne_eqb (caller_of x) n (λ e. let a = all 0 x refl in omega arith)) ∙ none_above n xs (λ i e a. all (suc i) e a)

either_begins : (b : Bool) (x y log : List Entry) → Begins x log → Begins y log → Begins (if b then y else x) log
either_begins true x y log p q = q
either_begins false x y log p q = p

by_length : (b : Bool) (xs ys h : List Entry) → nat_lt (length xs) (length ys) ≡ b → (b ≡ true → ys ≡ h) → (b ≡ false → xs ≡ h) → longer xs ys ≡ h
by_length true xs ys h is long short = ap (λ (b : Bool). if b then ys else xs) is ∙ long refl
by_length false xs ys h is long short = ap (λ (b : Bool). if b then ys else xs) is ∙ short refl

longer_of_whole : (xs ys h : List Entry) → xs ≡ h → Begins ys h → longer xs ys ≡ h
longer_of_whole xs ys h is b = by_length (nat_lt (length xs) (length ys)) xs ys h refl
    (λ t. absurd (let l = ltb-true (length xs) (length ys) t in let n = length-append ys b.0 in let e = ap (λ (l : List Entry). length l) b.1 in let f = ap (λ (l : List Entry). length l) is in omega arith))
    (λ _. is)

longer_of_other : (xs ys h : List Entry) → Begins xs h → ys ≡ h → longer xs ys ≡ h
longer_of_other xs ys h b is = by_length (nat_lt (length xs) (length ys)) xs ys h refl (λ _. is)
    (λ t. let l = ltb-false (length xs) (length ys) t in let f = ap (λ (l : List Entry). length l) is in front_whole xs h b (omega arith))

made_append : (xs ys : List Ended) → made_by_ended (xs ++ ys) ≡ made_by_ended xs + made_by_ended ys
made_append [] ys = omega arith
made_append (x ∷ xs) ys = let i = made_append xs ys in omega arith

pub made_joined : (v u : View) → v.live ≡ true → u.live ≡ true → made (joined v u) ≡ made v + made u
made_joined v u live live' = let last : Ended = record { number = u.number; entries = u.mine } in let a = made_live (joined v u) live in let b = made_live v live in let c = made_live u live' in
    let d = made_append v.ended (u.ended ++ last ∷ []) in let e = made_append u.ended (last ∷ []) in omega arith

pub undrawn_live : (v : View) → v.live ≡ true → undrawn v ≡ v.left + (if v.number == 0 then 1 else 0)
undrawn_live v live = if_true v.live (v.left + (if v.number == 0 then 1 else 0)) 0 live

pub numbers_joined : (v u : View) → v.live ≡ true → u.live ≡ true → (number : ℕ) → u.number ≡ suc number → (n : ℕ) → times n (numbers (joined v u)) ≡ times n (numbers v) + times n (numbers u)
numbers_joined v u live live' number has_number n = let a = ap (times n) (numbers_live (joined v u) live) in let b = ap (times n) (numbers_live v live) in
    let c = ap (times n) (numbers_live u live' ∙ ap (λ (z : ℕ). own_number z ++ map number_of_ended u.ended) has_number) in
    let last : Ended = record { number = u.number; entries = u.mine } in
    let d = times_append n (own_number v.number) (map number_of_ended (v.ended ++ (u.ended ++ last ∷ []))) in
    let d' = times_append n (own_number v.number) (map number_of_ended v.ended) in
    let e = ap (times n) (map-append number_of_ended v.ended (u.ended ++ last ∷ [])) in
    let f = times_append n (map number_of_ended v.ended) (map number_of_ended (u.ended ++ last ∷ [])) in
    let h = ap (times n) (map-append number_of_ended u.ended (last ∷ [])) in
    let i = times_append n (map number_of_ended u.ended) (u.number ∷ []) in
    let j : times n (u.number ∷ []) ≡ times n (suc number ∷ []) = ap (λ (z : ℕ). times n (z ∷ [])) has_number in omega arith

pub lengths_joined : (v u : View) → v.live ≡ true → u.live ≡ true → (number : ℕ) → u.number ≡ suc number → length (numbers (joined v u)) ≡ length (numbers v) + length (numbers u)
lengths_joined v u live live' number has_number = let a = ap (λ (l : List ℕ). length l) (numbers_live (joined v u) live) in let b = ap (λ (l : List ℕ). length l) (numbers_live v live) in
    let c = ap (λ (l : List ℕ). length l) (numbers_live u live' ∙ ap (λ (z : ℕ). own_number z ++ map number_of_ended u.ended) has_number) in
    let last : Ended = record { number = u.number; entries = u.mine } in
    let d = length-append (own_number v.number) (map number_of_ended (v.ended ++ (u.ended ++ last ∷ []))) in
    let d' = length-append (own_number v.number) (map number_of_ended v.ended) in
    let e = length_map number_of_ended (v.ended ++ (u.ended ++ last ∷ [])) in
    let f = length-append v.ended (u.ended ++ last ∷ []) in
    let h = length-append u.ended (last ∷ []) in
    let i = length_map number_of_ended v.ended in
    let j = length_map number_of_ended u.ended in omega arith

module _ {S : Type 0} (M : Meaning S) (values : ℕ × List (Option S)) where
  abbrev Rule : State (Option S) View → Type 0
  Rule = TurnRule M

  abbrev All : State (Option S) View → Type 0
  All = Kept M values

  pub draw_goes : (slots id : ℕ) (me : Me (Option S) View) → me.0.live ≡ true → me.0.number ≡ 0 → Allows All slots id me 1 (λ n. (n + 1) % 2 ^ 64) (drew (step slots 1 1 0 none) me)
  draw_goes slots id me live zero_number s kept _ at _ = let r = turned_of M values s id me.0 kept at live in let v : View = me.0 in let kn = r.knows id v at live in
      let n : ℕ = get_or s.words 1 0 in let w : View = numbered (suc n) v in let p = r.parts in let few = r.few in
      let u : undrawn v ≡ v.left + 1 = undrawn_live v live ∙ ap (λ (z : ℕ). v.left + z) (if_true {A = ℕ} (v.number == 0) 1 0 (eq-eqb v.number 0 zero_number)) in
      let u' : undrawn w ≡ v.left + 0 = undrawn_live w live ∙ ap (λ (z : ℕ). v.left + z) (if_false {A = ℕ} (suc n == 0) 1 0 (ne_eqb (suc n) 0 (λ e. omega arith))) in
      let one = one_of undrawn s.views id v at in
      let room : suc n ≤ r.callers = omega arith in
      let sum : (n + 1) % 2 ^ 64 ≡ suc n = omega arith in
      let wide = r.wide in
      let w0 : get_or (set s.words 1 (suc n)) 0 0 ≡ get_or s.words 0 0 = get_or-set_other s.words 1 0 (suc n) 0 (λ e. omega arith) in
      let w1 : get_or (set s.words 1 (suc n)) 1 0 ≡ suc n = get_or-set_same s.words 1 (suc n) 0 (omega arith) in
      let turn : (k : ℕ) → get_or (set s.words 1 (suc n)) (8 + 8 * k) 0 ≡ get_or s.words (8 + 8 * k) 0 = λ k. get_or-set_other s.words 1 (8 + 8 * k) (suc n) 0 (λ e. omega arith) in
      let nums_v : numbers v ≡ map number_of_ended v.ended = numbers_live v live ∙ ap (λ (z : ℕ). own_number z ++ map number_of_ended v.ended) zero_number in
      let nums_w : numbers w ≡ suc n ∷ map number_of_ended v.ended = numbers_live w live in
      let nothing = kn.unnumbered zero_number in
      let held : (m : ℕ) (t : Lease) → IsLeased M r.opening r.history s.words s.homes m t → IsLeased M r.opening r.history (set s.words 1 (suc n)) s.homes m t = λ m t h. record {
        inside = h.inside;
        target = h.target;
        word = turn t.slot ∙ h.word;
        state_is = h.state_is;
        on_path = h.on_path;
        home = h.home;
      } in
      let know : (x : View) → Knows M r.opening r.callers r.history s.words s.homes x → Knows M r.opening r.callers r.history (set s.words 1 (suc n)) s.homes x = λ x h. record {
        old = h.old;
        opening_is = h.opening_is;
        callers_is = h.callers_is;
        seen = h.seen;
        olds = h.olds;
        mine = h.mine;
        ended = h.ended;
        leases = λ i t a. held x.number t (h.leases i t a);
        unnumbered = h.unnumbered;
      } in
      let rule : Rule record { words = set s.words 1 (suc n); homes = s.homes; views = set s.views id w } = record {
        opening = r.opening;
        callers = r.callers;
        history = r.history;
        legal = r.legal;
        few = r.few;
        wide = length-set s.words 1 (suc n) ∙ r.wide;
        counted = w0 ∙ r.counted;
        opened = λ j x a. ⊎_elim (λ (t : (j ≡ id) × (w ≡ x)). subst (λ (z : View). z.fresh ≡ false) t.1 kn.old) (λ (t : (j ≢ id) × (get_elem? s.views j ≡ some x)). r.opened j x t.1) (at_set s.views id j w x a);
        knows = λ j x a l. ⊎_elim
            (λ (t : (j ≡ id) × (w ≡ x)). subst (Knows M r.opening r.callers r.history (set s.words 1 (suc n)) s.homes) t.1 record {
              old = kn.old;
              opening_is = kn.opening_is;
              callers_is = kn.callers_is;
              seen = kn.seen;
              olds = kn.olds;
              mine = kn.mine ∙ (ap (λ (z : ℕ). of_caller z r.history) zero_number ∙ (none_of_zero r.history (λ i e a. (r.drawn i e a).0) ∙ sym (none_above (suc n) r.history (λ i e a. let d = r.drawn i e a in let d1 = d.1 in omega arith))));
              ended = kn.ended;
              leases = λ i t a. absurd (nothing_listed v.leases nothing i t a);
              unnumbered = λ e. nothing;
            })
            (λ (t : (j ≢ id) × (get_elem? s.views j ≡ some x)). know x (r.knows j x t.1 l)) (at_set s.views id j w x a);
        turns = λ k h. ⊎_elim (λ f. inl (turn k ∙ f.0, f.1)) (λ t. inr (taken_stays s.views id v w at (inside_of s.views id v at) live (λ i t e. (i, t, e, refl)) k t)) (r.turns k h);
        longest = seen_stays s.views id v w r.history at live (λ e. e) r.longest;
        shared_out = same_total made s.views id v w at refl ∙ r.shared_out;
        drawn = λ i e a. let d = r.drawn i e a in let d1 = d.1 in (d.0, omega arith);
        bounded = r.bounded;
        once = λ m. let t = total_set (λ x. times m (numbers x)) s.views id v w at in let a = ap (times m) nums_v in let b = ap (times m) nums_w in let c = r.once m in
            let d : once_to m (suc n) ≡ (if suc n == m then 1 else 0) + once_to m n = refl in let e = ap (once_to m) w1 in omega arith;
        many = let t = total_set (λ x. length (numbers x)) s.views id v w at in let a = ap (λ (l : List ℕ). length l) nums_v in let b = ap (λ (l : List ℕ). length l) nums_w in let c = r.many in omega arith;
        parts = let t = total_set undrawn s.views id v w at in omega arith;
      } in (
        w,
        keeps,
        tt,
        inr (subst (λ (z : ℕ). Rule record { words = set s.words 1 z; homes = s.homes; views = set s.views id w }) (sym sum) rule),
        (let c = kn.callers_is in omega arith, refl, refl),
      )

  pub split_goes : (id : ℕ) (v : View) → v.live ≡ true → 0 < v.left → Splits All id v (kept_after v) (newcomer v)
  split_goes id v live some_left s kept at = let r = turned_of M values s id v kept at live in let kn = r.knows id v at live in let w : View = kept_after v in let x : View = newcomer v in
      let u : undrawn v ≡ v.left + (if v.number == 0 then 1 else 0) = undrawn_live v live in
      let u' : undrawn w ≡ (v.left - 1) + (if v.number == 0 then 1 else 0) = undrawn_live w live in
      let u'' : undrawn x ≡ 0 + 1 = undrawn_live x live in
      let nums : numbers x ≡ [] = numbers_live x live in
      inr record {
        opening = r.opening;
        callers = r.callers;
        history = r.history;
        legal = r.legal;
        few = r.few;
        wide = r.wide;
        counted = r.counted;
        opened = λ j y a. ⊎_elim (λ b. ⊎_elim (λ (t : (j ≡ id) × (w ≡ y)). subst (λ (z : View). z.fresh ≡ false) t.1 kn.old) (λ (t : (j ≢ id) × (get_elem? s.views j ≡ some y)). r.opened j y t.1) (at_set s.views id j w y b))
            (λ e. subst (λ (z : View). z.fresh ≡ false) e kn.old) (at_snoc (set s.views id w) x y j a);
        knows = λ j y a l. ⊎_elim
            (λ b. ⊎_elim
            (λ (t : (j ≡ id) × (w ≡ y)). subst (Knows M r.opening r.callers r.history s.words s.homes) t.1 record {
              old = kn.old;
              opening_is = kn.opening_is;
              callers_is = kn.callers_is;
              seen = kn.seen;
              olds = kn.olds;
              mine = kn.mine;
              ended = kn.ended;
              leases = kn.leases;
              unnumbered = kn.unnumbered;
            })
            (λ (t : (j ≢ id) × (get_elem? s.views j ≡ some y)). r.knows j y t.1 l) (at_set s.views id j w y b))
            (λ e. subst (Knows M r.opening r.callers r.history s.words s.homes) e record {
              old = kn.old;
              opening_is = kn.opening_is;
              callers_is = kn.callers_is;
              seen = kn.seen;
              olds = λ i z b. absurd (some-ne-none z (sym b));
              mine = sym (none_of_zero r.history (λ i e a. (r.drawn i e a).0));
              ended = λ i z b. absurd (some-ne-none z (sym b));
              leases = λ i t b. absurd (some-ne-none t (sym b));
              unnumbered = λ _. refl;
            })
            (at_snoc (set s.views id w) x y j a);
        turns = λ k h. ⊎_elim (λ f. inl f)
            (λ t. let q = taken_stays s.views id v w at (inside_of s.views id v at) live (λ i t e. (i, t, e, refl)) k t in inr (q.0, q.1, q.2, q.3, at_longer (set s.views id w) (x ∷ []) q.0 q.1 q.4, q.5, q.6, q.7)) (r.turns k h);
        drawn = r.drawn;
        bounded = r.bounded;
        longest = let q = seen_stays s.views id v w r.history at live (λ e. e) r.longest in (q.0, q.1, at_longer (set s.views id w) (x ∷ []) q.0 q.1 q.2, q.3, q.4);
        shared_out = let t = total_snoc made (set s.views id w) x in let a = same_total made s.views id v w at refl in let b = made_live x live in let c = r.shared_out in omega arith;
        once = λ m. let t = total_snoc (λ y. times m (numbers y)) (set s.views id w) x in let a = same_total (λ y. times m (numbers y)) s.views id v w at refl in let b = ap (times m) nums in let c = r.once m in omega arith;
        many = let t = total_snoc (λ y. length (numbers y)) (set s.views id w) x in let a = same_total (λ y. length (numbers y)) s.views id v w at refl in let b = ap (λ (l : List ℕ). length l) nums in let c = r.many in omega arith;
        parts = let t = total_snoc undrawn (set s.views id w) x in let a = total_set undrawn s.views id v w at in let c = r.parts in omega arith;
      }

  module _ (id : ℕ) (v : View) (other : ℕ) (u : View) (live : v.live ≡ true) (live' : u.live ≡ true) (number : ℕ) (has_number : u.number ≡ suc number) (no_hold : u.leases ≡ []) (no_left : u.left ≡ 0) where
    abbrev w : View
    w = joined v u

    undrawn_other : undrawn u ≡ 0
    undrawn_other = let a = undrawn_live u live' in let b = if_false {A = ℕ} (u.number == 0) 1 0 (ne_eqb u.number 0 (λ e. omega arith)) in omega arith

    -- the longer of what both have seen is the whole history, where one of them has seen it
    join_longest : (s : State (Option S) View) (r : Rule s) → get_elem? s.views id ≡ some v → (¬ (other ≡ id)) → get_elem? s.views other ≡ some u → u.live ≡ true → (spent : View)
        → IsSeen (set (set s.views id w) other spent) r.history
    join_longest s r at apart_ there live' spent = let kn = r.knows id v at live in let ku = r.knows other u there live' in let t = r.longest in
        let in_w : w.seen ≡ r.history → IsSeen (set (set s.views id w) other spent) r.history = λ e.
        (id, w, set_else (set s.views id w) other id spent (λ (x : id ≡ other). apart_ (sym x)) ∙ set_here s.views id w (inside_of s.views id v at), live, e) in
        dite (ℕ_discrete t.0 id)
        (λ e. let same : t.1 ≡ v = some-injective t.1 v (sym t.2 ∙ (ap (get_elem? s.views) e ∙ at)) in in_w (longer_of_whole v.seen u.seen r.history (ap (λ (z : View). z.seen) (sym same) ∙ t.4) ku.seen))
        (λ ne. dite (ℕ_discrete t.0 other)
        (λ e. let same : t.1 ≡ u = some-injective t.1 u (sym t.2 ∙ (ap (get_elem? s.views) e ∙ there)) in in_w (longer_of_other v.seen u.seen r.history kn.seen (ap (λ (z : View). z.seen) (sym same) ∙ t.4)))
        (λ ne'. (t.0, t.1, set_else (set s.views id w) other t.0 spent ne' ∙ (set_else s.views id t.0 w ne ∙ t.2), t.3, t.4)))

    pub join_goes : (spent : View) → spent.live ≡ false → spent.fresh ≡ false → Joins All id v other u w spent
    join_goes spent dead old s kept at apart_ there = let r = turned_of M values s id v kept at live in let kn = r.knows id v at live in
        let vs : List View = set s.views id w in
        let there' : get_elem? s.views other ≡ some u = sym (set_else s.views id other w apart_) ∙ there in
        let ku = r.knows other u there' live' in
        let num0 : numbers spent ≡ [] = if_false spent.live (own_number spent.number ++ map number_of_ended spent.ended) [] dead in
        let und0 : undrawn spent ≡ 0 = if_false spent.live (spent.left + (if spent.number == 0 then 1 else 0)) 0 dead in
        let und : undrawn w ≡ undrawn v = undrawn_live w live ∙ sym (undrawn_live v live) in
        let same : (f : View → ℕ) → f w ≡ f v + f u → f spent ≡ 0 → total f (set vs other spent) ≡ total f s.views = λ f a b. let t = total_set f s.views id v w at in let t' = total_set f vs other u spent there in omega arith in
        let last : Ended = record { number = u.number; entries = u.mine } in
        let pair : Before = record { one = v.seen; other = u.seen } in
        inr record {
          opening = r.opening;
          callers = r.callers;
          history = r.history;
          legal = r.legal;
          few = r.few;
          wide = r.wide;
          counted = r.counted;
          opened = λ j y a. ⊎_elim (λ (t : (j ≡ other) × (spent ≡ y)). subst (λ (z : View). z.fresh ≡ false) t.1 old)
              (λ (t : (j ≢ other) × (get_elem? vs j ≡ some y)). ⊎_elim (λ (t : (j ≡ id) × (w ≡ y)). subst (λ (z : View). z.fresh ≡ false) t.1 kn.old) (λ (t : (j ≢ id) × (get_elem? s.views j ≡ some y)). r.opened j y t.1) (at_set s.views id j w y t.1))
              (at_set vs other j spent y a);
          knows = λ j y a l. ⊎_elim
              (λ (t : (j ≡ other) × (spent ≡ y)). absurd (true≢false (sym l ∙ (ap (λ (z : View). z.live) (sym t.1) ∙ dead))))
              (λ (t : (j ≢ other) × (get_elem? vs j ≡ some y)). ⊎_elim
              (λ (t : (j ≡ id) × (w ≡ y)). subst (Knows M r.opening r.callers r.history s.words s.homes) t.1 record {
                old = kn.old;
                opening_is = kn.opening_is;
                callers_is = kn.callers_is;
                seen = either_begins (nat_lt (length v.seen) (length u.seen)) v.seen u.seen r.history kn.seen ku.seen;
                olds = λ i x b. ⊎_elim (λ c. kn.olds c.0 x c.1) (λ c. ⊎_elim (λ d. ku.olds d.0 x d.1) (λ d. subst (λ (z : Before). Begins z.one r.history × Begins z.other r.history) (only pair d.0 x d.1) (kn.seen, ku.seen)) (at_append u.olds (pair ∷ []) c.0 x c.1))
                    (at_append v.olds (u.olds ++ pair ∷ []) i x b);
                mine = kn.mine;
                ended = λ i x b. ⊎_elim (λ c. kn.ended c.0 x c.1) (λ c. ⊎_elim (λ d. ku.ended d.0 x d.1) (λ d. subst (λ (z : Ended). z.entries ≡ of_caller z.number r.history) (only last d.0 x d.1) ku.mine) (at_append u.ended (last ∷ []) c.0 x c.1))
                    (at_append v.ended (u.ended ++ last ∷ []) i x b);
                leases = kn.leases;
                unnumbered = kn.unnumbered;
              })
              (λ (t : (j ≢ id) × (get_elem? s.views j ≡ some y)). r.knows j y t.1 l) (at_set s.views id j w y t.1))
              (at_set vs other j spent y a);
          turns = λ k h. ⊎_elim (λ f. inl f)
              (λ t. let q = taken_stays s.views id v w at (inside_of s.views id v at) live (λ i t e. (i, t, e, refl)) k t in
              inr (
                q.0,
                q.1,
                q.2,
                q.3,
                set_else vs other q.0 spent (λ e. nothing_listed u.leases no_hold q.2 q.3
                    (subst (λ (z : View). get_elem? z.leases q.2 ≡ some q.3) (some-injective q.1 u (sym q.4 ∙ (ap (get_elem? vs) e ∙ there))) q.6)) ∙ q.4,
                q.5,
                q.6,
                q.7,
              )) (r.turns k h);
          drawn = r.drawn;
          bounded = r.bounded;
          longest = join_longest s r at apart_ there' live' spent;
          shared_out = same made (made_joined v u live live') (if_false spent.live (length spent.mine + made_by_ended spent.ended) 0 dead) ∙ r.shared_out;
          once = λ m. same (λ y. times m (numbers y)) (numbers_joined v u live live' number has_number m) (ap (times m) num0) ∙ r.once m;
          many = same (λ y. length (numbers y)) (lengths_joined v u live live' number has_number) (ap (λ (l : List ℕ). length l) num0) ∙ r.many;
          parts = ap (λ (n : ℕ). n + get_or s.words 1 0) (same undrawn (let o = undrawn_other in omega arith) und0) ∙ r.parts;
        }
