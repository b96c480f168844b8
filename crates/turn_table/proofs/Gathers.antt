-- What the seat that took in all passes keeps of each.
use Rattle.std.proofs.Common.{◌≡◌, ℕ, zero, suc, ◌+◌, ◌-◌, ◌<◌, inl, inr, ⊎_elim, List, [], ◌∷◌, ◌++◌, map, length, sym, refl, ap, ◌∙◌, subst, arith, get_or, All}
use mathlib.Core.Option.{some}
use lib.ListN.{get_elem?}
use Rattle.std.specs.declared.option.Option.{Option}
use Rattle.std.specs.declared.option.Option.TheVariants.{Some}
use Rattle.atomic_table.proofs.Lists.{at_longer, at_last}
use Rattle.turn_table.specs.declared.view.View.{View}
use Rattle.turn_table.specs.declared.view.Ended.{Ended}
use Rattle.turn_table.specs.declared.view.Before.{Before}
use Rattle.turn_table.specs.Meaning.{Meaning}
use Rattle.turn_table.specs.History.{Entry, of_caller, Begins, state_of, LegalOver}
use Rattle.turn_table.specs.Views.{joined}
use Rattle.turn_table.specs.TurnRule.{times, once_to, own_number, number_of_ended, made_by_ended, numbers, made}
use Rattle.turn_table.specs.Passes.{Standing, AtRest, IsIdle, calls_of}
use Rattle.turn_table.specs.Closes.{IsPartOf, Closes, Leaves, Keeps, Gathered}
use Rattle.turn_table.proofs.Commits.{numbers_live, made_live}
use Rattle.turn_table.proofs.Joins.{length_map, numbers_joined, lengths_joined, made_joined}
use Rattle.turn_table.proofs.Lists.{at_map_back}
use Rattle.turn_table.proofs.Takes.{some_of}

at_after : {A : Type 0} (l m : List A) (i : ℕ) (a : A) → get_elem? m i ≡ some a → (j : ℕ) × (get_elem? (l ++ m) j ≡ some a)
at_after [] m i a e = (i, e)
at_after (x ∷ xs) m i a e = let r = at_after xs m i a e in (suc r.0, r.1)

pub records_self : (v : View) → Keeps v v
records_self v = record { opening_is = refl; mine = inl (refl, refl); seen = inl refl }

last_of : {A : Type 0} (l m : List A) (x : A) → (j : ℕ) × (get_elem? (l ++ (m ++ x ∷ [])) j ≡ some x)
last_of l m x = at_after l (m ++ x ∷ []) (length m) x (at_last m x (length m) refl)

pub records_more : (v u p : View) → Keeps v p → Keeps (joined v u) p
records_more v u p r = let pair : Before = record { one = v.seen; other = u.seen } in let last : Ended = record { number = u.number; entries = u.mine } in let o = last_of v.olds u.olds pair in record {
  opening_is = r.opening_is;
  mine = ⊎_elim (λ a. inl a) (λ a. inr (a.0, at_longer v.ended (u.ended ++ last ∷ []) a.0 (record { number = p.number; entries = p.mine }) a.1)) r.mine;
  seen = ⊎_elim (λ a. inr (o.0, pair, o.1, inl (sym a))) (λ a. inr (a.0, a.1, at_longer v.olds (u.olds ++ pair ∷ []) a.0 a.1 a.2, a.3)) r.seen;
}

pub records_other : (v u : View) → u.opening ≡ v.opening → Keeps (joined v u) u
records_other v u same = let pair : Before = record { one = v.seen; other = u.seen } in let last : Ended = record { number = u.number; entries = u.mine } in let o = last_of v.olds u.olds pair in
    record { opening_is = same; mine = inr (last_of v.ended u.ended last); seen = inr (o.0, pair, o.1, inr refl) }

-- a pass that the seat keeps is a part of the history, since what the seat says is so
part_of : {V : Type 0} (M : Meaning V) (v p : View) (calls : ℕ) (homes : List (Option V)) (l : Leaves M v calls homes) → Keeps v p → IsPartOf l.history p
part_of M v p calls homes l r = record {
  seen = ⊎_elim (λ a. subst (λ (h : List Entry). Begins h l.history) (sym a) l.seen)
      (λ a. let b = l.olds a.0 a.1 a.2 in ⊎_elim (λ e. subst (λ (h : List Entry). Begins h l.history) e b.0) (λ e. subst (λ (h : List Entry). Begins h l.history) e b.1) a.3) r.seen;
  mine = ⊎_elim (λ a. a.1 ∙ (l.mine ∙ ap (λ (n : ℕ). of_caller n l.history) (sym a.0))) (λ a. l.ended a.0 (record { number = p.number; entries = p.mine }) a.1) r.mine;
}

pub all_more : {P : Type 0} (view : P → View) (v u : View) (ps : List P) → All (λ p. Keeps v (view p)) ps → All (λ p. Keeps (joined v u) (view p)) ps
all_more view v u ps a = λ k d inside. records_more v u (view (get_or ps k d)) (a k d inside)

pub all_first : {P : Type 0} (Q : P → Type 0) (x : P) (xs : List P) → Q x → All Q xs → All Q (x ∷ xs)
all_first Q x xs q a zero d inside = q
all_first Q x xs q a (suc k) d inside = a k d (omega arith)

pub all_init : {P : Type 0} (Q : P → Type 0) (xs : List P) (x : P) → All Q (xs ++ x ∷ []) → All Q xs
all_init Q [] x a = λ k d inside. absurd (omega arith)
all_init Q (y ∷ ys) x a = all_first Q y ys (a 0 y (omega arith)) (all_init Q ys x (λ k d inside. a (suc k) d (omega arith)))

pub all_end : {P : Type 0} (Q : P → Type 0) (xs : List P) (x : P) → All Q (xs ++ x ∷ []) → Q x
all_end Q [] x a = a 0 x (omega arith)
all_end Q (y ∷ ys) x a = all_end Q ys x (λ k d inside. a (suc k) d (omega arith))

-- a pass between two calls has its own number, and no other
alone_numbers : (slots : ℕ) (v : View) → AtRest slots v → numbers v ≡ v.number ∷ []
alone_numbers slots v rest = let ne = rest.numbered in let n : ℕ = v.number - 1 in let e : v.number ≡ suc n = omega arith in
    numbers_live v rest.live ∙ ((λ i. own_number (e i) ++ map number_of_ended (rest.alone i)) ∙ ap (λ (k : ℕ). k ∷ []) (sym e))

alone_made : (slots : ℕ) (v : View) → AtRest slots v → made v ≡ length v.mine
alone_made slots v rest = let a = made_live v rest.live in let b = ap made_by_ended rest.alone in omega arith

pub gathers_first : (slots callers : ℕ) (o : List ℕ) (p : Standing) → AtRest slots p.view → IsIdle o callers p.view → Gathered o callers (p ∷ []) p.view
gathers_first slots callers o p rest idle = let v : View = p.view in record {
  live = rest.live;
  opening_is = idle.opening_is;
  callers_is = idle.callers_is;
  no_turn = idle.no_turn;
  answers = let a = ap (λ (l : List ℕ). length l) (alone_numbers slots v rest) in omega arith;
  numbers_are = λ n. ap (times n) (alone_numbers slots v rest);
  made_is = let a = alone_made slots v rest in omega arith;
  keeps = all_first (λ (q : Standing). Keeps v q.view) p [] (records_self v) (λ k d inside. absurd (omega arith));
}

pub gathers_more : (slots callers : ℕ) (o : List ℕ) (done : List Standing) (v : View) (p : Standing) → Gathered o callers done v → AtRest slots p.view → IsIdle o callers p.view
    → Gathered o callers (p ∷ done) (joined v p.view)
gathers_more slots callers o done v p g rest idle = let u : View = p.view in let ne = rest.numbered in let k : ℕ = u.number - 1 in let e : u.number ≡ suc k = omega arith in record {
  live = g.live;
  opening_is = g.opening_is;
  callers_is = g.callers_is;
  no_turn = g.no_turn;
  answers = let a = lengths_joined v u g.live rest.live k e in let b = ap (λ (l : List ℕ). length l) (alone_numbers slots u rest) in let c = g.answers in omega arith;
  numbers_are = λ n. let a = numbers_joined v u g.live rest.live k e n in let b = ap (times n) (alone_numbers slots u rest) in let c = g.numbers_are n in omega arith;
  made_is = let a = made_joined v u g.live rest.live in let b = alone_made slots u rest in let c = g.made_is in let d : calls_of (p ∷ done) ≡ length u.mine + calls_of done = refl in omega arith;
  keeps = all_first (λ (q : Standing). Keeps (joined v u) q.view) p done (records_other v u (idle.opening_is ∙ sym g.opening_is)) (all_more (λ (q : Standing). q.view) v u done g.keeps);
}

pub closes_for : {V : Type 0} (M : Meaning V) (callers : ℕ) (v : View) (o : List ℕ) (ps : List Standing) (calls : ℕ) (xs : List V)
    → Gathered o callers ps v → length ps ≡ callers → Leaves M v calls (map Some xs) → Closes M o ps calls xs
closes_for {V} M callers v o ps calls xs g count l = record {
  history = l.history;
  legal = subst (λ (z : List ℕ). LegalOver M z l.history) g.opening_is l.legal;
  length_is = l.length_is;
  sum_is = l.sum_is ∙ g.made_is;
  few = l.few;
  numbers_are = λ n. sym (g.numbers_are n) ∙ (l.numbers_are n ∙ ap (once_to n) (g.callers_is ∙ sym count));
  parts = λ k d inside. part_of M v (get_or ps k d).view calls (map Some xs) l (g.keeps k d inside);
  values_are = λ k inside. let a = l.values_are k (subst (λ (n : ℕ). k < n) (sym (length_map {B = Option V} Some xs)) inside) in let b = at_map_back {B = Option V} Some xs k (Some a.0) a.1 in
      (a.0, b.1 ∙ ap some (some_of b.2), subst (λ (z : List ℕ). M.stands a.0 (state_of M z l.history k)) g.opening_is a.2);
}
