-- Numbers of views added up, numbers that are drawn, and views that change.
use Rattle.std.proofs.Common.{◌≡◌, ℕ, zero, suc, ◌+◌, ◌<◌, ◌≤◌, ◌≢◌, List, [], ◌∷◌, ◌++◌, map, length, set, sym, refl, ap, ◌∙◌, subst, arith, eq-eqb, ne_eqb, lt_of_not-le, Bool, true, true≢false}
use mathlib.Core.Logic.{dite}
use mathlib.Core.Option.{some, some-injective, some-ne-none}
use native.Mathlib.Decide.{dec_le, ℕ_discrete}
use lib.ListN.{get_elem?}
use Rattle.std.specs.Prelude.{◌==◌, if◌then◌else◌}
use Rattle.atomic_table.proofs.Lists.{set_here, set_else}
use Rattle.turn_table.specs.declared.view.View.{View}
use Rattle.turn_table.specs.declared.view.Lease.{Lease}
use Rattle.turn_table.specs.History.{Entry}
use Rattle.turn_table.specs.Views.{blank}
use Rattle.turn_table.specs.TurnRule.{total, times, once_to, own_number, number_of_ended, numbers, IsListed, IsSeen}
use Rattle.turn_table.proofs.Lists.{if_true, if_false}

-- totals

pub total_set : (f : View → ℕ) (vs : List View) (j : ℕ) (v w : View) → get_elem? vs j ≡ some v → total f (set vs j w) + f v ≡ total f vs + f w
total_set f [] j v w at = absurd (some-ne-none v (sym at))
total_set f (x ∷ xs) zero v w at = let e : f x ≡ f v = ap f (some-injective x v at) in omega arith
total_set f (x ∷ xs) (suc j) v w at = let i = total_set f xs j v w at in omega arith

pub same_total : (f : View → ℕ) (vs : List View) (j : ℕ) (v w : View) → get_elem? vs j ≡ some v → f w ≡ f v → total f (set vs j w) ≡ total f vs
same_total f vs j v w at same = let t = total_set f vs j v w at in omega arith

pub one_of : (f : View → ℕ) (vs : List View) (i : ℕ) (v : View) → get_elem? vs i ≡ some v → f v ≤ total f vs
one_of f [] i v at = absurd (some-ne-none v (sym at))
one_of f (x ∷ xs) zero v at = let e : f x ≡ f v = ap f (some-injective x v at) in omega arith
one_of f (x ∷ xs) (suc i) v at = let t = one_of f xs i v at in omega arith

-- of two views the total has both
pub two_of : (f : View → ℕ) (vs : List View) (i j : ℕ) (v w : View) → get_elem? vs i ≡ some v → get_elem? vs j ≡ some w → i ≢ j → f v + f w ≤ total f vs
two_of f [] i j v w at at' apart = absurd (some-ne-none v (sym at))
two_of f (x ∷ xs) zero zero v w at at' apart = absurd (apart refl)
two_of f (x ∷ xs) zero (suc j) v w at at' apart = let e : f x ≡ f v = ap f (some-injective x v at) in let t = one_of f xs j w at' in omega arith
two_of f (x ∷ xs) (suc i) zero v w at at' apart = let e : f x ≡ f w = ap f (some-injective x w at') in let t = one_of f xs i v at in omega arith
two_of f (x ∷ xs) (suc i) (suc j) v w at at' apart = let t = two_of f xs i j v w at at' (λ e. apart (ap suc e)) in omega arith

-- a view that lists a slot still does
abbrev pub Relisted : View → View → Type 0
Relisted v w = (i : ℕ) (t : Lease) → get_elem? v.leases i ≡ some t → (i' : ℕ) × (t' : Lease) × (get_elem? w.leases i' ≡ some t') × (t'.slot ≡ t.slot)

pub taken_stays : (vs : List View) (id : ℕ) (v w : View) → get_elem? vs id ≡ some v → id < length vs → w.live ≡ true → Relisted v w → (k : ℕ) → IsListed vs k → IsListed (set vs id w) k
taken_stays vs id v w at inside live list k t = dite (ℕ_discrete t.0 id)
    (λ e. let same : v ≡ t.1 = some-injective v t.1 (sym at ∙ (ap (get_elem? vs) (sym e) ∙ t.4)) in
    let h = list t.2 t.3 (subst (λ (u : View). get_elem? u.leases t.2 ≡ some t.3) (sym same) t.6) in
    (id, w, h.0, h.1, set_here vs id w inside, live, h.2, h.3 ∙ t.7))
    (λ ne. (t.0, t.1, t.2, t.3, set_else vs id t.0 w ne ∙ t.4, t.5, t.6, t.7))

pub inside_of : {A : Type 0} (l : List A) (i : ℕ) (a : A) → get_elem? l i ≡ some a → i < length l
inside_of [] i a e = absurd (some-ne-none a (sym e))
inside_of (x ∷ xs) zero a e = omega arith
inside_of (x ∷ xs) (suc i) a e = let h = inside_of xs i a e in omega arith

-- the whole history is seen still
pub seen_stays : (vs : List View) (id : ℕ) (v w : View) (h : List Entry) → get_elem? vs id ≡ some v → w.live ≡ true → (v.seen ≡ h → w.seen ≡ h) → IsSeen vs h → IsSeen (set vs id w) h
seen_stays vs id v w h at live on t = dite (ℕ_discrete t.0 id)
    (λ e. let same : t.1 ≡ v = some-injective t.1 v (sym t.2 ∙ (ap (get_elem? vs) e ∙ at)) in
    (id, w, set_here vs id w (inside_of vs id v at), live, on (ap (λ (u : View). u.seen) (sym same) ∙ t.4)))
    (λ ne. (t.0, t.1, set_else vs id t.0 w ne ∙ t.2, t.3, t.4))

-- numbers that are drawn

pub times_here : (x : ℕ) (ys : List ℕ) → times x (x ∷ ys) ≡ suc (times x ys)
times_here x ys = let e = if_true {A = ℕ} (x == x) 1 0 (eq-eqb x x refl) in omega arith

pub once_above : (x n : ℕ) → n < x → once_to x n ≡ 0
once_above x zero h = refl
once_above x (suc n) h = let e = if_false {A = ℕ} (suc n == x) 1 0 (ne_eqb (suc n) x (λ i. omega arith)) in let i = once_above x n (omega arith) in omega arith

pub once_small : (x n : ℕ) → once_to x n ≤ 1
once_small x zero = omega arith
once_small x (suc n) = dite (ℕ_discrete (suc n) x)
    (λ i. let e = if_true {A = ℕ} (suc n == x) 1 0 (eq-eqb (suc n) x i) in let o = once_above x n (omega arith) in omega arith)
    (λ i. let e = if_false {A = ℕ} (suc n == x) 1 0 (ne_eqb (suc n) x i) in let o = once_small x n in omega arith)

pub once_below : (x n : ℕ) → 1 ≤ once_to x n → x ≤ n
once_below x n h = dite (dec_le x n) (λ l. l) (λ l. let o = once_above x n (lt_of_not-le l) in omega arith)

-- a live view answers for its own number
pub own_here : (v : View) (n : ℕ) → v.live ≡ true → v.number ≡ suc n → 1 ≤ times (suc n) (numbers v)
own_here v n live is = let e : numbers v ≡ suc n ∷ map number_of_ended v.ended = ap (λ (b : Bool). if b then own_number v.number ++ map number_of_ended v.ended else []) live ∙ ap (λ (k : ℕ). own_number k ++ map number_of_ended v.ended) is in
    let t : times (suc n) (numbers v) ≡ suc (times (suc n) (map number_of_ended v.ended)) = ap (times (suc n)) e ∙ times_here (suc n) (map number_of_ended v.ended) in omega arith

pub nothing_listed : (hs : List Lease) → hs ≡ [] → (i : ℕ) (t : Lease) → get_elem? hs i ≡ some t → ⊥
nothing_listed hs e i t at = some-ne-none t (sym (subst (λ (l : List Lease). get_elem? l i ≡ some t) e at))

pub append_none : {A : Type 0} (l : List A) → l ++ [] ≡ l
append_none [] = refl
append_none (x ∷ xs) = ap (λ l. x ∷ l) (append_none xs)

pub not_blank : (n id : ℕ) (v : View) → v.live ≡ true → get_elem? (blank n ∷ []) id ≡ some v → ⊥
not_blank n zero v live e = true≢false (sym live ∙ ap (λ (u : View). u.live) (sym (some-injective (blank n) v e)))
not_blank n (suc id) v live e = some-ne-none v (sym e)
