-- Lists of entries and of holds.
use Rattle.std.proofs.Common.{◌≡◌, ℕ, zero, suc, ◌+◌, ◌*◌, ◌≤◌, ◌≢◌, List, [], ◌∷◌, ◌++◌, map, length, length-append, sym, refl, ap, ◌∙◌, subst, arith, eq-eqb, ne_eqb, Bool, true, false}
use mathlib.Core.Logic.{dite}
use mathlib.Core.Option.{some, some-injective, some-ne-none}
use native.Mathlib.Decide.{ℕ_discrete}
use lib.ListN.{get_elem?}
use Rattle.std.specs.Prelude.{◌==◌, if◌then◌else◌}
use Rattle.turn_table.specs.declared.view.Lease.{Lease}
use Rattle.turn_table.specs.History.{Entry, caller_of, of_caller, Begins, states, Legal}
use Rattle.turn_table.specs.Views.{lease, marked, without, state_in}

pub if_true : {A : Type 0} (b : Bool) (x y : A) → b ≡ true → (if b then x else y) ≡ x
if_true b x y e = ap (λ (c : Bool). if c then x else y) e

pub if_false : {A : Type 0} (b : Bool) (x y : A) → b ≡ false → (if b then x else y) ≡ y
if_false b x y e = ap (λ (c : Bool). if c then x else y) e

pub at_map_back : {A B : Type 0} (f : A → B) (l : List A) (i : ℕ) (b : B) → get_elem? (map f l) i ≡ some b → (a : A) × (get_elem? l i ≡ some a) × (f a ≡ b)
at_map_back f [] i b e = absurd (some-ne-none b (sym e))
at_map_back f (x ∷ xs) zero b e = (x, refl, some-injective (f x) b e)
at_map_back f (x ∷ xs) (suc i) b e = at_map_back f xs i b e

module _ (after : ℕ → List ℕ → Entry → List ℕ) where
  pub states_snoc : (s : ℕ → List ℕ) (h : List Entry) (e : Entry) (k : ℕ) → states after s (h ++ e ∷ []) k ≡ after k (states after s h k) e
  states_snoc s [] e k = refl
  states_snoc s (x ∷ xs) e k = states_snoc (λ k. after k (s k) x) xs e k

  pub legal_snoc : (fits : (ℕ → List ℕ) → Entry → Type 0) (s : ℕ → List ℕ) (h : List Entry) (e : Entry) → Legal after fits s h → fits (states after s h) e → Legal after fits s (h ++ e ∷ [])
  legal_snoc fits s [] e l f = (f, tt)
  legal_snoc fits s (x ∷ xs) e l f = (l.0, legal_snoc fits (λ k. after k (s k) x) xs e l.1 f)

pub of_snoc : (k : ℕ) (h : List Entry) (e : Entry) → caller_of e ≡ k → of_caller k (h ++ e ∷ []) ≡ of_caller k h ++ e ∷ []
of_snoc k [] e is = if_true (caller_of e == k) (e ∷ []) [] (eq-eqb (caller_of e) k is)
of_snoc k (x ∷ xs) e is = dite (ℕ_discrete (caller_of x) k)
    (λ y. let t = eq-eqb (caller_of x) k y in if_true (caller_of x == k) (x ∷ of_caller k (xs ++ e ∷ [])) (of_caller k (xs ++ e ∷ [])) t ∙ (ap (λ (l : List Entry). x ∷ l) (of_snoc k xs e is)
    ∙ ap (λ (l : List Entry). l ++ e ∷ []) (sym (if_true (caller_of x == k) (x ∷ of_caller k xs) (of_caller k xs) t))))
    (λ n. let f = ne_eqb (caller_of x) k n in if_false (caller_of x == k) (x ∷ of_caller k (xs ++ e ∷ [])) (of_caller k (xs ++ e ∷ [])) f ∙ (of_snoc k xs e is
    ∙ ap (λ (l : List Entry). l ++ e ∷ []) (sym (if_false (caller_of x == k) (x ∷ of_caller k xs) (of_caller k xs) f))))

pub of_snoc_else : (k : ℕ) (h : List Entry) (e : Entry) → caller_of e ≢ k → of_caller k (h ++ e ∷ []) ≡ of_caller k h
of_snoc_else k [] e ne = if_false (caller_of e == k) (e ∷ []) [] (ne_eqb (caller_of e) k ne)
of_snoc_else k (x ∷ xs) e ne = ap (λ (l : List Entry). if caller_of x == k then x ∷ l else l) (of_snoc_else k xs e ne)

none_behind : (xs rest : List Entry) → length rest ≡ 0 → xs ≡ xs ++ rest
none_behind [] [] e = refl
none_behind [] (y ∷ ys) e = absurd (omega arith)
none_behind (x ∷ xs) rest e = ap (λ (l : List Entry). x ∷ l) (none_behind xs rest e)

-- the entries of the others
not_of : ℕ → List Entry → List Entry
not_of k [] = []
not_of k (e ∷ es) = if caller_of e == k then not_of k es else e ∷ not_of k es

-- there are no more entries than the callers may make
abbrev ByUpTo : ℕ → List Entry → Type 0
ByUpTo n h = (i : ℕ) (e : Entry) → get_elem? h i ≡ some e → (1 ≤ caller_of e) × (caller_of e ≤ n)

cut_lengths : (k : ℕ) (h : List Entry) → length h ≡ length (of_caller k h) + length (not_of k h)
unfolding not_of
cut_lengths k [] = refl
cut_lengths k (x ∷ xs) = dite (ℕ_discrete (caller_of x) k)
    (λ y. let t = eq-eqb (caller_of x) k y in let a = ap (λ (l : List Entry). length l) (if_true (caller_of x == k) (x ∷ of_caller k xs) (of_caller k xs) t) in
    let b = ap (λ (l : List Entry). length l) (if_true (caller_of x == k) (not_of k xs) (x ∷ not_of k xs) t) in let i = cut_lengths k xs in omega arith)
    (λ n. let f = ne_eqb (caller_of x) k n in let a = ap (λ (l : List Entry). length l) (if_false (caller_of x == k) (x ∷ of_caller k xs) (of_caller k xs) f) in
    let b = ap (λ (l : List Entry). length l) (if_false (caller_of x == k) (not_of k xs) (x ∷ not_of k xs) f) in let i = cut_lengths k xs in omega arith)

less_of : (j k : ℕ) (h : List Entry) → length (of_caller j (not_of k h)) ≤ length (of_caller j h)
unfolding not_of
less_of j k [] = omega arith
less_of j k (x ∷ xs) = let i = less_of j k xs in dite (ℕ_discrete (caller_of x) k)
    (λ y. let b = ap (λ (l : List Entry). length (of_caller j l)) (if_true (caller_of x == k) (not_of k xs) (x ∷ not_of k xs) (eq-eqb (caller_of x) k y)) in
    dite (ℕ_discrete (caller_of x) j)
    (λ z. let c = ap (λ (l : List Entry). length l) (if_true (caller_of x == j) (x ∷ of_caller j xs) (of_caller j xs) (eq-eqb (caller_of x) j z)) in omega arith)
    (λ z. let c = ap (λ (l : List Entry). length l) (if_false (caller_of x == j) (x ∷ of_caller j xs) (of_caller j xs) (ne_eqb (caller_of x) j z)) in omega arith))
    (λ n. let b = ap (λ (l : List Entry). length (of_caller j l)) (if_false (caller_of x == k) (not_of k xs) (x ∷ not_of k xs) (ne_eqb (caller_of x) k n)) in
    dite (ℕ_discrete (caller_of x) j)
    (λ z. let t = eq-eqb (caller_of x) j z in let c = ap (λ (l : List Entry). length l) (if_true (caller_of x == j) (x ∷ of_caller j xs) (of_caller j xs) t) in
    let d = ap (λ (l : List Entry). length l) (if_true (caller_of x == j) (x ∷ of_caller j (not_of k xs)) (of_caller j (not_of k xs)) t) in omega arith)
    (λ z. let t = ne_eqb (caller_of x) j z in let c = ap (λ (l : List Entry). length l) (if_false (caller_of x == j) (x ∷ of_caller j xs) (of_caller j xs) t) in
    let d = ap (λ (l : List Entry). length l) (if_false (caller_of x == j) (x ∷ of_caller j (not_of k xs)) (of_caller j (not_of k xs)) t) in omega arith))

at_not_of_else : (k : ℕ) (x : Entry) (xs : List Entry) → caller_of x ≢ k → (i : ℕ) (e : Entry) → get_elem? (x ∷ not_of k xs) i ≡ some e
    → ((i : ℕ) (e : Entry) → get_elem? (not_of k xs) i ≡ some e → (caller_of e ≢ k) × ((j : ℕ) × (get_elem? xs j ≡ some e))) → (caller_of e ≢ k) × ((j : ℕ) × (get_elem? (x ∷ xs) j ≡ some e))
at_not_of_else k x xs n zero e a rest = let is = some-injective x e a in ((λ (y : caller_of e ≡ k). n (ap caller_of is ∙ y)), (0, a))
at_not_of_else k x xs n (suc i) e a rest = let r = rest i e a in (r.0, (suc r.1.0, r.1.1))

at_not_of : (k : ℕ) (h : List Entry) (i : ℕ) (e : Entry) → get_elem? (not_of k h) i ≡ some e → (caller_of e ≢ k) × ((j : ℕ) × (get_elem? h j ≡ some e))
unfolding not_of
at_not_of k [] i e a = absurd (some-ne-none e (sym a))
at_not_of k (x ∷ xs) i e a = dite (ℕ_discrete (caller_of x) k)
    (λ y. let r = at_not_of k xs i e (subst (λ (l : List Entry). get_elem? l i ≡ some e) (if_true (caller_of x == k) (not_of k xs) (x ∷ not_of k xs) (eq-eqb (caller_of x) k y)) a) in (r.0, (suc r.1.0, r.1.1)))
    (λ n. at_not_of_else k x xs n i e (subst (λ (l : List Entry). get_elem? l i ≡ some e) (if_false (caller_of x == k) (not_of k xs) (x ∷ not_of k xs) (ne_eqb (caller_of x) k n)) a) (at_not_of k xs))

pub few_entries : (n : ℕ) (h : List Entry) → ByUpTo n h → ((k : ℕ) → length (of_caller k h) ≤ 1099511627776) → length h ≤ n * 1099511627776
few_entries zero [] by each = omega arith
few_entries zero (x ∷ xs) by each = let b = by 0 x refl in absurd (omega arith)
few_entries (suc n) h by each = let c = cut_lengths (suc n) h in let e = each (suc n) in
    let i = few_entries n (not_of (suc n) h) (λ i e a. let r = at_not_of (suc n) h i e a in let b = by r.1.0 e r.1.1 in let ne = r.0 in (b.0, omega arith)) (λ k. let l = less_of k (suc n) h in let e = each k in omega arith) in omega arith

-- what the holds say of a slot
state_listed_else : (F : ℕ → List ℕ) (x : Lease) (xs : List Lease) → ((i : ℕ) (t : Lease) → get_elem? (x ∷ xs) i ≡ some t → t.state ≡ F t.slot) → (k : ℕ) → x.slot ≢ k
    → ((k i : ℕ) (t : Lease) → get_elem? xs i ≡ some t → t.slot ≡ k → state_in xs k ≡ F k) → (i : ℕ) (t : Lease) → get_elem? (x ∷ xs) i ≡ some t → t.slot ≡ k → state_in xs k ≡ F k
state_listed_else F x xs all k n rest zero t a is = absurd (n (ap (λ (h : Lease). h.slot) (some-injective x t a) ∙ is))
state_listed_else F x xs all k n rest (suc i) t a is = rest k i t a is

pub state_listed : (F : ℕ → List ℕ) (hs : List Lease) → ((i : ℕ) (t : Lease) → get_elem? hs i ≡ some t → t.state ≡ F t.slot) → (k i : ℕ) (t : Lease) → get_elem? hs i ≡ some t → t.slot ≡ k → state_in hs k ≡ F k
state_listed F [] all k i t a is = absurd (some-ne-none t (sym a))
state_listed F (x ∷ xs) all k i t a is = dite (ℕ_discrete x.slot k)
    (λ y. if_true (x.slot == k) x.state (state_in xs k) (eq-eqb x.slot k y) ∙ (all 0 x refl ∙ ap F y))
    (λ n. if_false (x.slot == k) x.state (state_in xs k) (ne_eqb x.slot k n) ∙ state_listed_else F x xs all k n (state_listed F xs (λ i t a. all (suc i) t a)) i t a is)

pub marked_here : (k : ℕ) (b : Bool) (t : Lease) → t.slot ≡ k → marked k b t ≡ lease t.slot t.target t.state b
marked_here k b t e = if_true (t.slot == k) (lease t.slot t.target t.state b) t (eq-eqb t.slot k e)

pub marked_else : (k : ℕ) (b : Bool) (t : Lease) → t.slot ≢ k → marked k b t ≡ t
marked_else k b t n = if_false (t.slot == k) (lease t.slot t.target t.state b) t (ne_eqb t.slot k n)

pub marked_slot : (k : ℕ) (b : Bool) (t : Lease) → (marked k b t).slot ≡ t.slot
marked_slot k b t = dite (ℕ_discrete t.slot k) (λ e. ap (λ (h : Lease). h.slot) (marked_here k b t e)) (λ n. ap (λ (h : Lease). h.slot) (marked_else k b t n))

pub marked_none : (k : ℕ) (b : Bool) (hs : List Lease) → ((i : ℕ) (t : Lease) → get_elem? hs i ≡ some t → t.slot ≢ k) → map (marked k b) hs ≡ hs
marked_none k b [] ne = refl
marked_none k b (x ∷ xs) ne = λ i. marked_else k b x (ne 0 x refl) i ∷ marked_none k b xs (λ i t a. ne (suc i) t a) i

at_without_else : (k : ℕ) (x : Lease) (xs : List Lease) → x.slot ≢ k → ((i : ℕ) (t : Lease) → get_elem? (without k xs) i ≡ some t → (t.slot ≢ k) × ((j : ℕ) × (get_elem? xs j ≡ some t)))
    → (i : ℕ) (t : Lease) → get_elem? (x ∷ without k xs) i ≡ some t → (t.slot ≢ k) × ((j : ℕ) × (get_elem? (x ∷ xs) j ≡ some t))
at_without_else k x xs ne rest zero t a = ((λ e. ne (ap (λ (h : Lease). h.slot) (some-injective x t a) ∙ e)), (0, a))
at_without_else k x xs ne rest (suc i) t a = let r = rest i t a in (r.0, (suc r.1.0, r.1.1))

pub at_without : (k : ℕ) (hs : List Lease) (i : ℕ) (t : Lease) → get_elem? (without k hs) i ≡ some t → (t.slot ≢ k) × ((j : ℕ) × (get_elem? hs j ≡ some t))
at_without k [] i t a = absurd (some-ne-none t (sym a))
at_without k (x ∷ xs) i t a = dite (ℕ_discrete x.slot k)
    (λ e. let r = at_without k xs i t (subst (λ (l : List Lease). get_elem? l i ≡ some t) (if_true (x.slot == k) (without k xs) (x ∷ without k xs) (eq-eqb x.slot k e)) a) in (r.0, (suc r.1.0, r.1.1)))
    (λ n. at_without_else k x xs n (at_without k xs) i t (subst (λ (l : List Lease). get_elem? l i ≡ some t) (if_false (x.slot == k) (without k xs) (x ∷ without k xs) (ne_eqb x.slot k n)) a))

without_else : (k : ℕ) (x : Lease) (xs : List Lease) → x.slot ≢ k → ((i : ℕ) (t : Lease) → get_elem? xs i ≡ some t → t.slot ≢ k → (j : ℕ) × (get_elem? (without k xs) j ≡ some t))
    → (i : ℕ) (t : Lease) → get_elem? (x ∷ xs) i ≡ some t → t.slot ≢ k → (j : ℕ) × (get_elem? (x ∷ without k xs) j ≡ some t)
without_else k x xs ne rest zero t a n = (0, a)
without_else k x xs ne rest (suc i) t a n = let r = rest i t a n in (suc r.0, r.1)

without_here : (k : ℕ) (x : Lease) (xs : List Lease) → x.slot ≡ k → ((i : ℕ) (t : Lease) → get_elem? xs i ≡ some t → t.slot ≢ k → (j : ℕ) × (get_elem? (without k xs) j ≡ some t))
    → (i : ℕ) (t : Lease) → get_elem? (x ∷ xs) i ≡ some t → t.slot ≢ k → (j : ℕ) × (get_elem? (without k xs) j ≡ some t)
without_here k x xs e rest zero t a n = absurd (n (sym (ap (λ (h : Lease). h.slot) (some-injective x t a)) ∙ e))
without_here k x xs e rest (suc i) t a n = rest i t a n

pub in_without : (k : ℕ) (hs : List Lease) (i : ℕ) (t : Lease) → get_elem? hs i ≡ some t → t.slot ≢ k → (j : ℕ) × (get_elem? (without k hs) j ≡ some t)
in_without k [] i t a n = absurd (some-ne-none t (sym a))
in_without k (x ∷ xs) i t a n = dite (ℕ_discrete x.slot k)
    (λ e. let r = without_here k x xs e (in_without k xs) i t a n in (r.0, subst (λ (l : List Lease). get_elem? l r.0 ≡ some t) (sym (if_true (x.slot == k) (without k xs) (x ∷ without k xs) (eq-eqb x.slot k e))) r.1))
    (λ ne. let r = without_else k x xs ne (in_without k xs) i t a n in (r.0, subst (λ (l : List Lease). get_elem? l r.0 ≡ some t) (sym (if_false (x.slot == k) (without k xs) (x ∷ without k xs) (ne_eqb x.slot k ne))) r.1))

pub without_marked : (k : ℕ) (b : Bool) (hs : List Lease) → without k (map (marked k b) hs) ≡ without k hs
without_marked k b [] = refl
without_marked k b (x ∷ xs) = dite (ℕ_discrete x.slot k)
    (λ e. if_true ((marked k b x).slot == k) (without k (map (marked k b) xs)) (marked k b x ∷ without k (map (marked k b) xs)) (eq-eqb (marked k b x).slot k (marked_slot k b x ∙ e))
    ∙ (without_marked k b xs ∙ sym (if_true (x.slot == k) (without k xs) (x ∷ without k xs) (eq-eqb x.slot k e))))
    (λ n. if_false ((marked k b x).slot == k) (without k (map (marked k b) xs)) (marked k b x ∷ without k (map (marked k b) xs)) (ne_eqb (marked k b x).slot k (λ e. n (sym (marked_slot k b x) ∙ e)))
    ∙ ((λ i. marked_else k b x n i ∷ without_marked k b xs i) ∙ sym (if_false (x.slot == k) (without k xs) (x ∷ without k xs) (ne_eqb x.slot k n))))

pub marked_state : (k : ℕ) (b : Bool) (t : Lease) → (marked k b t).state ≡ t.state
marked_state k b t = dite (ℕ_discrete t.slot k) (λ e. ap (λ (h : Lease). h.state) (marked_here k b t e)) (λ n. ap (λ (h : Lease). h.state) (marked_else k b t n))

-- a front that is as long is the whole
pub front_whole : (xs ys : List Entry) → Begins xs ys → length ys ≤ length xs → xs ≡ ys
front_whole xs ys b long = none_behind xs b.0 (let l = length-append xs b.0 in let e = ap (λ (l : List Entry). length l) b.1 in omega arith) ∙ sym b.1
