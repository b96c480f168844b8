-- A run at the end of a list, counted from the end back, against the same samples looked at one by one.
use Rattle.std.proofs.Common.{◌≡◌, ℕ, zero, suc, ◌+◌, ◌-◌, ◌≤◌, Bool, true, false, cond, List, [], ◌∷◌, ◌++◌, length, take, drop, reverse, refl, sym, ap, ◌∙◌, arith, length-drop}
use Rattle.std.specs.Prelude.{◌&&◌, ◌==◌, nat_le, slice_index}
use Rattle.std.specs.List.{list_all, prefix_len, suffix_len}
use Rattle.std.proofs.lemmas.List.{reverse-append, reverse-reverse, length-reverse, take-append-drop, drop_at, take_all}
use Rattle.std.proofs.lemmas.List.Sums.{suffix_len-take_no, suffix_len-le-length}
use Rattle.std.proofs.lemmas.Bool.Decides.{nat_tests}
use Rattle.std.proofs.lemmas.Bool.{and_right, ne_eqb, eq-eqb, eqb-true, eqb-false, le-leb, lt-leb, leb-true, leb-false}

list_all-append : (p : ℕ → Bool) (xs ys : List ℕ) → list_all p (xs ++ ys) ≡ (list_all p xs && list_all p ys)
list_all-append p [] ys = refl
list_all-append p (x ∷ xs) ys = by (p x) (list_all-append p xs ys) where
  by : (b : Bool) → list_all p (xs ++ ys) ≡ (list_all p xs && list_all p ys)
      → (b && list_all p (xs ++ ys)) ≡ ((b && list_all p xs) && list_all p ys)
  by true h = h
  by false h = refl

and_comm : (a b : Bool) → (a && b) ≡ (b && a)
and_comm true true = refl
and_comm true false = refl
and_comm false true = refl
and_comm false false = refl

list_all-reverse : (p : ℕ → Bool) (xs : List ℕ) → list_all p (reverse xs) ≡ list_all p xs
list_all-reverse p [] = refl
list_all-reverse p (x ∷ xs) =
    ap (list_all p) (reverse-append (x ∷ []) xs)
    ∙ (list_all-append p (reverse xs) (x ∷ [])
    ∙ (ap (λ b. b && (p x && true)) (list_all-reverse p xs)
    ∙ (and_comm (list_all p xs) (p x && true) ∙ ap (λ b. b && list_all p xs) (by (p x))))) where
      by : (b : Bool) → (b && true) ≡ b
      by true = refl
      by false = refl

le_more : (c n : ℕ) → nat_le c n ≡ nat_le (suc c) (1 + n)
le_more c n = grind (arith, nat_tests)

le_suc : (c n : ℕ) → nat_le (suc c) (suc n) ≡ nat_le c n
le_suc c n = grind (arith, nat_tests)

-- the first c pass, exactly where the longest front that passes is as long
front : (p : ℕ → Bool) (c : ℕ) (y : List ℕ) → (nat_le c (length y) && list_all p (take c y)) ≡ nat_le c (prefix_len p y)
front p zero y =
    ap (λ b. b && true) (le-leb 0 (length y) (omega arith)) ∙ sym (le-leb 0 (prefix_len p y) (omega arith))
front p (suc c) [] =
    let short : nat_le (suc c) 0 ≡ false = lt-leb (suc c) 0 (omega arith) in ap (λ b. b && true) short ∙ sym short
front p (suc c) (x ∷ y) = ap (λ b. b && (p x && list_all p (take c y))) (le_suc c (length y)) ∙ by (p x) (front p c y) where
  by : (b : Bool) → (nat_le c (length y) && list_all p (take c y)) ≡ nat_le c (prefix_len p y)
      → (nat_le c (length y) && (b && list_all p (take c y))) ≡ nat_le (suc c) (cond b (1 + prefix_len p y) 0)
  by true h = h ∙ le_more c (prefix_len p y)
  by false h = and_right (nat_le c (length y)) false refl ∙ sym (lt-leb (suc c) 0 (omega arith))

-- the last c of a list are the first c of it backwards
last_ones : (c : ℕ) (z : List ℕ) → c ≤ length z → drop (length z - c) z ≡ reverse (take c (reverse z))
last_ones c z h =
    let y = reverse z in
    let split : z ≡ reverse (drop c y) ++ reverse (take c y) =
    sym (reverse-reverse z) ∙ (ap reverse (sym (take-append-drop c y)) ∙ reverse-append (take c y) (drop c y)) in
    let len : length (reverse (drop c y)) ≡ length z - c =
    length-reverse (drop c y) ∙ (length-drop c y ∙ ap (λ n. n - c) (length-reverse z)) in
    ap (drop (length z - c)) split ∙ drop_at (reverse (drop c y)) (reverse (take c y)) (length z - c) len

-- the last c samples pass, exactly where the run from the end back that passes is as long
pub run_long : (p : ℕ → Bool) (c : ℕ) (z : List ℕ)
    → (nat_le c (length z) && list_all p (drop (length z - c) z)) ≡ nat_le c (suffix_len p z)
run_long p c z = by (nat_le c (length z)) refl where
  by : (b : Bool) → nat_le c (length z) ≡ b → (b && list_all p (drop (length z - c) z)) ≡ nat_le c (suffix_len p z)
  by true h =
      let whole : nat_le c (length (reverse z)) ≡ true = ap (nat_le c) (length-reverse z) ∙ h in
      ap (list_all p) (last_ones c z (leb-true c (length z) h))
      ∙ (list_all-reverse p (take c (reverse z))
      ∙ (ap (λ b. b && list_all p (take c (reverse z))) (sym whole) ∙ front p c (reverse z)))
  by false h =
      sym (lt-leb c (suffix_len p z) (omega (arith, suffix_len-le-length p z, leb-false c (length z) h)))

-- a run of samples like s is empty where the last sample is another
pub run_none : (s : ℕ) (x : List ℕ) → (slice_index x (length x - 1) ≡ s → ⊥) → suffix_len (λ q. q == s) x ≡ 0
run_none s [] h = refl
run_none s (a ∷ x) h =
    let z = a ∷ x in
    let other : (slice_index z (length z - 1) == s) ≡ false = ne_eqb (slice_index z (length z - 1)) s h in
    ap (suffix_len (λ q. q == s)) (sym (take_all (length z) z (omega arith)))
    ∙ suffix_len-take_no (λ q. q == s) z (length z) 0 (omega arith) (omega arith) other

-- the run with one sample more
pub run_more : (s : ℕ) (x : List ℕ) → suffix_len (λ q. q == s) (x ++ s ∷ [])
    ≡ cond (s == slice_index x (length x - 1)) (suffix_len (λ q. q == slice_index x (length x - 1)) x + 1) 1
run_more s x = by (s == slice_index x (length x - 1)) refl where
  first : suffix_len (λ q. q == s) (x ++ s ∷ []) ≡ 1 + suffix_len (λ q. q == s) x
  first =
      ap (prefix_len (λ q. q == s)) (reverse-append x (s ∷ []))
      ∙ ap (λ b. cond b (1 + suffix_len (λ q. q == s) x) 0) (eq-eqb s s refl)

  by : (b : Bool) → (s == slice_index x (length x - 1)) ≡ b → suffix_len (λ q. q == s) (x ++ s ∷ [])
      ≡ cond b (suffix_len (λ q. q == slice_index x (length x - 1)) x + 1) 1
  by true h =
      first ∙ (ap (λ l. 1 + suffix_len (λ q. q == l) x) (eqb-true s (slice_index x (length x - 1)) h) ∙ omega arith)
  by false h =
      first ∙ ap (λ n. 1 + n) (run_none s x (λ e. eqb-false s (slice_index x (length x - 1)) h (sym e)))
