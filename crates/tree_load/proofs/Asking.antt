-- What one length more that is asked of a node asks of all nodes. Lists of lengths are compared by their weights: by the sums of every
-- function over them, which do not know an order.
use Rattle.std.proofs.Common.{◌≡◌, ◌∙◌, ◌++◌, ◌∷◌, ◌+◌, ◌*◌, ◌<◌, ◌≤◌, ℕ, List, [], zero, suc, Bool, true, false, length, refl, sym, ap, subst, arith, eqb-true, eq-eqb, add-mul, zero-add}
use Rattle.std.specs.Prelude.{◌==◌, if◌then◌else◌, flat_map, is_some, Option, Some, None, slice_get, unwrap_or}
use Rattle.std.specs.List.{range_with_len}
use Rattle.std.proofs.Math.ListN.{replicate}
use Rattle.tree_config.specs.Tree.{Tree, parent_in}
use Rattle.tree_config.specs.declared.plan.NodePlan.{NodePlan}
use Rattle.rbg_nodes.specs.declared.node.NodeRow.{NodeRow}
use Rattle.rbg_nodes.specs.Node.{entropy_len}
use Rattle.tree_rules.specs.Slots.{no_node, node_plan, node_row}
use Rattle.tree_rules.specs.Links.{is_rs}
use Rattle.tree_load.specs.Tally.{asks, chunks_for, gives_for, is_child, is_parent, reseeds_by, reseeds_for, sum_of, SameLengths}

pub sum-append : (f : ℕ → ℕ) (xs ys : List ℕ) → sum_of f (xs ++ ys) ≡ sum_of f xs + sum_of f ys
sum-append f [] ys = omega arith
sum-append f (x ∷ xs) ys = omega (arith, sum-append f xs ys)

-- the first list has one length more
abbrev pub More : ℕ → List ℕ → List ℕ → Type 0
More len xs ys = (w : ℕ → ℕ) → sum_of w xs ≡ w len + sum_of w ys

pub length_weighs : (xs : List ℕ) → length xs ≡ sum_of (λ (x : ℕ). 1) xs
length_weighs [] = refl
length_weighs (x ∷ xs) = omega (arith, length_weighs xs)

pub same_length : (xs ys : List ℕ) → SameLengths xs ys → length xs ≡ length ys
same_length xs ys s = length_weighs xs ∙ (s (λ (x : ℕ). 1) ∙ sym (length_weighs ys))

pub more_length : (len : ℕ) (xs ys : List ℕ) → More len xs ys → length xs ≡ suc (length ys)
more_length len xs ys s = let a = length_weighs xs in let b = length_weighs ys in let c = s (λ (x : ℕ). 1) in omega (arith, a, b, c)

pub same_gives : (row : NodeRow) (xs ys : List ℕ) → SameLengths xs ys → gives_for row xs ≡ gives_for row ys
same_gives row xs ys s = by (is_rs row.kind) where
  by : (b : Bool) → (if b then sum_of (λ len. chunks_for row len) xs else length xs) ≡ (if b then sum_of (λ len. chunks_for row len) ys else length ys)
  by true = s (λ len. chunks_for row len)
  by false = same_length xs ys s

pub same_reseeds : (row : NodeRow) (c : ℕ) (xs ys : List ℕ) → SameLengths xs ys → reseeds_for row c xs ≡ reseeds_for row c ys
same_reseeds row c xs ys s = by (is_rs row.kind) where
  by : (b : Bool) → (if b then gives_for row xs else reseeds_by row.interval c (length xs)) ≡ (if b then gives_for row ys else reseeds_by row.interval c (length ys))
  by true = same_gives row xs ys s
  by false = ap (reseeds_by row.interval c) (same_length xs ys s)

pub replicate_weighs : (w : ℕ → ℕ) (k x : ℕ) → sum_of w (replicate k x) ≡ k * w x
replicate_weighs w zero x = omega arith
replicate_weighs w (suc k) x = omega (arith, replicate_weighs w k x)

pub flat_weighs : (w : ℕ → ℕ) (g : ℕ → List ℕ) (xs : List ℕ) → sum_of w (flat_map g xs) ≡ sum_of (λ m. sum_of w (g m)) xs
flat_weighs w g [] = refl
flat_weighs w g (x ∷ xs) = let a = sum-append w (g x) (flat_map g xs) in let b = flat_weighs w g xs in omega (arith, a, b)

-- sums over numbers in a row that differ at one number at most
module _ (f g : ℕ → ℕ) (n x : ℕ) (at : (m : ℕ) → f m ≡ (if n == m then x else 0) + g m) where
  elsewhere : (m : ℕ) → (n ≡ m → ⊥) → f m ≡ g m
  elsewhere m other = by (n == m) refl (at m) where
    by : (b : Bool) → (n == m) ≡ b → f m ≡ (if b then x else 0) + g m → f m ≡ g m
    by true is h = absurd (other (eqb-true n m is))
    by false is h = omega (arith, h)

  here : f n ≡ x + g n
  here = subst (λ b. f n ≡ (if b then x else 0) + g n) (eq-eqb n n refl) (at n)

  behind : (a k : ℕ) → n < a → sum_of f (range_with_len a k) ≡ sum_of g (range_with_len a k)
  behind a zero less = refl
  behind a (suc k) less = let e = elsewhere a (λ h. absurd (omega arith)) in let r = behind (a + 1) k (omega arith) in omega (arith, e, r)

  pub before : (a k : ℕ) → a + k ≤ n → sum_of f (range_with_len a k) ≡ sum_of g (range_with_len a k)
  before a zero less = refl
  before a (suc k) less = let e = elsewhere a (λ h. absurd (omega arith)) in let r = before (a + 1) k (omega arith) in omega (arith, e, r)

  pub within : (a k : ℕ) → a ≤ n → n < a + k → sum_of f (range_with_len a k) ≡ x + sum_of g (range_with_len a k)
  within a zero low high = absurd (omega arith)
  within a (suc k) low high = by (n == a) refl (λ h i. within (a + 1) k h i) where
    by : (b : Bool) → (n == a) ≡ b → (a + 1 ≤ n → n < a + 1 + k → sum_of f (range_with_len (a + 1) k) ≡ x + sum_of g (range_with_len (a + 1) k))
        → sum_of f (range_with_len a (suc k)) ≡ x + sum_of g (range_with_len a (suc k))
    by true is ih =
        let same : n ≡ a = eqb-true n a is in
        let e = subst (λ (z : ℕ). f z ≡ x + g z) same here in
        let r = behind (a + 1) k (omega arith) in omega (arith, e, r)
    by false is ih =
        let other : n ≡ a → ⊥ = λ h. (let yes : (n == a) ≡ true = eq-eqb n a h in cc) in
        let e = elsewhere a other in
        let r = ih (omega arith) (omega arith) in omega (arith, e, r)

pub same_sums : (f g : ℕ → ℕ) → ((m : ℕ) → f m ≡ g m) → (a k : ℕ) → sum_of f (range_with_len a k) ≡ sum_of g (range_with_len a k)
same_sums f g at a zero = refl
same_sums f g at a (suc k) = let e = at a in let r = same_sums f g at (a + 1) k in omega (arith, e, r)

pub nothing : (b : Bool) (x f g : ℕ) → x ≡ 0 → f ≡ (if b then x else 0) + g → f ≡ g
nothing true x f g none h = omega (arith, none, h)
nothing false x f g none h = omega (arith, h)

-- a node that has a parent is there
pub child_low : (nodes : List NodePlan) (n q : ℕ) → parent_in (unwrap_or (slice_get nodes n) no_node).origin ≡ Some q → n < length nodes
child_low [] n q h = cc
child_low (x ∷ xs) zero q h = omega arith
child_low (x ∷ xs) (suc n) q h = let l = child_low xs n q h in omega (arith, l)

-- no node is more than `far` below this one
abbrev pub Low : ℕ → Tree → ℕ → Type 0
Low zero p n = (m : ℕ) → is_child p n m ≡ false
Low (suc far) p n = (m : ℕ) → is_child p n m ≡ true → Low far p m

-- One length more of node n, whose reseed counter goes from that of c to that of d, so that it reseeds `extra` times more now and then as
-- often as behind it.
module _ (p : Tree) (n len extra : ℕ) (c d : ℕ → ℕ) (own own' : ℕ → List ℕ) (one : ℕ → List ℕ) where
  abbrev part : (ℕ → ℕ) → ℕ → ℕ
  part w k = if n == k then w len else 0

  abbrev handed : (ℕ → ℕ) → ℕ → ℕ
  handed w k = if is_child p k n then extra * w (entropy_len (node_row p n)) else 0

  -- what is asked by calls: one length more of n; and behind it what n asks of its parent
  pub record Asks : Type 0 where
    pub more : (w : ℕ → ℕ) (k : ℕ) → sum_of w (one k) ≡ part w k + sum_of w (own k)
    pub rest : (w : ℕ → ℕ) (k : ℕ) → sum_of w (own' k) ≡ handed w k + sum_of w (own k)
    pub others : (m : ℕ) → (n == m) ≡ false → c m ≡ d m
    pub reseeds : is_some (parent_in (node_plan p n).origin) ≡ true → (xs ys : List ℕ) → More len xs ys
        → reseeds_for (node_row p n) (c n) xs ≡ extra + reseeds_for (node_row p n) (d n) ys

  module _ (is : Asks) where
    is_some_of : (k : ℕ) → is_child p k n ≡ true → is_some (parent_in (node_plan p n).origin) ≡ true
    is_some_of k h = by (parent_in (node_plan p n).origin) h where
      by : (o : Option ℕ) → is_parent k o ≡ true → is_some o ≡ true
      by None h = cc
      by (Some q) h = refl

    low_of : (k : ℕ) → is_child p k n ≡ true → n < length p.nodes
    low_of k h = by (parent_in (node_plan p n).origin) refl h where
      by : (o : Option ℕ) → parent_in (node_plan p n).origin ≡ o → is_parent k o ≡ true → n < length p.nodes
      by None at h = cc
      by (Some q) at h = child_low p.nodes n q at

    abbrev kids : ℕ → (ℕ → ℕ) → (ℕ → List ℕ) → ℕ → ℕ → List ℕ
    kids far c own k m = if is_child p k m then replicate (reseeds_for (node_row p m) (c m) (asks far p c own m)) (entropy_len (node_row p m)) else []

    -- what the child m asks
    kid : (far k : ℕ) (w : ℕ → ℕ) (m : ℕ) → (is_child p k m ≡ true → (v : ℕ → ℕ) → sum_of v (asks far p c one m) ≡ part v m + sum_of v (asks far p d own' m))
        → sum_of w (kids far c one k m) ≡ (if n == m then handed w k else 0) + sum_of w (kids far d own' k m)
    kid far k w m ih = by (is_child p k m) refl ih where
      xs : List ℕ
      xs = asks far p c one m

      ys : List ℕ
      ys = asks far p d own' m

      e : ℕ
      e = entropy_len (node_row p m)

      at : (b : Bool) → (n == m) ≡ b → is_child p k m ≡ true → ((v : ℕ → ℕ) → sum_of v xs ≡ (if b then v len else 0) + sum_of v ys)
          → sum_of w (replicate (reseeds_for (node_row p m) (c m) xs) e) ≡ (if b then handed w k else 0) + sum_of w (replicate (reseeds_for (node_row p m) (d m) ys) e)
      at true is_m child ih =
          let same : n ≡ m = eqb-true n m is_m in
          let h : is_child p k n ≡ true = subst (λ z. is_child p k z ≡ true) (sym same) child in
          let r = subst (λ z. reseeds_for (node_row p z) (c z) xs ≡ extra + reseeds_for (node_row p z) (d z) ys) same (is.reseeds (is_some_of k h) xs ys ih) in
          let given : handed w k ≡ extra * w e = ap (λ b. if b then extra * w (entropy_len (node_row p n)) else 0) h ∙ ap (λ z. extra * w (entropy_len (node_row p z))) same in
          let a = replicate_weighs w (reseeds_for (node_row p m) (c m) xs) e in
          let b = replicate_weighs w (reseeds_for (node_row p m) (d m) ys) e in
          let more : reseeds_for (node_row p m) (c m) xs * w e ≡ extra * w e + reseeds_for (node_row p m) (d m) ys * w e =
          ap (λ z. z * w e) r ∙ add-mul extra (reseeds_for (node_row p m) (d m) ys) (w e) in omega (arith, given, a, b, more)
      at false other child ih =
          let r : reseeds_for (node_row p m) (c m) xs ≡ reseeds_for (node_row p m) (d m) ys =
          same_reseeds (node_row p m) (c m) xs ys (λ v. ih v ∙ zero-add (sum_of v ys)) ∙ ap (λ z. reseeds_for (node_row p m) z ys) (is.others m other) in
          let f : sum_of w (replicate (reseeds_for (node_row p m) (c m) xs) e) ≡ sum_of w (replicate (reseeds_for (node_row p m) (d m) ys) e) = ap (λ z. sum_of w (replicate z e)) r in omega (arith, f)

      by : (b : Bool) → is_child p k m ≡ b → (b ≡ true → (v : ℕ → ℕ) → sum_of v xs ≡ part v m + sum_of v ys)
          → sum_of w (if b then replicate (reseeds_for (node_row p m) (c m) xs) e else []) ≡ (if n == m then handed w k else 0) + sum_of w (if b then replicate (reseeds_for (node_row p m) (d m) ys) e else [])
      by true child ih = at (n == m) refl child (ih refl)
      by false child ih = none (n == m) refl where
        none : (b : Bool) → (n == m) ≡ b → 0 ≡ (if b then handed w k else 0) + 0
        none false other = refl
        none true is_m =
            let h : is_child p k n ≡ false = subst (λ z. is_child p k z ≡ false) (sym (eqb-true n m is_m)) child in
            let given : handed w k ≡ 0 = ap (λ b. if b then extra * w (entropy_len (node_row p n)) else 0) h in omega (arith, given)

    -- what is asked of a node with the length more, and behind it
    pub weighs : (far k : ℕ) → Low far p k → (w : ℕ → ℕ) → sum_of w (asks far p c one k) ≡ part w k + sum_of w (asks far p d own' k)
    unfolding asks
    weighs zero k low w =
        let none : handed w k ≡ 0 = ap (λ b. if b then extra * w (entropy_len (node_row p n)) else 0) (low n) in
        let a = is.more w k in let b = is.rest w k in omega (arith, none, a, b)
    weighs (suc far) k low w = by (is_child p k n) refl (λ m child v. weighs far m (low m child) v) where
      f : ℕ → ℕ
      f m = sum_of w (kids far c one k m)

      g : ℕ → ℕ
      g m = sum_of w (kids far d own' k m)

      Below : Type 0
      Below = (m : ℕ) → is_child p k m ≡ true → (v : ℕ → ℕ) → sum_of v (asks far p c one m) ≡ part v m + sum_of v (asks far p d own' m)

      at : Below → (m : ℕ) → f m ≡ (if n == m then handed w k else 0) + g m
      at ih m = kid far k w m (ih m)

      all : List ℕ
      all = range_with_len 0 (length p.nodes)

      sums : sum_of f all ≡ handed w k + sum_of g all → sum_of w (one k ++ flat_map (kids far c one k) all) ≡ part w k + sum_of w (own' k ++ flat_map (kids far d own' k) all)
      sums h =
          let a = sum-append w (one k) (flat_map (kids far c one k) all) in
          let b = sum-append w (own' k) (flat_map (kids far d own' k) all) in
          let i = flat_weighs w (kids far c one k) all in
          let j = flat_weighs w (kids far d own' k) all in
          let m = is.more w k in let r = is.rest w k in omega (arith, h, a, b, i, j, m, r)

      by : (b : Bool) → is_child p k n ≡ b → Below → sum_of w (asks (suc far) p c one k) ≡ part w k + sum_of w (asks (suc far) p d own' k)
      by true child ih = sums (within f g n (handed w k) (at ih) 0 (length p.nodes) (omega arith) (let l = low_of k child in omega (arith, l)))
      by false child ih =
          let none : handed w k ≡ 0 = ap (λ b. if b then extra * w (entropy_len (node_row p n)) else 0) child in
          let e = same_sums f g (λ m. nothing (n == m) (handed w k) (f m) (g m) none (at ih m)) 0 (length p.nodes) in sums (omega (arith, none, e))
