-- What a take tells, and what the steps after it may rely on.
use Rattle.std.proofs.Common.{◌≡◌, ℕ, ◌+◌, ◌*◌, ◌-◌, ◌/◌, ◌%◌, ◌<◌, ◌≤◌, ◌≢◌, List, [], ◌∷◌, ◌++◌, map, length, sym, refl, ap, ◌∙◌, subst, arith, true, false}
use mathlib.Core.Option.{none, some}
use lib.ListN.{get_elem?}
use Rattle.std.proofs.lemmas.List.{map-append}
use Rattle.std.specs.declared.option.Option.{Option}
use Rattle.std.specs.declared.option.Option.TheVariants.{None, Some}
use Rattle.atomic_table.specs.Table.{State, Me, step, Allows, rest}
use Rattle.atomic_table.proofs.Lists.{at_last}
use Rattle.turn_table.proofs.Lists.{marked_here, marked_none}
use Rattle.turn_table.proofs.Moves.{rest_goes, fetch_goes, release_goes}
use Rattle.turn_table.specs.declared.view.View.{View}
use Rattle.turn_table.specs.declared.view.Lease.{Lease}
use Rattle.turn_table.specs.Meaning.{Meaning}
use Rattle.turn_table.specs.History.{Entry, state_of}
use Rattle.turn_table.specs.Views.{turn_word, with_seen, with_leases, with_taken, lease, marked, HasTurn, met_at, took}
use Rattle.turn_table.specs.Kept.{Kept}
use Rattle.turn_table.specs.Calls.{Finds, Takes, Meets}
use Rattle.turn_table.specs.Steps.{taken, rested, fetched, released}

-- a turn's word gives back its parts
pub parts_of : (n t h : ℕ) → n ≡ turn_word t h → t < 65536 → ((n - 1) / 65536 ≡ h) × ((n - 1) % 65536 ≡ t)
parts_of n t h is small = (omega arith, omega arith)

module _ {S : Type 0} (M : Meaning S) (slots k target word : ℕ) (m : Me (Option S) View) (n : ℕ) (m' : Me (Option S) View)
    (is : word ≡ turn_word target m.0.number) (t : taken M (step slots (8 + 8 * k) 0 word none) m n m') where
  abbrev st : List Entry → List ℕ
  st h = state_of M m.0.opening h k

  -- the take won: the history that it found, and the value
  pub record Won : Type 0 where
    pub history : List Entry
    pub value : S
    pub finds : Finds M m.0 history
    pub stands : M.stands value (st history)
    pub after : m' ≡ (with_seen history (with_taken (record { slot = k; target = target }) (with_leases (m.0.leases ++ lease k target (st history) true ∷ []) m.0)), (k, Some value) ∷ m.1)

  pub won : target < 65536 → n ≡ 0 → Won
  won small z = let w = t.2 z in let k' : ℕ = w.slot in let t' : ℕ = w.target in let a = w.at in let b = w.wrote in let e : k' ≡ k = omega arith in let small' : t' < 65536 = w.target_in in
      let f : turn_word t' m.0.number ≡ turn_word target m.0.number = sym b ∙ is in
      let g : t' ≡ target = omega arith in record {
        history = t.0;
        value = w.value;
        finds = t.1;
        stands = subst (λ (z : ℕ). M.stands w.value (state_of M m.0.opening t.0 z)) e w.stands;
        after = subst (λ (z : ℕ × ℕ). m' ≡ (with_seen t.0 (with_taken (record { slot = z.0; target = z.1 }) (with_leases (m.0.leases ++ lease z.0 z.1 (state_of M m.0.opening t.0 z.0) true ∷ []) m.0)), (z.0, Some w.value) ∷ m.1)) (λ i. (e i, g i)) w.after;
      }

  -- the take lost: the word found gives its parts back
  pub record Lost : Type 0 where
    pub small : (n - 1) / 65536 ≤ 64
    pub meets : Meets M k ((n - 1) % 65536) ((n - 1) / 65536) m.0 m'.0
    pub out : m'.1 ≡ m.1

  pub lost : n ≢ 0 → Lost
  lost some_word = let w = t.3 some_word in let k' : ℕ = w.slot in let a = w.at in let e : k' ≡ k = omega arith in let p = parts_of n w.target w.holder w.found w.target_in in
      let h : w.holder ≡ (n - 1) / 65536 = sym p.0 in let g : w.target ≡ (n - 1) % 65536 = sym p.1 in let d = w.drawn in let small = w.small in record {
        small = subst (λ (z : ℕ). z ≤ 64) h w.small;
        meets = record {
          history = t.0;
          finds = t.1;
          drawn = subst (λ (z : ℕ). (0 < z) × (z ≤ m.0.callers)) h w.drawn;
          another = subst (λ (z : ℕ). z ≢ m.0.number) h w.another;
          on_path = subst (λ (z : ℕ × ℕ). M.path m.0.opening z.0 z.1) (λ i. (e i, g i)) w.on_path;
          after = subst (λ (z : ℕ × ℕ). m'.0 ≡ met_at t.0 z.0 z.1 m.0) (λ i. (e i, (w.found ∙ (λ j. turn_word (g j) (h j))) i)) (ap (λ (z : Me (Option S) View). z.0) w.after);
        };
        out = ap (λ (z : Me (Option S) View). z.1) w.after;
      }

abbrev or_else : {S : Type 0} → S → Option S → S
or_else d None = d
or_else d (Some x) = x

abbrev value_of : {S : Type 0} → Option S → List (ℕ × Option S) → Option S
value_of d [] = d
value_of d (x ∷ xs) = x.1

pub some_of : {S : Type 0} {x y : S} → ◌≡◌ {A = Option S} (Some x) (Some y) → x ≡ y
some_of {S} {x} {y} e = ap (or_else x) e

not_listed : (v : View) (k : ℕ) → (HasTurn v k → ⊥) → (i : ℕ) (t : Lease) → get_elem? v.leases i ≡ some t → t.slot ≢ k
not_listed v k free i t a e = free (i, t, a, e)

-- the slot that was taken is back in its place
pub back_in_place : (hs : List Lease) (k target : ℕ) (st : List ℕ) → ((i : ℕ) (t : Lease) → get_elem? hs i ≡ some t → t.slot ≢ k) → map (marked k false) (hs ++ lease k target st true ∷ []) ≡ hs ++ lease k target st false ∷ []
back_in_place hs k target st ne = map-append (marked k false) hs (lease k target st true ∷ []) ∙ (λ i. marked_none k false hs ne i ++ marked_here k false (lease k target st true) refl i ∷ [])

module _ {S : Type 0} (M : Meaning S) (values : ℕ × List (Option S)) (slots id k : ℕ) (me : Me (Option S) View) (v : View) (live : v.live ≡ true)
    (i : ℕ) (t : Lease) (lists : get_elem? v.leases i ≡ some t) (at : t.slot ≡ k) where
  abbrev All : State (Option S) View → Type 0
  All = Kept M values

  pub rest_allowed : me ≡ (v, (k, None) ∷ []) → Allows All slots id me (8 + 8 * k) (λ n. n) (rested (step slots (8 + 8 * k) 0 0 none) me)
  rest_allowed is = subst (λ (m : Me (Option S) View). Allows All slots id m (8 + 8 * k) (λ n. n) (rested (step slots (8 + 8 * k) 0 0 none) m)) (sym is)
      (subst (λ (z : ℕ). Allows All slots id (v, (z, None) ∷ []) (8 + 8 * z) (λ n. n) (rested (step slots (8 + 8 * z) 0 0 none) (v, (z, None) ∷ []))) at (rest_goes M values slots id v live i t lists))

  pub fetch_allowed : t.away ≡ false → me ≡ (v, []) → Allows All slots id me (8 + 8 * k) (λ n. n) (fetched (step slots (8 + 8 * k) 0 0 none) me)
  fetch_allowed home is = subst (λ (m : Me (Option S) View). Allows All slots id m (8 + 8 * k) (λ n. n) (fetched (step slots (8 + 8 * k) 0 0 none) m)) (sym is)
      (subst (λ (z : ℕ). Allows All slots id (v, []) (8 + 8 * z) (λ n. n) (fetched (step slots (8 + 8 * z) 0 0 none) (v, []))) at (fetch_goes M values slots id v live i t lists home))

  pub release_allowed : (x : S) → M.stands x t.state → me ≡ (v, (k, Some x) ∷ []) → Allows All slots id me (8 + 8 * k) (λ _. 0) (released (step slots (8 + 8 * k) 0 0 none) me)
  release_allowed x stand is = subst (λ (m : Me (Option S) View). Allows All slots id m (8 + 8 * k) (λ _. 0) (released (step slots (8 + 8 * k) 0 0 none) m)) (sym is)
      (subst (λ (z : ℕ). Allows All slots id (v, (z, Some x) ∷ []) (8 + 8 * z) (λ _. 0) (released (step slots (8 + 8 * z) 0 0 none) (v, (z, Some x) ∷ []))) at (release_goes M values slots id v live i t lists x stand))

-- the steps of a take that wins
module _ {S : Type 0} (M : Meaning S) (slots k target word : ℕ) (m : Me (Option S) View) (n : ℕ) (m' : Me (Option S) View) (is : word ≡ turn_word target m.0.number)
    (t : taken M (step slots (8 + 8 * k) 0 word none) m n m') (small : target < 65536) (zero_word : n ≡ 0) (empty : m.1 ≡ []) (free : HasTurn m.0 k → ⊥) where
  abbrev W : Won M slots k target word m n m' is t
  W = won M slots k target word m n m' is t small zero_word

  abbrev pub now : List ℕ
  now = state_of M m.0.opening W.history k

  abbrev pub holding : View
  holding = with_seen W.history (with_taken (record { slot = k; target = target }) (with_leases (m.0.leases ++ lease k target now true ∷ []) m.0))

  pub carries : m'.1 ≡ (k, Some W.value) ∷ []
  carries = ap (λ (z : Me (Option S) View). z.1) W.after ∙ ap (λ (l : List (ℕ × Option S)). (k, Some W.value) ∷ l) empty

  pub can_exchange : (x : Option S) × (m'.1 ≡ (k, x) ∷ rest m'.1)
  can_exchange = (Some W.value, carries ∙ ap (λ (l : List (ℕ × Option S)). (k, Some W.value) ∷ rest l) (sym carries))

  module _ (got : Option S) (m2 : Me (Option S) View) (had : m'.1 ≡ (k, got) ∷ rest m'.1) (has : m2 ≡ (m'.0, (k, None) ∷ rest m'.1)) where
    pub emptied : m2 ≡ (holding, (k, None) ∷ [])
    emptied = has ∙ (λ i. ((W.after i).0, (k, None) ∷ rest (carries i)))

    pub got_is : got ≡ Some W.value
    got_is = ap (value_of got) (sym had ∙ carries)

    pub lists_it : get_elem? holding.leases (length m.0.leases) ≡ some (lease k target now true)
    lists_it = at_last m.0.leases (lease k target now true) (length m.0.leases) refl

    module _ (m3 : Me (Option S) View) (k' : ℕ) (e : 8 + 8 * k ≡ 8 + 8 * k') (rested_is : m3 ≡ (with_leases (map (marked k' false) m2.0.leases) m2.0, [])) where
      pub settles : m3 ≡ (took M W.history k target m.0, [])
      settles = let same : k' ≡ k = omega arith in rested_is ∙ ((λ i. (with_leases (map (marked (same i) false) (emptied i).0.leases) (emptied i).0, []))
          ∙ (λ i. (with_leases (back_in_place m.0.leases k target now (not_listed m.0 k free) i) holding, [])))

      pub takes_it : (x : S) → got ≡ Some x → Takes M k target x m.0 m3.0
      takes_it x is_x = record { history = W.history; finds = W.finds; value = subst (λ (y : S). M.stands y now) (some_of (sym got_is ∙ is_x)) W.stands; after = ap (λ (z : Me (Option S) View). z.0) settles }
