-- The table is opened.
use Rattle.std.proofs.Common.{◌≡◌, ℕ, zero, suc, ◌+◌, ◌*◌, ◌<◌, ◌≤◌, inl, inr, ⊎_elim, List, [], ◌∷◌, map, length, get_or, set, sym, refl, ap, ◌∙◌, subst, arith, true≢false, replicate}
use mathlib.Core.Option.{none, some, some-ne-none}
use lib.ListN.{get_elem?}
use Rattle.std.specs.declared.option.Option.{Option}
use Rattle.std.specs.declared.option.Option.TheVariants.{Some}
use Rattle.atomic_table.specs.Table.{State, Me, step, Act, keeps, Valid, carried_after, stepped, Allows, opening}
use Rattle.atomic_table.proofs.Lists.{at_map}
use Rattle.turn_table.proofs.Joins.{only, length_map}
use Rattle.turn_table.proofs.Keeps.{loaded}
use Rattle.turn_table.specs.declared.view.View.{View}
use Rattle.turn_table.specs.Meaning.{Meaning}
use Rattle.turn_table.specs.Views.{blank, opener}
use Rattle.turn_table.specs.TurnRule.{once_to, Knows, TurnRule}
use Rattle.turn_table.specs.Kept.{Kept}
use Rattle.turn_table.specs.Opens.{MayOpen, MayBegin}
use Rattle.turn_table.specs.Steps.{opened}

zeros : (n k : ℕ) → get_or {A = ℕ} (replicate n 0) k 0 ≡ 0
zeros zero k = refl
zeros (suc n) zero = refl
zeros (suc n) (suc k) = zeros n k

zeros_length : (n : ℕ) → length {A = ℕ} (replicate n 0) ≡ n
zeros_length zero = refl
zeros_length (suc n) = ap suc (zeros_length n)

at_one : {A : Type 0} (x y : A) (i : ℕ) → get_elem? (x ∷ []) i ≡ some y → i ≡ 0
at_one x y zero e = refl
at_one x y (suc i) e = absurd (some-ne-none y (sym e))

-- the values in their places
pub may_begin : {V : Type 0} (M : Meaning V) (test : List ℕ → Type 0) (xs : List V) → MayOpen M test xs → MayBegin M test (map Some xs)
may_begin {V} M test xs o = record {
  opening = o.opening;
  passes = o.passes;
  legal = o.legal;
  values_are = λ k inside. let a = o.values_are k (subst (λ (n : ℕ). k < n) (length_map {B = Option V} Some xs) inside) in (a.0, at_map {B = Option V} Some xs k a.0 a.1, a.2);
}

module _ {S : Type 0} (M : Meaning S) (given : ℕ × List (Option S)) where
  abbrev Rule : State (Option S) View → Type 0
  Rule = TurnRule M

  module _ (o : List ℕ) (is_legal : M.legal o) (some_caller : 0 < given.0) (few : given.0 ≤ 64)
      (stand : (k : ℕ) → k < length given.1 → (x : S) × (get_elem? given.1 k ≡ some (Some x)) × M.stands x (M.start o k)) where
    abbrev ws : List ℕ
    ws = replicate (8 + 8 * length given.1) 0

    begun : Rule record { words = ws; homes = map some given.1; views = opener o given.0 ∷ [] }
    begun = record {
      opening = o;
      callers = given.0;
      history = [];
      legal = (is_legal, tt);
      longest = (0, opener o given.0, refl, refl, refl);
      shared_out = refl;
      few = few;
      wide = zeros_length (8 + 8 * length given.1) ∙ ap (λ (n : ℕ). 8 + 8 * n) (sym (length_map some given.1));
      counted = zeros (8 + 8 * length given.1) 0;
      opened = λ j v a. ap (λ (u : View). u.fresh) (sym (only (opener o given.0) j v a));
      knows = λ j v a l. subst (Knows M o given.0 [] ws (map some given.1)) (only (opener o given.0) j v a) record {
        old = refl;
        opening_is = refl;
        callers_is = refl;
        seen = ([], refl);
        olds = λ i x b. absurd (some-ne-none x (sym b));
        mine = refl;
        ended = λ i x b. absurd (some-ne-none x (sym b));
        leases = λ i t b. absurd (some-ne-none t (sym b));
        unnumbered = λ _. refl;
      };
      turns = λ k h. let s = stand k (subst (λ (n : ℕ). k < n) (length_map some given.1) h) in inl (zeros (8 + 8 * length given.1) (8 + 8 * k), (s.0, at_map some given.1 k (Some s.0) s.1, s.2));
      drawn = λ i e a. absurd (some-ne-none e (sym a));
      bounded = λ k. omega arith;
      once = λ n. ap (once_to n) (sym (zeros (8 + 8 * length given.1) 1));
      many = sym (zeros (8 + 8 * length given.1) 1);
      parts = let z = zeros (8 + 8 * length given.1) 1 in omega arith;
    }

    module _ (test : List ℕ → Type 0) (passes : test o) (slots id : ℕ) (me : Me (Option S) View) (is : me ≡ (blank given.0, [])) where
      abbrev w : View
      w = opener o me.0.callers

      abbrev Goes : State (Option S) View → Type 0
      Goes s = (x : View) × (a : Act (Option S)) × Valid s.homes me.1 a × Kept M given (stepped s 0 (get_or s.words 0 0) id me.1 x a)
          × opened M test (step slots 0 0 0 none) me (get_or s.words 0 0) (x, carried_after me.1 a)

      goes_first : get_elem? (blank given.0 ∷ []) id ≡ some me.0 → Goes (opening ws given.1 (blank given.0))
      goes_first at = let c : me.0.callers ≡ given.0 = ap (λ (m : Me (Option S) View). m.0.callers) is in let z : id ≡ 0 = at_one (blank given.0) me.0 id at in (
        w,
        keeps,
        tt,
        inr (loaded M (opening ws given.1 (blank given.0)) 0 id me.1 w
            (subst (λ (t : ℕ × ℕ). Rule record { words = ws; homes = map some given.1; views = set (blank given.0 ∷ []) t.0 (opener o t.1) }) (λ i. (sym z i, sym c i)) begun)),
        (o, passes, is_legal, refl),
      )

      pub open_goes : Allows (Kept M given) slots id me 0 (λ n. n) (opened M test (step slots 0 0 0 none) me)
      open_goes s kept _ at _ = ⊎_elim
          (λ (e : s ≡ opening ws given.1 (blank given.0)). subst Goes (sym e) (goes_first (subst (λ (t : State (Option S) View). get_elem? t.views id ≡ some me.0) e at)))
          (λ (r : Rule s). absurd (true≢false (ap (λ (m : Me (Option S) View). m.0.fresh) (sym is) ∙ r.opened id me.0 at)))
          kept
