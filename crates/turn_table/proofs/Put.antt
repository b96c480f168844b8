-- The steps of putting a value back.
use Rattle.std.proofs.Common.{◌≡◌, ℕ, ◌+◌, ◌*◌, ◌<◌, [], ◌∷◌, map, ap, ◌∙◌, subst, arith, true}
use Rattle.std.specs.declared.option.Option.{Option}
use Rattle.std.specs.declared.option.Option.TheVariants.{None, Some}
use Rattle.atomic_table.specs.Table.{Me, rest}
use Rattle.atomic_table.specs.Seated.{TableId}
use Rattle.turn_table.proofs.Lists.{without_marked}
use Rattle.turn_table.specs.declared.view.View.{View}
use Rattle.turn_table.specs.Views.{with_leases, marked, without, freed}

-- the turn of a slot is among the words
pub turn_inside : (y z : TableId) (s slot : ℕ) → y ≡ z → z.words ≡ 8 + 8 * z.slots → s < y.slots → s ≡ slot → 8 + 8 * slot < z.words
turn_inside y z s slot same wide inside is = let e : y.slots ≡ z.slots = ap (λ (t : TableId). t.slots) same in omega arith

module _ {S : Type 0} where
  -- the slot is out of its place
  abbrev pub Fetched : ℕ → View → Me (Option S) View → Type 0
  Fetched k v m = m ≡ (with_leases (map (marked k true) v.leases) v, (k, None) ∷ [])

  pub fetched_at : (k k' : ℕ) (v : View) (m : Me (Option S) View) → 8 + 8 * k ≡ 8 + 8 * k' → m ≡ (with_leases (map (marked k' true) v.leases) v, (k', None) ∷ []) → Fetched k v m
  fetched_at k k' v m e is = subst (λ (z : ℕ). Fetched z v m) (let s : k' ≡ k = omega arith in s) is

  -- and has this value
  pub put_in : (k : ℕ) (x : S) (v : View) (m m' : Me (Option S) View) → Fetched k v m → m' ≡ (m.0, (k, Some x) ∷ rest m.1) → m' ≡ (with_leases (map (marked k true) v.leases) v, (k, Some x) ∷ [])
  put_in k x v m m' f is = is ∙ (λ i. ((f i).0, (k, Some x) ∷ rest (f i).1))

  pub gave_back : (k k' : ℕ) (v : View) (m m' : Me (Option S) View) → 8 + 8 * k ≡ 8 + 8 * k' → m.0 ≡ with_leases (map (marked k true) v.leases) v → m' ≡ (with_leases (without k' m.0.leases) m.0, []) → m' ≡ (freed k v, [])
  gave_back k k' v m m' e is gone = let same : k' ≡ k = omega arith in gone ∙ ((λ i. (with_leases (without (same i) (is i).leases) (is i), []))
      ∙ (λ i. (with_leases (without_marked k true v.leases i) v, [])))
