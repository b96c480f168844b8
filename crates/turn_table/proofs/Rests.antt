-- What a pass has between two calls.
use Rattle.std.proofs.Common.{◌≡◌, ℕ, ◌+◌, ◌<◌, List, [], ◌∷◌, length, length-append, sym, refl, ap, ◌∙◌, subst, arith, false, ⊎_elim}
use Rattle.std.specs.declared.option.Option.{Option}
use Rattle.atomic_table.specs.Seated.{TableId}
use Rattle.atomic_table.specs.Table.{Me}
use Rattle.atomic_table.proofs.Lists.{at_snoc}
use Rattle.turn_table.specs.declared.view.View.{View}
use Rattle.turn_table.specs.declared.view.Lease.{Lease}
use Rattle.turn_table.specs.Meaning.{Meaning}
use Rattle.turn_table.specs.History.{Entry, state_of}
use Rattle.turn_table.specs.Views.{with_seen, lease, moved, freed, took, entered, numbered}
use Rattle.turn_table.specs.Passes.{AtRest}
use Rattle.turn_table.proofs.Lists.{at_map_back, at_without}

rests_entered : {V : Type 0} (M : Meaning V) (h : List Entry) (e : Entry) (slots : ℕ) (v : View) → length v.mine < 1099511627776 → AtRest slots v → AtRest slots (entered M h e v)
rests_entered M h e slots v room rest = record {
  live = rest.live;
  numbered = rest.numbered;
  room = let n = length-append v.mine (e ∷ []) in omega arith;
  settled = rest.settled;
  alone = rest.alone;
  placed = λ i t a. let b = at_map_back (moved (M.after v.opening) e) v.leases i t a in let r = rest.placed i b.0 b.1 in
      (sym (ap (λ (z : Lease). z.away) b.2) ∙ r.0, subst (λ (z : ℕ). z < slots) (ap (λ (z : Lease). z.slot) b.2) r.1);
}

pub rests_after_commit : {V : Type 0} (M : Meaning V) (h : List Entry) (e : Entry) (slots : ℕ) (v w : View) (caller calls : ℕ) → w ≡ entered M h e v → caller ≡ v.number → calls ≡ length v.mine
    → length v.mine < 1099511627776 → AtRest slots v → (caller ≡ w.number) × (calls + 1 ≡ length w.mine) × AtRest slots w
rests_after_commit M h e slots v w caller calls is by many room rest = subst (λ (u : View). (caller ≡ u.number) × (calls + 1 ≡ length u.mine) × AtRest slots u) (sym is)
    (by, (let n = length-append v.mine (e ∷ []) in omega arith), rests_entered M h e slots v room rest)

rests_freed : (k slots : ℕ) (v : View) → AtRest slots v → AtRest slots (freed k v)
rests_freed k slots v rest = record {
  live = rest.live;
  numbered = rest.numbered;
  room = rest.room;
  settled = rest.settled;
  alone = rest.alone;
  placed = λ i t a. let b = at_without k v.leases i t a in rest.placed b.1.0 t b.1.1;
}

rests_took : {V : Type 0} (M : Meaning V) (h : List Entry) (k target slots : ℕ) (v : View) → k < slots → AtRest slots v → AtRest slots (took M h k target v)
rests_took M h k target slots v inside rest = record {
  live = rest.live;
  numbered = rest.numbered;
  room = rest.room;
  settled = rest.settled;
  alone = rest.alone;
  placed = λ i t a. ⊎_elim (λ b. rest.placed i t b)
      (λ e. (sym (ap (λ (z : Lease). z.away) e), subst (λ (z : ℕ). z < slots) (ap (λ (z : Lease). z.slot) e) inside)) (at_snoc v.leases (lease k target (state_of M v.opening h k) false) t i a);
}

-- seeing more changes nothing of it
rests_seen : (slots : ℕ) (h : List Entry) (v : View) → AtRest slots v → AtRest slots (with_seen h v)
rests_seen slots h v rest = record { live = rest.live; numbered = rest.numbered; room = rest.room; settled = rest.settled; alone = rest.alone; placed = rest.placed }

-- what a pass has between two calls
abbrev pub Settled : {S : Type 0} → TableId → Me S View → ℕ → ℕ → Type 0
Settled z m caller calls = (m.1 ≡ []) × (caller ≡ m.0.number) × (calls ≡ length m.0.mine) × AtRest z.slots m.0

pub settled_freed : {S : Type 0} (k : ℕ) (z z' : TableId) (v : View) (m : Me S View) (caller calls : ℕ) → z' ≡ z → m ≡ (freed k v, []) → caller ≡ v.number → calls ≡ length v.mine → AtRest z.slots v → Settled z' m caller calls
settled_freed {S} k z z' v m caller calls same is by many rest = subst (λ (t : TableId × Me S View). Settled t.0 t.1 caller calls) (λ i. (sym same i, sym is i)) (refl, by, many, rests_freed k z.slots v rest)

pub settled_took : {S : Type 0} (M : Meaning S) (h : List Entry) (k target : ℕ) (z z' : TableId) (v : View) (m : Me (Option S) View) (caller calls : ℕ) → z' ≡ z → k < z.slots
    → m ≡ (took M h k target v, []) → caller ≡ v.number → calls ≡ length v.mine → AtRest z.slots v → Settled z' m caller calls
settled_took {S} M h k target z z' v m caller calls same inside is by many rest = subst (λ (t : TableId × Me (Option S) View). Settled t.0 t.1 caller calls) (λ i. (sym same i, sym is i))
    (refl, by, many, rests_took M h k target z.slots v inside rest)

pub settled_seen : {S : Type 0} (h : List Entry) (z z' : TableId) (m m' : Me S View) (caller calls : ℕ) → z' ≡ z → m' ≡ (with_seen h m.0, m.1) → Settled z m caller calls → Settled z' m' caller calls
settled_seen {S} h z z' m m' caller calls same is rest = subst (λ (t : TableId × Me S View). Settled t.0 t.1 caller calls) (λ i. (sym same i, sym is i)) (rest.0, rest.1, rest.2, rests_seen z.slots h m.0 rest.3)
