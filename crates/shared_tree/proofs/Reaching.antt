-- Taking the turn of one slot more, or finding it held.
use Rattle.std.proofs.Common.{◌≡◌, ◌≢◌, ◌<◌, ◌≤◌, ◌+◌, ◌^◌, ◌⊎◌, inl, inr, ⊎_elim, ℕ, zero, suc, List, [], ◌∷◌, ◌++◌, map, length, refl, sym, ap, ◌∙◌, subst, arith, Bool, true, false, eqb-true, eq-eqb}
use Rattle.std.specs.Prelude.{Option, Some, None, IsSome, ◌||◌, ◌==◌}
use mathlib.Core.Logic.{dite}
use native.Mathlib.Decide.{ℕ_discrete}
use mathlib.Core.Option.{some, some-injective, some-ne-none}
use lib.ListN.{get_elem?}
use Rattle.std.proofs.lemmas.List.{length-map}
use Rattle.atomic_table.proofs.Lists.{at_longer, at_last, at_snoc}
use Rattle.entropy_source.specs.Views.{SourceView}
use Rattle.rbg_nodes.specs.Views.{NodeView}
use Rattle.turn_table.specs.declared.view.View.{View}
use Rattle.turn_table.specs.declared.view.Lease.{Lease}
use Rattle.turn_table.specs.History as table
use Rattle.turn_table.specs.History.{state_of}
use Rattle.turn_table.specs.Views.{turn_word, state_in, HasTurn, lease, slots_held, took}
use Rattle.turn_table.specs.Meaning.{Meaning}
use Rattle.turn_table.specs.Calls as calls
use Rattle.turn_table.specs.Calls.{Finds, Takes}
use Rattle.turn_table.proofs.Lists.{state_listed}
use Rattle.tree_config.specs.Tree.{Tree, IsTree}
use Rattle.tree_config.specs.Planned.{IsPlanned}
use Rattle.tree_rules.specs.declared.call.Call.{Call}
use Rattle.tree_rules.specs.Counts.{AreCounts, HasCounts}
use Rattle.tree_rules.specs.History.{Distinct, Entry, Opening, States, SlotState, has}
use Rattle.tree_rules.specs.Slots.{path}
use Rattle.tree_rules.specs.Chain.{slots_of, target}
use Rattle.tree_rules.specs.Replies.{chain_of}
use Rattle.tree_rules.specs.Openings.{states_behind}
use Rattle.tree_rules.specs.Codes.{entry_list}
use Rattle.tree_rules.specs.Stands.{SlotView, NodeAt, SourceAt, view_state, IsOf, StandsAt}
use Rattle.tree_rules.specs.Table.{opening_list, start, after_entry, FitsLists, Tells}
use Rattle.tree_rules.proofs.Growing.{counts_small}
use Rattle.tree_rules.proofs.Listing.{tells_one, opening_one}
use Rattle.tree_rules.proofs.Ranges.{in_range, few_nodes, few_slots, sources_are_one}
use Rattle.tree_acts.specs.Hold.{FewCounts, Hold, IsHeld, IsNodeOf, IsOfPlan, IsSourceOf, states_held}
use Rattle.tree_core.specs.Names.{AreStates, IsFirstMissing}
use Rattle.shared_tree.specs.declared.machine.SlotValue.{SlotValue}
use Rattle.shared_tree.specs.declared.machine.SlotValue.TheVariants.{Node, Source}
use Rattle.shared_tree.specs.declared.row.Row.{Row}
use Rattle.shared_tree.specs.Machine.{OnPath, slot_view, tree_meaning}
use Rattle.shared_tree.specs.Rows.{what_of, room_of, HasRoom, IsAlone, IsAt, Others, cost}
use Rattle.shared_tree.specs.Answers.{IsBehind}
use Rattle.shared_tree.specs.Carries.{Carrying, IsNext, Keeps, Listed, Meets, Reaches}
use Rattle.shared_tree.proofs.Maps.{none_isnt, is_some_of, none_of}
use Rattle.shared_tree.proofs.Settling.{tell, in_row}
use Rattle.shared_tree.proofs.Reading.{Read, read, stands_at}

pub or_right : (a b : Bool) → b ≡ true → (a || b) ≡ true
or_right true b h = refl
or_right false b h = h

pub or_left : (a b : Bool) → a ≡ true → (a || b) ≡ true
or_left a b h = ap (λ (z : Bool). z || b) h

pub or_cases : (a b : Bool) → (a || b) ≡ true → (a ≡ true) ⊎ (b ≡ true)
or_cases true b h = inl refl
or_cases false b h = inr h

has_slot : (ts : List Lease) (i : ℕ) (t : Lease) (k : ℕ) → get_elem? ts i ≡ some t → t.slot ≡ k → has (map (λ (t : Lease). t.slot) ts) k ≡ true
has_slot [] i t k at is = absurd (some-ne-none t (sym at))
has_slot (x ∷ xs) zero t k at is = or_left (x.slot == k) (has (map (λ (t : Lease). t.slot) xs) k) (eq-eqb x.slot k (ap (λ (z : Lease). z.slot) (some-injective x t at) ∙ is))
has_slot (x ∷ xs) (suc i) t k at is = or_right (x.slot == k) (has (map (λ (t : Lease). t.slot) xs) k) (has_slot xs i t k at is)

module _ {S : Type 0} where
  -- the slot that is named stands in the chain and is not held; those before it are
  missing : (h : Hold (SourceView S)) (k : ℕ) (xs : List ℕ) → IsFirstMissing h k xs → (has xs k ≡ true) × (IsHeld h k → ⊥)
  missing h k [] m = elim m [ ]
  missing h k (x ∷ xs) m = ⊎_elim
      (λ (a : (x ≡ k) × (IsHeld h x → ⊥)). (or_left (x == k) (has xs k) (eq-eqb x k a.0), subst (λ z. IsHeld h z → ⊥) a.0 a.1))
      (λ (a : IsHeld h x × IsFirstMissing h k xs). let r = missing h k xs a.1 in (or_right (x == k) (has xs k) r.0, r.1)) m

  behind : (h : Hold (SourceView S)) (held : List ℕ) → ((j : ℕ) → IsHeld h j → has held j ≡ true) → (k : ℕ) (xs : List ℕ) → IsFirstMissing h k xs → IsBehind held k xs
  behind h held all k [] m = elim m [ ]
  behind h held all k (x ∷ xs) m = ⊎_elim
      (λ (a : (x ≡ k) × (IsHeld h x → ⊥)). inl a.0)
      (λ (a : IsHeld h x × IsFirstMissing h k xs). inr (all x a.0, behind h held all k xs a.1)) m

module _ {S : Type 0} (told : S → Option (List ℕ)) (faults : S → ℕ) (p : Tree) (c : Call) (string : List ℕ) (r : Row S) (slots : ℕ) (v : View)
    (ca : Carrying told faults p (target p c) (what_of r) (room_of r) slots v) (k : ℕ) (next : IsNext told faults p (what_of r) c string k) where
  abbrev h : Hold (SourceView S)
  h = what_of r

  abbrev now : States
  now = states_held told faults h

  abbrev M : Meaning (SlotValue S)
  M = tree_meaning told faults

  range : IsPlanned 0 p
  range = subst (λ (q : Tree). IsPlanned 0 q) ca.plan_is ca.is_opening.planned

  tree : IsTree 8 p.nodes
  tree = subst (λ (q : Tree). IsTree 8 q.nodes) ca.plan_is ca.is_opening.tree

  found : (has (slots_of (chain_of p now c string)) k ≡ true) × (IsHeld h k → ⊥)
  found = missing h k (slots_of (chain_of p now c string)) (next now (record { at = λ j held. refl }))

  pub unheld : HasTurn v k → ⊥
  unheld u = found.1 (in_row told faults p (target p c) (room_of r) slots h v ca k u)

  pub none_there : (h.nodes k ≡ None) × (h.sources k ≡ None)
  none_there = (none_of (h.nodes k) (λ a. found.1 (inl a)), none_of (h.sources k) (λ a. found.1 (inr a)))

  pub lies : (has (path p (target p c)) k ≡ true) × (k < slots) × (target p c < slots) × (target p c < 65536)
  lies =
      let a = in_range 8 0 p now c string k tree range found.0 in
      let few = few_slots 0 p range in
      let e = ca.slots_are in let x = a.1 in let y = a.2 in
      (a.0, subst (λ (n : ℕ). k < n) (sym e) x, subst (λ (n : ℕ). target p c < n) (sym e) y, omega (arith, few, y))

  pub on_path : (t : ℕ) → t ≡ target p c → OnPath v.opening k t
  on_path t is = record {
    f = ca.f;
    o = ca.o;
    opening_is = ca.opening_is;
    on = subst (λ (z : Tree × ℕ). has (path z.0 z.1) k ≡ true) (λ i. (sym ca.plan_is i, sym is i)) lies.0;
  }

  not_taken : has ca.taken k ≡ false
  not_taken = by (has ca.taken k) refl where
    by : (b : Bool) → has ca.taken k ≡ b → b ≡ false
    by false e = refl
    by true e = absurd (found.1 (inl (ca.are_nodes k e)))

  node_inside : (j : ℕ) → IsSome (h.nodes j) → j < length p.nodes
  node_inside j is = by (h.nodes j) refl is where
    by : (o : Option NodeView) → h.nodes j ≡ o → IsSome o → j < length p.nodes
    by (Some w) e i = (ca.plan.node j w e).low
    by None e i = absurd (none_isnt {A = NodeView} None refl i)

  source_inside : (j : ℕ) → IsSome (h.sources j) → length p.nodes ≤ j
  source_inside j is = by (h.sources j) refl is where
    by : (o : Option (SourceView S)) → h.sources j ≡ o → IsSome o → length p.nodes ≤ j
    by (Some w) e i = (ca.plan.source j w e).high
    by None e i = absurd (none_isnt {A = SourceView S} None refl i)

  more_taken : k < length p.nodes → (j : ℕ) → has (k ∷ ca.taken) j ≡ true → (j < length p.nodes) × (has (path p (target p c)) j ≡ true)
  more_taken inside j a = ⊎_elim
      (λ (e : (k == j) ≡ true). subst (λ (z : ℕ). (z < length p.nodes) × (has (path p (target p c)) z ≡ true)) (eqb-true k j e) (inside, lies.0))
      (λ (e : has ca.taken j ≡ true). (node_inside j (ca.are_nodes j e), ca.on_path j (inl (ca.are_nodes j e))))
      (or_cases (k == j) (has ca.taken j) a)

  -- there is a place for what stands at the slot
  pub has_room : (x : SlotValue S) → IsOf p k (slot_view x) → HasRoom r x
  has_room (Node w) is =
      let s = few_nodes p (target p c) tree (k ∷ ca.taken) (not_taken, ca.distinct) (more_taken is.low) in
      let n = ca.counted in omega (arith, s, n)
  has_room (Source w) is = λ j. none_of (h.sources j) (λ a.
      let e : j ≡ k = sources_are_one 8 0 p (target p c) j k tree range (source_inside j a) is.high (ca.on_path j (inr a)) lies.0 in
      found.1 (inr (subst (λ z. IsSome (h.sources z)) e a)))

  reading : (l : List (List ℕ)) → Finds M v l → Read ca.f ca.o l
  reading l finds = read ca.f ca.o l ca.is_opening (subst (λ (z : List ℕ). table.Legal (after_entry z) (FitsLists z) (start z) l) ca.opening_is finds.legal.1)

  -- the list of a slot after that history tells its state
  tell_at : (l : List (List ℕ)) (finds : Finds M v l) (j : ℕ) → Tells ca.f ca.o j (state_of M v.opening l j) (states_behind ca.f ca.o (reading l finds).entries j)
  tell_at l finds j = subst (λ (z : List ℕ). Tells ca.f ca.o j (table.states (after_entry z) (start z) l j) (states_behind ca.f ca.o (reading l finds).entries j))
      (sym ca.opening_is) ((reading l finds).tell j)

  -- that history leaves the states of what is held
  agree : (l : List (List ℕ)) (finds : Finds M v l) → AreStates told faults h (states_behind ca.f ca.o (reading l finds).entries)
  agree l finds = record { at = at } where
    at : (j : ℕ) → IsHeld h j → states_behind ca.f ca.o (reading l finds).entries j ≡ now j
    at j held =
        let t = ca.held j held in
        let still : t.1.state ≡ state_of M v.opening l t.1.slot = finds.states t.0 t.1 t.2 in
        let same : state_in v.leases j ≡ state_of M v.opening l j =
        ap (λ (z : ℕ). state_in v.leases z) (sym t.3) ∙ (ca.first t.0 t.1 t.2 ∙ (still ∙ ap (λ (z : ℕ). state_of M v.opening l z) t.3)) in
        tells_one ca.f ca.o j (state_of M v.opening l j) (states_behind ca.f ca.o (reading l finds).entries j) (now j)
        (tell_at l finds j) (subst (λ (z : List ℕ). Tells ca.f ca.o j z (now j)) same (tell told faults p (target p c) (room_of r) slots h v ca j t))

  -- a take that found the turn held
  pub met : (t holder : ℕ) (w : View) → calls.Meets M k t holder v w → Meets p (target p c) c string (record { slot = k; holder = holder; target = t }) v w
  met t holder w m =
      let l : List (List ℕ) = m.history in let rd = reading l m.finds in
      let on : has (path p t) k ≡ true = subst (λ (q : Tree). has (path q t) k ≡ true) (plan_one m.on_path.f m.on_path.o (sym m.on_path.opening_is ∙ ca.opening_is) ∙ ca.plan_is) m.on_path.on in
      subst (λ (u : View). Meets p (target p c) c string (record { slot = k; holder = holder; target = t }) v u) (sym m.after) record {
        f = ca.f;
        o = ca.o;
        entries = rd.entries;
        item = record { slot = k; word = turn_word t holder; at = length l; held = slots_held v };
        opening_is = ca.opening_is;
        plan_is = ca.plan_is;
        seen_is = rd.are;
        history = rd.history;
        begins = m.finds.seen;
        own = m.finds.mine;
        mine_is = refl;
        met_is = refl;
        slot_is = refl;
        word_is = refl;
        at_is = refl;
        holder_low = m.drawn.0;
        holder_high = m.drawn.1;
        another = m.another;
        chain = behind h (slots_held v) (λ j held. let u = ca.held j held in has_slot v.leases u.0 u.1 j u.2 u.3) k
            (slots_of (chain_of p (states_behind ca.f ca.o rd.entries) c string)) (next (states_behind ca.f ca.o rd.entries) (agree l m.finds));
        on_path = lies.0;
        on_target = on;
      } where
        plan_one : (f : Opening) (o : List Entry) → opening_list f o ≡ opening_list ca.f ca.o → f.plan ≡ ca.f.plan
        plan_one f o e = ap (λ (z : Opening). z.plan) (opening_one f ca.f o ca.o e).0

  pub keeps_met : (t holder : ℕ) (w : View) → calls.Meets M k t holder v w → Keeps told faults h v w
  keeps_met t holder w m = subst (λ (u : View). Keeps told faults h v u) (sym m.after) record {
    f = ca.f;
    o = ca.o;
    opening_is = ca.opening_is;
    listed = ca.listed;
    stay = λ j u. u;
    back = λ j u. u;
    same = record { number_is = refl; opening_is = refl; callers_is = refl };
  }

  -- a take that won
  module _ (t : ℕ) (x : SlotValue S) (w : View) (m : Takes M k t x v w) where
    abbrev log : List (List ℕ)
    log = m.history

    abbrev at : List ℕ
    at = state_of M v.opening log k

    abbrev new : Lease
    new = lease k t at false

    abbrev taken : View
    taken = took M log k t v

    pub reaches : Reaches k v w
    reaches = subst (λ (u : View). Reaches k v u) (sym m.after) record {
      begins = m.finds.seen;
      mine_is = refl;
      same = record { number_is = refl; opening_is = refl; callers_is = refl };
      has = (length v.leases, new, at_last v.leases new (length v.leases) refl, refl);
      stay = λ j a. (a.0, a.1, at_longer v.leases (new ∷ []) a.0 a.1 a.2, a.3);
      back = λ j a. ⊎_elim (λ b. inr (a.0, a.1, b, a.3)) (λ (b : new ≡ a.1). inl (sym a.3 ∙ ap (λ (z : Lease). z.slot) (sym b))) (at_snoc v.leases new a.1 a.0 a.2);
      new = unheld;
    }

    pub met_taken : w.met ≡ v.met
    met_taken = ap (λ (u : View). u.met) m.after

    stands_now : StandsAt told faults ca.f ca.o k at (slot_view x)
    stands_now = stands_at told faults ca.f ca.o k at (states_behind ca.f ca.o (reading log m.finds).entries k) (slot_view x) (tell_at log m.finds k) m.value

    pub is_of_now : IsOf p k (slot_view x)
    is_of_now = subst (λ (q : Tree). IsOf q k (slot_view x)) ca.plan_is stands_now.is_of

    counts_now : HasCounts (2 ^ 61) (view_state told faults (slot_view x))
    counts_now = subst (λ (z : SlotState). HasCounts (2 ^ 61) z)
        (tells_one ca.f ca.o k at (states_behind ca.f ca.o (reading log m.finds).entries k) (view_state told faults (slot_view x)) (tell_at log m.finds k) stands_now.tells)
        (counts_small ca.f ca.o (reading log m.finds).entries (reading log m.finds).history
        (let n = m.finds.few in let e = ap (λ (l : List (List ℕ)). length l) (reading log m.finds).are ∙ length-map (reading log m.finds).entries (λ (z : Entry). entry_list z) in omega (arith, n, e)) k)

    module _ (r' : Row S) (there : IsAt (what_of r') k (slot_view x)) (alone : IsAlone r' k x) (others : Others h (what_of r') k) (room : room_of r' + cost x ≡ room_of r) where
      abbrev h' : Hold (SourceView S)
      h' = what_of r'

      node_here : (y : SlotValue S) (n : NodeView) → IsAt h' k (slot_view y) → IsOf p k (slot_view y) → h'.nodes k ≡ Some n → IsNodeOf p k n
      node_here (Node z) n is of e = let same : z ≡ n = some_same z n (sym is ∙ e) in subst (λ (u : NodeView). IsNodeOf p k u) same (record { low = of.low; row = of.row }) where
        some_same : (a b : NodeView) → ◌≡◌ {A = Option NodeView} (Some a) (Some b) → a ≡ b
        some_same a b e = cc
      node_here (Source z) n is of e = absurd (none_isnt (h'.nodes k) is.0 (is_some_of (h'.nodes k) n e))

      source_here : (y : SlotValue S) (n : SourceView S) → IsAt h' k (slot_view y) → IsAlone r' k y → IsOf p k (slot_view y) → h'.sources k ≡ Some n → IsSourceOf p k n
      source_here (Source z) n is al of e = let same : z ≡ n = some_same z n (sym is.1 ∙ e) in subst (λ (u : SourceView S). IsSourceOf p k u) same (record { high = of.high; low = of.low; row = of.row }) where
        some_same : (a b : SourceView S) → ◌≡◌ {A = Option (SourceView S)} (Some a) (Some b) → a ≡ b
        some_same a b e = cc
      source_here (Node z) n is al of e = absurd (none_isnt (h'.sources k) al (is_some_of (h'.sources k) n e))

      plan_now : IsOfPlan p h'
      plan_now = record {
        node = λ j n e. dite (ℕ_discrete j k)
            (λ is. subst (λ (z : ℕ). IsNodeOf p z n) (sym is) (node_here x n there is_of_now (subst (λ (z : ℕ). h'.nodes z ≡ Some n) is e)))
            (λ ne. ca.plan.node j n (sym (others.nodes j ne) ∙ e));
        source = λ j n e. dite (ℕ_discrete j k)
            (λ is. subst (λ (z : ℕ). IsSourceOf p z n) (sym is) (source_here x n there alone is_of_now (subst (λ (z : ℕ). h'.sources z ≡ Some n) is e)))
            (λ ne. ca.plan.source j n (sym (others.sources j ne) ∙ e));
      }

      held_now : (j : ℕ) → IsHeld h' j → (j ≡ k) ⊎ IsHeld h j
      held_now j a = dite (ℕ_discrete j k) (λ e. inl e)
          (λ ne. inr (⊎_elim (λ b. inl (subst (λ (z : Option NodeView). IsSome z) (others.nodes j ne) b)) (λ b. inr (subst (λ (z : Option (SourceView S)). IsSome z) (others.sources j ne) b)) a))

      apart : (j : ℕ) → HasTurn v j → j ≢ k
      apart j a e = unheld (subst (λ (z : ℕ). HasTurn v z) e a)

      moved_at : (j : ℕ) (y : SlotView S) → j ≢ k → IsAt h j y → IsAt h' j y
      moved_at j (NodeAt n) ne is = others.nodes j ne ∙ is
      moved_at j (SourceAt n) ne is = (others.nodes j ne ∙ is.0, others.sources j ne ∙ is.1)

      all_still : (i : ℕ) (g : Lease) → get_elem? (v.leases ++ new ∷ []) i ≡ some g → g.state ≡ state_of M v.opening log g.slot
      all_still i g a = ⊎_elim (λ b. m.finds.states i g b) (λ (b : new ≡ g). subst (λ (z : Lease). z.state ≡ state_of M v.opening log z.slot) b refl) (at_snoc v.leases new g i a)

      listed_now : Listed told faults ca.f ca.o h' taken
      listed_now i g a = ⊎_elim
          (λ b. let l = ca.listed i g b in (l.0, moved_at g.slot l.0 (apart g.slot (i, g, b, refl)) l.1, l.2))
          (λ (b : new ≡ g). subst (λ (z : Lease). (y : SlotView S) × IsAt h' z.slot y × StandsAt told faults ca.f ca.o z.slot z.state y) b (slot_view x, there, stands_now))
          (at_snoc v.leases new g i a)

      turns_now : (j : ℕ) → IsHeld h' j → HasTurn taken j
      turns_now j a = ⊎_elim
          (λ (e : j ≡ k). (length v.leases, new, at_last v.leases new (length v.leases) refl, sym e))
          (λ b. let u = ca.held j b in (u.0, u.1, at_longer v.leases (new ∷ []) u.0 u.1 u.2, u.3)) (held_now j a)

      few_here : (y : SlotValue S) (n : NodeView) → IsAt h' k (slot_view y) → HasCounts (2 ^ 61) (view_state told faults (slot_view y)) → h'.nodes k ≡ Some n → (n.state.seeds + 256 ≤ 2 ^ 62) × (n.state.gives + 256 ≤ 2 ^ 62)
      few_here (Node z) n is f e =
          let same : z ≡ n = some_same z n (sym is ∙ e) in
          let g = subst (λ (u : NodeView). AreCounts (2 ^ 61) u.state) same f in
          (let a = g.seeds in omega (arith, a), let b = g.gives in omega (arith, b)) where
            some_same : (a b : NodeView) → ◌≡◌ {A = Option NodeView} (Some a) (Some b) → a ≡ b
            some_same a b e = cc
      few_here (Source z) n is f e = absurd (none_isnt (h'.nodes k) is.0 (is_some_of (h'.nodes k) n e))

      few_now : FewCounts h'
      few_now j n e = dite (ℕ_discrete j k)
          (λ is. few_here x n there counts_now (subst (λ (z : ℕ). h'.nodes z ≡ Some n) is e))
          (λ ne. ca.few j n (sym (others.nodes j ne) ∙ e))

      on_now : (j : ℕ) → IsHeld h' j → has (path p (target p c)) j ≡ true
      on_now j a = ⊎_elim (λ (e : j ≡ k). subst (λ (z : ℕ). has (path p (target p c)) z ≡ true) (sym e) lies.0) (λ b. ca.on_path j b) (held_now j a)

      -- the nodes that are held, counted
      abbrev Counted : Type 0
      Counted = (ks : List ℕ) × Distinct ks × ((j : ℕ) → has ks j ≡ true → IsSome (h'.nodes j)) × (length ks + room_of r' ≡ 8)

      node_still : (j : ℕ) → has ca.taken j ≡ true → IsSome (h'.nodes j)
      node_still j a = let there_is = ca.are_nodes j a in
          subst (λ (z : Option NodeView). IsSome z) (sym (others.nodes j (λ e. found.1 (inl (subst (λ (z : ℕ). IsSome (h.nodes z)) e there_is))))) there_is

      counted_by : (y : SlotValue S) → IsAt h' k (slot_view y) → room_of r' + cost y ≡ room_of r → Counted
      counted_by (Node n) is e = (
        k ∷ ca.taken,
        (not_taken, ca.distinct),
        (λ j a. ⊎_elim (λ (b : (k == j) ≡ true). subst (λ (z : ℕ). IsSome (h'.nodes z)) (eqb-true k j b) (is_some_of (h'.nodes k) n is)) (λ b. node_still j b) (or_cases (k == j) (has ca.taken j) a)),
        (let n = ca.counted in omega (arith, n, e)),
      )
      counted_by (Source n) is e = (ca.taken, ca.distinct, node_still, (let n = ca.counted in omega (arith, n, e)))

      pub carries_on : Carrying told faults p (target p c) h' (room_of r') slots w
      carries_on = let cn = counted_by x there room in
          subst (λ (u : View). Carrying told faults p (target p c) h' (room_of r') slots u) (sym m.after) record {
            f = ca.f;
            o = ca.o;
            opening_is = ca.opening_is;
            plan_is = ca.plan_is;
            is_opening = ca.is_opening;
            slots_are = ca.slots_are;
            own = m.finds.mine;
            plan = plan_now;
            listed = listed_now;
            held = turns_now;
            first = λ i g a. state_listed (λ (z : ℕ). state_of M v.opening log z) (v.leases ++ new ∷ []) all_still g.slot i g a refl ∙ sym (all_still i g a);
            few = few_now;
            on_path = on_now;
            taken = cn.0;
            distinct = cn.1;
            are_nodes = cn.2;
            counted = cn.3;
          }
