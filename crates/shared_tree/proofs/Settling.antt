-- What a commit asks, and what it leaves.
use Rattle.std.proofs.Common.{◌≡◌, inl, inr, ℕ, List, [], ◌∷◌, ◌++◌, refl, sym, ap, ◌∙◌, subst}
use Rattle.std.specs.Prelude.{Option, None}
use Rattle.atomic_table.proofs.Lists.{at_map}
use Rattle.entropy_source.specs.Views.{SourceView}
use Rattle.turn_table.specs.declared.view.View.{View}
use Rattle.turn_table.specs.declared.view.Lease.{Lease}
use Rattle.turn_table.specs.History.{LegalOver}
use Rattle.turn_table.specs.Views.{state_in, HasTurn, moved}
use Rattle.turn_table.proofs.Lists.{at_map_back}
use Rattle.tree_config.specs.Tree.{Tree}
use Rattle.tree_rules.specs.declared.call.Call.{Call}
use Rattle.tree_rules.specs.declared.reply.Reply.{Reply}
use Rattle.tree_rules.specs.History.{Entry, Opening, States, SlotState, after, slot_after_all, own}
use Rattle.tree_rules.specs.Chain.{slots_of}
use Rattle.tree_rules.specs.Replies.{chain_of}
use Rattle.tree_rules.specs.Fits.{Fits}
use Rattle.tree_rules.specs.Codes.{entry_list}
use Rattle.tree_rules.specs.Served.{Served, entry_of}
use Rattle.tree_rules.specs.Stands.{SlotView, NodeAt, SourceAt, view_state, IsOf, StandsAt}
use Rattle.tree_rules.specs.Table.{opening_list, after_entry, Tells}
use Rattle.tree_rules.proofs.Listing.{touches_entry, tells_on, opening_one}
use Rattle.tree_acts.specs.Hold.{Hold, AreHeld, IsHeld, IsOfPlan, state_held, states_held}
use Rattle.tree_acts.specs.Kept.{SameRows}
use Rattle.shared_tree.specs.Machine.{tree_meaning}
use Rattle.shared_tree.specs.Rows.{IsAt}
use Rattle.shared_tree.specs.Carries.{Carrying, Keeps, Makes, Marks, MaySettle, Settles}
use Rattle.shared_tree.proofs.Maps.{is_some_of}
use Rattle.shared_tree.proofs.Plans.{held_on, value_at}

module _ {S : Type 0} (told : S → Option (List ℕ)) (faults : S → ℕ) where
  -- the state by what is held is that of the value
  pub state_is : (h : Hold (SourceView S)) (k : ℕ) (x : SlotView S) → IsAt h k x → states_held told faults h k ≡ view_state told faults x
  state_is h k (NodeAt v) at = ap (λ z. state_held told faults z (h.sources k)) at
  state_is h k (SourceAt v) at = ap (λ z. state_held told faults z (h.sources k)) at.0 ∙ ap (λ z. state_held told faults None z) at.1

  pub at_held : (h : Hold (SourceView S)) (k : ℕ) (x : SlotView S) → IsAt h k x → IsHeld h k
  at_held h k (NodeAt v) at = inl (is_some_of (h.nodes k) v at)
  at_held h k (SourceAt v) at = inr (is_some_of (h.sources k) v at.1)

  module _ (p : Tree) (t room slots : ℕ) (h : Hold (SourceView S)) (v : View) (ca : Carrying told faults p t h room slots v) where
    abbrev pub now : States
    now = states_held told faults h

    -- the list of a slot that is held tells its state
    pub tell : (k : ℕ) → HasTurn v k → Tells ca.f ca.o k (state_in v.leases k) (now k)
    tell k u =
        let l = ca.listed u.0 u.1 u.2 in
        let a : state_in v.leases u.1.slot ≡ u.1.state = ca.first u.0 u.1 u.2 in
        let one : Tells ca.f ca.o u.1.slot (state_in v.leases u.1.slot) (now u.1.slot) =
        subst (λ (z : SlotState). Tells ca.f ca.o u.1.slot (state_in v.leases u.1.slot) z) (sym (state_is h u.1.slot l.0 l.1))
        (subst (λ (z : List ℕ). Tells ca.f ca.o u.1.slot z (view_state told faults l.0)) (sym a) l.2.tells) in
        subst (λ (z : ℕ). Tells ca.f ca.o z (state_in v.leases z) (now z)) u.3 one

    pub in_row : (k : ℕ) → HasTurn v k → IsHeld h k
    in_row k u = let l = ca.listed u.0 u.1 u.2 in subst (λ (z : ℕ). IsHeld h z) u.3 (at_held h u.1.slot l.0 l.1)

    -- a call that was served from what is held may be committed
    module _ (h' : Hold (SourceView S)) (c : Call) (string : List ℕ) (reply : Reply) (bytes : List ℕ)
        (served : Served p now (states_held told faults h') c string reply bytes) (chain : AreHeld h (slots_of (chain_of p now c string))) where
      abbrev made : Entry
      made = entry_of p now c string reply bytes served.acts v.number

      right : Fits ca.f.plan now made
      right = subst (λ (q : Tree). Fits q now made) (sym ca.plan_is) (served.fits v.number)

      puts : (k : ℕ) → HasTurn v k → Tells ca.f ca.o k (after_entry v.opening k (state_in v.leases k) (entry_list made)) (states_held told faults h' k)
      puts k u =
          let one : Tells ca.f ca.o k (after_entry (opening_list ca.f ca.o) k (state_in v.leases k) (entry_list made)) (after ca.f.plan k (now k) made) =
          tells_on ca.f ca.o k (state_in v.leases k) now made right (tell k u) in
          let same : states_held told faults h' k ≡ after ca.f.plan k (now k) made =
          served.leaves k ∙ ap (λ (q : Tree). slot_after_all q k (now k) (own k served.acts)) (sym ca.plan_is) in
          subst (λ (z : List ℕ × SlotState). Tells ca.f ca.o k (after_entry z.0 k (state_in v.leases k) (entry_list made)) z.1) (λ i. (sym ca.opening_is i, sym same i)) one

      pub may_settle : MaySettle told faults h' c string reply bytes v
      may_settle = record {
        entry = entry_list made;
        passes = record {
          f = ca.f;
          o = ca.o;
          opening_is = ca.opening_is;
          entry = made;
          entry_is = refl;
          caller_is = refl;
          call_is = refl;
          string_is = refl;
          reply_is = refl;
          bytes_are = refl;
          puts = puts;
        };
        by = refl;
        has_turns = λ k at. ca.held k (chain k (sym (touches_entry made k) ∙ at));
        fits = record {
          opening = ca.f;
          calls = ca.o;
          entry = made;
          states = now;
          opening_is = ca.opening_is;
          entry_is = refl;
          fits = right;
          told = λ k at. tell k (ca.held k (chain k at));
        };
      }

    -- after the commit
    module _ (h' : Hold (SourceView S)) (c : Call) (string : List ℕ) (reply : Reply) (bytes : List ℕ) (w : View) (s : Settles told faults h' c string reply bytes v w) where
      pub keeps_settled : SameRows h h' → IsOfPlan p h' → Keeps told faults h' v w
      keeps_settled rows plan =
          let e : List ℕ = s.entry in let m : Marks told faults h' c string reply bytes v e = s.passes in
          subst (λ (u : View). Keeps told faults h' v u) (sym s.after) record {
            f = m.f;
            o = m.o;
            opening_is = m.opening_is;
            listed = λ i t at.
                let b = at_map_back (moved (after_entry v.opening) e) v.leases i t at in
                let x = value_at p h' b.0.slot plan (held_on h h' b.0.slot rows (in_row b.0.slot (i, b.0, b.1, refl))) in
                let tells : Tells m.f m.o b.0.slot (after_entry v.opening b.0.slot b.0.state e) (view_state told faults x.0) =
                subst (λ (z : List ℕ × SlotState). Tells m.f m.o b.0.slot (after_entry v.opening b.0.slot z.0 e) z.1)
                (λ j. (ca.first i b.0 b.1 j, state_is h' b.0.slot x.0 x.1 j)) (m.puts b.0.slot (i, b.0, b.1, refl)) in
                let one : opening_list m.f m.o ≡ opening_list ca.f ca.o = sym m.opening_is ∙ ca.opening_is in
                let of : IsOf m.f.plan b.0.slot x.0 = subst (λ (q : Tree). IsOf q b.0.slot x.0) (sym (plan_one m.f ca.f m.o ca.o one ∙ ca.plan_is)) x.2 in
                subst (λ (u : Lease). (y : SlotView S) × IsAt h' u.slot y × StandsAt told faults m.f m.o u.slot u.state y) b.2
                (x.0, x.1, record { tells = tells; is_of = of });
            stay = λ k u. (u.0, moved (after_entry v.opening) e u.1, at_map (moved (after_entry v.opening) e) v.leases u.0 u.1 u.2, u.3);
            back = λ k u. let b = at_map_back (moved (after_entry v.opening) e) v.leases u.0 u.1 u.2 in (u.0, b.0, b.1, ap (λ (z : Lease). z.slot) b.2 ∙ u.3);
            same = record { number_is = refl; opening_is = refl; callers_is = refl };
          } where
            plan_one : (f g : Opening) (o q : List Entry) → opening_list f o ≡ opening_list g q → f.plan ≡ g.plan
            plan_one f g o q e = ap (λ (z : Opening). z.plan) (opening_one f g o q e).0

      pub makes_settled : Makes told faults c string reply bytes v w
      makes_settled =
          let e : List ℕ = s.entry in let m : Marks told faults h' c string reply bytes v e = s.passes in
          subst (λ (u : View). Makes told faults c string reply bytes v u) (sym s.after) record {
            before = s.history;
            entry = m.entry;
            seen_is = ap (λ (z : List ℕ). s.history ++ z ∷ []) m.entry_is;
            mine_is = ap (λ (z : List ℕ). v.mine ++ z ∷ []) m.entry_is;
            begins = s.finds.seen;
            own = s.finds.mine;
            legal = subst (λ (z : List ℕ). LegalOver (tree_meaning told faults) v.opening (s.history ++ z ∷ [])) m.entry_is s.legal;
            caller_is = m.caller_is;
            call_is = m.call_is;
            string_is = m.string_is;
            reply_is = m.reply_is;
            bytes_are = m.bytes_are;
          }

      pub met_settled : w.met ≡ v.met
      met_settled = ap (λ (u : View). u.met) s.after

      pub taken_settled : w.taken ≡ v.taken
      taken_settled = ap (λ (u : View). u.taken) s.after
