-- Giving the turn of a slot back after what came above it.
use Rattle.std.proofs.Common.{◌≡◌, ◌≢◌, ⊎_elim, ℕ, ◌≤◌, List, [], ◌∷◌, ◌++◌, sym, ap, ◌∙◌, subst, append_assoc}
use Rattle.std.specs.Prelude.{Option, Some, Result, Ok, Err, IfOk, IfErr}
use Rattle.entropy_source.specs.Views.{SourceView}
use Rattle.rbg_nodes.specs.Views.{NodeView}
use Rattle.turn_table.specs.declared.view.View.{View}
use Rattle.turn_table.specs.History.{Begins, of_caller, LegalOver}
use Rattle.turn_table.specs.Views.{HasTurn, freed}
use Rattle.turn_table.specs.Calls.{MayPut}
use Rattle.turn_table.proofs.Lists.{at_without, in_without}
use Rattle.tree_config.specs.Tree.{Tree}
use Rattle.tree_rules.specs.declared.call.Call.{Call}
use Rattle.tree_rules.specs.declared.reply.Reply.{Reply}
use Rattle.tree_rules.specs.Codes.{entry_list}
use Rattle.tree_rules.specs.Stands.{SlotView, NodeAt, SourceAt, StandsFor}
use Rattle.tree_acts.specs.Hold.{Hold, IsHeld}
use Rattle.shared_tree.specs.declared.busy.Busy.{Busy}
use Rattle.shared_tree.specs.declared.machine.SlotValue.{SlotValue}
use Rattle.shared_tree.specs.Machine.{slot_view, tree_meaning}
use Rattle.shared_tree.specs.Rows.{IsAt, Others}
use Rattle.shared_tree.specs.Answers.{IsSame}
use Rattle.shared_tree.specs.Carries.{IsAbleToLeave, Keeps, Makes, Meets, Reaches}
use Rattle.shared_tree.proofs.Maps.{is_some_of, none_isnt}
use Rattle.shared_tree.proofs.Settling.{at_held}

pub ok_map : {A B : Type 0} (r : Result A B) (P Q : A → Type 0) → ((x : A) → P x → Q x) → IfOk r P → IfOk r Q
ok_map (Ok x) P Q f h = f x h
ok_map (Err x) P Q f h = h

pub err_map : {A B : Type 0} (r : Result A B) (P Q : B → Type 0) → ((x : B) → P x → Q x) → IfErr r P → IfErr r Q
err_map (Ok x) P Q f h = h
err_map (Err x) P Q f h = f x h

pub begins_on : (xs ys zs : List (List ℕ)) → Begins xs ys → Begins ys zs → Begins xs zs
begins_on xs ys zs a b = (a.0 ++ b.0, b.1 ∙ (ap (λ (l : List (List ℕ)). l ++ b.0) a.1 ∙ append_assoc xs a.0 b.0))

pub same_on : (v u w : View) → IsSame v u → IsSame u w → IsSame v w
same_on v u w a b = record { number_is = b.number_is ∙ a.number_is; opening_is = b.opening_is ∙ a.opening_is; callers_is = b.callers_is ∙ a.callers_is }

-- one thing is held at a slot
at_one : {S : Type 0} (h : Hold (SourceView S)) (k : ℕ) (x y : SlotView S) → IsAt h k x → IsAt h k y → x ≡ y
at_one h k (NodeAt v) (NodeAt w) a b = let e : ◌≡◌ {A = Option NodeView} (Some v) (Some w) = sym a ∙ b in let same : v ≡ w = cc in ap NodeAt same
at_one {S} h k (SourceAt v) (SourceAt w) a b = let e : ◌≡◌ {A = Option (SourceView S)} (Some v) (Some w) = sym a.1 ∙ b.1 in let same : v ≡ w = cc in ap SourceAt same
at_one h k (NodeAt v) (SourceAt w) a b = absurd (none_isnt (h.nodes k) b.0 (is_some_of (h.nodes k) v a))
at_one h k (SourceAt v) (NodeAt w) a b = absurd (none_isnt (h.nodes k) a.0 (is_some_of (h.nodes k) w b))

module _ {S : Type 0} (told : S → Option (List ℕ)) (faults : S → ℕ) where
  -- what is to be put back is held, and may be put back
  pub to_leave : (h : Hold (SourceView S)) (k : ℕ) (v : View) → IsAbleToLeave told faults h k v → IsHeld h k
  to_leave h k v able = at_held told faults h k able.value able.at

  pub may_put : (h : Hold (SourceView S)) (k : ℕ) (v : View) (x : SlotValue S) → IsAbleToLeave told faults h k v → IsAt h k (slot_view x) → MayPut (tree_meaning told faults) k x v
  may_put h k v x able at = record {
    place = able.place;
    turn = able.turn;
    listed = able.listed;
    slot_is = able.slot_is;
    value = subst (λ (y : SlotView S). StandsFor told faults y able.turn.state) (at_one h k able.value (slot_view x) able.at at) able.stands;
  }

  module _ (k : ℕ) (v u w : View) (re : Reaches k v u) (h : Hold (SourceView S)) (ke : Keeps told faults h u w) where
    pub able : IsAbleToLeave told faults h k w
    able =
        let t = ke.stay k re.has in
        let l = ke.listed t.0 t.1 t.2 in
        record { place = t.0; turn = t.1; listed = t.2; slot_is = t.3; value = l.0; at = subst (λ (z : ℕ). IsAt h z l.0) t.3 l.1; stands = record { f = ke.f; o = ke.o; k = t.1.slot; at = l.2 } }

    pub keeps_left : (h' : Hold (SourceView S)) → Others h h' k → (x : View) → x ≡ freed k w → Keeps told faults h' v x
    keeps_left h' others x is = subst (λ (z : View). Keeps told faults h' v z) (sym is) record {
      f = ke.f;
      o = ke.o;
      opening_is = ke.opening_is;
      listed = λ i t at.
          let b = at_without k w.leases i t at in
          let l = ke.listed b.1.0 t b.1.1 in
          (l.0, still l.0 t.slot b.0 l.1, l.2);
      stay = λ j t.
          let ne : j ≢ k = λ e. re.new (subst (λ (z : ℕ). HasTurn v z) e t) in
          let a = ke.stay j (re.stay j t) in
          let b = in_without k w.leases a.0 a.1 a.2 (λ (e : a.1.slot ≡ k). ne (sym a.3 ∙ e)) in
          (b.0, a.1, b.1, a.3);
      back = λ j t.
          let b = at_without k w.leases t.0 t.1 t.2 in
          let a = ke.back j (b.1.0, t.1, b.1.1, t.3) in
          ⊎_elim (λ (e : j ≡ k). absurd (b.0 (t.3 ∙ e))) (λ y. y) (re.back j a);
      same = (let s = same_on v u w re.same ke.same in record { number_is = s.number_is; opening_is = s.opening_is; callers_is = s.callers_is });
    } where
      still : (y : SlotView S) (j : ℕ) → j ≢ k → IsAt h j y → IsAt h' j y
      still (NodeAt n) j ne a = others.nodes j ne ∙ a
      still (SourceAt n) j ne a = (others.nodes j ne ∙ a.0, others.sources j ne ∙ a.1)

  module _ (k : ℕ) (v u w : View) (re : Reaches k v u) (x : View) (is : x ≡ freed k w) where
    pub makes_left : (c : Call) (string : List ℕ) (reply : Reply) (bytes : List ℕ) → Makes told faults c string reply bytes u w → Makes told faults c string reply bytes v x
    makes_left c string reply bytes m = subst (λ (z : View). Makes told faults c string reply bytes v z) (sym is) record {
      before = m.before;
      entry = m.entry;
      seen_is = m.seen_is;
      mine_is = m.mine_is ∙ ap (λ (l : List (List ℕ)). l ++ entry_list m.entry ∷ []) re.mine_is;
      begins = begins_on v.seen u.seen m.before re.begins m.begins;
      own = sym re.mine_is ∙ (m.own ∙ ap (λ (n : ℕ). of_caller n m.before) re.same.number_is);
      legal = subst (λ (l : List ℕ). LegalOver (tree_meaning told faults) l (m.before ++ entry_list m.entry ∷ [])) re.same.opening_is m.legal;
      caller_is = m.caller_is ∙ re.same.number_is;
      call_is = m.call_is;
      string_is = m.string_is;
      reply_is = m.reply_is;
      bytes_are = m.bytes_are;
    }

pub meets_left : (k : ℕ) (v u w : View) → Reaches k v u → (x : View) → x ≡ freed k w → u.met ≡ v.met → (p : Tree) (t : ℕ) (c : Call) (string : List ℕ) (busy : Busy)
    → Meets p t c string busy u w → Meets p t c string busy v x
meets_left k v u w re x is met p t c string busy m = subst (λ (z : View). Meets p t c string busy v z) (sym is) record {
  f = m.f;
  o = m.o;
  entries = m.entries;
  item = m.item;
  opening_is = sym re.same.opening_is ∙ m.opening_is;
  plan_is = m.plan_is;
  seen_is = m.seen_is;
  history = m.history;
  begins = begins_on v.seen u.seen w.seen re.begins m.begins;
  own = sym re.mine_is ∙ (m.own ∙ ap (λ (n : ℕ). of_caller n w.seen) re.same.number_is);
  mine_is = m.mine_is ∙ re.mine_is;
  met_is = m.met_is ∙ ap (λ l. l ++ m.item ∷ []) met;
  slot_is = m.slot_is;
  word_is = m.word_is;
  at_is = m.at_is;
  holder_low = m.holder_low;
  holder_high = subst (λ (n : ℕ). busy.holder ≤ n) re.same.callers_is m.holder_high;
  another = subst (λ (n : ℕ). busy.holder ≢ n) re.same.number_is m.another;
  chain = m.chain;
  on_path = m.on_path;
  on_target = m.on_target;
}
