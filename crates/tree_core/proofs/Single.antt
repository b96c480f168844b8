-- Calls whose chain is the one slot that they name, and calls that the table refuses, over what is held.
use Rattle.std.proofs.Common.{◌≡◌, ◌∷◌, ◌++◌, ◌+◌, ◌<◌, ◌≤◌, ◌^◌, ℕ, List, [], length, map, true, false, refl, sym, ap, subst, arith}
use Rattle.std.specs.Prelude.{Option, Some, None, IsSome, MatchOption, nat_le, nat_lt}
use Rattle.std.proofs.lemmas.Bool.Decides.{nat_tests}
use Rattle.tree_config.specs.Tree.{Tree}
use Rattle.entropy_source.specs.declared.answers.SourceRefusal.{SourceRefusal}
use Rattle.entropy_source.specs.Views.{SourceView}
use Rattle.rbg_nodes.specs.Node.{Cleared}
use Rattle.tree_rules.specs.declared.call.Call.{Call}
use Rattle.tree_rules.specs.declared.call.Call.TheVariants.{Start, Status, Uninstantiate}
use Rattle.tree_rules.specs.declared.reply.Reply.{Reply}
use Rattle.tree_rules.specs.Slots.{source_row, source_slot}
use Rattle.tree_rules.specs.History.{Act, AtNode, States, has, node_in, source_in}
use Rattle.tree_rules.specs.Chain.{Chain, named, slots_of, source_at}
use Rattle.tree_rules.specs.Replies.{chain_by, chain_of, chain_rows, first_reply, plain_rows, refusal, there_are}
use Rattle.tree_rules.specs.Fits.{AnswersBy, Serves, at_source, done, found_by, start_reply, status_bytes}
use Rattle.tree_rules.specs.Served.{entry_of}
use Rattle.tree_rules.proofs.Leaves.{none_before}
use Rattle.tree_rules.proofs.Near.{has_first}
use Rattle.tree_rules.proofs.Sources.{NoneStands, none_stands}
use Rattle.tree_acts.specs.Hold.{Hold, AreHeld, IsOfPlan, states_held, source_held}
use Rattle.tree_acts.specs.Did.{Did}
use Rattle.tree_acts.specs.Drew.{Started, start_end}
use Rattle.tree_acts.specs.Made.{ServedBy}
use Rattle.tree_acts.proofs.Doing.{did_none}
use Rattle.tree_acts.proofs.Rising.{node_there}
use Rattle.tree_core.proofs.Nexts.{source_held_there}

module _ (p : Tree) (old : States) (c : Call) (string : List ℕ) (free : refusal p c string (chain_of p old c string) ≡ None) where
  rows_none : first_reply (plain_rows p c string) ≡ None
  rows_none = none_before (plain_rows p c string) (chain_rows c (chain_of p old c string)) free

  pub chain_free : chain_of p old c string ≡ chain_by p old c None
  chain_free = ap (λ (o : Option Reply). chain_by p old c o) rows_none

  pub there : named c < there_are p c
  there =
      let all : NoneStands (plain_rows p c string) = none_stands (plain_rows p c string) rows_none in
      let row : nat_le (there_are p c) (named c) ≡ false = all.0 in
      grind (arith, nat_tests)

  free_chain : refusal p c string (chain_by p old c None) ≡ None
  free_chain = subst (λ (ch : Chain). refusal p c string ch ≡ None) chain_free free

module _ {S : Type 0} (told : S → Option (List ℕ)) (faults : S → ℕ) (reads : S → ℕ → Option (List ℕ) → S → Type 0) (p : Tree) (h : Hold (SourceView S)) where
  abbrev before : States
  before = states_held told faults h

  -- a call that the table refuses
  pub refused_by : (c : Call) (string : List ℕ) (r : Reply) → refusal p c string (chain_of p before c string) ≡ Some r → ServedBy told faults reads p h h c string r []
  refused_by c string r is = record {
    served = record {
      acts = [];
      fits = λ caller. record { chain_is = refl; answer = by caller (refusal p c string (chain_of p before c string)) is };
      leaves = λ k. refl;
    };
    made = (did_none told faults p reads h).made;
  } where
    by : (caller : ℕ) (o : Option Reply) → o ≡ Some r
        → MatchOption o (Serves (found_by (chain_of p before c string).source) (chain_of p before c string) (entry_of p before c string r [] [] caller) c)
        (λ reply. AnswersBy (entry_of p before c string r [] [] caller) [] reply [])
    by caller None e = cc
    by caller (Some x) e = record { acts_are = refl; reply_is = (let same : x ≡ r = cc in sym same); bytes_are = refl }

  -- what the chain serves is what was served
  served_by : (t : Hold (SourceView S)) (c : Call) (string : List ℕ) (free : refusal p c string (chain_of p before c string) ≡ None) (reply : Reply) (bytes : List ℕ) (acts : List Act)
      → ((caller : ℕ) → Serves (found_by (chain_by p before c None).source) (chain_by p before c None) (entry_of p before c string reply bytes acts caller) c)
      → Did told faults reads p h t acts → ServedBy told faults reads p h t c string reply bytes
  served_by t c string free reply bytes acts serves did = record {
    served = record {
      acts = acts;
      fits = λ caller.
          let e = entry_of p before c string reply bytes acts caller in
          record {
            chain_is = refl;
            answer = subst (λ (o : Option Reply). MatchOption o (Serves (found_by (chain_of p before c string).source) (chain_of p before c string) e c) (λ reply. AnswersBy e [] reply [])) (sym free)
                (subst (λ (ch : Chain). Serves (found_by ch.source) ch e c) (sym (chain_free p before c string free)) (serves caller));
          };
      leaves = did.states;
    };
    made = did.made;
  }

  pub clear_served : (t : Hold (SourceView S)) (string : List ℕ) (n : ℕ) → refusal p (Uninstantiate n) string (chain_of p before (Uninstantiate n) string) ≡ None
      → Did told faults reads p h t (record { slot = n; act = AtNode Cleared } ∷ []) → ServedBy told faults reads p h t (Uninstantiate n) string (done []) []
  clear_served t string n free did =
      served_by t (Uninstantiate n) string free (done []) [] (record { slot = n; act = AtNode Cleared } ∷ [])
      (λ caller. record { acts_are = refl; reply_is = refl; bytes_are = refl }) did

  pub status_served : (string bytes : List ℕ) (n : ℕ) → refusal p (Status n) string (chain_of p before (Status n) string) ≡ None
      → bytes ≡ status_bytes (node_in (before n)) → ServedBy told faults reads p h h (Status n) string (done (status_bytes (node_in (before n)))) bytes
  status_served string bytes n free is =
      served_by h (Status n) string free (done (status_bytes (node_in (before n)))) bytes [] (λ caller. record { acts_are = refl; reply_is = refl; bytes_are = is })
      (did_none told faults p reads h)

  pub start_served : (t : Hold (SourceView S)) (j : ℕ) (string : List ℕ) → refusal p (Start j) string (chain_of p before (Start j) string) ≡ None
      → (r : Option SourceRefusal) → Started told faults reads p h t j r → ServedBy told faults reads p h t (Start j) string (start_reply j (start_end r)) []
  start_served t j string free r it =
      served_by t (Start j) string free (start_reply j (start_end r)) [] (map (at_source (source_at p before j)) it.acts)
      (λ caller. (it.acts, start_end r, it.start, record { acts_are = refl; reply_is = refl; bytes_are = refl })) it.did

module _ {S : Type 0} (told : S → Option (List ℕ)) (faults : S → ℕ) (p : Tree) (h : Hold (SourceView S)) (plan : IsOfPlan p h) where
  abbrev s : States
  s = states_held told faults h

  -- the node, or the source, that the call names is held
  pub node_named : (c : Call) (string : List ℕ) (n : ℕ) → chain_by p s c None ≡ chain_by p s c None → refusal p c string (chain_of p s c string) ≡ None
      → (has (slots_of (chain_by p s c None)) n ≡ true) → n < length p.nodes → AreHeld h (slots_of (chain_of p s c string)) → IsSome (h.nodes n)
  node_named c string n same free first low held =
      node_there told faults p h n plan low (held n (subst (λ (ch : Chain). has (slots_of ch) n ≡ true) (sym (chain_free p s c string free)) first))

  module _ (j : ℕ) (string : List ℕ) (free : refusal p (Start j) string (chain_of p s (Start j) string) ≡ None) where
    pub start_held : AreHeld h (slots_of (chain_of p s (Start j) string)) → IsSome (h.sources (source_slot p j))
    start_held held =
        source_held_there told faults p h plan (source_slot p j) j refl
        (held (source_slot p j) (subst (λ (ch : Chain). has (slots_of ch) (source_slot p j) ≡ true) (sym (chain_free p s (Start j) string free)) (has_first (source_slot p j) [])))

    pub start_room : (source_held told faults h (source_slot p j)).taken + (source_row p j).startup ≤ 2 ^ 60
    start_room =
        let all : NoneStands (plain_rows p (Start j) string ++ chain_rows (Start j) (chain_by p s (Start j) None)) =
        none_stands (plain_rows p (Start j) string ++ chain_rows (Start j) (chain_by p s (Start j) None)) (free_chain p s (Start j) string free) in
        let row : nat_lt (2 ^ 60) ((source_in (s (source_slot p j))).taken + (source_row p j).startup) ≡ false = all.1.1.1.1.1.1.1.1.1.0 in
        grind (arith, nat_tests)
