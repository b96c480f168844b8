-- A load none of whose calls was refused is a run whose calls decide the counts.
use Rattle.std.proofs.Common.{◌≡◌, ◌∙◌, ◌++◌, ◌∷◌, ◌<◌, ℕ, List, [], zero, suc, Bool, true, false, length, map, refl, sym, ap, subst, arith, eqb-true}
use Rattle.std.specs.Prelude.{◌==◌, if◌then◌else◌, filter, not, slice_get, Option, Some}
use Rattle.std.specs.List.{range_with_len}
use Rattle.entropy_source.specs.Views.{SourceView, source_state}
use Rattle.rbg_nodes.specs.Views.{NodeView, counts_of}
use Rattle.tree_rules.specs.declared.call.Call.{Call}
use Rattle.tree_rules.specs.History.{Entry, Opening, node_in, source_in}
use Rattle.tree_rules.specs.Openings.{states_behind}
use Rattle.tree_rules.specs.Slots.{source_slot}
use Rattle.tree_load.specs.Load.{number, stated_call, stated_calls}
use Rattle.tree_load.specs.Made.{AreMade, is_refused}
use Rattle.tree_load.specs.Tally.{node_tally, source_tally}
use Rattle.tree_load.specs.Tallied.{AreDone, IsPlain, asked_of, counts_at, source_counts_at, view_counts}
use Rattle.tree_load.proofs.Tallying.{nodes_decided, sources_decided}

-- every call is a Generate without prediction resistance, or a Status
abbrev ArePlain : List Call → Type 0
ArePlain [] = Unit {0}
ArePlain (c ∷ cs) = IsPlain c × ArePlain cs

stated_plain : (nodes seed : ℕ) (is : List ℕ) → ArePlain (map (λ i. stated_call nodes (number seed i)) is)
stated_plain nodes seed [] = tt
stated_plain nodes seed (i ∷ is) = (refl, stated_plain nodes seed is)

all_plain : (nodes seed count : ℕ) → ArePlain (stated_calls nodes seed count)
unfolding stated_calls
all_plain nodes seed count = stated_plain nodes seed (range_with_len 0 count)

-- and none was refused
all_done : (es : List Entry) → ArePlain (map (λ (e : Entry). e.call) es) → 0 ≡ length (filter is_refused es) → AreDone es
all_done [] plain none = tt
all_done (e ∷ es) (plain, more) none = by (e.reply.code == 0) refl none (λ h. all_done es more h) where
  by : (b : Bool) → (e.reply.code == 0) ≡ b → 0 ≡ length (if not b then e ∷ filter is_refused es else filter is_refused es) → (0 ≡ length (filter is_refused es) → AreDone es)
      → AreDone (e ∷ es)
  by true is h ih = (plain, eqb-true e.reply.code 0 is, ih h)
  by false is h ih = absurd (omega (arith, h))

-- a node, or a source, that is there
get_low : {A : Type 0} (xs : List A) (n : ℕ) (x : A) → slice_get xs n ≡ Some x → n < length xs
get_low [] n x h = cc
get_low (y ∷ xs) zero x h = omega arith
get_low (y ∷ xs) (suc n) x h = let l = get_low xs n x h in omega (arith, l)

module _ {S : Type 0} (told : S → Option (List ℕ)) (faults : S → ℕ) (reads : S → ℕ → Option (List ℕ) → S → Type 0) (f : Opening) (o h : List Entry) (samples : List S) (count seed calls done : ℕ) (nodes : List NodeView) (sources : List (SourceView S))
    (m : AreMade told faults reads f o h samples (stated_calls count seed calls) done 0 nodes sources) where
  are_done : AreDone m.entries
  are_done = all_done m.entries (subst ArePlain (sym m.calls_are) (all_plain count seed calls)) m.refused_are

  pub load_nodes : (n : ℕ) (v : NodeView) → slice_get nodes n ≡ Some v
      → counts_of v.state ≡ node_tally f.plan (counts_at (states_behind f o h)) (asked_of (stated_calls count seed calls)) n
  load_nodes n v is =
      let at : node_in (states_behind f o (h ++ m.entries) n) ≡ v.state = ap node_in (sym (m.stand.nodes_are n v is).1) in
      let low = get_low nodes n v is in let all = m.stand.node_count in
      ap counts_of (sym at)
      ∙ (nodes_decided f o h m.entries m.history are_done n (omega (arith, low, all))
      ∙ ap (λ cs. node_tally f.plan (counts_at (states_behind f o h)) (asked_of cs) n) m.calls_are)

  pub load_sources : (j : ℕ) (v : SourceView S) → slice_get sources j ≡ Some v
      → view_counts v ≡ source_tally f.plan (counts_at (states_behind f o h)) (asked_of (stated_calls count seed calls)) j (source_counts_at f.plan (states_behind f o h) j)
  load_sources j v is =
      let at : source_in (states_behind f o (h ++ m.entries) (source_slot f.plan j)) ≡ source_state told faults v = ap source_in (sym (m.stand.sources_are j v is).1) in
      ap (λ z. record { taken = z.taken; blocks = z.blocks }) (sym at)
      ∙ (sources_decided f o h m.entries m.history are_done j
      ∙ ap (λ cs. source_tally f.plan (counts_at (states_behind f o h)) (asked_of cs) j (source_counts_at f.plan (states_behind f o h) j)) m.calls_are)
