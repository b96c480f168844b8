-- The reason of each right entry, from the laws on replies.
use Rattle.std.proofs.Common.{◌≡◌, ℕ, List, [], true, ◌↔◌}
use Rattle.std.specs.Prelude.{Some, None, IsSome}
use Rattle.tree_config.specs.Tree.{Tree}
use Rattle.tree_config.specs.Planned.{IsPlanned}
use Rattle.entropy_source.specs.Source.{source_after_all}
use Rattle.tree_rules.specs.declared.call.Call.{Call}
use Rattle.tree_rules.specs.declared.reply.Reply.{Reply}
use Rattle.tree_rules.specs.History.{Entry, Opening, States, at_slot, opened, source_in, states_after}
use Rattle.tree_rules.specs.Slots.{source_slot}
use Rattle.tree_rules.specs.Chain.{SourceLink, need, whole_chain}
use Rattle.tree_rules.specs.Replies.{chain_of, is_running, refusal}
use Rattle.tree_rules.specs.Fits.{Fits, Legal}
use Rattle.tree_rules.specs.Free.{IsFree}
use Rattle.tree_rules.specs.Causes.{chain_in, refusal_in, IsOfTable, IsCaused, HasEnough, IsDone, LacksCause, blocks_left, bytes_of}
use Rattle.tree_rules.specs.Openings.{states_behind}
use Rattle.tree_core.proofs.Reasons.{tested_here}
use Rattle.shared_tree.proofs.Answering.{HaveReasons}

pub reasons : ((p : Tree) (s : States) (e : Entry) (r : Reply) → Fits p s e → (refusal_in p s e ≡ Some r ↔ ((e.reply ≡ r) × IsOfTable r.code)))
    → ((least : ℕ) (p : Tree) (s : States) (e : Entry) (t : SourceLink) → IsPlanned least p → Fits p s e → refusal_in p s e ≡ None → (chain_in p s e).source ≡ Some t
    → (is_running t.state.mode ≡ true → IsSome t.state.tail) → IsCaused e.call t (at_slot t.slot e.acts) (source_after_all t.row t.state (at_slot t.slot e.acts)) e.reply)
    → ((p : Tree) (s : States) (c : Call) (string : List ℕ) → (refusal p c string (chain_of p s c string) ≡ None ↔ IsFree p c string (whole_chain p s c)))
    → ((p : Tree) (s : States) (e : Entry) → Fits p s e → refusal_in p s e ≡ None → (chain_in p s e).source ≡ None → IsDone (bytes_of e.call e.string (chain_in p s e) []) e)
    → ((least : ℕ) (p : Tree) (s : States) (e : Entry) (t : SourceLink) → IsPlanned least p → Fits p s e → refusal_in p s e ≡ None → (chain_in p s e).source ≡ Some t
    → (is_running t.state.mode ≡ true → IsSome t.state.tail) → LacksCause e.call t (at_slot t.slot e.acts) (source_after_all t.row t.state (at_slot t.slot e.acts)) → e.reply.code ≡ 0)
    → ((least : ℕ) (p : Tree) (s : States) (e : Entry) (t : SourceLink) (left : List ℕ) → IsPlanned least p → Fits p s e → refusal_in p s e ≡ None → (chain_in p s e).source ≡ Some t
    → (is_running t.state.mode ≡ true → IsSome t.state.tail)
    → HasEnough e.call t (need e.call (chain_in p s e)) left (source_after_all t.row t.state (at_slot t.slot e.acts))
    → IsDone (bytes_of e.call e.string (chain_in p s e) (blocks_left e.call (chain_in p s e) left)) e)
    → ((f : Opening) (h : List Entry) (j : ℕ) → Legal f.plan (opened f) h → is_running (source_in (states_after f.plan (opened f) h (source_slot f.plan j))).mode ≡ true
    → IsSome (source_in (states_after f.plan (opened f) h (source_slot f.plan j))).tail)
    → HaveReasons
reasons table causes free alone quiet told tested f o h e is fit =
    let s = states_behind f o h in let range = is.opening.planned in record {
      table = λ r. table f.plan s e r fit;
      free = free f.plan s e.call e.string;
      alone = alone f.plan s e fit;
      caused = λ t none on. causes 0 f.plan s e t range fit none on (tested_here f o h e t is on tested);
      quiet = λ t none on lacks. quiet 0 f.plan s e t range fit none on (tested_here f o h e t is on tested) lacks;
      told = λ t left none on enough. told 0 f.plan s e t left range fit none on (tested_here f o h e t is on tested) enough;
    }
