-- The tests of a call's source keep something after a legal history.
use Rattle.std.proofs.Common.{◌≡◌, ◌++◌, ℕ, List, true, sym, subst}
use Rattle.std.specs.Prelude.{Some, IsSome}
use Rattle.tree_rules.specs.History.{Entry, Opening, States, opened, source_in, states_after}
use Rattle.tree_rules.specs.Slots.{source_slot}
use Rattle.tree_rules.specs.Chain.{SourceLink, source_at}
use Rattle.tree_rules.specs.Causes.{chain_in}
use Rattle.tree_rules.specs.Fits.{Legal}
use Rattle.tree_rules.specs.Openings.{IsHistory, states_behind}
use Rattle.tree_rules.specs.Replies.{first_reply, is_running, plain_rows}
use Rattle.tree_rules.proofs.Parts.{joined, states_parts}
use Rattle.tree_rules.proofs.Sources.{IsSourceOf, chain_fits}

pub tested_here : (f : Opening) (o h : List Entry) (e : Entry) (t : SourceLink) → IsHistory f o h → (chain_in f.plan (states_behind f o h) e).source ≡ Some t
    → ((f : Opening) (h : List Entry) (j : ℕ) → Legal f.plan (opened f) h → is_running (source_in (states_after f.plan (opened f) h (source_slot f.plan j))).mode ≡ true
    → IsSome (source_in (states_after f.plan (opened f) h (source_slot f.plan j))).tail)
    → is_running t.state.mode ≡ true → IsSome t.state.tail
tested_here f o h e t is on law =
    let s = states_behind f o h in
    let own : t ≡ source_at f.plan s t.number = subst (IsSourceOf f.plan s) on (chain_fits f.plan s e.call (first_reply (plain_rows f.plan e.call e.string))) in
    let whole = joined f.plan (opened f) o h is.opening.legal is.legal in
    let told = subst (λ (s : States). is_running (source_in (s (source_slot f.plan t.number))).mode ≡ true → IsSome (source_in (s (source_slot f.plan t.number))).tail)
    (states_parts f.plan (opened f) o h) (law f (o ++ h) t.number whole) in
    subst (λ (t : SourceLink). is_running t.state.mode ≡ true → IsSome t.state.tail) (sym own) told
