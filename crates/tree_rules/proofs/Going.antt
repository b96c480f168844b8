-- A legal history goes on with an entry that is right in the states that it leaves.
use Rattle.std.proofs.Common.{◌≡◌, ◌∙◌, ◌++◌, ◌∷◌, ◌<◌, ℕ, List, [], sym, ap}
use Rattle.tree_rules.specs.declared.call.Call.{Call}
use Rattle.tree_rules.specs.declared.reply.Reply.{Reply}
use Rattle.tree_config.specs.Planned.{IsPlanned}
use Rattle.tree_config.specs.Tree.{IsTree, Tree}
use Rattle.tree_rules.specs.Fits.{Fits, Legal}
use Rattle.tree_rules.specs.History.{Entry, Opening, States, after, opened, states_after}
use Rattle.tree_rules.specs.Openings.{IsHistory, states_behind}
use Rattle.tree_rules.specs.Served.{Served, entry_of}
use Rattle.tree_rules.specs.Slots.{slot_count}
use Rattle.tree_rules.proofs.Near.{near}
use Rattle.tree_rules.proofs.Parts.{both, joined, states_parts}
use Rattle.tree_rules.proofs.Ranges.{in_range}

pub goes_on : (f : Opening) (o h : List Entry) (e : Entry) → IsHistory f o h → Fits f.plan (states_behind f o h) e → IsHistory f o (h ++ e ∷ [])
goes_on f o h e is fit = record {
  opening = is.opening;
  legal = joined f.plan (states_after f.plan (opened f) o) h (e ∷ []) is.legal (fit, tt);
}

pub last_fits : (f : Opening) (o h : List Entry) (e : Entry) → IsHistory f o (h ++ e ∷ []) → Fits f.plan (states_behind f o h) e
last_fits f o h e is = (both f.plan (states_after f.plan (opened f) o) h (e ∷ []) is.legal).1.0

-- entries in a row go on with that of a call that was served from the states that they leave
module _ (limit least : ℕ) (p : Tree) (s : States) (es : List Entry) (old new : States) (c : Call) (string : List ℕ) (reply : Reply) (bytes : List ℕ)
    (caller : ℕ) (tree : IsTree limit p.nodes) (plan : IsPlanned least p) (legal : Legal p s es)
    (same : (k : ℕ) → k < slot_count p → old k ≡ states_after p s es k) (served : Served p old new c string reply bytes) where
  abbrev made : Entry
  made = entry_of p old c string reply bytes served.acts caller

  pub served_fits : Fits p (states_after p s es) made
  served_fits = near p old (states_after p s es) made (λ k at. same k (in_range limit least p old c string k tree plan at).1) (served.fits caller)

  pub served_legal : Legal p s (es ++ made ∷ [])
  served_legal = joined p s es (made ∷ []) legal (served_fits, tt)

  pub served_states : (k : ℕ) → k < slot_count p → new k ≡ states_after p s (es ++ made ∷ []) k
  served_states k low =
      served.leaves k ∙ (ap (λ x. after p k x made) (same k low) ∙ sym (ap (λ t. t k) (states_parts p s es (made ∷ []))))
