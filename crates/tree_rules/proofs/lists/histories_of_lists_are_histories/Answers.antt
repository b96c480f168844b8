use Rattle.std.specs.Prelude.{[]}
use Rattle.std.proofs.Common.{refl}
use Rattle.tree_rules.specs.History.{opened, states_after}
use Rattle.tree_rules.specs.Table.{opening_list, start}
use Rattle.tree_rules.proofs.Listing.{reads}
use Rattle.tree_rules.proofs.lists.histories_of_lists_are_histories.Goals as goal

pub returns : goal.returns
returns c f o h legal =
    reads f o (start (opening_list f o)) (states_after f.plan (opened f) o) h (λ k. record { touched = []; list_is = refl; state_is = refl }) legal
