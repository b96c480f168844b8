use Rattle.tree_rules.specs.History.{opened, states_after}
use Rattle.tree_rules.proofs.Going.{goes_on, served_fits, served_legal, served_states}
use Rattle.tree_rules.proofs.openings.served_calls_go_on.Goals as goal

pub returns-clause-legal : goal.returns-clause-legal
returns-clause-legal c limit least p s es old new call string reply bytes caller tree plan legal same served = (
  served_legal limit least p s es old new call string reply bytes caller tree plan legal same served,
  served_states limit least p s es old new call string reply bytes caller tree plan legal same served,
)

pub returns-clause-history : goal.returns-clause-history
returns-clause-history c f o h old new call string reply bytes caller is same served =
    let p = f.plan in
    let s = states_after p (opened f) o in
    let tree = is.opening.tree in
    let plan = is.opening.planned in (
      goes_on f o h _ is (served_fits 8 0 p s h old new call string reply bytes caller tree plan is.legal same served),
      served_states 8 0 p s h old new call string reply bytes caller tree plan is.legal same served,
    )
