-- A link in plain numbers.
use Rattle.std.specs.Prelude.{is_some}
use Rattle.rbg_nodes.specs.Node.{fresh_node}
use Rattle.tree_rules.specs.Links.{Link}
use Rattle.tree_acts.specs.Plain.{kept_if}

abbrev pub plain : Link → Link
plain l = record l { state = record (fresh_node (kept_if (is_some l.state.kept))) { live = l.state.live; counter = l.state.counter } }
