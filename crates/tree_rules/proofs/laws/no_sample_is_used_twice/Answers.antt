use Rattle.tree_rules.specs.Slots.{source_slot}
use Rattle.tree_rules.specs.Apart.{all_spans}
use Rattle.tree_rules.proofs.Parting.{apart}
use Rattle.tree_rules.proofs.Places.{no_place_twice}
use Rattle.tree_rules.proofs.laws.no_sample_is_used_twice.Goals as goal

pub returns-clause-apart : goal.returns-clause-apart
returns-clause-apart c = apart

pub returns-clause-places : goal.returns-clause-places
returns-clause-places c f es legal j a b place x y =
    no_place_twice (all_spans (source_slot f.plan j) 0 es) a b place x y (apart f es legal j)
