use Rattle.std.specs.Prelude.{[]}
use Rattle.tree_rules.proofs.Coding.{entry_back}
use Rattle.tree_rules.proofs.Listing.{opening_one, slot_one, tells_one}
use Rattle.tree_rules.proofs.lists.lists_have_one_reading.Goals as goal

pub returns-clause-entry : goal.returns-clause-entry
returns-clause-entry c d e h = (entry_back d e [] [] h).0

pub returns-clause-opening : goal.returns-clause-opening
returns-clause-opening c = opening_one

pub returns-clause-slot : goal.returns-clause-slot
returns-clause-slot c = slot_one

pub returns-clause-state : goal.returns-clause-state
returns-clause-state c = tells_one
