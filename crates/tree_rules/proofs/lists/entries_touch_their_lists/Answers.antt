use Rattle.std.specs.Prelude.{[]}
use Rattle.std.proofs.Common.{refl}
use Rattle.tree_rules.specs.Codes as codes
use Rattle.tree_rules.specs.Codes.{list_of, numbers}
use Rattle.tree_rules.proofs.Listing.{leaves_lists, near_lists, touches_entry}
use Rattle.tree_rules.proofs.lists.entries_touch_their_lists.Goals as goal

pub returns-clause-caller : goal.returns-clause-caller
returns-clause-caller c e = (codes.call e.call (numbers e.string (list_of codes.act e.acts (codes.reply e.reply (numbers e.bytes [])))), refl)

pub returns-clause-touches : goal.returns-clause-touches
returns-clause-touches c = touches_entry

pub returns-clause-near : goal.returns-clause-near
returns-clause-near c = near_lists

pub returns-clause-leaves : goal.returns-clause-leaves
returns-clause-leaves c = leaves_lists
