use Rattle.std.proofs.Common.{◌∙◌, zero-add}
use Rattle.rbg_nodes.specs.Node.{fresh_node}
use Rattle.rbg_nodes.specs.Counted.{seedings_of, generates_of}
use Rattle.rbg_nodes.proofs.Counts.{seeds_in, gives_in, live_in, counter_in_acts, kept_in}
use Rattle.rbg_nodes.proofs.laws.states_are_counted.Goals as goal

pub returns-clause-seeds : goal.returns-clause-seeds
returns-clause-seeds c row kept acts = seeds_in row (fresh_node kept) acts ∙ zero-add (seedings_of acts)

pub returns-clause-gives : goal.returns-clause-gives
returns-clause-gives c row kept acts = gives_in row (fresh_node kept) acts ∙ zero-add (generates_of acts)

pub returns-clause-live : goal.returns-clause-live
returns-clause-live c row kept acts = live_in row (fresh_node kept) acts

pub returns-clause-counter : goal.returns-clause-counter
returns-clause-counter c row kept acts = counter_in_acts row (fresh_node kept) acts

pub returns-clause-kept : goal.returns-clause-kept
returns-clause-kept c row kept acts = kept_in row (fresh_node kept) acts
