use Rattle.std.proofs.Common.{◌∙◌, length, zero-add}
use Rattle.entropy_source.specs.Source.{opened_source}
use Rattle.entropy_source.specs.Counted.{samples_of, blocks_of, alarms_of}
use Rattle.entropy_source.proofs.Counts.{taken_of, blocks_in, alarms_in, told_in, mode_in, tail_quiet, tail_alarmed, faults_in}
use Rattle.entropy_source.proofs.laws.states_are_counted.Goals as goal

pub returns-clause-taken : goal.returns-clause-taken
returns-clause-taken c row told faults acts = taken_of row (opened_source told faults) acts ∙ zero-add (length (samples_of acts))

pub returns-clause-blocks : goal.returns-clause-blocks
returns-clause-blocks c row told faults acts = blocks_in row (opened_source told faults) acts ∙ zero-add (blocks_of acts)

pub returns-clause-alarms : goal.returns-clause-alarms
returns-clause-alarms c row told faults acts = alarms_in row (opened_source told faults) acts ∙ zero-add (alarms_of acts)

pub returns-clause-told : goal.returns-clause-told
returns-clause-told c row told faults acts = told_in row (opened_source told faults) acts

pub returns-clause-mode : goal.returns-clause-mode
returns-clause-mode c row told faults acts = mode_in row (opened_source told faults) acts

pub returns-clause-tail : goal.returns-clause-tail
returns-clause-tail c row told faults acts none = tail_quiet row told faults acts none

pub returns-clause-no_tail : goal.returns-clause-no_tail
returns-clause-no_tail c row told faults acts some = tail_alarmed row told faults acts some

pub returns-clause-faults : goal.returns-clause-faults
returns-clause-faults c row told faults acts = faults_in row (opened_source told faults) acts
