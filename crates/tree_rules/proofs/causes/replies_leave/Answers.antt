use Rattle.tree_rules.proofs.Leaving.{source_left}
use Rattle.tree_rules.proofs.Seeding.{cleared_now, done_len, seeded_now, status_stays}
use Rattle.tree_rules.proofs.Staying.{all_stay, len_is, none_given, others_stay}
use Rattle.tree_rules.proofs.causes.replies_leave.Goals as goal

pub returns-clause-len : goal.returns-clause-len
returns-clause-len c = len_is

pub returns-clause-given : goal.returns-clause-given
returns-clause-given c = done_len

pub returns-clause-bytes : goal.returns-clause-bytes
returns-clause-bytes c = none_given

pub returns-clause-refused : goal.returns-clause-refused
returns-clause-refused c = all_stay

pub returns-clause-others : goal.returns-clause-others
returns-clause-others c = others_stay

pub returns-clause-source : goal.returns-clause-source
returns-clause-source c = source_left

pub returns-clause-seeded : goal.returns-clause-seeded
returns-clause-seeded c = seeded_now

pub returns-clause-cleared : goal.returns-clause-cleared
returns-clause-cleared c = cleared_now

pub returns-clause-status : goal.returns-clause-status
returns-clause-status c = status_stays
