use Rattle.tree_rules.specs.Replies.{chain_of}
use Rattle.tree_rules.proofs.Early.{by_table}
use Rattle.tree_rules.proofs.Refusals.{bare_refusal, coded_by_table, refused_by}
use Rattle.tree_rules.proofs.causes.refusals_come_by_the_table.Goals as goal

pub returns-clause-exact : goal.returns-clause-exact
returns-clause-exact c p s e r f =
    (λ is. ((refused_by p s e r f is).1, coded_by_table p e.call e.string (chain_of p s e.call e.string) r is), λ d. by_table p s e r f d.0 d.1)

pub returns-clause-bytes : goal.returns-clause-bytes
returns-clause-bytes c = bare_refusal
