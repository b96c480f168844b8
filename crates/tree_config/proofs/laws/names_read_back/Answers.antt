use Rattle.std.proofs.Common.{refl}
use Rattle.rbg_bytes.specs.declared.cond.Cond.TheVariants as conds
use Rattle.rbg_bytes.specs.declared.kind.Kind.TheVariants as kinds
use Rattle.tree_config.specs.declared.plan.NodeKind.TheVariants as nodes
use Rattle.tree_config.proofs.laws.names_read_back.Goals as goal

pub returns-clause-node_kinds : goal.returns-clause-node_kinds
returns-clause-node_kinds c nodes.Rbg1 = refl
returns-clause-node_kinds c nodes.Rbg2 = refl
returns-clause-node_kinds c nodes.Rbg3Xor = refl
returns-clause-node_kinds c nodes.Rbg3Rs = refl
returns-clause-node_kinds c nodes.Child = refl

pub returns-clause-drbgs : goal.returns-clause-drbgs
returns-clause-drbgs c kinds.HmacSha256 = refl
returns-clause-drbgs c kinds.HmacSha384 = refl
returns-clause-drbgs c kinds.HmacSha512 = refl
returns-clause-drbgs c kinds.CtrAes128 = refl
returns-clause-drbgs c kinds.CtrAes192 = refl
returns-clause-drbgs c kinds.CtrAes256 = refl

pub returns-clause-conds : goal.returns-clause-conds
returns-clause-conds c version conds.HmacSha256 = refl
returns-clause-conds c version conds.DfAes256 = refl
