-- A seeding takes some bytes.
use Rattle.std.proofs.Common.{◌≡◌, ◌<◌, arith}
use Rattle.rbg_bytes.specs.declared.kind.Kind.{Kind}
use Rattle.rbg_bytes.specs.declared.kind.Kind.TheVariants.{HmacSha256, HmacSha384, HmacSha512, CtrAes128, CtrAes192, CtrAes256}
use Rattle.rbg_nodes.specs.Node.{New, Renew}
use Rattle.rbg_nodes.specs.declared.node.NodeRow.{NodeRow}
use Rattle.tree_rules.specs.Links.{Task, Seeds, Gives, Rests, seeding_by}

pub some_bytes : (row : NodeRow) (k : Kind) → row.drbg ≡ k → (task : Task) → 0 < seeding_by row task
some_bytes row HmacSha256 e (Seeds New) = rw e (omega arith)
some_bytes row HmacSha256 e (Seeds Renew) = rw e (omega arith)
some_bytes row HmacSha256 e (Gives len) = rw e (omega arith)
some_bytes row HmacSha256 e Rests = rw e (omega arith)
some_bytes row HmacSha384 e (Seeds New) = rw e (omega arith)
some_bytes row HmacSha384 e (Seeds Renew) = rw e (omega arith)
some_bytes row HmacSha384 e (Gives len) = rw e (omega arith)
some_bytes row HmacSha384 e Rests = rw e (omega arith)
some_bytes row HmacSha512 e (Seeds New) = rw e (omega arith)
some_bytes row HmacSha512 e (Seeds Renew) = rw e (omega arith)
some_bytes row HmacSha512 e (Gives len) = rw e (omega arith)
some_bytes row HmacSha512 e Rests = rw e (omega arith)
some_bytes row CtrAes128 e (Seeds New) = rw e (omega arith)
some_bytes row CtrAes128 e (Seeds Renew) = rw e (omega arith)
some_bytes row CtrAes128 e (Gives len) = rw e (omega arith)
some_bytes row CtrAes128 e Rests = rw e (omega arith)
some_bytes row CtrAes192 e (Seeds New) = rw e (omega arith)
some_bytes row CtrAes192 e (Seeds Renew) = rw e (omega arith)
some_bytes row CtrAes192 e (Gives len) = rw e (omega arith)
some_bytes row CtrAes192 e Rests = rw e (omega arith)
some_bytes row CtrAes256 e (Seeds New) = rw e (omega arith)
some_bytes row CtrAes256 e (Seeds Renew) = rw e (omega arith)
some_bytes row CtrAes256 e (Gives len) = rw e (omega arith)
some_bytes row CtrAes256 e Rests = rw e (omega arith)
