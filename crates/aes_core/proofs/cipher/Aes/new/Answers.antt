use Rattle.std.proofs.Common.{length, rules}
use Rattle.aes_core.specs.Keys.{IsKeyLength}
use Rattle.aes_core.proofs.Expansion.{kept_is}
use Rattle.aes_core.proofs.cipher.Aes.new.Goals as goal

pub invariant_of-result : goal.invariant_of-result
invariant_of-result c =
    let allowed : IsKeyLength (length c.args.key.now) = search rules in
    (kept_is c.args.key.now c.expanded.result allowed c.expanded.ensures.long c.expanded.ensures.bytes).0

pub returns-clause-key : goal.returns-clause-key
returns-clause-key c =
    let allowed : IsKeyLength (length c.args.key.now) = search rules in
    (kept_is c.args.key.now c.expanded.result allowed c.expanded.ensures.long c.expanded.ensures.bytes).1
