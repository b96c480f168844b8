use Rattle.std.proofs.Common.{◌≡◌, ◌≤◌, ℕ, replicate, ◌∙◌, arith}
use Rattle.std.proofs.lemmas.List.{take-replicate}
use Rattle.ctr_drbg.proofs.drbg.CtrDrbg.begun.Goals as goal

pub returns-clause-state : goal.returns-clause-state
returns-clause-state c =
    let few : c.args.keylen ≤ 32 = omega (arith, c.requires.key.high) in
    let zeros : c.of.result ≡ replicate {A = ℕ} c.args.keylen 0 = c.of.ensures ∙ take-replicate c.args.keylen 32 0 few in
    rw (← zeros) c.update.ensures.state
