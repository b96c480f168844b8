use Rattle.std.proofs.Common.{◌≤◌, ◌+◌, length, arith}
use Rattle.ctr_drbg.proofs.Rows.{update_is}
use Rattle.ctr_drbg.proofs.drbg.CtrDrbg.update_by.Goals as goal

pub returns-clause-state : goal.returns-clause-state
returns-clause-state c = λ v bytes.
    let key = c.as_slice-keylen.ensures.bytes in
    let fits : length c.args.self.now.key + 16 ≤ length c.args.bytes = omega (arith, c.requires.formed.high) in
    update_is (record { key = c.args.self.now.key; value = v }) c.args.bytes c.args.provided.now c.xor_bytes.new.out _ _ fits c.requires.provided
    bytes (rw key at c.xor_bytes.ensures) (rw key at c.of-self.ensures) (rw key at c.block_at-self.ensures)
