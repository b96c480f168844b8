use Rattle.ctr_drbg.proofs.Rows.{counted-none}
use Rattle.ctr_drbg.proofs.drbg.CtrDrbg.update.Goals as goal

pub returns-clause-state : goal.returns-clause-state
returns-clause-state c =
    let bytes = rw (c.cipher-aes.ensures, c.as_slice.ensures.bytes, c.as_slice-2.ensures.bytes, counted-none) at c.fill_and_seed-bytes.ensures.seed in
    c.update_by.ensures.state _ bytes
