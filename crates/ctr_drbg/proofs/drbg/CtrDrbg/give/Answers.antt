use Rattle.std.proofs.Common.{length, take, ap, ◌∙◌}
use Rattle.df_core.specs.Df.{blocks_for}
use Rattle.ctr_drbg.specs.CtrDrbg.{Working, additional_seed, after_generate, counted, generated, stream, update}
use Rattle.ctr_drbg.proofs.drbg.CtrDrbg.give.Goals as goal

pub returns-clause-bytes : goal.returns-clause-bytes
unfolding generated
returns-clause-bytes c =
    let n = length c.args.out.now in
    let bytes = rw (c.cipher-aes.ensures, c.as_slice.ensures.bytes) at c.fill_and_seed-bytes.ensures.bytes in
    bytes ∙ ap (λ (w : Working). take n (stream w.key w.value (blocks_for n))) c.absorbed-seed.ensures.state

pub returns-clause-state : goal.returns-clause-state
unfolding after_generate
returns-clause-state c =
    let n = length c.args.out.now in
    let old = c.args.self.now in
    let bytes = rw (c.cipher-aes.ensures, c.as_slice.ensures.bytes, c.as_slice-2.ensures.bytes) at c.fill_and_seed-bytes.ensures.seed in
    let state = rw (c.as_slice-3.ensures.bytes, c.absorbed-seed.ensures.seed) at c.update_by.ensures.state _ bytes in
    state ∙ ap (λ (w : Working). update (additional_seed old.mode (length old.key) c.args.add.now) (record { key = w.key; value = counted w.value (blocks_for n) }))
    c.absorbed-seed.ensures.state
