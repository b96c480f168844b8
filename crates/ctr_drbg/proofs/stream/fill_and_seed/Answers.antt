use Rattle.std.proofs.Common.{◌≡◌, ℕ, ◌+◌, ◌-◌, ◌*◌, ◌/◌, length, take, drop, ap, sym, ◌∙◌, arith}
use Rattle.df_core.specs.Df.{blocks_for}
use Rattle.ctr_drbg.specs.CtrDrbg.{counted, stream}
use Rattle.ctr_drbg.proofs.Lengths.{length-front}
use Rattle.ctr_drbg.proofs.Fours.{out_is, seed_is}
use Rattle.ctr_drbg.proofs.stream.fill_and_seed.Goals as goal

pub returns-clause-bytes : goal.returns-clause-bytes
returns-clause-bytes c =
    let n = length c.args.out.now in
    let same : length c.fill_fours-last.new.out ≡ length c.args.out.now = c.fill_fours-last.auto.out in
    let size : length c.put_at.new.out ≡ length c.args.out.now = c.put_at.auto.out ∙ same in
    let row = rw (c.blocks_for-before.ensures, c.blocks_for.ensures) at c.row_of-row.ensures.row in
    out_is c.args.aes.now c.args.v c.fill_fours-last.result c.fill_fours-last.new.out c.row_of-row.result c.put_at.new.out n (n / 64)
    (length c.fill_fours-last.new.out - 64 * (n / 64)) _ same size (omega arith) (omega (arith, same)) (omega (arith, same))
    c.fill_fours-last.ensures.bytes c.fill_fours-last.ensures.value row c.put_at.ensures.front

pub returns-clause-seed : goal.returns-clause-seed
returns-clause-seed c =
    let len = length c.args.out.now in
    let n = c.args.n in
    let same : length c.fill_fours-last.new.out ≡ length c.args.out.now = c.fill_fours-last.auto.out in
    let rest = length c.fill_fours-last.new.out - 64 * (len / 64) in
    let row = rw (c.blocks_for-before.ensures, c.blocks_for.ensures) at c.row_of-row.ensures.row in
    let b = c.blocks_for-before.result in
    let count : 16 * b + n - 16 * b ≡ n = omega arith in
    let value = counted c.args.v (blocks_for len) in
    let same_bytes : take (16 * b + n - 16 * b) (drop (16 * b) c.row_of-row.result) ≡ take n (stream c.args.aes.now value (blocks_for n)) =
    ap (λ (k : ℕ). take k (drop (16 * b) c.row_of-row.result)) count
    ∙ (ap (λ (k : ℕ). take n (drop (16 * k) c.row_of-row.result)) c.blocks_for-before.ensures
    ∙ seed_is c.args.aes.now c.args.v c.fill_fours-last.result c.row_of-row.result n len (len / 64) (blocks_for rest) (blocks_for n)
    (omega arith) (omega (arith, same)) c.fill_fours-last.ensures.value row) in
    let long = ap length same_bytes ∙ length-front c.args.aes.now value n in
    ap (λ (k : ℕ). take k c.put_front.new.out) (sym long) ∙ (c.put_front.ensures.front ∙ same_bytes)
