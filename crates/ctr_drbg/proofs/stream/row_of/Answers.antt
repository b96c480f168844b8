use Rattle.std.proofs.Common.{◌+◌, ◌-◌, ◌*◌, ◌/◌, arith}
use Rattle.ctr_drbg.proofs.Fours.{fours_and_ones}
use Rattle.ctr_drbg.proofs.stream.row_of.Goals as goal

pub returns-clause-row : goal.returns-clause-row
returns-clause-row c =
    let f = (c.args.count + 1) / 4 in
    let row = c.fill_fours-last.new.out in
    let ones = c.saturating_sub.ensures in
    fours_and_ones c.args.aes.now c.args.v c.fill_fours-last.result row c.fill_ones.new.out f c.saturating_sub.result c.args.count (128 - 64 * f)
    (omega arith) (omega arith) c.fill_fours-last.ensures.bytes c.fill_fours-last.ensures.value (omega (arith, ones)) c.fill_ones.ensures (omega (arith, ones))
