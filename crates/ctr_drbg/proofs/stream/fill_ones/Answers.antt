use Rattle.std.proofs.Common.{◌≡◌, ◌+◌, length, ap, sym, ◌∙◌, arith}
use Rattle.aes_core.specs.Aes.{aes}
use Rattle.aes_core.proofs.Lengths.{length-aes}
use Rattle.ctr_drbg.specs.CtrDrbg.{counted, plus_one}
use Rattle.ctr_drbg.proofs.Rows.{block_more, counted-none, counted-more, stream-none}
use Rattle.ctr_drbg.proofs.stream.fill_ones.Goals as goal

pub ones-init : goal.ones-init
ones-init c = (sym (counted-none _), sym (stream-none _ _))

pub ones-preserved : goal.ones-preserved
ones-preserved c =
    let key = c.args.aes.now in
    let v = c.args.v in
    let i = c.ones.i in
    let value : c.next-value.result ≡ counted v (i + 1) = c.next-value.ensures ∙ (ap plus_one c.ones.invariant.0 ∙ sym (counted-more v i)) in
    let block : c.encrypted.result ≡ aes key (counted v (i + 1)) = c.encrypted.ensures ∙ ap (aes key) value in
    let long = ap length block ∙ length-aes key (counted v (i + 1)) in
    (value, block_more key v _ c.ones.out c.put_at.new.out i c.ones.invariant.1 block long c.put_at.ensures.front)

pub returns : goal.returns
returns c =
    let end : c.args.ones ≡ c.ones.i = omega (arith, c.ones.auto.i-end) in
    rw end c.ones.invariant.1
