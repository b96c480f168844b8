use Rattle.std.proofs.Common.{◌≡◌, ◌≤◌, length, take, ap, ◌∙◌, arith}
use Rattle.hmac_core.specs.Hmac.{xor_each, zero_padded}
use Rattle.hmac_core.proofs.Padding.{take-xor_each}
use Rattle.hmac_core.proofs.mac.Mac.of_block.Goals as goal

pub returns : goal.returns
returns c =
    let len = c.block_len-len.result in
    let key = c.args.key.now in
    let low : length c.args.key.now ≤ c.block_len-len.result = omega arith in
    let high : c.block_len-len.result ≤ 128 = omega arith in
    let inner : take len c.xored-inner.result ≡ xor_each 0x36 (zero_padded len key) =
    ap (take len) (c.xored-inner.ensures ∙ ap (xor_each 0x36) c.padded-block.ensures) ∙ take-xor_each 0x36 key len 128 low high in
    let outer : take len c.xored-outer.result ≡ xor_each 0x5c (zero_padded len key) =
    ap (take len) (c.xored-outer.ensures ∙ ap (xor_each 0x5c) c.padded-block.ensures) ∙ take-xor_each 0x5c key len 128 low high in
    rw (← c.block_len-len.ensures.len) (rw (inner, outer) at c.of.ensures)
