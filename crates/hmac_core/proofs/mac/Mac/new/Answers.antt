use Rattle.std.proofs.Common.{◌<◌, ◌≤◌, length, List, ℕ, ap, ◌∙◌, sym, arith}
use Rattle.hmac_core.specs.Hmac.{block_len, zero_padded}
use Rattle.hmac_core.proofs.Padding.{block_key-short, block_key-long, no_text}
use Rattle.hmac_core.proofs.mac.Mac.new.Goals as goal

pub returns-then-block_len-key : goal.returns-then-block_len-key
returns-then-block_len-key c =
    let long : block_len c.args.hash < length c.args.key.now = omega arith in
    let digest = c.as_slice.ensures.bytes ∙ c.digest_of-short.ensures in
    let block = block_key-long c.args.hash c.args.key.now long
    ∙ ap (λ (k : List ℕ). zero_padded (block_len c.args.hash) k) (sym digest) in
    no_text c.of_block.result c.args.hash c.args.key.now _ block c.of_block.ensures

pub returns-else-block_len-key : goal.returns-else-block_len-key
returns-else-block_len-key c =
    let short : length c.args.key.now ≤ block_len c.args.hash = omega arith in
    let block = block_key-short c.args.hash c.args.key.now short in
    no_text c.of_block-else-block_len-key.result c.args.hash c.args.key.now _ block c.of_block-else-block_len-key.ensures
