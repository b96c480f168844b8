use Rattle.std.proofs.Common.{bit_xor, length, take, ap, ◌∙◌}
use Rattle.std.specs.Simd.Lanes.{zip2}
use Rattle.std.proofs.lemmas.Simd.{length-zip2}
use Rattle.ctr_drbg.specs.CtrDrbg.{zero_padded}
use Rattle.ctr_drbg.proofs.Rows.{length-zero_padded, padded_sum_is}
use Rattle.ctr_drbg.proofs.seeds.padded_sum.Goals as goal

pub returns-clause-bytes : goal.returns-clause-bytes
returns-clause-bytes c =
    padded_sum_is c.args.bytes.now c.args.string.now _ _ _ c.args.n c.requires.bytes c.requires.string c.put_front.ensures.front
    (c.xor_bytes.ensures ∙ ap (zip2 bit_xor (take c.args.n c.put_front.new.out)) (c.as_slice.ensures.bytes ∙ c.zero_padded.ensures)) c.of.ensures

pub returns-clause-long : goal.returns-clause-long
returns-clause-long c =
    let n = c.args.n in
    ap length (returns-clause-bytes c)
    ∙ (length-zip2 bit_xor c.args.bytes.now (zero_padded n c.args.string.now) (c.requires.bytes ∙ length-zero_padded n c.args.string.now c.requires.string) ∙ c.requires.bytes)
