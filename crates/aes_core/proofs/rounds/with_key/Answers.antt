use Rattle.std.proofs.Common.{◌-◌, ◌*◌, ◌++◌, List, ℕ, bit_xor, drop, ap, ◌∙◌, arith}
use Rattle.std.proofs.lemmas.List.{take-take}
use Rattle.std.specs.Simd.Lanes.{zip2}
use Rattle.aes_core.proofs.Mixing.{with_key_is}
use Rattle.aes_core.proofs.rounds.with_key.Goals as goal

pub returns : goal.returns
returns c =
    let keys = c.args.keys.now in
    let n = c.args.n in
    let key = take-take 16 (240 - 16 * n) (drop (16 * n) keys) (omega arith) in
    rw c.four_times.ensures
    (ap (λ (k : List ℕ). zip2 bit_xor c.args.s (k ++ k ++ k ++ k)) key ∙ with_key_is keys c.args.s n c.fits-s (omega arith))
