use Rattle.std.proofs.Common.{◌≡◌, ◌*◌, ◌+◌, ◌++◌, ℕ, List, replicate, ap, ◌∙◌, subst, arith}
use Rattle.std.proofs.lemmas.List.{replicate-append-replicate}
use Rattle.sha2.specs.Hashers.{Holds256}
use Rattle.sha2.specs.Sha256.{sha256}
use Rattle.rbg_bench.proofs.primitives.digest_of_zeros.Goals as goal

pub loop-i-init : goal.loop-i-init
loop-i-init c = c.new-digest.ensures

pub loop-i-preserved : goal.loop-i-preserved
loop-i-preserved c =
    let i = c.loop-i.i in
    let sum : 65536 * i + 65536 ≡ 65536 * (i + 1) = omega arith in
    let more : replicate (65536 * i) 0 ++ replicate 65536 0 ≡ replicate (65536 * (i + 1)) 0 =
    replicate-append-replicate (65536 * i) 65536 0 ∙ ap (λ (n : ℕ). replicate n 0) sum in
    subst (λ (m : List ℕ). Holds256 c.update.new.self m) more (c.update.ensures (replicate (65536 * i) 0) c.loop-i.invariant)

pub returns : goal.returns
returns c =
    let all : c.loop-i.i ≡ c.args.times = omega (arith, c.loop-i-test.false, c.loop-i.auto.i-end) in
    c.finalize.ensures (replicate (65536 * c.loop-i.i) 0) c.loop-i.invariant ∙ ap (λ (n : ℕ). sha256 (replicate (65536 * n) 0)) all
