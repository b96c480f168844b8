use Rattle.std.proofs.Common.{◌≡◌, map}
use Rattle.std.specs.Simd.Lanes.{zip2}
use Rattle.aes_core.proofs.Powers.{multiple_of, sum_of}
use Rattle.aes_core.proofs.power.product.Given as goal

abbrev pub invariant-bits : goal.invariant-bits
invariant-bits l = (l.sum ≡ zip2 (sum_of l.k) l.fn.a l.b) × (l.multiple ≡ map (multiple_of l.k) l.fn.a)
