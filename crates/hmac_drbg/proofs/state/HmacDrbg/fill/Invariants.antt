use Rattle.std.proofs.Common.{◌≡◌, ◌*◌, take, length}
use Rattle.hmac_drbg.specs.HmacDrbg.{turned, gathered}
use Rattle.hmac_drbg.proofs.state.HmacDrbg.fill.Given as goal

abbrev pub invariant-loop-i : goal.invariant-loop-i
invariant-loop-i l =
    (l.self ≡ record l.fn.self { v = turned l.fn.self.hash l.fn.self.k l.fn.self.v l.i })
    × (take (l.i * l.len) l.out ≡ take (length l.out) (gathered l.fn.self.hash l.fn.self.k l.fn.self.v l.i))
