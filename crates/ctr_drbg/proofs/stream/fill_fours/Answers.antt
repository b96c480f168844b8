use Rattle.std.proofs.Common.{◌≡◌, ap, sym, arith, get_or, [], List, ℕ}
use Rattle.ctr_drbg.proofs.Fours.{fours_more, value_more}
use Rattle.ctr_drbg.proofs.Rows.{counted-none, stream-none}
use Rattle.ctr_drbg.proofs.stream.fill_fours.Goals as goal

pub fours-init : goal.fours-init
fours-init c = (sym (counted-none _), sym (stream-none _ _))

pub fours-preserved : goal.fours-preserved
fours-preserved c =
    let i = c.fours.i in
    let values = c.next_four-blocks.ensures in (
      value_more c.args.v c.fours.last _ i c.fours.invariant.0 (ap (λ (x : List (List ℕ)). get_or x 3 []) values),
      fours_more c.args.aes.now c.args.v c.fours.last c.fours.out _ _ _ i c.fours.invariant.0 c.fours.invariant.1 values c.encrypt4.ensures.value c.put_four.ensures,
    )

pub returns-clause-bytes : goal.returns-clause-bytes
returns-clause-bytes c =
    let end : c.args.fours ≡ c.fours.i = omega (arith, c.fours.auto.i-end) in
    rw end c.fours.invariant.1

pub returns-clause-value : goal.returns-clause-value
returns-clause-value c =
    let end : c.args.fours ≡ c.fours.i = omega (arith, c.fours.auto.i-end) in
    rw end c.fours.invariant.0
