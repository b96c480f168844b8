use Rattle.std.proofs.Common.{rules, arith}
use Rattle.rbg_talk.proofs.tell.Teller.open.Goals as goal

pub returns-clause-teller : goal.returns-clause-teller
returns-clause-teller c = record {
  rooms = record { payload = search rules; text = search rules };
  offset = c.fresh.ensures.offset;
  refusals = omega arith;
  taken = omega arith;
  head = λ some. absurd (omega (arith, some, c.fresh.ensures.left));
  left = λ some. absurd (omega (arith, some, c.fresh.ensures.left));
}
