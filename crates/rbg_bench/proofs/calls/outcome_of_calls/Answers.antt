use Rattle.std.proofs.Common.{◌∙◌, sym}
use Rattle.rbg_bench.proofs.calls.outcome_of_calls.Goals as goal

pub returns-in-Ok-open : goal.returns-in-Ok-open
returns-in-Ok-open c =
    let is = c.in-Ok-open.ensures.opened in record {
      f = is.f;
      o = is.o;
      plan_is = is.given.plan_is;
      came = c.make.ensures is.f is.o (record { opening = is.is_opening; legal = tt }) (is.given.plan_is ∙ sym is.plan_is) is.stand;
    }
