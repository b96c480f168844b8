use Rattle.std.proofs.Common.{◌++◌, ◌∷◌, [], ℕ, ◌+◌, sym, subst, arith}
use Rattle.rbg_talk.specs.Asker.{line_of, Stands}
use Rattle.rbg_talk.proofs.Lining.{passed_goes, ended_goes, listed_short}
use Rattle.rbg_talk.proofs.ask.Asker.take_end.Goals as goal

pub returns-in-Ok-clause-goes : goal.returns-in-Ok-clause-goes
returns-in-Ok-clause-goes g c before taken st =
    subst (λ (n : ℕ). Stands before (taken ++ 10 ∷ []) (line_of c.end_line.new.self) c.end_line.new.self.number c.end_line.new.self.calls (n + 1) (g.O.ByteSink.out c.end_line.new.output))
    (sym c.end_line.ensures.taken)
    (passed_goes before taken c.args.self.now _ st c.end_line.new.self _ c.in-Ok.ensures.ends)

pub returns-in-Ok-clause-asker : goal.returns-in-Ok-clause-asker
returns-in-Ok-clause-asker g c =
    let p = c.in-Ok.ensures.ends in
    let r = c.end_line.ensures.rooms in
    record {
      rooms = record { line = r.line; string = r.string; frame = r.frame };
      len = omega (arith, p.wrote.len);
      number = omega (arith, p.wrote.number, c.requires.asker.number, c.end_line.ensures.taken);
      calls = omega (arith, p.wrote.number, p.wrote.calls, listed_short p.said, c.requires.asker.calls);
      taken = omega (arith, c.end_line.ensures.taken, c.requires.bound);
    }

pub returns-in-Err-clause-goes : goal.returns-in-Err-clause-goes
returns-in-Err-clause-goes g c before taken st = ended_goes before taken c.args.self.now _ st _ c.in-Err.status c.in-Err.ensures.ends
