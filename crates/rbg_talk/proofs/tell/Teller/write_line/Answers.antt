use Rattle.std.proofs.Common.{List, ℕ, take, subst}
use Rattle.rbg_bytes.specs.Streams.{AppendsFront}
use Rattle.rbg_talk.specs.Shown.{reply_line}
use Rattle.rbg_talk.proofs.tell.Teller.write_line.Goals as goal

pub returns-in-Err-clause-bytes : goal.returns-in-Err-clause-bytes
returns-in-Err-clause-bytes g c =
    subst (λ (x : List ℕ). AppendsFront (g.O.ByteSink.out c.args.output.now) (g.O.ByteSink.out c.write_shown.new.output) (reply_line (record { head = c.args.self.now.head; string = take c.args.self.now.got x })))
    c.deref.ensures.value c.in-Err.ensures.bytes
