use Rattle.std.proofs.Common.{ap}
use Rattle.std.specs.Prelude.{option_map}
use Rattle.frame_codec.specs.declared.frames.Request.{Request}
use Rattle.rbg_talk.specs.Parsed.{asked_of}
use Rattle.rbg_talk.proofs.ask.Asker.pass.Goals as goal

pub returns-in-Err-clause-writes : goal.returns-in-Err-clause-writes
returns-in-Err-clause-writes g c = (
  asked_of c.in-Some.request c.args.self.now.string.items,
  ap (option_map (λ (r : Request). asked_of r c.args.self.now.string.items)) c.in-Some.is,
  c.in-Err.ensures.kind,
  c.in-Err.ensures.bytes,
)
