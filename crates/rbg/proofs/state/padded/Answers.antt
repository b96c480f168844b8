use Rattle.rbg.proofs.Padding.{padding}
use Rattle.rbg.proofs.state.padded.Goals as goal

pub returns : goal.returns
returns c = padding _ c.args.bytes.now c.put_front.ensures.front c.put_front.ensures.behind
