use Rattle.std.proofs.Common.{◌≤◌, ◌*◌, rules, zero-mul, refl, length}
use Rattle.std.proofs.Math.Seq.{take-nil}
use Rattle.hmac_drbg.proofs.Lengths.{length-turned}
use Rattle.hmac_drbg.proofs.Updates.{turned-none, gathered-none}
use Rattle.hmac_drbg.proofs.Filling.{put_more, turn_more}
use Rattle.hmac_drbg.proofs.state.HmacDrbg.fill.Goals as goal

pub loop-i-init : goal.loop-i-init
loop-i-init c = (rw turned-none refl, rw (zero-mul, gathered-none, take-nil) refl)

pub loop-i-preserved : goal.loop-i-preserved
loop-i-preserved c =
    let d = c.args.self.now in
    let len = c.out_len-len in
    let step = c.next_block in
    let fits : c.loop-i.i * c.out_len-len.result ≤ length c.loop-i.out = search rules in (
      turn_more d c.loop-i.self step.new.self c.loop-i.i c.loop-i.invariant.0 step.ensures.state,
      put_more d c.loop-i.self c.loop-i.out step.new.out c.loop-i.i len.result c.loop-i.invariant.0 len.ensures.len fits step.auto.out
          c.loop-i.invariant.1 step.ensures.bytes,
    )

pub returns-clause-formed : goal.returns-clause-formed
returns-clause-formed c =
    let d = c.args.self.now in
    rw c.loop-i.invariant.0
    (record { k = c.requires.formed.k; v = length-turned d.hash d.k d.v c.loop-i.i c.requires.formed.v })
