use Rattle.std.proofs.Common.{◌≡◌}
use Rattle.std.specs.Int.{w32, w64, to_be_bytes}
use Rattle.frame_codec.proofs.Writing.{reply-text}
use Rattle.frame_codec.proofs.encode.encode_reply.Goals as goal

pub returns : goal.returns
returns c =
    let h = c.args.head.now in
    let a : c.to_be_bytes.result ≡ to_be_bytes w32 h.id = c.to_be_bytes.ensures in
    let b : c.to_be_bytes-2.result ≡ to_be_bytes w64 h.a = c.to_be_bytes-2.ensures in
    let d : c.to_be_bytes-3.result ≡ to_be_bytes w64 h.b = c.to_be_bytes-3.ensures in
    let e : c.to_be_bytes-4.result ≡ to_be_bytes w32 h.len = c.to_be_bytes-4.ensures in
    rw (a, b, d, e) (reply-text h c.requires)
