use Rattle.std.proofs.Common.{◌≡◌, ◌+◌, ◌-◌, length, arith, rules}
use Rattle.std.proofs.lemmas.Slice.{drop-put_mid}
use Rattle.rbg_bytes.proofs.place.put_at.Goals as goal

pub returns-clause-behind : goal.returns-clause-behind
returns-clause-behind c =
    let at = c.args.at in
    let end = at + length c.args.bytes.now in
    let same : length c.copy_from_slice.new.self ≡ end - at = search rules in
    drop-put_mid at (end - at) c.args.out.now c.copy_from_slice.new.self end (omega arith) (omega (arith, c.requires)) same
