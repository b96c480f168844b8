use Rattle.std.proofs.Common.{◌≡◌, ◌+◌, ◌-◌, ◌*◌, length, arith, rules}
use Rattle.std.proofs.lemmas.Slice.{drop-put_mid}
use Rattle.vector_text.proofs.digits.put_digits.Goals as goal

pub returns-clause-behind : goal.returns-clause-behind
returns-clause-behind c =
    let at = c.args.at in
    let end = at + 2 * length c.args.bytes.now in
    let same : length c.fill_digits.new.out ≡ end - at = search rules in
    drop-put_mid at (end - at) c.args.out.now c.fill_digits.new.out end (omega arith) (omega (arith, c.requires)) same
