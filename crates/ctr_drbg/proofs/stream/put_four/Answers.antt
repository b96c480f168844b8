use Rattle.std.proofs.Common.{◌≡◌, length, get_or, [], rules}
use Rattle.ctr_drbg.proofs.Fours.{four_put}
use Rattle.ctr_drbg.proofs.stream.put_four.Goals as goal

pub returns : goal.returns
returns c =
    let l0 : length (get_or c.args.blocks.now 0 []) ≡ 16 = search rules in
    let l1 : length (get_or c.args.blocks.now 1 []) ≡ 16 = search rules in
    let l2 : length (get_or c.args.blocks.now 2 []) ≡ 16 = search rules in
    let l3 : length (get_or c.args.blocks.now 3 []) ≡ 16 = search rules in
    four_put _ _ _ _ _ c.args.blocks.now c.args.at c.told-blocks l0 l1 l2 l3
    c.put_at.ensures.front c.put_at-2.ensures.front c.put_at-3.ensures.front c.put_at-4.ensures.front
