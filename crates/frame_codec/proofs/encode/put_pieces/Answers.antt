use Rattle.std.proofs.Common.{length, drop, sym, ap, ◌∙◌}
use Rattle.std.proofs.lemmas.List.{drop-drop}
use Rattle.frame_codec.proofs.encode.put_pieces.Goals as goal

pub returns-clause-behind : goal.returns-clause-behind
returns-clause-behind c =
    let a = length c.args.one.now in
    let b = length c.args.other.now in
    c.put_at.ensures.behind
    ∙ (sym (drop-drop b a c.put_front.new.out) ∙ (ap (drop b) c.put_front.ensures.behind ∙ drop-drop b a c.args.out.now))
