use Rattle.std.proofs.Common.{◌≡◌, ◌++◌, append_assoc, length-append, length, arith, sym, ◌∙◌}
use Rattle.aes_core.proofs.Rows.{all_of_64}
use Rattle.aes_core.proofs.four.joined.Goals as goal

pub returns : goal.returns
returns c =
    let rows = c.pair.result ++ c.pair-2.result in
    let long : length (c.pair.result ++ c.pair-2.result) ≡ 64 =
    rw (c.pair.ensures, c.pair-2.ensures) (simp length-append (omega (arith, c.fits-a.0, c.fits-b.0, c.fits-c.0, c.fits-d.0))) in
    all_of_64 rows long ∙ rw (c.pair.ensures, c.pair-2.ensures) (sym (append_assoc (c.args.a ++ c.args.b) c.args.c c.args.d))
