use Rattle.std.proofs.Common.{◌≤◌, length, append_assoc, append-nil, arith, rules}
use Rattle.std.proofs.lemmas.List.{take_all}
use Rattle.df_core.proofs.Cutting.{take-between}
use Rattle.df_core.proofs.derive.Df.push_text.Goals as goal

pub pieces-init : goal.pieces-init
pieces-init c = (omega arith, λ keylen want text h. rw append-nil h)

pub pieces-preserved : goal.pieces-preserved
pieces-preserved c = (
  search rules,
  λ keylen want text h.
      let bytes = c.args.bytes.now in
      let at = c.pieces.at in
      let end = c.min-end.result in
      let further : c.pieces.at ≤ c.min-end.result = search rules in
      let next = c.push_piece.ensures keylen want _ (c.pieces.invariant.1 keylen want text h) in
      rw (← take-between bytes at end further) (rw append_assoc at next),
)

pub returns : goal.returns
returns c = λ keylen want text h.
    let end : length c.args.bytes.now ≤ c.pieces.at = c.pieces-test.false in
    rw (take_all c.pieces.at c.args.bytes.now end) at (c.pieces.invariant.1 keylen want text h)
