use Rattle.std.proofs.Common.{Bool, true, false, ap, refl, ◌≡◌, ◌∙◌}
use Rattle.std.specs.Prelude.{◌&&◌, ◌||◌, not, is_none}
use Rattle.tree_rules.specs.Links.{is_rbg1}
use Rattle.tree_rules.specs.Replies.{reply_row, is_reseed, is_instantiate}
use Rattle.tree_acts.specs.Plain.{kept_if}
use Rattle.tree_core.proofs.table.chain_rows.Goals as goal

none_where : (b : Bool) → not b ≡ is_none (kept_if b)
none_where true = refl
none_where false = refl

pub returns : goal.returns
returns c o q =
    let used = ap (λ (b : Bool). reply_row 6 (is_rbg1 c.args.node.row.kind && (is_reseed c.args.call || is_instantiate c.args.call && b)) c.args.node.slot 0)
    (none_where c.args.node.node.has_seed) in
    rw (
      c.already_instantiated.ensures,
      c.not_instantiated.ensures q,
      c.strength_too_high.ensures,
      c.reseed_refused.ensures ∙ used,
      c.pr_unsupported.ensures,
      c.exhausted.ensures,
      c.source_spent.ensures,
      c.source_in_error.ensures,
    ) refl
