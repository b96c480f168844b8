use Rattle.std.proofs.Common.{ℕ, Bool, ap, ◌∙◌}
use Rattle.std.specs.Prelude.{◌&&◌, not}
use Rattle.tree_rules.specs.Links.{is_alive}
use Rattle.tree_rules.specs.Replies.{reply_row, needs_life}
use Rattle.tree_acts.specs.Plain.{link_of}
use Rattle.tree_core.proofs.table.not_instantiated.Goals as goal

pub returns : goal.returns
returns c q =
    let stands = needs_life c.args.call && not (is_alive (link_of c.args.end q)) in
    c.reply_row.ensures
    ∙ (ap (λ (b : Bool). reply_row 4 (b && not c.is_alive.result) c.from.result 0) c.needs_life.ensures
    ∙ (ap (λ (b : Bool). reply_row 4 (needs_life c.args.call && not b) c.from.result 0) (c.is_alive.ensures q)
    ∙ ap (λ (n : ℕ). reply_row 4 stands n 0) c.from.ensures))
