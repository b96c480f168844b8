use Rattle.std.proofs.Common.{ℕ, ap, sym, ◌+◌, ◌*◌, ◌∙◌, max}
use Rattle.std.specs.Int.{div_ceil}
use Rattle.tree_config.specs.declared.plan.NodeKind.{NodeKind}
use Rattle.entropy_source.specs.Source.{blocks_for}
use Rattle.rbg_nodes.specs.Node.{New, Renew, entropy_len}
use Rattle.tree_acts.specs.declared.step.Asked.{Asked}
use Rattle.tree_rules.specs.Slots.{source_row_of}
use Rattle.tree_rules.specs.Links.{is_rs}
use Rattle.tree_acts.specs.Plain.{link_of, task_in}
use Rattle.tree_acts.proofs.Counted.{of_seeding, of_chunks}
use Rattle.tree_acts.proofs.step.Step.blocks.Goals as goal

pub returns-in-Instantiate-clause-count : goal.returns-in-Instantiate-clause-count
returns-in-Instantiate-clause-count c o =
    let f : ℕ → ℕ = λ n. blocks_for (source_row_of c.args.source.now) n in
    c.blocks-in-Instantiate.ensures.count ∙ (ap f (c.seeding_len.ensures.len o)
    ∙ sym (of_seeding f c.args.pr (link_of c.args.self o) (task_in c.args.self.asked) New (ap (λ (a : Asked). task_in a) c.in-Instantiate.is)))

pub returns-in-Reseed-clause-count : goal.returns-in-Reseed-clause-count
returns-in-Reseed-clause-count c o =
    let f : ℕ → ℕ = λ n. blocks_for (source_row_of c.args.source.now) n in
    c.blocks-in-Reseed.ensures.count ∙ (ap f (c.seeding_len-in-Reseed.ensures.len o)
    ∙ sym (of_seeding f c.args.pr (link_of c.args.self o) (task_in c.args.self.asked) Renew (ap (λ (a : Asked). task_in a) c.in-Reseed.is)))

pub returns-in-Rbg3Rs-clause-count : goal.returns-in-Rbg3Rs-clause-count
returns-in-Rbg3Rs-clause-count c o =
    let f : ℕ → ℕ = λ n. blocks_for (source_row_of c.args.source.now) n in
    let row = c.args.self.row in
    let each = c.blocks-in-Rbg3Rs.ensures.count ∙ ap (λ (n : ℕ). f (n + 8)) c.entropy_len.ensures.len in
    ap (λ (n : ℕ). n * c.blocks-in-Rbg3Rs.result) (c.from.ensures ∙ c.chunks.ensures.count)
    ∙ (ap (λ (n : ℕ). max 1 (div_ceil c.in-Give.len (entropy_len row)) * n) each
    ∙ sym (of_chunks f c.args.pr (link_of c.args.self o) (task_in c.args.self.asked) c.in-Give.len
    (ap (λ (a : Asked). task_in a) c.in-Give.is) (ap (λ (k : NodeKind). is_rs k) c.in-Rbg3Rs.is)))
