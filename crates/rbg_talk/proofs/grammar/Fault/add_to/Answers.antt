use Rattle.std.proofs.Common.{◌∙◌, ap, sym, append_assoc, List, ℕ, ◌++◌}
use Rattle.std.specs.Prelude.{codes}
use Rattle.rbg_talk.specs.Statuses.{fault_text, option_text}
use Rattle.rbg_talk.specs.declared.grammar.Fault.{Fault}
use Rattle.rbg_talk.proofs.grammar.Fault.add_to.Goals as goal

pub returns-in-Twice-clause-value : goal.returns-in-Twice-clause-value
returns-in-Twice-clause-value c =
    c.text-in-Twice-3.ensures.value
    ∙ (ap (λ (x : List ℕ). x ++ codes " stands twice") (c.text-in-Twice-2.ensures.value ∙ ap (λ (x : List ℕ). c.args.line.now ++ x) c.text-in-Twice.ensures.text)
    ∙ (append_assoc c.args.line.now (option_text c.in-Twice.option) (codes " stands twice")
    ∙ ap (λ (f : Fault). c.args.line.now ++ fault_text f) (sym c.in-Twice.is)))
