use Rattle.std.proofs.Common.{length, sym, ap, ◌∙◌, subst}
use Rattle.entropy_source.specs.Views.{SourceView, source_state, HasDrawn, error_of}
use Rattle.entropy_source.proofs.Ends.{draw_facts, let_go}
use Rattle.entropy_source.proofs.source.EntropySource.draw.Goals as goal

pub returns-clause-acts : goal.returns-clause-acts
returns-clause-acts g c some fits running =
    subst (λ (v : SourceView g.row.S.Denot). HasDrawn g.S.Samples.told g.S.Samples.faults g.S.Samples.reads (length c.args.out.now) c.draw.new.out c.draw.result v c.draw.new.self) c.self.view_is c.draw.ensures.acts

pub returns-clause-drawn : goal.returns-clause-drawn
returns-clause-drawn g c =
    (draw_facts g.S.Samples.told g.S.Samples.faults c.self.inside.intake c.args.self.now c.self.view_is (source_state g.S.Samples.told g.S.Samples.faults c.draw.new.self) c.draw.result _ (λ _ _. Unit {0}) (λ _. Unit {0})
    (ap error_of (sym c.mode.ensures.mode) ∙ (sym c.cause.ensures ∙ c.in_default.is)) c.draw.ensures.ends).ok

pub returns-clause-only_spent : goal.returns-clause-only_spent
returns-clause-only_spent g c =
    (draw_facts g.S.Samples.told g.S.Samples.faults c.self.inside.intake c.args.self.now c.self.view_is (source_state g.S.Samples.told g.S.Samples.faults c.draw.new.self) c.draw.result _ _ (λ _. Unit {0})
    (ap error_of (sym c.mode.ensures.mode) ∙ (sym c.cause.ensures ∙ c.in_default.is)) c.draw.ensures.ends).spent

pub returns-clause-only_in_error : goal.returns-clause-only_in_error
returns-clause-only_in_error g c =
    (draw_facts g.S.Samples.told g.S.Samples.faults c.self.inside.intake c.args.self.now c.self.view_is (source_state g.S.Samples.told g.S.Samples.faults c.draw.new.self) c.draw.result _ (λ _ _. Unit {0}) _
    (ap error_of (sym c.mode.ensures.mode) ∙ (sym c.cause.ensures ∙ c.in_default.is)) c.draw.ensures.ends).error

pub returns-clause-fault : goal.returns-clause-fault
returns-clause-fault g c =
    (draw_facts g.S.Samples.told g.S.Samples.faults c.self.inside.intake c.args.self.now c.self.view_is (source_state g.S.Samples.told g.S.Samples.faults c.draw.new.self) c.draw.result _ (λ _ _. Unit {0}) (λ _. Unit {0})
    (ap error_of (sym c.mode.ensures.mode) ∙ (sym c.cause.ensures ∙ c.in_default.is)) c.draw.ensures.ends).fault

pub returns-clause-failed : goal.returns-clause-failed
returns-clause-failed g c =
    (draw_facts g.S.Samples.told g.S.Samples.faults c.self.inside.intake c.args.self.now c.self.view_is (source_state g.S.Samples.told g.S.Samples.faults c.draw.new.self) c.draw.result _ (λ _ _. Unit {0}) (λ _. Unit {0})
    (ap error_of (sym c.mode.ensures.mode) ∙ (sym c.cause.ensures ∙ c.in_default.is)) c.draw.ensures.ends).failed

pub returns-clause-want : goal.returns-clause-want
returns-clause-want g c =
    (draw_facts g.S.Samples.told g.S.Samples.faults c.self.inside.intake c.args.self.now c.self.view_is (source_state g.S.Samples.told g.S.Samples.faults c.draw.new.self) c.draw.result _ (λ _ _. Unit {0}) (λ _. Unit {0})
    (ap error_of (sym c.mode.ensures.mode) ∙ (sym c.cause.ensures ∙ c.in_default.is)) c.draw.ensures.ends).want

pub returns-clause-out : goal.returns-clause-out
returns-clause-out g c =
    let_go c.self.inside.intake.row (length c.args.out.now) (source_state g.S.Samples.told g.S.Samples.faults c.self.inside.intake)
    (source_state g.S.Samples.told g.S.Samples.faults c.draw.new.self) c.draw.result c.args.out.now c.draw.new.out c.draw.ensures.ends c.draw.ensures.wiped
