use Rattle.std.proofs.Common.{subst}
use Rattle.entropy_source.specs.Views.{SourceView, source_state, HasStarted}
use Rattle.entropy_source.proofs.Ends.{start_facts}
use Rattle.entropy_source.proofs.source.EntropySource.start.Goals as goal

pub returns-clause-acts : goal.returns-clause-acts
returns-clause-acts g c fits =
    subst (λ (v : SourceView g.row.S.Denot). HasStarted g.S.Samples.told g.S.Samples.faults g.S.Samples.reads c.start.result v c.start.new.self) c.self.view_is c.start.ensures.acts

pub returns-clause-passed : goal.returns-clause-passed
returns-clause-passed g c =
    (start_facts g.S.Samples.told g.S.Samples.faults c.self.inside.intake c.args.self.now c.self.view_is (source_state g.S.Samples.told g.S.Samples.faults c.start.new.self) c.start.result (λ _ _. Unit {0}) (λ _. Unit {0}) c.start.ensures.ends).ok

pub returns-clause-only_spent : goal.returns-clause-only_spent
returns-clause-only_spent g c =
    (start_facts g.S.Samples.told g.S.Samples.faults c.self.inside.intake c.args.self.now c.self.view_is (source_state g.S.Samples.told g.S.Samples.faults c.start.new.self) c.start.result _ (λ _. Unit {0}) c.start.ensures.ends).spent

pub returns-clause-never_in_error : goal.returns-clause-never_in_error
returns-clause-never_in_error g c =
    (start_facts g.S.Samples.told g.S.Samples.faults c.self.inside.intake c.args.self.now c.self.view_is (source_state g.S.Samples.told g.S.Samples.faults c.start.new.self) c.start.result (λ _ _. Unit {0}) _ c.start.ensures.ends).error

pub returns-clause-fault : goal.returns-clause-fault
returns-clause-fault g c =
    (start_facts g.S.Samples.told g.S.Samples.faults c.self.inside.intake c.args.self.now c.self.view_is (source_state g.S.Samples.told g.S.Samples.faults c.start.new.self) c.start.result (λ _ _. Unit {0}) (λ _. Unit {0}) c.start.ensures.ends).fault

pub returns-clause-failed : goal.returns-clause-failed
returns-clause-failed g c =
    (start_facts g.S.Samples.told g.S.Samples.faults c.self.inside.intake c.args.self.now c.self.view_is (source_state g.S.Samples.told g.S.Samples.faults c.start.new.self) c.start.result (λ _ _. Unit {0}) (λ _. Unit {0}) c.start.ensures.ends).failed

pub returns-clause-want : goal.returns-clause-want
returns-clause-want g c =
    (start_facts g.S.Samples.told g.S.Samples.faults c.self.inside.intake c.args.self.now c.self.view_is (source_state g.S.Samples.told g.S.Samples.faults c.start.new.self) c.start.result (λ _ _. Unit {0}) (λ _. Unit {0}) c.start.ensures.ends).want
