use Rattle.std.proofs.Common.{refl, subst, map, inl, inr, rules}
use Rattle.std.specs.Prelude.{Option, string_bytes}
use Rattle.tree_config.specs.Tree.{Tree}
use Rattle.rbgtree.specs.Check.{HasChecked}
use Rattle.rbgtree.specs.Commands.{IsCommand}
use Rattle.rbgtree.specs.Files.{Entries}
use Rattle.rbgtree.specs.Load.{LoadedPlan}
use Rattle.rbgtree.specs.Recordings.{Recordings}
use Rattle.rbgtree.specs.Run.{Outside, HasStatusCause, RanPlan, outside_of}
use Rattle.rbgtree.specs.Seeds.{planned_file}
use Rattle.rbgtree.specs.declared.top.Command.{Command}
use Rattle.rbgtree.proofs.Complete.{complete}
use Rattle.rbgtree.proofs.Served.{cause_planless, same_outside}
use Rattle.rbgtree.proofs.top.run.Goals as goal

pub returns-in-Some-Seed-clause-complete : goal.returns-in-Some-Seed-clause-complete
returns-in-Some-Seed-clause-complete g c =
    let command = subst (λ (k : Command). IsCommand (map string_bytes c.args.words.now) k) c.in-Some-Seed.field-0-is c.in-Some-Seed.ensures.some in
    complete g.W.Samples.Samples.told g.W.Samples.Samples.faults g.W.Samples.Samples.reads _ _ _ _ (inl (c.in-Some-Seed.name.now, command, c.run_seed.ensures.ran)) c.run_seed.ensures.cause

-- what `answer` did with the plan that it read
pub returns-in-Ok-clause-ran : goal.returns-in-Ok-clause-ran
returns-in-Ok-clause-ran g c =
    let at = outside_of g.W.World.files g.W.World.recordings g.W.World.faults g.I.ByteSource.left g.I.ByteSource.faults g.O.ByteSink.out g.O.ByteSink.faults in
    let now = at c.run_plan.new.world c.run_plan.new.input c.run_plan.new.output in
    let same = same_outside _ _ _ _ (g.I.ByteSource.left c.args.input.now) (g.O.ByteSink.out c.args.output.now) _ _ (g.I.ByteSource.faults c.args.input.now) (g.O.ByteSink.faults c.args.output.now)
    c.in-Ok.ensures.files c.in-Ok.ensures.recordings c.in-Ok.ensures.cause in
    let ran = subst (λ (o : Outside). RanPlan g.W.Samples.Samples.told g.W.Samples.Samples.faults g.W.Samples.Samples.reads planned_file c.in-Ok.plan o now c.run_plan.result) same c.run_plan.ensures.ran in
    let command = subst (λ (k : Command). IsCommand (map string_bytes c.args.words.now) k) c.in-Some-Answer.field-0-is c.in-Some-Answer.ensures.some in
    inr (inl (c.in-Some-Answer.name.now, command, inr (c.in-Ok.plan, c.in-Ok.ensures.plan, ran)))

pub returns-in-Ok-clause-complete : goal.returns-in-Ok-clause-complete
returns-in-Ok-clause-complete g c =
    let at = outside_of g.W.World.files g.W.World.recordings g.W.World.faults g.I.ByteSource.left g.I.ByteSource.faults g.O.ByteSink.out g.O.ByteSink.faults in
    let now = at c.run_plan.new.world c.run_plan.new.input c.run_plan.new.output in
    let same = same_outside _ _ _ _ (g.I.ByteSource.left c.args.input.now) (g.O.ByteSink.out c.args.output.now) _ _ (g.I.ByteSource.faults c.args.input.now) (g.O.ByteSink.faults c.args.output.now)
    c.in-Ok.ensures.files c.in-Ok.ensures.recordings c.in-Ok.ensures.cause in
    complete g.W.Samples.Samples.told g.W.Samples.Samples.faults g.W.Samples.Samples.reads _ _ _ _ (returns-in-Ok-clause-ran g c)
    (subst (λ (o : Outside). HasStatusCause o now c.run_plan.result) same c.run_plan.ensures.cause)

pub returns-in-Err-clause-complete : goal.returns-in-Err-clause-complete
returns-in-Err-clause-complete g c =
    let command = subst (λ (k : Command). IsCommand (map string_bytes c.args.words.now) k) c.in-Some-Answer.field-0-is c.in-Some-Answer.ensures.some in
    complete g.W.Samples.Samples.told g.W.Samples.Samples.faults g.W.Samples.Samples.reads _ _ _ _ (inr (inl (c.in-Some-Answer.name.now, command, inl (c.in-Err.ensures.ended, c.in-Err.ensures.recordings, record { left = refl; out = refl }))))
    (cause_planless Tree (g.W.World.files c.args.world.now) c.in-Some-Answer.name.now _ _ _ c.in-Err.ensures.ended c.in-Err.ensures.cause refl refl)

-- what `check` did with the plan that it read
pub returns-in-Ok-read_plan-clause-ran : goal.returns-in-Ok-read_plan-clause-ran
returns-in-Ok-read_plan-clause-ran g c =
    let checked = subst (λ (recordings : Option Recordings). HasChecked g.W.Samples.Samples.told g.W.Samples.Samples.faults g.W.Samples.Samples.reads c.in-Ok-read_plan.plan recordings (g.W.World.recordings c.check.new.world) (g.O.ByteSink.out c.args.output.now) (g.O.ByteSink.out c.check.new.output) c.check.result)
    c.in-Ok-read_plan.ensures.recordings c.check.ensures.checked in
    let command = subst (λ (k : Command). IsCommand (map string_bytes c.args.words.now) k) c.in-Some-Check.field-0-is c.in-Some-Check.ensures.some in
    inr (inr (inl (c.in-Some-Check.name.now, command, (refl, inr (c.in-Ok-read_plan.plan, c.in-Ok-read_plan.ensures.plan, checked)))))

pub returns-in-Ok-read_plan-clause-complete : goal.returns-in-Ok-read_plan-clause-complete
returns-in-Ok-read_plan-clause-complete g c =
    complete g.W.Samples.Samples.told g.W.Samples.Samples.faults g.W.Samples.Samples.reads _ _ _ _ (returns-in-Ok-read_plan-clause-ran g c) (search rules)

pub returns-in-Err-read_plan-clause-complete : goal.returns-in-Err-read_plan-clause-complete
returns-in-Err-read_plan-clause-complete g c =
    let command = subst (λ (k : Command). IsCommand (map string_bytes c.args.words.now) k) c.in-Some-Check.field-0-is c.in-Some-Check.ensures.some in
    complete g.W.Samples.Samples.told g.W.Samples.Samples.faults g.W.Samples.Samples.reads _ _ _ _ (inr (inr (inl (c.in-Some-Check.name.now, command, (refl, inl (c.in-Err-read_plan.ensures.ended, c.in-Err-read_plan.ensures.recordings, refl))))))
    (cause_planless Tree (g.W.World.files c.args.world.now) c.in-Some-Check.name.now _ _ _ c.in-Err-read_plan.ensures.ended c.in-Err-read_plan.ensures.cause refl refl)

-- what `load` did with the plan that it read
pub returns-in-Ok-read_plan-2-clause-ran : goal.returns-in-Ok-read_plan-2-clause-ran
returns-in-Ok-read_plan-2-clause-ran g c =
    let told = g.W.Samples.Samples.told in
    let faults = g.W.Samples.Samples.faults in
    let reads = g.W.Samples.Samples.reads in
    let now = g.W.World.recordings c.run_load.new.world in
    let out = g.O.ByteSink.out c.args.output.now in
    let out_now = g.O.ByteSink.out c.run_load.new.output in
    let load = c.in-Some-Load.load in
    let plan = c.in-Ok-read_plan-2.plan in
    let files = subst (λ (files : Option Entries). LoadedPlan told faults reads files plan load (g.W.World.recordings c.read_plan-in-Some-Load.new.world) now out out_now c.run_load.result)
    c.in-Ok-read_plan-2.ensures.files c.run_load.ensures.loaded in
    let did = subst (λ (recordings : Option Recordings). LoadedPlan told faults reads (g.W.World.files c.args.world.now) plan load recordings now out out_now c.run_load.result)
    c.in-Ok-read_plan-2.ensures.recordings files in
    let command = subst (λ (k : Command). IsCommand (map string_bytes c.args.words.now) k) c.in-Some-Load.field-0-is c.in-Some-Load.ensures.some in
    inr (inr (inr (inl (c.in-Some-Load.name.now, load, command, (refl, inr (plan, c.in-Ok-read_plan-2.ensures.plan, did))))))

pub returns-in-Ok-read_plan-2-clause-complete : goal.returns-in-Ok-read_plan-2-clause-complete
returns-in-Ok-read_plan-2-clause-complete g c =
    complete g.W.Samples.Samples.told g.W.Samples.Samples.faults g.W.Samples.Samples.reads _ _ _ _ (returns-in-Ok-read_plan-2-clause-ran g c) (search rules)

pub returns-in-Err-read_plan-2-clause-complete : goal.returns-in-Err-read_plan-2-clause-complete
returns-in-Err-read_plan-2-clause-complete g c =
    let command = subst (λ (k : Command). IsCommand (map string_bytes c.args.words.now) k) c.in-Some-Load.field-0-is c.in-Some-Load.ensures.some in
    complete g.W.Samples.Samples.told g.W.Samples.Samples.faults g.W.Samples.Samples.reads _ _ _ _
    (inr (inr (inr (inl (c.in-Some-Load.name.now, c.in-Some-Load.load, command, (refl, inl (c.in-Err-read_plan-2.ensures.ended, c.in-Err-read_plan-2.ensures.recordings, refl)))))))
    (cause_planless Tree (g.W.World.files c.args.world.now) c.in-Some-Load.name.now _ _ _ c.in-Err-read_plan-2.ensures.ended c.in-Err-read_plan-2.ensures.cause refl refl)

-- what `replay` did
pub returns-in-Some-Replay-clause-ran : goal.returns-in-Some-Replay-clause-ran
returns-in-Some-Replay-clause-ran g c =
    let command = subst (λ (k : Command). IsCommand (map string_bytes c.args.words.now) k) c.in-Some-Replay.field-0-is c.in-Some-Replay.ensures.some in
    inr (inr (inr (inr (inl (c.in-Some-Replay.family, c.in-Some-Replay.name.now, command, (refl, c.run_replay.ensures.recordings, c.run_replay.ensures.replays))))))

pub returns-in-Some-Replay-clause-complete : goal.returns-in-Some-Replay-clause-complete
returns-in-Some-Replay-clause-complete g c =
    complete g.W.Samples.Samples.told g.W.Samples.Samples.faults g.W.Samples.Samples.reads _ _ _ _ (returns-in-Some-Replay-clause-ran g c) (search rules)
