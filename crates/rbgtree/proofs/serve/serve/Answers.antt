use Rattle.std.proofs.Common.{List, ℕ, map, refl, subst, sym}
use Rattle.std.specs.Prelude.{Vec}
use Rattle.std.specs.declared.alloc.Global.{Global}
use Rattle.rbgtree.specs.Trees.{IsShort}
use Rattle.rbgtree.specs.Run.{HasStatusCause, Outside, RanOver, outside_of}
use Rattle.rbgtree.specs.declared.status.Status.{Status}
use Rattle.rbgtree.proofs.Served.{cause_served, ran_served, ran_short, served}
use Rattle.rbgtree.proofs.serve.serve.Goals as goal

pub returns-in-Some-clause-ran : goal.returns-in-Some-clause-ran
returns-in-Some-clause-ran g c =
    ran_short g.W.Samples.Samples.told g.W.Samples.Samples.faults g.W.Samples.Samples.reads c.args.plan (map (λ s. s.items) c.args.seeds.items) _ _ c.in-Some.short (record { left = refl; out = refl }) refl
    (subst (λ (xs : List (Vec ℕ Global)). IsShort c.args.plan (map (λ s. s.items) xs) c.in-Some.short) c.deref.ensures.value c.in-Some.ensures.short)

pub returns-in-Ok-open_tree-clause-ran : goal.returns-in-Ok-open_tree-clause-ran
returns-in-Ok-open_tree-clause-ran g c =
    let before : Outside = outside_of g.W.World.files g.W.World.recordings g.W.World.faults g.I.ByteSource.left g.I.ByteSource.faults g.O.ByteSink.out g.O.ByteSink.faults c.args.world.now c.args.input.now c.args.output.now in
    let now : Outside =
    outside_of g.W.World.files g.W.World.recordings g.W.World.faults g.I.ByteSource.left g.I.ByteSource.faults g.O.ByteSink.out g.O.ByteSink.faults c.open_tree.new.world c.session_solo.new.input c.session_solo.new.output in
    let seeds : List (List ℕ) = map (λ s. s.items) c.args.seeds.items in
    subst (λ (s : Status). RanOver g.W.Samples.Samples.told g.W.Samples.Samples.faults g.W.Samples.Samples.reads c.args.plan seeds before now s) (sym c.of.ensures)
    (ran_served g.W.Samples.Samples.told g.W.Samples.Samples.faults g.W.Samples.Samples.reads c.args.plan seeds before now c.session_solo.result
    (served g.W.Samples.Samples.told g.W.Samples.Samples.faults g.W.Samples.Samples.reads c.args.plan seeds before now c.in-Ok-open_tree.tree c.session_solo.new.tree c.in-Ok.buffers.inbox.max_frames c.session_solo.result
    c.in-Ok-open_tree.ensures.tree c.in-Ok.ensures.max_frames c.session_solo.ensures.table))

pub returns-in-Ok-open_tree-clause-cause : goal.returns-in-Ok-open_tree-clause-cause
returns-in-Ok-open_tree-clause-cause g c =
    let before : Outside = outside_of g.W.World.files g.W.World.recordings g.W.World.faults g.I.ByteSource.left g.I.ByteSource.faults g.O.ByteSink.out g.O.ByteSink.faults c.args.world.now c.args.input.now c.args.output.now in
    let now : Outside =
    outside_of g.W.World.files g.W.World.recordings g.W.World.faults g.I.ByteSource.left g.I.ByteSource.faults g.O.ByteSink.out g.O.ByteSink.faults c.open_tree.new.world c.session_solo.new.input c.session_solo.new.output in
    subst (λ (s : Status). HasStatusCause before now s) (sym c.of.ensures)
    (cause_served before now c.session_solo.result c.in-Ok-open_tree.ensures.cause c.session_solo.ensures.read c.session_solo.ensures.write)
