use Rattle.std.proofs.Common.{List, ℕ, length, map, refl, subst, sym}
use Rattle.std.specs.Prelude.{◌≡◌, Vec}
use Rattle.std.specs.Io.KnownBytes.{Appends}
use Rattle.std.specs.declared.alloc.Global.{Global}
use Rattle.rbg_bytes.specs.Streams.{AppendsFront}
use Rattle.tree_core.specs.Solo.{AreLong}
use Rattle.rbgtree.specs.Check.{HasCheckCause}
use Rattle.rbgtree.specs.Load.{HasLoaded, LoadedOver}
use Rattle.rbgtree.specs.declared.status.Status.{Status}
use Rattle.rbgtree.proofs.Loading.{check_without, loaded}
use Rattle.rbgtree.proofs.Served.{ended_without}
use Rattle.rbgtree.proofs.load.load_over.Goals as goal

pub returns-in-Err-clause-loaded : goal.returns-in-Err-clause-loaded
returns-in-Err-clause-loaded g c =
    let told = g.W.Samples.Samples.told in
    let faults = g.W.Samples.Samples.faults in
    let reads = g.W.Samples.Samples.reads in
    let seeds : List (List ℕ) = map (λ s. s.items) c.args.seeds.items in
    let before = g.W.World.recordings c.args.world.now in
    let now = g.W.World.recordings c.open_tree.new.world in
    let out = g.O.ByteSink.out c.args.output.now in
    let long = subst (λ (xs : List (Vec ℕ Global)). AreLong c.args.plan (map (λ s. s.items) xs) (length c.args.plan.nodes)) c.deref.ensures.value c.in_default.ensures.long in
    subst (λ (s : Status). LoadedOver told faults reads c.args.plan seeds c.args.load before now out out s) (sym c.not_opened.ensures)
    (ended_without told faults c.args.plan seeds before now (out ≡ out) (HasLoaded told faults reads c.args.plan c.args.load before now out out seeds) c.in-Err.why _ refl long c.in-Err.ensures.none)

pub returns-in-Err-clause-cause : goal.returns-in-Err-clause-cause
returns-in-Err-clause-cause g c =
    let before = g.W.World.faults c.args.world.now in
    let now = g.W.World.faults c.open_tree.new.world in
    let out = g.O.ByteSink.faults c.args.output.now in
    subst (λ (s : Status). HasCheckCause before now out out s) (sym c.not_opened.ensures) (check_without ℕ before now out c.in-Err.why c.in-Err.ensures.cause)

pub returns-in-Ok-make_load-clause-loaded : goal.returns-in-Ok-make_load-clause-loaded
returns-in-Ok-make_load-clause-loaded g c =
    loaded g.W.Samples.Samples.told g.W.Samples.Samples.faults g.W.Samples.Samples.reads
    (λ (text : List ℕ). Appends (g.O.ByteSink.out c.args.output.now) (g.O.ByteSink.out c.make_load.new.output) text) c.args.plan (map (λ s. s.items) c.args.seeds.items) c.args.load
    (g.W.World.recordings c.args.world.now) (g.W.World.recordings c.open_tree.new.world) c.in-Ok-open_tree.tree c.in-Ok-open_tree.ensures.tree c.in-Ok-make_load.ensures.printed

pub returns-clause-loaded : goal.returns-clause-loaded
returns-clause-loaded g c =
    loaded g.W.Samples.Samples.told g.W.Samples.Samples.faults g.W.Samples.Samples.reads
    (λ (text : List ℕ). AppendsFront (g.O.ByteSink.out c.args.output.now) (g.O.ByteSink.out c.make_load.new.output) text) c.args.plan (map (λ s. s.items) c.args.seeds.items) c.args.load
    (g.W.World.recordings c.args.world.now) (g.W.World.recordings c.open_tree.new.world) c.in-Ok-open_tree.tree c.in-Ok-open_tree.ensures.tree c.in-Err-make_load.ensures.printed
