use Rattle.std.proofs.Common.{List, ◌+◌, ◌++◌, take, drop, refl, sym, subst}
use Rattle.std.specs.Prelude.{String}
use Rattle.std.specs.declared.alloc.Global.{Global}
use Rattle.rbgtree.specs.Recordings.{TakesOut}
use Rattle.rbgtree.specs.MemoryFiles.{labelled, names, IsFirstAt, IsNoName}
use Rattle.rbgtree.proofs.Found.{taken_at, no_samples}
use Rattle.rbgtree.proofs.memory_world.take_out.Goals as goal

pub returns-in-Some-clause-some : goal.returns-in-Some-clause-some
returns-in-Some-clause-some g c =
    let held = c.args.samples.now.items in
    let place = c.in-Some.place in
    let at = subst (λ (es : List (String Global × g.row.S.Denot)). IsFirstAt (names es) c.args.name.now place) c.deref.ensures.value c.in-Some.ensures.some in
    let given = subst (λ (e : String Global × g.row.S.Denot). TakesOut (labelled held) c.args.name.now e.1 (labelled (take place held ++ drop (place + 1) held)))
    (sym c.remove.ensures.value) (taken_at held place c.remove.result c.args.name.now at) in
    subst (λ (es : List (String Global × g.row.S.Denot)). TakesOut (labelled held) c.args.name.now c.remove.result.1 (labelled es)) (sym c.remove.ensures.by_index.2) given

pub returns-in-None-clause-none : goal.returns-in-None-clause-none
returns-in-None-clause-none g c = (
  no_samples c.args.samples.now.items c.args.name.now
      (subst (λ (es : List (String Global × g.row.S.Denot)). IsNoName (names es) c.args.name.now) c.deref.ensures.value c.in-None.ensures.none),
  refl,
)
