use Rattle.std.proofs.Common.{◌+◌, ◌∷◌, ◌∙◌, [], ℕ, List, map, sym, ap, subst, arith}
use Rattle.std.specs.Prelude.{Option, Vec}
use Rattle.std.specs.declared.alloc.Global.{Global}
use Rattle.std.proofs.lemmas.List.{map-append}
use Rattle.rbgtree.specs.Files.{Entries}
use Rattle.rbgtree.specs.Seeds.{IsSeedOf, planned_file}
use Rattle.rbgtree.proofs.NodeSeeds.{AreFirst, all_first, one_first}
use Rattle.rbgtree.proofs.seeds.read_seeds.Goals as goal

pub loop-n-preserved : goal.loop-n-preserved
loop-n-preserved g c =
    let files = g.W.World.files c.args.world.now in
    let nodes = c.args.plan.now.nodes in
    let items = λ (s : Vec ℕ Global). s.items in
    let all = ap (map items) c.push_reserved.ensures.items ∙ map-append items c.loop-n.seeds.items (c.in-Ok-seed_of.seed ∷ []) in
    let seed = subst (λ (e : Option Entries). IsSeedOf e (planned_file c.node.result.now) c.node.result.now c.in-Ok-seed_of.seed.items) c.loop-n.invariant.files c.in-Ok-seed_of.ensures.seed in
    record {
      first = subst (λ (xs : List (List ℕ)). AreFirst (g.W.World.files c.args.world.now) planned_file c.args.plan.now.nodes (c.loop-n.n + 1) xs) (sym all)
          (one_first files planned_file nodes c.loop-n.n (map items c.loop-n.seeds.items) c.in-Ok-seed_of.seed.items c.node.result.now c.loop-n.invariant.first c.node.ensures.value seed);
      room = omega (arith, c.push_reserved.ensures.capacity, c.loop-n.invariant.room);
      files = c.in-Ok-seed_of.ensures.files ∙ c.loop-n.invariant.files;
      recordings = c.in-Ok-seed_of.ensures.recordings ∙ c.loop-n.invariant.recordings;
      faults = c.in-Ok-seed_of.ensures.cause ∙ c.loop-n.invariant.faults;
      end = c.loop-n.invariant.end;
      within = omega (arith, c.loop-n-test.true);
    }

pub returns-clause-seeds : goal.returns-clause-seeds
returns-clause-seeds g c =
    all_first (g.W.World.files c.args.world.now) planned_file c.args.plan.now.nodes c.loop-n.n (map (λ s. s.items) c.loop-n.seeds.items) c.loop-n.invariant.first
    (omega (arith, c.loop-n.invariant.end, c.loop-n.invariant.within, c.loop-n-test.false))
