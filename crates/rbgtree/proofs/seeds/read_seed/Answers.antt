use Rattle.std.proofs.Common.{◌≡◌, ◌<◌, ◌∙◌, length, take, subst, sym, ap, List, ℕ, arith}
use Rattle.rbg_nodes.specs.Node.{New, seed_len}
use Rattle.rbg_nodes.specs.Views.{row_of}
use Rattle.rbgtree.specs.Seeds.{IsFront}
use Rattle.rbgtree.proofs.NodeSeeds.{front_read, taken_back}
use Rattle.rbgtree.proofs.seeds.read_seed.Goals as goal

pub returns-clause-seed : goal.returns-clause-seed
returns-clause-seed g c =
    let have = c.in-Ok-read_front.have in
    let need : length c.deref_mut.result.now ≡ seed_len (row_of c.args.node.now) New =
    omega (arith, c.deref_mut.ensures.len, ap (λ (x : List ℕ). length x) c.deref_mut.ensures.value, c.in-Ok.ensures.len, c.in-Ok.seed.ok, c.seed_len.ensures.len) in
    let front : length c.read_front.new.front ≡ length c.deref_mut.result.now = c.read_front.auto.front in
    let spare : length c.read_front.new.front ≡ c.in-Ok.seed.len = omega (arith, front, c.deref_mut.ensures.len, ap (λ (x : List ℕ). length x) c.deref_mut.ensures.value, c.in-Ok.ensures.len, c.in-Ok.seed.ok) in
    subst (λ (x : List ℕ). IsFront (g.W.World.files c.args.world.now) c.args.name.now (seed_len (row_of c.args.node.now) New) x)
    (sym (c.truncate.ensures.items ∙ ap (take c.in-Ok-read_front.have) (taken_back c.read_front.new.front _ c.in-Ok.seed.len spare)))
    (front_read (g.W.World.files c.args.world.now) c.args.name.now c.read_front.new.front (seed_len (row_of c.args.node.now) New) have (front ∙ need) (omega (arith, c.in-Ok-read_front.ensures.bound, need))
    (λ (all : c.in-Ok-read_front.have ≡ seed_len (row_of c.args.node.now) New). c.in-Ok-read_front.ensures.full (omega (arith, all, need)))
    (λ (less : c.in-Ok-read_front.have < seed_len (row_of c.args.node.now) New). c.in-Ok-read_front.ensures.short (omega (arith, less, need))))
