use Rattle.std.proofs.Common.{◌≡◌, length, Some, None, refl, sym, ◌∙◌, arith, below_more}
use Rattle.std.proofs.lemmas.Option.{same_Some}
use Rattle.std.proofs.lemmas.List.{length-map}
use Rattle.tree_config.specs.Graph.{parent_at, after}
use Rattle.tree_config.specs.Tree.{parents}
use Rattle.tree_config.proofs.Paths.{from_never, way_on, way_on_suc, ended, never_back}
use Rattle.tree_config.proofs.ways.way_from.Goals as goal

pub returns-in-None : goal.returns-in-None
returns-in-None c =
    let ps = parents c.args.nodes.now in
    let l = c.loop-edges in
    let end : parent_at ps l.at ≡ None = sym c.parent.ensures ∙ c.in-None.is in
    ((l.edges, l.at, refl, l.invariant.0, end), ended ps c.args.n l.at l.edges l.invariant.0 end)

pub loop-edges-preserved : goal.loop-edges-preserved
loop-edges-preserved c =
    let ps = parents c.args.nodes.now in
    let l = c.loop-edges in
    let step : parent_at ps l.at ≡ Some c.in-Some.p = sym c.parent.ensures ∙ c.in-Some.is in
    let size : length ps ≡ length c.args.nodes.now = length-map c.args.nodes.now _ in
    let within = from_never ps c.requires.known l.at c.in-Some.p step in (
      way_on ps l.edges c.args.n l.at c.in-Some.p l.invariant.0 step,
      omega arith,
      below_more _ _ l.invariant.2 (λ back. c.if-p-n.false (same_Some _ _ (sym (way_on_suc ps l.edges c.args.n l.at c.in-Some.p l.invariant.0 step) ∙ back))),
    )

pub returns : goal.returns
returns c =
    let ps = parents c.args.nodes.now in
    let l = c.loop-edges in
    let size : length ps ≡ length c.args.nodes.now = length-map c.args.nodes.now _ in
    let all : l.edges ≡ length ps = omega arith in
    let on : after ps (length ps) c.args.n ≡ Some l.at = rw (← all) l.invariant.0 in
    ((l.at, on), never_back ps c.args.n l.at (from_never ps c.requires.known) (omega arith) on (λ k lt. l.invariant.2 k (omega arith)))
