use Rattle.std.proofs.Common.{◌∙◌, ◌<◌, ◌≤◌, ◌+◌, ◌∷◌, ◌++◌, ◌^◌, [], ℕ, length, subst, sym, arith}
use Rattle.std.specs.Prelude.{Result}
use Rattle.entropy_source.specs.Source.{need_of}
use Rattle.entropy_source.specs.Views.{HasDrawn}
use Rattle.entropy_source.specs.declared.answers.Range.{Range}
use Rattle.entropy_source.specs.declared.answers.SourceRefusal.{SourceRefusal}
use Rattle.rbg_bench.specs.Draws.{Give}
use Rattle.rbg_bench.proofs.Drawing.{give_none, give_more, not_spent}
use Rattle.rbg_bench.proofs.draws.draw_all.Goals as goal

pub loop-i-init : goal.loop-i-init
loop-i-init g c = record {
  give = ([], give_none g.S.Samples.told g.S.Samples.faults g.S.Samples.reads (length c.args.out.now) c.args.source.now, c.new-digest.ensures);
  running = c.requires.running;
}

pub loop-i-preserved : goal.loop-i-preserved
loop-i-preserved g c =
    let told = g.S.Samples.told in let faults = g.S.Samples.faults in let reads = g.S.Samples.reads in
    let v = c.loop-i.source in let w = c.draw.new.self in
    let n = length c.loop-i.out in
    let is = c.in_ok-draw.was in
    let some : 0 < n = omega (arith, c.requires.some, c.loop-i.auto.out) in
    let few : v.taken + need_of v.row (n ∷ []) ≤ 2 ^ 60 =
    not_spent (2 ^ 60) (v.taken + need_of v.row (n ∷ [])) c.draw.result _ c.in_ok-draw.field-0 (λ more. (c.draw.ensures.spent some more).0) is in
    let drawn = subst (λ (r : Result Range SourceRefusal). HasDrawn told faults reads n c.draw.new.out r v w) is (c.draw.ensures.acts some few c.loop-i.invariant.running) in
    let (bytes, give, held) = c.loop-i.invariant.give in record {
      give = (
        bytes ++ c.draw.new.out,
        subst (λ (k : ℕ). Give told faults reads k (c.loop-i.i + 1) c.args.source.now w (bytes ++ c.draw.new.out)) (sym c.draw.auto.out)
            (give_more told faults reads n c.loop-i.i c.args.source.now v w bytes c.draw.new.out c.in_ok-draw.field-0 give drawn),
        c.update.ensures bytes held,
      );
      running = c.in_ok-draw.ensures.drawn.0 ∙ c.loop-i.invariant.running;
    }
