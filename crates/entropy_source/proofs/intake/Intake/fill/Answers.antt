use Rattle.std.proofs.Common.{◌≡◌, ◌≤◌, ◌<◌, ◌+◌, ◌-◌, ◌*◌, ◌^◌, ◌++◌, ℕ, take, length, refl, sym, ap, ◌∙◌, subst, arith, zero-mul, add-one, suc-mul}
use Rattle.std.proofs.Math.Nat.{mul-le-mul_right}
use Rattle.std.specs.Int.{div_ceil}
use Rattle.rbg_bytes.specs.declared.cond.Cond.{Cond}
use Rattle.conditioner.specs.Conditioned.{block_len}
use Rattle.entropy_source.specs.declared.answers.SourceRow.{SourceRow}
use Rattle.entropy_source.specs.Source.{need_of_block}
use Rattle.entropy_source.specs.Views.{SourceView}
use Rattle.entropy_source.specs.Scaffolding.{StopsBlocks}
use Rattle.entropy_source.proofs.Filling.{filled_none, filled_more, filled_stops, within}
use Rattle.entropy_source.proofs.intake.Intake.fill.Goals as goal

pub loop-i-init : goal.loop-i-init
loop-i-init g c = record {
  row = refl;
  tested = c.requires.tested;
  taken = omega (arith, zero-mul (need_of_block c.args.self.now.row));
  filled = filled_none g.S.Samples.told g.S.Samples.faults g.S.Samples.reads c.args.self.now.row c.args.self.now c.div_ceil-blocks.result c.block_len-len.result c.args.out.now;
}

-- one more of so many
one_more : (i blocks need : ℕ) → i < blocks → i * need + need ≤ blocks * need
one_more i blocks need h =
    let more : (i + 1) * need ≤ blocks * need = mul-le-mul_right need (omega arith) in
    let one : (i + 1) * need ≡ i * need + need = rw (add-one, suc-mul) refl in
    omega arith

-- the blocks that the code counts
counted : {A : Type 0} (cond : A → Cond) (inside now : A) (n len blocks : ℕ) → inside ≡ now → len ≡ block_len (cond inside) → blocks ≡ div_ceil n len
    → div_ceil n (block_len (cond now)) ≡ blocks
counted cond inside now n len blocks is l b = sym (b ∙ ap (div_ceil n) (l ∙ ap (λ v. block_len (cond v)) is))

pub block-requires-clause-room : goal.block-requires-clause-room
block-requires-clause-room g c =
    let need = need_of_block c.args.self.now.row in
    let blocks = counted (λ (v : SourceView g.row.S.Denot). v.row.cond) _ _ (length c.args.out.now) c.block_len-len.result c.div_ceil-blocks.result c.self.view_is c.block_len-len.ensures.len c.div_ceil-blocks.ensures in
    let room = subst (λ k. c.args.self.now.taken + k * need_of_block c.args.self.now.row ≤ 2 ^ 60) blocks c.requires.room in
    let same = ap need_of_block c.loop-i.invariant.row in
    omega (arith, room, same, c.loop-i.invariant.taken, one_more c.loop-i.i c.div_ceil-blocks.result (need_of_block c.args.self.now.row) c.loop-i-test.true)

pub returns-in-Err-clause-fills : goal.returns-in-Err-clause-fills
returns-in-Err-clause-fills g c =
    let blocks = counted (λ (v : SourceView g.row.S.Denot). v.row.cond) _ _ (length c.args.out.now) c.block_len-len.result c.div_ceil-blocks.result c.self.view_is c.block_len-len.ensures.len c.div_ceil-blocks.ensures in
    subst (λ k. StopsBlocks g.S.Samples.told g.S.Samples.faults g.S.Samples.reads c.args.self.now.row c.args.self.now c.block.new.self k c.in-Err.why) (sym blocks)
    (filled_stops g.S.Samples.told g.S.Samples.faults g.S.Samples.reads c.args.self.now.row c.args.self.now c.div_ceil-blocks.result c.block_len-len.result
    c.loop-i.self c.block.new.self c.loop-i.self.row c.loop-i.invariant.row
    c.loop-i.i c.loop-i-test.true c.loop-i.out c.in-Err.why c.loop-i.invariant.filled c.in-Err.ensures.makes)

pub loop-i-preserved : goal.loop-i-preserved
loop-i-preserved g c =
    let e = c.in-Ok.ensures in
    let same = ap need_of_block c.loop-i.invariant.row in
    let one : (c.loop-i.i + 1) * need_of_block c.args.self.now.row ≡ c.loop-i.i * need_of_block c.args.self.now.row + need_of_block c.args.self.now.row = rw (add-one, suc-mul) refl in
    let len : block_len c.loop-i.self.row.cond ≡ c.block_len-len.result =
    ap (λ (r : SourceRow). block_len r.cond) c.loop-i.invariant.row ∙ sym (c.block_len-len.ensures.len ∙ ap (λ (v : SourceView g.row.S.Denot). block_len v.row.cond) c.self.view_is) in
    let at = within (length c.args.out.now) c.block_len-len.result c.loop-i.i (omega (arith, c.block_len-len.ensures.range))
    (subst (λ k. c.loop-i.i < k) c.div_ceil-blocks.ensures c.loop-i-test.true) in record {
      row = e.row ∙ c.loop-i.invariant.row;
      tested = e.tested;
      taken = omega (arith, e.taken, same, one, c.loop-i.invariant.taken);
      filled = filled_more g.S.Samples.told g.S.Samples.faults g.S.Samples.reads c.args.self.now.row c.args.self.now c.div_ceil-blocks.result c.block_len-len.result
          c.loop-i.self c.block.new.self c.loop-i.self.row c.loop-i.invariant.row
          c.loop-i.i c.loop-i-test.true c.loop-i.out c.put_fitting.new.out c.in-Ok.block c.loop-i.invariant.filled e.makes (e.len ∙ len)
          (omega (arith, at, c.loop-i.auto.out)) c.put_fitting.auto.out
          (subst (λ b. take (c.loop-i.i * c.block_len-len.result + length b) c.put_fitting.new.out
          ≡ take (c.loop-i.i * c.block_len-len.result) c.loop-i.out ++ take (length c.loop-i.out - c.loop-i.i * c.block_len-len.result) b) c.as_slice.ensures.bytes c.put_fitting.ensures.front);
    }
