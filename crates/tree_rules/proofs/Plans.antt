-- Blocks of a plan in range take samples.
use Rattle.std.proofs.Common.{◌≡◌, ◌+◌, ◌*◌, ◌<◌, ◌≤◌, ℕ, zero, suc, refl, arith}
use Rattle.std.specs.Prelude.{Option, Some, None, slice_get, unwrap_or}
use Rattle.entropy_source.specs.Source.{need_of_block}
use Rattle.tree_config.specs.Planned.{IsPlanned}
use Rattle.tree_config.specs.Tree.{Tree}
use Rattle.tree_config.specs.declared.plan.SourcePlan.{SourcePlan}
use Rattle.tree_rules.specs.Slots.{no_source, source_row, source_row_of}
use Rattle.std.specs.Int.{div_ceil}
use Rattle.std.proofs.Math.Nat.{le-mul_of_pos_right}
use Rattle.std.proofs.lemmas.Grind.{div_ceil_times}
use Rattle.rbg_bytes.specs.declared.cond.Cond.{Cond}
use Rattle.conditioner.specs.Conditioned.{block_len}
use Rattle.tree_config.specs.Planned.{IsSource}

-- each block of a source takes a sample at least
abbrev pub TakeSamples : Tree → Type 0
TakeSamples p = (j : ℕ) → 0 < need_of_block (source_row p j)

-- a quotient that is rounded up is above 0 where the number is
above_zero : (x y : ℕ) → 0 < x → 0 < y → 0 < div_ceil x y
above_zero x y h i = by (div_ceil x y) (div_ceil_times x y i).0 where
  by : (q : ℕ) → x ≤ q * y → 0 < q
  by zero l = absurd (omega arith)
  by (suc q) l = omega arith

above_product : (x y : ℕ) → 0 < x → 1 ≤ y → 0 < x * y
above_product x y h i = let l : x ≤ x * y = le-mul_of_pos_right x (omega arith) in omega (arith, l)

block_bits : (c : Cond) → 0 < 8 * block_len c + 64
block_bits c = omega arith

takes : (s : SourcePlan) → 1 ≤ s.num → 1 ≤ s.den → 0 < need_of_block (source_row_of s)
takes s n d = let m : 0 < s.num = omega arith in
    above_zero ((8 * block_len s.cond + 64) * s.den) s.num (above_product (8 * block_len s.cond + 64) s.den (block_bits s.cond) d) m

pub takes_samples : (least : ℕ) (p : Tree) → IsPlanned least p → TakeSamples p
takes_samples least p h j = by (slice_get p.sources j) (h.source j) where
  by : (o : Option SourcePlan) → ((s : SourcePlan) → o ≡ Some s → IsSource s) → 0 < need_of_block (source_row_of (unwrap_or o no_source))
  by None f = takes no_source (omega arith) (omega arith)
  by (Some s) f = let r = f s refl in takes s r.num_low r.den_low
