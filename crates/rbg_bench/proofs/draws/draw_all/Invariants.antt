use Rattle.std.proofs.Common.{◌≡◌, List, ℕ, length}
use Rattle.sha2.specs.Hashers.{Holds256}
use Rattle.entropy_source.specs.declared.answers.SourceMode.TheVariants.{Running}
use Rattle.rbg_bench.specs.Draws.{Give}
use Rattle.rbg_bench.proofs.draws.draw_all.Given as goal

abbrev pub invariant-loop-i : goal.invariant-loop-i
invariant-loop-i g l = record {
  give : (bytes : List ℕ) × Give g.S.Samples.told g.S.Samples.faults g.S.Samples.reads (length l.out) l.i l.initial.source l.source bytes × Holds256 l.digest bytes;
  running : l.source.mode ≡ Running;
}
