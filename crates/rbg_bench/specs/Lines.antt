-- The line that is printed for a job.
-- This project's own.
use Rattle.std.specs.Prelude.{ℕ, ◌*◌, List, ◌++◌, codes, decimal, replicate}
use Rattle.hex.specs.Hex.{encode_lower}
use Rattle.sha2.specs.Sha256.{sha256}
use Rattle.health_tests.specs.Cutoffs.{Limits}
use Rattle.rbg_bench.specs.declared.job.Primitive.{Primitive}
use Rattle.rbg_bench.specs.declared.job.Primitive.TheVariants.{AesBlock, FourAesBlocks, HashOfZeros}
use Rattle.rbg_bench.specs.declared.job.Job.{Job}
use Rattle.rbg_bench.specs.declared.job.Job.TheVariants.{Generates, Reseeds, Repeats, Tests}
use Rattle.rbg_bench.specs.declared.runs.Totals.{Totals}
use Rattle.rbg_bench.specs.Outputs.{outputs, reseeded_outputs}
use Rattle.rbg_bench.specs.Workers.{instantiated}
use Rattle.rbg_bench.specs.Iterated.{iterated, counting_key, long_counting_key}
use Rattle.rbg_bench.specs.Samples.{generated}
use Rattle.rbg_bench.specs.Runs.{totals_of}

-- what a primitive gives, so many times: the block of zeros encrypted, alone or as the last of four alike, or the SHA-256 of pieces of 65,536 zeros
abbrev pub repeated : Primitive → ℕ → List ℕ
repeated AesBlock times = iterated counting_key times (replicate 16 0)
repeated FourAesBlocks times = iterated long_counting_key times (replicate 16 0)
repeated HashOfZeros times = sha256 (replicate (65536 * times) 0)

-- low enough that some run alarms: five equal samples, and eight of a window's 512 like its first
abbrev pub low_cutoffs : Limits
low_cutoffs = record { rct = 5; window = 512; apt = 8 }

-- how many samples were tested, and how many of the runs alarmed
abbrev pub totals_text : Totals → List ℕ
totals_text t = decimal t.samples ++ (codes " samples, " ++ (decimal t.alarms ++ codes " alarms"))

-- for generates the SHA-256 of their bytes, one after another; what is hashed or encrypted is printed in lower-case hexadecimal
abbrev pub line_of : Job → List ℕ
line_of (Generates mechanism bytes times) = encode_lower (sha256 (outputs bytes times (instantiated mechanism)))
line_of (Reseeds mechanism bytes times) = encode_lower (sha256 (reseeded_outputs bytes times (instantiated mechanism)))
line_of (Repeats primitive times) = encode_lower (repeated primitive times)
line_of (Tests form samples times) = totals_text (totals_of low_cutoffs times (generated samples 0))
