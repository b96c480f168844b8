-- Why a generate is refused: a reseed is required first.
-- SP 800-90A Rev. 1, 10.2.1.5.1 and 10.2.1.5.2, steps 1 and 2.
use Rattle.std.specs.Prelude.{ℕ, List, Option, None, Some, length, nat_lt, if◌then◌else◌}
use Rattle.ctr_drbg.specs.declared.drbg.CtrDrbg.{CtrDrbg}
use Rattle.ctr_drbg.specs.declared.drbg.CtrRefusal.{CtrRefusal}
use Rattle.ctr_drbg.specs.declared.drbg.CtrRefusal.TheVariants.{ReseedRequired, BadSeedLength}
use Rattle.ctr_drbg.specs.CtrDrbg.{seed_len}
use Rattle.ctr_drbg.specs.Lengths.{long_string}

-- a string of a wrong length, where seedlen is n
abbrev pub length_refusal : ℕ → Option ℕ → Option CtrRefusal
length_refusal n None = None
length_refusal n (Some len) = Some (BadSeedLength len n)

-- why a generate is refused: a reseed is required first, or else the additional input is too long
abbrev pub generate_refusal : CtrDrbg → ℕ → List ℕ → Option CtrRefusal
generate_refusal d interval additional =
    let n = seed_len (length d.key) in
    if nat_lt interval d.counter then Some (ReseedRequired d.counter) else length_refusal n (long_string d.mode n additional)
