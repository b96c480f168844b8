use Rattle.std.proofs.Common.{◌≡◌, ℕ, List, [], ◌∷◌, length, refl, arith}
use Rattle.rbg_bytes.specs.Xor.{xor_bytes}
use Rattle.drbg_any.proofs.Lengths.{length-generated}
use Rattle.rbg_nodes.specs.Node.{given_bytes}
use Rattle.rbg_nodes.proofs.laws.generates_have_their_lengths.Goals as goal

pub returns-clause-len : goal.returns-clause-len
returns-clause-len c row s add len = length-generated row.drbg add len s.working

none : (bytes fresh : List ℕ) → length bytes ≡ 0 → xor_bytes bytes fresh ≡ []
none [] fresh e = refl
none (b ∷ bytes) fresh e = absurd (omega arith)

pub returns-clause-none : goal.returns-clause-none
returns-clause-none c row s add fresh = none (given_bytes row s add 0) fresh (length-generated row.drbg add 0 s.working)
