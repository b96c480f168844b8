-- The run of a case: an instantiation, a reseed where there is one, and two generates, of which the second is looked at.
-- SP 800-90A Rev. 1, 9 and 10; the order of a case's strings is this project's own.
use Rattle.std.specs.Prelude.{ℕ, ◌&&◌, ◌||◌, Bool, List, [], length, is_some, if◌then◌else◌, Option, Some, None}
use Rattle.std.specs.Str.{bytes_eq}
use Rattle.hmac_core.specs.declared.hash.Hash.{Hash}
use Rattle.hmac_drbg.specs.HmacDrbg as hmac_drbg
use Rattle.df_core.specs.KeyLen.{key_bytes}
use Rattle.ctr_drbg.specs.declared.seeds.Mode.{Mode}
use Rattle.ctr_drbg.specs.CtrDrbg as ctr_drbg
use Rattle.ctr_drbg.specs.CtrDrbg.{seed_len}
use Rattle.ctr_drbg.specs.Lengths.{bad_length, long_string}
use Rattle.vector_text.specs.declared.case.Case.{Case}
use Rattle.vector_text.specs.declared.case.Mech.{Mech}
use Rattle.vector_text.specs.declared.case.Mech.TheVariants.{Hmac, Ctr}
use Rattle.vector_replay.specs.declared.judgement.Verdict.{Verdict}
use Rattle.vector_replay.specs.declared.judgement.Verdict.TheVariants.{Same, Differs, BadLengths}

-- the functions of a mechanism on its working state, without the reseed counter: a reseed, the bytes of a generate and the
-- state that it leaves
pub record Mechanism (S : Type 0) : Type 0 where
  pub again : List ℕ → List ℕ → S → S
  pub bytes : List ℕ → ℕ → S → List ℕ
  pub behind : List ℕ → ℕ → S → S

-- 10.1.2
abbrev pub hmac : Hash → Mechanism hmac_drbg.Working
hmac h = record { again = hmac_drbg.reseeded h; bytes = hmac_drbg.generated h; behind = hmac_drbg.after_generate h }

-- 10.2.1
abbrev pub ctr : Mode → Mechanism ctr_drbg.Working
ctr mode = record { again = ctr_drbg.reseeded mode; bytes = ctr_drbg.generated mode; behind = ctr_drbg.after_generate mode }

-- the reseed before the generates, where there is one
abbrev pub readied : {S : Type 0} → Mechanism S → Case → S → S
readied m c s = if c.has_reseed then m.again c.reseed c.add_reseed s else s

-- with prediction resistance a generate reseeds first, with its entropy and its additional input (9.3.1)
abbrev pub freshened : {S : Type 0} → Mechanism S → Bool → List ℕ → List ℕ → S → S
freshened m pr entropy add s = if pr then m.again entropy add s else s

-- and has no further additional input
abbrev pub own_input : Bool → List ℕ → List ℕ
own_input pr add = if pr then [] else add

-- the bytes of such a generate
abbrev pub given : {S : Type 0} → Mechanism S → Bool → List ℕ → List ℕ → ℕ → S → List ℕ
given m pr entropy add n s = m.bytes (own_input pr add) n (freshened m pr entropy add s)

-- the state that it leaves
abbrev pub left : {S : Type 0} → Mechanism S → Bool → List ℕ → List ℕ → ℕ → S → S
left m pr entropy add n s = m.behind (own_input pr add) n (freshened m pr entropy add s)

-- the second output of a case behind an instantiation
abbrev pub second_output : {S : Type 0} → Mechanism S → Case → S → List ℕ
second_output m c s =
    let n = length c.returned in given m c.pr c.pr2 c.add2 n (left m c.pr c.pr1 c.add1 n (readied m c s))

-- CTR_DRBG refuses the lengths of a generate, where seedlen is n
abbrev pub give_refused : Mode → ℕ → Bool → List ℕ → List ℕ → Bool
give_refused mode n pr entropy add = if pr then is_some (bad_length mode n entropy add) else is_some (long_string mode n add)

-- CTR_DRBG refuses the lengths of some call of the run, where seedlen is n
abbrev pub run_refused : Mode → ℕ → Case → Bool
run_refused mode n c =
    is_some (bad_length mode n c.entropy c.pers) || (c.has_reseed && is_some (bad_length mode n c.reseed c.add_reseed))
    || give_refused mode n c.pr c.pr1 c.add1 || give_refused mode n c.pr c.pr2 c.add2

-- the second output of a case, where no call of its run is refused
abbrev pub output_by : Mech → Case → Option (List ℕ)
output_by (Hmac h) c = Some (second_output (hmac h) c (hmac_drbg.instantiated h c.entropy c.nonce c.pers))
output_by (Ctr keylen mode) c =
    if run_refused mode (seed_len (key_bytes keylen)) c then None
    else Some (second_output (ctr mode) c (ctr_drbg.instantiated mode (key_bytes keylen) c.entropy c.nonce c.pers))

abbrev pub output_of : Case → Option (List ℕ)
output_of c = output_by c.mech c

abbrev pub judged : Case → Option (List ℕ) → Verdict
judged c None = BadLengths
judged c (Some bytes) = if bytes_eq bytes c.returned then Same else Differs

-- the verdict on a case
abbrev pub verdict_of : Case → Verdict
verdict_of c = judged c (output_of c)
