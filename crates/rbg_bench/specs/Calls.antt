-- What many calls on a tree come to: they stand in one legal history of its plan.
-- This project's own.
use Rattle.std.specs.Prelude.{◌≡◌, ℕ, ◌+◌, List, [], ◌∷◌, ◌++◌, length, ◌==◌, if◌then◌else◌, codes, decimal}
use Rattle.std.specs.List.{AllByRecursion}
use Rattle.hex.specs.Hex.{encode_lower}
use Rattle.sha2.specs.Sha256.{sha256}
use Rattle.tree_config.specs.Tree.{Tree}
use Rattle.tree_rules.specs.declared.call.Call.{Call}
use Rattle.tree_rules.specs.History.{Entry, Opening}
use Rattle.tree_rules.specs.Openings.{IsHistory}
use Rattle.rbg_bench.specs.declared.outcome.Outcome.{Outcome}

-- an entry of this call by caller 1, without a string
pub record IsOf (c : Call) (e : Entry) : Type 0 where
  pub caller : e.caller ≡ 1
  pub call : e.call ≡ c
  pub string : e.string ≡ []

-- how many of the entries are Done
abbrev pub done_in : List Entry → ℕ
done_in [] = 0
done_in (e ∷ es) = (if e.reply.code == 0 then 1 else 0) + done_in es

-- all their bytes, one after another
abbrev pub bytes_in : List Entry → List ℕ
bytes_in [] = []
bytes_in (e ∷ es) = e.bytes ++ bytes_in es

-- Behind the opening calls o the call was made so many times and nothing else: the outcome says how many were Done, and the SHA-256 of all
-- bytes.
pub record CameTo (f : Opening) (o : List Entry) (c : Call) (times : ℕ) (outcome : Outcome) : Type 0 where
  pub es : List Entry
  pub history : IsHistory f o es
  pub calls : AllByRecursion (IsOf c) es
  pub count : length es ≡ times
  pub done : outcome.done ≡ done_in es
  pub digest : outcome.digest ≡ sha256 (bytes_in es)

-- the same on a tree of the plan that was opened over some samples and seeds
pub record CameToOn (p : Tree) (c : Call) (times : ℕ) (outcome : Outcome) : Type 0 where
  pub f : Opening
  pub o : List Entry
  pub plan_is : f.plan ≡ p
  pub came : CameTo f o c times outcome

-- an outcome as a line
abbrev pub outcome_line : Outcome → List ℕ
outcome_line outcome = decimal outcome.done ++ (codes " done, " ++ encode_lower outcome.digest)
