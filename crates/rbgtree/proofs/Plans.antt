-- The plan of a file of which at most one byte more was read than a configuration may have.
use Rattle.std.proofs.Common.{◌≡◌, ◌≤◌, ◌<◌, ℕ, List, length, take, refl, sym, ap, ◌∙◌, inl, inr, arith}
use Rattle.std.specs.Prelude.{Option, Some, None, Result, Ok, Err, true, nat_lt}
use Rattle.std.proofs.lemmas.Bool.{cases_lt, lt-ltb}
use Rattle.std.proofs.lemmas.List.{length-take}
use Rattle.tree_config.specs.declared.fault.ConfigFault.{ConfigFault}
use Rattle.tree_config.specs.declared.fault.ConfigFault.TheVariants.{TooLarge}
use Rattle.tree_config.specs.Rows.{document_of, rows_of, rows_at}
use Rattle.tree_config.specs.Fields.{◌>>=◌}
use Rattle.tree_config.specs.Tree.{Tree, Plan}
use Rattle.rbgtree.specs.Files.{Entries, BeginsFile, IsWholeFile}

too_large : (text : List ℕ) → 65536 < length text → document_of text ≡ Err (TooLarge 65536)
unfolding document_of
too_large text long = let test : nat_lt 65536 (length text) ≡ true = lt-ltb 65536 (length text) long in rw test refl

-- texts that are both too large have the same rows: none
same_rows : (a b : List ℕ) → 65536 < length a → 65536 < length b → rows_of a ≡ rows_of b
same_rows a b long_a long_b = ap (λ (d : Result _ ConfigFault). d >>= rows_at) (too_large a long_a ∙ sym (too_large b long_b))

moved : (a b : List ℕ) (r : Result Tree ConfigFault) → rows_of a ≡ rows_of b → Plan a r → Plan b r
moved a b (Ok tree) same (rows, are, tree_is, rest) = (rows, sym same ∙ are, tree_is, rest)
moved a b (Err fault) same (inl is) = inl (sym same ∙ is)
moved a b (Err fault) same (inr (rows, are, rest)) = inr (rows, sym same ∙ are, rest)

-- the plan of what was read is that of the whole file
pub plan_of_file : (files : Option Entries) (name front : List ℕ) (have : ℕ) (r : Result Tree ConfigFault) → length front ≡ 65537 → have ≤ 65537
    → (have ≡ 65537 → BeginsFile files name front) → (have < 65537 → IsWholeFile files name (take have front)) → Plan (take have front) r
    → (text : List ℕ) × IsWholeFile files name text × Plan text r
plan_of_file None name front have r len most full short plan = (take have front, tt, plan)
plan_of_file (Some entries) name front have r len most full short plan = elim (cases_lt have 65537) [
  | inl less ↦ (take have front, short less, plan)
  | inr all ↦
      let have_is : have ≡ 65537 = omega arith in
      let (bytes, is, same) = full have_is in
      let long_front : 65536 < length (take have front) = omega (arith, length-take have front) in
      let long : 65536 < length bytes = omega (arith, length-take (length front) bytes, ap (λ (x : List ℕ). length x) same) in
      (bytes, is, moved (take have front) bytes r (same_rows (take have front) bytes long_front long) plan)
]
