-- Lengths drawn, counted.
use Rattle.std.proofs.Common.{◌≡◌, ◌∙◌, ◌++◌, ◌∷◌, ◌+◌, ◌-◌, ◌*◌, ◌<◌, ℕ, List, [], zero, suc, Bool, true, false, map, refl, sym, ap, arith, suc-mul}
use Rattle.std.specs.Prelude.{◌&&◌, if◌then◌else◌, None, option_map, nat_lt, max, sum}
use Rattle.rbg_nodes.specs.Node.{How, entropy_len}
use Rattle.tree_config.specs.Tree.{Tree}
use Rattle.tree_config.specs.declared.plan.Origin.{Origin}
use Rattle.tree_config.specs.declared.plan.Origin.TheVariants.{Parent, SeedFile, Source}
use Rattle.tree_rules.specs.Chain.{source_at, source_by, source_of}
use Rattle.tree_rules.specs.History.{States}
use Rattle.tree_rules.specs.Links.{Gives, Link, Rests, Seeds, Task, chunk_lens, chunks, is_alive, is_rs, is_xor, must_seed, seeding_by, wanted, wanted_by}
use Rattle.tree_acts.specs.Plain.{are_some, draws_on, number_in}
use Rattle.std.specs.Int.{div_ceil}
use Rattle.std.specs.List.{fold}

sum_from : (a : ℕ) (xs : List ℕ) → fold ◌+◌ a xs ≡ a + sum xs
sum_from a [] = omega arith
sum_from a (x ∷ xs) =
    let e : fold ◌+◌ (a + x) xs ≡ (a + x) + sum xs = sum_from (a + x) xs in
    let d : fold ◌+◌ (0 + x) xs ≡ (0 + x) + sum xs = sum_from (0 + x) xs in
    let r : (a + x) + sum xs ≡ a + ((0 + x) + sum xs) = omega arith in e ∙ (r ∙ ap (λ n. a + n) (sym d))

-- chunks of one length each
pub in_chunks : (f : ℕ → ℕ) (x n size count : ℕ) → sum (map f (map (λ (l : ℕ). x) (chunk_lens n size count))) ≡ n * f x
in_chunks f x zero size count = let e : 0 * f x ≡ 0 = omega arith in sym e
in_chunks f x (suc n) size count =
    let rest = sum (map f (map (λ (l : ℕ). x) (chunk_lens n size (count - size)))) in
    let e : rest ≡ n * f x = in_chunks f x n size (count - size) in
    let one : sum (map f (map (λ (l : ℕ). x) (chunk_lens (suc n) size count))) ≡ (0 + f x) + rest = sum_from (0 + f x) (map f (map (λ (l : ℕ). x) (chunk_lens n size (count - size)))) in
    let d : suc n * f x ≡ n * f x + f x = suc-mul n (f x) in
    let same : (0 + f x) + rest ≡ suc n * f x = omega (arith, e, d) in one ∙ same

pub some_chunks : (f : ℕ → ℕ) (n size count : ℕ) → 0 < n → are_some (map f (chunk_lens n size count)) ≡ true
some_chunks f zero size count h = absurd (omega arith)
some_chunks f (suc n) size count h = refl

-- what a seeding draws
pub of_seeding : (f : ℕ → ℕ) (pr : Bool) (l : Link) (task : Task) (how : How) → task ≡ Seeds how → sum (map f (wanted_by pr l task)) ≡ f (seeding_by l.row task)
of_seeding f pr l (Seeds h) how is = omega arith
of_seeding f pr l (Gives len) how is = cc
of_seeding f pr l Rests how is = cc

-- what an RBG3(RS) draws to give
pub of_chunks : (f : ℕ → ℕ) (pr : Bool) (l : Link) (task : Task) (len : ℕ) → task ≡ Gives len → is_rs l.row.kind ≡ true
    → sum (map f (wanted_by pr l task)) ≡ max 1 (div_ceil len (entropy_len l.row)) * f (entropy_len l.row + 8)
of_chunks f pr l task len is rs =
    ap (λ (z : Task). sum (map f (wanted_by pr l z))) is
    ∙ (ap (λ (b : Bool). sum (map f (if b then map (λ (n : ℕ). entropy_len l.row + 8) (chunks l.row len)
    else (if must_seed pr l then entropy_len l.row ∷ [] else []) ++ (if is_xor l.row.kind && nat_lt 0 len then len ∷ [] else [])))) rs
    ∙ in_chunks f (entropy_len l.row + 8) (max 1 (div_ceil len (entropy_len l.row))) (entropy_len l.row) len)

-- a node that draws names its source
pub names_source : (p : Tree) (s : States) (pr : Bool) (l : Link) → source_of p s pr l ≡ option_map (λ j. source_at p s j) (draws_on pr l)
names_source p s pr l = by (is_alive l) (wanted pr l) l.origin where
  by : (alive : Bool) (lens : List ℕ) (o : Origin)
      → (if alive then source_by p s lens o else None) ≡ option_map (λ j. source_at p s j) (if alive && are_some lens then number_in o else None)
  by false lens o = refl
  by true [] o = refl
  by true (n ∷ lens) (Source j) = refl
  by true (n ∷ lens) (SeedFile name) = refl
  by true (n ∷ lens) (Parent q) = refl
