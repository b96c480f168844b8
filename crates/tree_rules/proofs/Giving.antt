-- A Generate that is Done gives as many bytes as it was asked for.
use Rattle.std.proofs.Common.{◌≡◌, ◌∙◌, ◌∷◌, ◌+◌, ◌-◌, ◌*◌, ◌/◌, ◌<◌, ◌≤◌, ℕ, List, [], zero, suc, Bool, true, false, length, drop, refl, sym, ap, arith, length-append, add-mul, suc-mul}
use Rattle.std.proofs.lemmas.Grind.{div_ceil_times}
use Rattle.std.proofs.lemmas.List.{length-drop, length-take-le}
use Rattle.std.proofs.lemmas.Simd.{length-zip2}
use Rattle.std.proofs.Math.Nat.{mul-le-mul_right}
use Rattle.std.specs.Int.{div_ceil}
use Rattle.std.specs.Prelude.{if◌then◌else◌, max, bit_xor}
use Rattle.rbg_bytes.specs.Kinds.{strength}
use Rattle.rbg_bytes.specs.Xor.{xor_bytes}
use Rattle.rbg_bytes.specs.declared.cond.Cond.{Cond}
use Rattle.rbg_bytes.specs.declared.cond.Cond.TheVariants as conds
use Rattle.rbg_bytes.specs.declared.kind.Kind.{Kind}
use Rattle.rbg_bytes.specs.declared.kind.Kind.TheVariants as kinds
use Rattle.conditioner.specs.Conditioned.{block_len}
use Rattle.entropy_source.specs.Draws.{portions}
use Rattle.entropy_source.specs.Source.{blocks_for}
use Rattle.entropy_source.specs.declared.answers.SourceRow.{SourceRow}
use Rattle.rbg_nodes.specs.declared.node.NodeRow.{NodeRow}
use Rattle.rbg_nodes.specs.Node.{NodeState, Renew, Seeded, entropy_len, given_bytes, node_after}
use Rattle.tree_rules.specs.Links.{Gives, Link, chunk_lens, chunks, is_rs, is_xor, must_seed}
use Rattle.tree_rules.specs.Works.{Work, chunked, gave, given_work, last_drawn, material, mixed, task_work}

-- how many bytes a generate gives, and a draw
abbrev pub Long : Type 0
Long = (row : NodeRow) (s : NodeState) (add : List ℕ) (len : ℕ) → length (given_bytes row s add len) ≡ len

-- the strings of a draw are as many as the lengths
pub count_portions : (row : SourceRow) (lens bytes : List ℕ) → length (portions row lens bytes) ≡ length lens
count_portions row [] bytes = refl
count_portions row (n ∷ lens) bytes = ap suc (count_portions row lens (drop (blocks_for row n * block_len row.cond) bytes))

block_some : (c : Cond) → 0 < block_len c
block_some conds.HmacSha256 = omega arith
block_some conds.DfAes256 = omega arith

blocks_hold : (row : SourceRow) (n : ℕ) → n ≤ blocks_for row n * block_len row.cond
blocks_hold row n = (div_ceil_times n (block_len row.cond) (block_some row.cond)).0

-- the last of the strings has its length
pub last_of_one : (row : SourceRow) (n : ℕ) (bytes : List ℕ) → length bytes ≡ blocks_for row n * block_len row.cond
    → length (last_drawn (portions row (n ∷ []) bytes)) ≡ n
last_of_one row n bytes all = let h = blocks_hold row n in length-take-le n bytes (omega (arith, h, all))

pub last_of_two : (row : SourceRow) (m n : ℕ) (bytes : List ℕ) → length bytes ≡ (blocks_for row m + blocks_for row n) * block_len row.cond
    → length (last_drawn (portions row (m ∷ n ∷ []) bytes)) ≡ n
last_of_two row m n bytes all =
    let k : ℕ = blocks_for row m * block_len row.cond in
    let h = blocks_hold row n in
    let both : (blocks_for row m + blocks_for row n) * block_len row.cond ≡ k + blocks_for row n * block_len row.cond = add-mul (blocks_for row m) (blocks_for row n) (block_len row.cond) in
    let left = length-drop k bytes in
    length-take-le n (drop k bytes) (omega (arith, h, all, both, left))

-- the lengths of chunks in a row are all that is asked
abbrev all_of : List ℕ → ℕ
all_of [] = 0
all_of (n ∷ ns) = n + all_of ns

sum_chunks : (n size count : ℕ) → count ≤ n * size → all_of (chunk_lens n size count) ≡ count
sum_chunks zero size count h = omega (arith, h)
sum_chunks (suc n) size count h =
    let more : suc n * size ≡ n * size + size = suc-mul n size in
    let rest = sum_chunks n size (count - size) (omega (arith, h, more)) in omega (arith, rest)

entropy_some : (k : Kind) → 0 < strength k / 8
entropy_some kinds.HmacSha256 = omega arith
entropy_some kinds.HmacSha384 = omega arith
entropy_some kinds.HmacSha512 = omega arith
entropy_some kinds.CtrAes128 = omega arith
entropy_some kinds.CtrAes192 = omega arith
entropy_some kinds.CtrAes256 = omega arith

sum_of_chunks : (row : NodeRow) (count : ℕ) → all_of (chunks row count) ≡ count
sum_of_chunks row count =
    let size : ℕ = entropy_len row in
    let h = (div_ceil_times count size (entropy_some row.drbg)).0 in
    let least : div_ceil count size ≤ max 1 (div_ceil count size) = omega arith in
    let all : div_ceil count size * size ≤ max 1 (div_ceil count size) * size = mul-le-mul_right size least in
    sum_chunks (max 1 (div_ceil count size)) size count (omega (arith, h, all))

-- what is mixed of nothing is nothing
some_or_none : (len : ℕ) (xs ys : List ℕ) → length xs ≡ len → (0 < len → length ys ≡ len) → length (xor_bytes xs ys) ≡ len
some_or_none zero [] ys h f = refl
some_or_none zero (x ∷ xs) ys h f = absurd (omega (arith, h))
some_or_none (suc n) xs ys h f = length-zip2 bit_xor xs ys (h ∙ sym (f (omega arith))) ∙ h

-- what is drawn is enough for a node: a string for each chunk, or one to be mixed in
pub record Enough (l : Link) (len : ℕ) (drawn : List (List ℕ)) : Type 0 where
  pub chunks_are : is_rs l.row.kind ≡ true → length drawn ≡ length (chunks l.row len)
  pub last_is : is_xor l.row.kind ≡ true → 0 < len → length (last_drawn drawn) ≡ len

module _ (long : Long) where
  -- RBG3(RS), where there is a string for each chunk
  chunked_len : (l : Link) (s : NodeState) (add : List ℕ) (drawn : List (List ℕ)) (lens : List ℕ) → length drawn ≡ length lens
      → length (chunked l s add drawn lens).bytes ≡ all_of lens
  chunked_len l s add [] [] h = refl
  chunked_len l s add [] (len ∷ lens) h = absurd (omega (arith, h))
  chunked_len l s add (d ∷ drawn) [] h = absurd (omega (arith, h))
  chunked_len l s add (d ∷ drawn) (len ∷ lens) h =
      let now = node_after l.row s (Seeded Renew d add) in
      let given = gave l now [] len in
      let rest = chunked_len l (node_after l.row now given) [] drawn lens (omega (arith, h)) in
      let mine = long l.row now [] len in
      let after = (chunked l (node_after l.row now given) [] drawn lens).bytes in
      length-append (given_bytes l.row now [] len) after ∙ (ap (λ k. k + length after) mine ∙ ap (λ k. len + k) rest)

  given_len : (l : Link) (b : Bool) (stuff string : List ℕ) (len : ℕ) → length (given_work l b stuff string len).bytes ≡ len
  given_len l true stuff string len = long l.row (node_after l.row l.state (Seeded Renew stuff string)) [] len
  given_len l false stuff string len = long l.row l.state string len

  pub gives_len : (pr : Bool) (drawn : List (List ℕ)) (string above : List ℕ) (l : Link) (len : ℕ) → Enough l len drawn
      → length (task_work pr drawn string l above (Gives len)).bytes ≡ len
  gives_len pr drawn string above l len enough = by (is_rs l.row.kind) enough.chunks_are where
    given : Work
    given = given_work l (must_seed pr l) (material l drawn above) string len

    mine : length given.bytes ≡ len
    mine = given_len l (must_seed pr l) (material l drawn above) string len

    mix : (b : Bool) → (b ≡ true → 0 < len → length (last_drawn drawn) ≡ len)
        → length (if b then record given { bytes = xor_bytes given.bytes (last_drawn drawn) } else given).bytes ≡ len
    mix false f = mine
    mix true f = some_or_none len given.bytes (last_drawn drawn) mine (f refl)

    by : (b : Bool) → (b ≡ true → length drawn ≡ length (chunks l.row len))
        → length (if b then chunked l l.state string drawn (chunks l.row len) else mixed l drawn given).bytes ≡ len
    by true f = chunked_len l l.state string drawn (chunks l.row len) (f refl) ∙ sum_of_chunks l.row len
    by false f = mix (is_xor l.row.kind) enough.last_is
