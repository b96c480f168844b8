-- Sums of the blocks of a source.
use Rattle.std.proofs.Common.{◌≡◌, ◌∙◌, ◌+◌, ◌-◌, ◌*◌, ◌<◌, ◌^◌, ℕ, List, true, false, length, sym, ap, arith}
use Rattle.std.specs.Prelude.{if◌then◌else◌, min}
use Rattle.std.specs.List.{range_with_len}
use Rattle.entropy_source.specs.Source.{blocks_for}
use Rattle.entropy_source.specs.declared.answers.SourceRow.{SourceRow}
use Rattle.rbg_nodes.specs.declared.node.NodeRow.{NodeRow}
use Rattle.tree_config.specs.Tree.{Tree}
use Rattle.tree_rules.specs.Links.{is_xor}
use Rattle.tree_rules.specs.Slots.{node_plan, node_row, source_row}
use Rattle.tree_load.specs.Tally.{all_asks, all_blocks, blocks_by, drawn_len, is_from, reseeds_for, sum_of}
use Rattle.tree_load.proofs.Weighing.{sum_front, sum_next}

-- the blocks that node n draws on source j
abbrev pub blocks_at : Tree → (ℕ → ℕ) → (ℕ → List ℕ) → ℕ → ℕ → ℕ
blocks_at p c own j n = if is_from j (node_plan p n).origin then blocks_by (node_row p n) (source_row p j) (c n) (all_asks p c own n) else 0

module _ (p : Tree) (c : ℕ → ℕ) (own : ℕ → List ℕ) (j : ℕ) (fits : all_blocks p c own j < 2 ^ 64) (n sum : ℕ) (there : n < length p.nodes)
    (was : sum ≡ sum_of (blocks_at p c own j) (range_with_len 0 n)) where
  abbrev Next : ℕ → Type 0
  Next r = r ≡ sum_of (blocks_at p c own j) (range_with_len 0 (n + 1))

  pub other : is_from j (node_plan p n).origin ≡ false → Next sum
  other is =
      let e : blocks_at p c own j n ≡ 0 = ap (λ b. if b then blocks_by (node_row p n) (source_row p j) (c n) (all_asks p c own n) else 0) is in
      let s = sum_next (blocks_at p c own j) n in omega (arith, was, e, s)

  pub one : is_from j (node_plan p n).origin ≡ true → (row : SourceRow) → row ≡ source_row p j → (blocks r : ℕ)
      → (let all = blocks_by (node_row p n) row (c n) (all_asks p c own n) in all < 2 ^ 64 → blocks ≡ all) → r ≡ min (sum + blocks) (2 ^ 64 - 1) → Next r
  one is row row_is blocks r h r_is =
      let all : ℕ = blocks_by (node_row p n) row (c n) (all_asks p c own n) in
      let e : blocks_at p c own j n ≡ all = ap (λ b. if b then blocks_by (node_row p n) (source_row p j) (c n) (all_asks p c own n) else 0) is
      ∙ ap (λ z. blocks_by (node_row p n) z (c n) (all_asks p c own n)) (sym row_is) in
      let s = sum_next (blocks_at p c own j) n in
      let front = sum_front (blocks_at p c own j) 0 (n + 1) (length p.nodes) (omega (arith, there)) in
      let b = h (omega (arith, e, s, front, fits)) in
      omega (arith, was, e, s, front, fits, b, r_is)

-- the blocks of an RBG3(XOR), put together
pub mixed_is : (row : NodeRow) (source : SourceRow) (c : ℕ) (xs : List ℕ) (reseeds each mixed drawn r : ℕ) → is_xor row.kind ≡ true → reseeds ≡ reseeds_for row c xs
    → each ≡ blocks_for source (drawn_len row) → mixed ≡ sum_of (λ len. blocks_for source len) xs → drawn ≡ min (reseeds * each) (2 ^ 64 - 1) → r ≡ min (drawn + mixed) (2 ^ 64 - 1)
    → blocks_by row source c xs < 2 ^ 64 → r ≡ blocks_by row source c xs
mixed_is row source c xs reseeds each mixed drawn r xor reseeds_are each_is mixed_are drawn_is r_is fits =
    let x : ℕ = reseeds_for row c xs * blocks_for source (drawn_len row) in
    let product : reseeds * each ≡ x = ap (λ z. z * each) reseeds_are ∙ ap (λ z. reseeds_for row c xs * z) each_is in
    let all : blocks_by row source c xs ≡ x + sum_of (λ len. blocks_for source len) xs = ap (λ b. x + (if b then sum_of (λ len. blocks_for source len) xs else 0)) xor in
    omega (arith, product, all, mixed_are, drawn_is, r_is, fits)

pub mixed_fits : (row : NodeRow) (source : SourceRow) (c : ℕ) (xs : List ℕ) (mixed : ℕ) → is_xor row.kind ≡ true → mixed ≡ sum_of (λ len. blocks_for source len) xs
    → blocks_by row source c xs < 2 ^ 64 → mixed < 2 ^ 64
mixed_fits row source c xs mixed xor is fits =
    let x : ℕ = reseeds_for row c xs * blocks_for source (drawn_len row) in
    let all : blocks_by row source c xs ≡ x + sum_of (λ len. blocks_for source len) xs = ap (λ b. x + (if b then sum_of (λ len. blocks_for source len) xs else 0)) xor in
    omega (arith, all, is, fits)
