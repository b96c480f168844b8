-- Bytes that are filled block by block.
use Rattle.std.proofs.Common.{◌≡◌, ◌≤◌, ◌<◌, ◌+◌, ◌-◌, ◌*◌, ℕ, suc, List, [], ◌++◌, length, take, refl, sym, ap, ◌∙◌, subst, arith, length-append, suc-mul, add-one, zero-mul}
use Rattle.std.proofs.Math.Seq.{take-append-add, take-nil}
use Rattle.std.proofs.Math.Nat.{mul-le-mul_right}
use Rattle.std.proofs.lemmas.List.{take_all}
use Rattle.std.proofs.lemmas.Grind.{div_ceil_times}
use Rattle.std.specs.Prelude.{Option}
use Rattle.std.specs.Int.{div_ceil}
use Rattle.entropy_source.specs.declared.answers.SourceRow.{SourceRow}
use Rattle.entropy_source.specs.declared.answers.SourceRefusal.{SourceRefusal}
use Rattle.entropy_source.specs.Views.{SourceView}
use Rattle.entropy_source.specs.Scaffolding.{LeadsBlocks, StopsBlocks}
use Rattle.entropy_source.proofs.Conditioning.{blocks_none, blocks_more, blocks_stop}

-- n bytes of two parts, where the first has no more than n
take_two : (front back : List ℕ) (n : ℕ) → length front ≤ n → take n (front ++ back) ≡ front ++ take (n - length front) back
take_two front back n fits =
    let e : length front + (n - length front) ≡ n = omega arith in
    ap (λ (m : ℕ). take m (front ++ back)) (sym e) ∙ take-append-add front back (n - length front)

-- a place before the last block is within the bytes, and the blocks have room for all of them
pub within : (n len i : ℕ) → 0 < len → i < div_ceil n len → i * len ≤ n
within n len i some h =
    let bound = (div_ceil_times n len some).1 in
    let more : (i + 1) * len ≤ div_ceil n len * len = mul-le-mul_right len (omega arith) in
    let one : (i + 1) * len ≡ i * len + len = rw (add-one, suc-mul) refl in
    omega arith

pub enough : (n len : ℕ) → 0 < len → n ≤ div_ceil n len * len
enough n len some = (div_ceil_times n len some).0

-- one more block
fill_step : (bytes block out after : List ℕ) (i len : ℕ) → length bytes ≡ i * len → length block ≡ len → i * len ≤ length out → length after ≡ length out
    → take (i * len) out ≡ take (length out) bytes
    → take (i * len + length block) after ≡ take (i * len) out ++ take (length out - i * len) block
    → (length (bytes ++ block) ≡ (i + 1) * len) × (take ((i + 1) * len) after ≡ take (length after) (bytes ++ block))
fill_step bytes block out after i len lb lk fits same so_far put =
    let one : (i + 1) * len ≡ i * len + len = rw (add-one, suc-mul) refl in
    let le : length bytes ≤ length out = omega arith in
    let front : take (length out) bytes ≡ bytes = take_all (length out) bytes le in
    let two : take (length out) (bytes ++ block) ≡ bytes ++ take (length out - i * len) block =
    take_two bytes block (length out) le ∙ ap (λ k. bytes ++ take (length out - k) block) lb in
    let all : take ((i + 1) * len) after ≡ take (length out) (bytes ++ block) =
    ap (λ k. take k after) (one ∙ ap (λ k. i * len + k) (sym lk)) ∙ (put ∙ (ap (λ z. z ++ take (length out - i * len) block) (so_far ∙ front) ∙ sym two)) in
    (omega (arith, length-append bytes block), all ∙ ap (λ k. take k (bytes ++ block)) (sym same))

module _ {S : Type 0} (told : S → Option (List ℕ)) (faults : S → ℕ) (reads : S → ℕ → Option (List ℕ) → S → Type 0) (row : SourceRow)
    (v : SourceView S) (blocks len : ℕ) where
  -- the first i blocks are made, and stand in the bytes
  abbrev pub Filled : SourceView S → ℕ → List ℕ → Type 0
  Filled w i out = (bytes : List ℕ) × LeadsBlocks told faults reads row v w blocks (blocks - i) bytes × (length bytes ≡ i * len) × (take (i * len) out ≡ take (length out) bytes)

  pub filled_none : (out : List ℕ) → Filled v 0 out
  filled_none out =
      let all : blocks ≡ blocks - 0 = omega arith in
      ([], subst (λ k. LeadsBlocks told faults reads row v v blocks k []) all (blocks_none told faults reads row v blocks), sym (zero-mul len), rw (zero-mul, take-nil) refl)

  module _ (m w : SourceView S) (here : SourceRow) (is : here ≡ row) (i : ℕ) (less : i < blocks) (out : List ℕ) where
    one_less : suc (blocks - (i + 1)) ≡ blocks - i
    one_less = omega arith

    pub filled_more : (after block : List ℕ) → Filled m i out
        → ((left : ℕ) → LeadsBlocks told faults reads here m w (suc left) left block)
        → length block ≡ len → i * len ≤ length out → length after ≡ length out
        → take (i * len + length block) after ≡ take (i * len) out ++ take (length out - i * len) block
        → Filled w (i + 1) after
    filled_more after block (bytes, first, lb, so_far) second lk fits same put =
        let made : LeadsBlocks told faults reads row m w (blocks - i) (blocks - (i + 1)) block =
        subst (λ k. LeadsBlocks told faults reads row m w k (blocks - (i + 1)) block) one_less (subst (λ r. LeadsBlocks told faults reads r m w (suc (blocks - (i + 1))) (blocks - (i + 1)) block) is (second (blocks - (i + 1)))) in
        let step = fill_step bytes block out after i len lb lk fits same so_far put in
        (bytes ++ block, blocks_more told faults reads row v m w blocks (blocks - i) bytes first (blocks - (i + 1)) block made, step.0, step.1)

    pub filled_stops : (why : SourceRefusal) → Filled m i out → ((left : ℕ) → StopsBlocks told faults reads here m w (suc left) why) → StopsBlocks told faults reads row v w blocks why
    filled_stops why (bytes, first, lb, so_far) second =
        let made : StopsBlocks told faults reads row m w (blocks - i) why =
        subst (λ k. StopsBlocks told faults reads row m w k why) one_less (subst (λ r. StopsBlocks told faults reads r m w (suc (blocks - (i + 1))) why) is (second (blocks - (i + 1)))) in
        blocks_stop told faults reads row v m w blocks (blocks - i) bytes first why made
