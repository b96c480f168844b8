-- From the chaining values to the bytes that are wanted.
use Rattle.std.proofs.Common.{◌≡◌, ℕ, zero, suc, ◌+◌, ◌-◌, ◌*◌, ◌/◌, ◌%◌, ◌<◌, ◌≤◌, List, [], ◌∷◌, ◌++◌, length, take, drop, get_or, replicate, refl, sym, ap, ◌∙◌, subst, arith, append_assoc, append-nil, length-append, add-one}
use Rattle.std.specs.Prelude.{All}
use Rattle.std.specs.List.{concat}
use Rattle.std.proofs.lemmas.List.{drop-take, take-take, length-replicate}
use Rattle.std.proofs.lemmas.List.Elements.{All-head, All-push, All-tail}
use Rattle.std.proofs.lemmas.List.Folds.{concat-append}
use Rattle.std.proofs.Math.Seq.{drop-append_seam, take-append_seam, take-suc}
use Rattle.aes_core.specs.Aes.{aes}
use Rattle.df_core.specs.Df.{blocks_for, blocks_of, chained, df_header, df_string, first_blocks, first_key, passes, temp_of, turned, turns}
use Rattle.df_core.specs.Chains.{AreChained}
use Rattle.df_core.specs.Holds.{IsCut}
use Rattle.df_core.proofs.Cutting.{chained_block}

pub turned-none : (key x : List ℕ) → turned key x 0 ≡ x
unfolding turned
turned-none key x = refl

pub turned-more : (key x : List ℕ) (n : ℕ) → turned key x (n + 1) ≡ aes key (turned key x n)
unfolding turned
turned-more key x n = rw add-one refl

pub turns-none : (key x : List ℕ) → turns key x 0 ≡ []
unfolding turns
turns-none key x = refl

pub turns-more : (key x : List ℕ) (n : ℕ) → turns key x (n + 1) ≡ turns key x n ++ turned key x (n + 1)
unfolding turns
turns-more key x n = rw add-one refl

-- the X of one turn more is put behind those before it
pub one_more : (key x block out after : List ℕ) (i : ℕ) → take (16 * i) out ≡ turns key x i → block ≡ turned key x (i + 1) → length block ≡ 16 →
    take (16 * i + length block) after ≡ take (16 * i) out ++ block → take (16 * (i + 1)) after ≡ turns key x (i + 1)
one_more key x block out after i held is long put =
    let at : 16 * (i + 1) ≡ 16 * i + length block = omega (arith, long) in
    rw (at, turns-more key x i, ← held, ← is) put

-- whole blocks in a row are cut at the same places
first_blocks-concat : (bs : List (List ℕ)) → All (λ b. length b ≡ 16) bs → first_blocks (length bs) (concat bs) ≡ bs
first_blocks-concat [] held = refl
first_blocks-concat (b ∷ bs) held =
    let long : length b ≡ 16 = All-head (λ x. length x ≡ 16) b bs held in
    let front : take 16 (b ++ concat bs) ≡ b = subst (λ (n : ℕ). take n (b ++ concat bs) ≡ b) long (take-append_seam b (concat bs)) in
    let back : drop 16 (b ++ concat bs) ≡ concat bs = subst (λ (n : ℕ). drop n (b ++ concat bs) ≡ concat bs) long (drop-append_seam b (concat bs)) in
    rw (front, back) (ap (λ (xs : List (List ℕ)). b ∷ xs) (first_blocks-concat bs (All-tail (λ x. length x ≡ 16) b bs held)))

length-concat : (bs : List (List ℕ)) → All (λ b. length b ≡ 16) bs → length (concat bs) ≡ 16 * length bs
length-concat [] held = refl
length-concat (b ∷ bs) held =
    omega (arith, length-append b (concat bs), All-head (λ x. length x ≡ 16) b bs held, length-concat bs (All-tail (λ x. length x ≡ 16) b bs held))

pub blocks_of-concat : (bs : List (List ℕ)) → All (λ b. length b ≡ 16) bs → blocks_of (concat bs) ≡ bs
unfolding blocks_of
blocks_of-concat bs held =
    let n : length (concat bs) / 16 ≡ length bs = omega (arith, length-concat bs held) in
    rw n (first_blocks-concat bs held)

-- the blocks of S, from a text in progress and its last bytes
pub blocks_of-df_string : (input rest : List ℕ) (total want fill : ℕ) (bs : List (List ℕ)) → length input ≡ total → length rest ≡ fill → fill < 16 →
    IsCut (df_header total want ++ input) bs rest → blocks_of (df_string input want) ≡ bs ++ (rest ++ 0x80 ∷ replicate (15 - fill) 0) ∷ []
unfolding df_string
blocks_of-df_string input rest total want fill bs all long few cut =
    let last = rest ++ 0x80 ∷ replicate (15 - fill) 0 in
    let s = df_header (length input) want ++ input in
    let is : df_header (length input) want ++ input ≡ concat bs ++ rest = rw all cut.joined in
    let size = length-concat bs cut.whole in
    let end : length (concat bs ++ rest) % 16 ≡ fill = simp length-append (omega (arith, size, long)) in
    let whole : length last ≡ 16 = simp (length-append, length-replicate {A = ℕ}) (omega (arith, long)) in
    let joined : (concat bs ++ rest) ++ 0x80 ∷ replicate (15 - fill) 0 ≡ concat (bs ++ last ∷ []) = rw concat-append (simp (append_assoc, append-nil)) in
    rw (is, end, joined) (blocks_of-concat (bs ++ last ∷ []) (All-push (λ b. length b ≡ 16) bs last cut.whole whole))

-- the chaining values in a row are the passes
pub passes_are : (key : List ℕ) (chains blocks : List (List ℕ)) (n : ℕ) → n ≤ length chains → AreChained key chains n blocks →
    concat (take n chains) ≡ passes key blocks n
unfolding passes
passes_are key chains blocks zero few held = refl
passes_are key chains blocks (suc n) few held =
    let before : concat (take n chains) ≡ passes key blocks n = passes_are key chains blocks n (omega arith) (λ i lt. held i (omega arith)) in
    let within : n < length chains = omega arith in
    rw (take-suc chains n [] within, concat-append, append-nil, before, held n (omega arith)) refl

-- the bytes of a row of passes
pub temp_is : (temp ends key : List ℕ) (keylen n : ℕ) → n ≡ blocks_for (keylen + 16) → take (16 * n) temp ≡ ends →
    (take keylen temp ≡ take keylen ends) × (take 16 (drop keylen temp) ≡ take 16 (drop keylen ends))
temp_is temp ends key keylen n is held =
    let low : keylen ≤ 16 * n = omega arith in
    let high : keylen + 16 ≤ 16 * n = omega arith in
    let key_is : take keylen ends ≡ take keylen temp = rw (← held) (take-take keylen (16 * n) temp low) in
    let both : take (keylen + 16) ends ≡ take (keylen + 16) temp = rw (← held) (take-take (keylen + 16) (16 * n) temp high) in
    (sym key_is, sym (drop-take keylen 16 temp) ∙ (ap (drop keylen) (sym both) ∙ drop-take keylen 16 ends))

-- the key and the block that come of a text in progress, once all of the input is in
pub finished : (input rest temp block key : List ℕ) (chains after blocks : List (List ℕ)) (keylen total want fill n : ℕ) →
    length input ≡ total → IsCut (df_header total want ++ input) blocks rest → length rest ≡ fill → fill < 16 →
    key ≡ first_key keylen → n ≡ blocks_for (keylen + 16) → n ≤ length after → AreChained key chains n blocks →
    block ≡ rest ++ 0x80 ∷ replicate (15 - fill) 0 →
    ((i : ℕ) → i < n → get_or after i [] ≡ chained key (get_or chains i []) block) → take (16 * n) temp ≡ concat (take n after) →
    (take keylen temp ≡ take keylen (temp_of keylen input want)) × (take 16 (drop keylen temp) ≡ take 16 (drop keylen (temp_of keylen input want)))
unfolding temp_of
finished input rest temp block key chains after blocks keylen total want fill n all cut long few key_is n_is room held block_is step front =
    let cut_is : blocks_of (df_string input want) ≡ blocks ++ block ∷ [] = rw block_is (blocks_of-df_string input rest total want fill blocks all long few cut) in
    let more : AreChained key after n (blocks ++ block ∷ []) = chained_block key block chains after blocks n held step in
    let ends : take (16 * n) temp ≡ passes key (blocks ++ block ∷ []) n = front ∙ passes_are key after (blocks ++ block ∷ []) n room more in
    let whole : take (16 * n) temp ≡ passes (first_key keylen) (blocks_of (df_string input want)) (blocks_for (keylen + 16)) = rw (cut_is, ← key_is, ← n_is) ends in
    temp_is temp (passes (first_key keylen) (blocks_of (df_string input want)) (blocks_for (keylen + 16))) key keylen n n_is whole
