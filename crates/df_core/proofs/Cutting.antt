-- A text that is cut into blocks as it comes.
use Rattle.std.proofs.Common.{◌≡◌, ℕ, ◌+◌, ◌-◌, ◌<◌, ◌≤◌, List, [], ◌∷◌, ◌++◌, length, take, drop, get_or, replicate, sym, ap, ◌∙◌, arith, append-nil, append_assoc}
use Rattle.std.specs.List.{concat}
use Rattle.std.proofs.lemmas.List.{drop-take, take-append-drop, take-take, take_all}
use Rattle.std.proofs.lemmas.List.Elements.{All-push}
use Rattle.std.proofs.lemmas.List.Folds.{concat-append}
use Rattle.std.proofs.lemmas.List.Sums.{fold-append}
use Rattle.df_core.specs.Df.{chained, pass_block}
use Rattle.df_core.specs.Chains.{AreChained}
use Rattle.df_core.specs.Holds.{IsCut}

-- one piece more in the rest
pub cut_piece : (text rest piece more : List ℕ) (blocks : List (List ℕ)) → more ≡ rest ++ piece → IsCut text blocks rest →
    IsCut (text ++ piece) blocks more
cut_piece text rest piece more blocks is held = record {
  whole = held.whole;
  joined = rw (held.joined, is) (append_assoc (concat blocks) rest piece);
}

-- a rest of 16 bytes is one block more
pub cut_block : (text block : List ℕ) (blocks : List (List ℕ)) (n : ℕ) → length block ≡ 16 → n ≡ 16 → IsCut text blocks (take n block) →
    IsCut text (blocks ++ block ∷ []) []
cut_block text block blocks n long is held =
    let all : take n block ≡ block = take_all n block (omega arith) in
    record {
      whole = All-push (λ b. length b ≡ 16) blocks block held.whole long;
      joined = rw (held.joined, all, concat-append blocks (block ∷ [])) (simp append-nil);
    }

-- each pass has taken in one block more
pub chained_block : (key block : List ℕ) (chains after blocks : List (List ℕ)) (n : ℕ) → AreChained key chains n blocks →
    ((i : ℕ) → i < n → get_or after i [] ≡ chained key (get_or chains i []) block) → AreChained key after n (blocks ++ block ∷ [])
chained_block key block chains after blocks n held step i lt =
    step i lt ∙ (ap (λ (v : List ℕ). chained key v block) (held i lt)
    ∙ sym (fold-append (chained key) (replicate 16 0) (pass_block i ∷ blocks) (block ∷ [])))

-- the first i elements, and those from there up to e
pub take-between : (s : List ℕ) (i e : ℕ) → i ≤ e → take i s ++ take (e - i) (drop i s) ≡ take e s
take-between s i e h =
    let sum : i + (e - i) ≡ e = omega arith in
    let front : take i (take e s) ≡ take i s = take-take i e s h in
    let back : drop i (take e s) ≡ take (e - i) (drop i s) = ap (λ (n : ℕ). drop i (take n s)) (sym sum) ∙ drop-take i (e - i) s in
    rw (← front, ← back) (take-append-drop i (take e s))
