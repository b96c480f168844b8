-- Words between blanks.
use Rattle.std.proofs.Common.{◌≡◌, ◌<◌, ℕ, ◌+◌, ◌-◌, List, [], ◌∷◌, ◌++◌, Bool, true, false, cond, get_or, length, take, drop, refl, sym, ap, ◌∙◌, append-nil, ◌⊎◌, inl, inr, arith, add-one, drop-cons, take-append-drop, length-drop}
use Rattle.std.specs.Prelude.{slice_index}
use Rattle.std.specs.List.{All, slice_split, onto_first, filter}
use Rattle.std.proofs.lemmas.List.{take_all}
use Rattle.std.proofs.lemmas.List.Splits.{slice_split_none, slice_split_at}
use Rattle.rbg_talk.specs.Lines.{is_blank, is_some_word, words_in, word_before}

-- a blank before words is none of them
pub blank_first : (c : ℕ) (cs : List ℕ) → is_blank c ≡ true → words_in (c ∷ cs) ≡ words_in cs
blank_first c cs blank =
    ap (λ (b : Bool). filter is_some_word (cond b ([] ∷ slice_split is_blank cs) (onto_first c (slice_split is_blank cs)))) blank

-- what begins with no blank begins with a word, up to the next blank or the end
first_word : (w rest : List ℕ) → is_blank (slice_index (w ++ rest) 0) ≡ false → All (λ c. is_blank c ≡ false) w
    → (rest ≡ []) ⊎ (is_blank (slice_index rest 0) ≡ true) → words_in (w ++ rest) ≡ word_before w (words_in rest)
first_word [] [] begins word next = refl
first_word [] (y ∷ ys) begins word (inl none) = absurd cc
first_word [] (y ∷ ys) begins word (inr blank) = absurd cc
first_word (c ∷ w) [] begins word next =
    ap words_in (append-nil (c ∷ w)) ∙ ap (filter is_some_word) (slice_split_none is_blank (c ∷ w) word)
first_word (c ∷ w) (y ∷ ys) begins word (inl none) = absurd cc
first_word (c ∷ w) (y ∷ ys) begins word (inr blank) =
    ap (filter is_some_word) (slice_split_at is_blank (c ∷ w) y ys word blank) ∙ ap (λ (ws : List (List ℕ)). (c ∷ w) ∷ ws) (sym (blank_first y ys blank))

-- without a first word there is none behind it
none_behind : (w rest : List ℕ) → is_blank (slice_index (w ++ rest) 0) ≡ false → (rest ≡ []) ⊎ (is_blank (slice_index rest 0) ≡ true) → w ≡ [] → words_in rest ≡ []
none_behind [] [] begins next none = refl
none_behind [] (y ∷ ys) begins (inl nil) none = absurd cc
none_behind [] (y ∷ ys) begins (inr blank) none = absurd cc
none_behind (c ∷ w) rest begins next none = absurd cc

-- what stands from a place on
pub dropped : (s : List ℕ) (i : ℕ) → i < length s → drop i s ≡ get_or s i 0 ∷ drop (i + 1) s
dropped s i h = rw (add-one, drop-cons s i 0) refl

-- one blank more before words
pub blanks_more : (text : List ℕ) (i : ℕ) → i < length text → is_blank (get_or text i 0) ≡ true → words_in (drop i text) ≡ words_in text → words_in (drop (i + 1) text) ≡ words_in text
blanks_more text i h blank words = sym (ap words_in (dropped text i h) ∙ blank_first (get_or text i 0) (drop (i + 1) text) blank) ∙ words

-- the slice behind a place is all that stands behind it
behind : (text : List ℕ) (at : ℕ) → take (length text - at) (drop at text) ≡ drop at text
behind text at = take_all (length text - at) (drop at text) (omega (arith, length-drop at text))

module _ (text t w rest : List ℕ) (n : ℕ) (words : words_in t ≡ words_in text) (begins : is_blank (slice_index t 0) ≡ false) (next : (drop n t ≡ []) ⊎ (is_blank (slice_index (drop n t) 0) ≡ true)) (front : w ≡ take n t) (back : rest ≡ drop n t) where
  whole_begins : is_blank (slice_index (take n t ++ drop n t) 0) ≡ false
  whole_begins = ap (λ (x : List ℕ). is_blank (slice_index x 0)) (take-append-drop n t) ∙ begins

  pub split_words : All (λ c. is_blank c ≡ false) (take n t) → words_in text ≡ word_before w (words_in rest)
  split_words word =
      sym words ∙ (ap words_in (sym (take-append-drop n t)) ∙ (first_word (take n t) (drop n t) whole_begins word next
      ∙ (ap (λ (x : List ℕ). word_before x (words_in (drop n t))) (sym front) ∙ ap (λ (x : List ℕ). word_before w (words_in x)) (sym back))))

  pub split_none : w ≡ [] → words_in rest ≡ []
  split_none none = ap words_in back ∙ none_behind (take n t) (drop n t) whole_begins next (sym front ∙ none)

-- the same of the text behind its blanks
module _ (text w rest : List ℕ) (b n : ℕ) (words : words_in (drop b text) ≡ words_in text) (begins : is_blank (slice_index (drop b text) 0) ≡ false) (next : (drop n (take (length text - b) (drop b text)) ≡ []) ⊎ (is_blank (slice_index (drop n (take (length text - b) (drop b text))) 0) ≡ true)) (front : w ≡ take n (take (length text - b) (drop b text))) (back : rest ≡ drop n (take (length text - b) (drop b text))) where
  abbrev t : List ℕ
  t = take (length text - b) (drop b text)

  same_words : words_in t ≡ words_in text
  same_words = ap words_in (behind text b) ∙ words

  same_begins : is_blank (slice_index t 0) ≡ false
  same_begins = ap (λ (x : List ℕ). is_blank (slice_index x 0)) (behind text b) ∙ begins

  pub next_words : All (λ c. is_blank c ≡ false) (take n (take (length text - b) (drop b text))) → words_in text ≡ word_before w (words_in rest)
  next_words word = split_words text t w rest n same_words same_begins next front back word

  pub next_none : w ≡ [] → words_in rest ≡ []
  next_none none = split_none text t w rest n same_words same_begins next front back none
