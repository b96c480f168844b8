-- The expanded key is found word by word, and a round reads only its own four words.
use Rattle.std.proofs.Common.{◌≡◌, ℕ, zero, suc, ◌+◌, ◌-◌, ◌*◌, ◌/◌, ◌≤◌, List, ◌++◌, length, take, refl, sym, ap, ◌∙◌, arith, length-append}
use Rattle.std.proofs.lemmas.List.{get_or-take, length-take-le, take-append-le, take_all}
use Rattle.aes_core.specs.Aes.{add_round_key, word, xor_words, turned_word, next_word, encrypted, aes, expansion, expanded, rounds, after_rounds, mix_columns, shift_rows, sub_bytes}
use Rattle.std.proofs.lemmas.List.{take-take}
use Rattle.aes_core.specs.Keys.{IsExpanded, IsKeyLength, key_of}

pub word-take : (w : List ℕ) (m j : ℕ) → 4 * j + 4 ≤ m → word (take m w) j ≡ word w j
word-take w m j h =
    rw (
      get_or-take m w (4 * j + 0) 0 (omega arith),
      get_or-take m w (4 * j + 1) 0 (omega arith),
      get_or-take m w (4 * j + 2) 0 (omega arith),
      get_or-take m w (4 * j + 3) 0 (omega arith),
    ) refl

-- word i reads the words before it alone
pub next_word-take : (nk : ℕ) (w : List ℕ) (m i : ℕ) → 1 ≤ nk → nk ≤ i → m ≡ 4 * i → next_word nk (take m w) i ≡ next_word nk w i
unfolding next_word
next_word-take nk w m i one low e =
    let far = word-take w m (i - nk) (omega arith) in
    let near = word-take w m (i - 1) (omega arith) in
    ap (λ (x : List ℕ). xor_words x (turned_word nk i (word (take m w) (i - 1)))) far
    ∙ ap (λ (x : List ℕ). xor_words (word w (i - nk)) (turned_word nk i x)) near

pub length-expansion : (key : List ℕ) (n : ℕ) → length (expansion key n) ≡ length key + 4 * n
unfolding expansion next_word
length-expansion key zero = omega arith
length-expansion key (suc n) = simp length-append (omega (arith, length-expansion key n))

pub expansion-none : (key : List ℕ) → expansion key 0 ≡ key
unfolding expansion
expansion-none key = refl

pub expansion-more : (key : List ℕ) (n : ℕ) → expansion key (suc n) ≡ expansion key n ++ next_word (length key / 4) (expansion key n) (length key / 4 + n)
unfolding expansion
expansion-more key n = refl

-- one more word
pub expand_more : (key keys after t : List ℕ) (nk i : ℕ) → nk ≡ length key / 4 → 1 ≤ nk → nk ≤ i →
    take (4 * i) keys ≡ expansion key (i - nk) → t ≡ next_word nk keys i → take (4 * (i + 1)) after ≡ take (4 * i) keys ++ t →
    take (4 * (i + 1)) after ≡ expansion key (i + 1 - nk)
expand_more key keys after t nk i is one low held word_is put =
    let n = i - nk in
    let at : i + 1 - nk ≡ suc (i - nk) = omega arith in
    let place : nk + (i - nk) ≡ i = omega arith in
    let front : next_word nk (take (4 * i) keys) i ≡ next_word nk keys i = next_word-take nk keys (4 * i) i one low refl in
    let same : next_word nk (expansion key (i - nk)) i ≡ next_word nk keys i = rw (← held) front in
    rw (at, expansion-more key (i - nk), ← is, place, same, put, held, word_is) refl

pub add_round_key-take : (w : List ℕ) (m n : ℕ) (s : List ℕ) → 16 * n + 16 ≤ m → add_round_key (take m w) n s ≡ add_round_key w n s
unfolding add_round_key
add_round_key-take w m n s h =
    rw (
      get_or-take m w (16 * n + 0) 0 (omega arith),
      get_or-take m w (16 * n + 1) 0 (omega arith),
      get_or-take m w (16 * n + 2) 0 (omega arith),
      get_or-take m w (16 * n + 3) 0 (omega arith),
      get_or-take m w (16 * n + 4) 0 (omega arith),
      get_or-take m w (16 * n + 5) 0 (omega arith),
      get_or-take m w (16 * n + 6) 0 (omega arith),
      get_or-take m w (16 * n + 7) 0 (omega arith),
      get_or-take m w (16 * n + 8) 0 (omega arith),
      get_or-take m w (16 * n + 9) 0 (omega arith),
      get_or-take m w (16 * n + 10) 0 (omega arith),
      get_or-take m w (16 * n + 11) 0 (omega arith),
      get_or-take m w (16 * n + 12) 0 (omega arith),
      get_or-take m w (16 * n + 13) 0 (omega arith),
      get_or-take m w (16 * n + 14) 0 (omega arith),
      get_or-take m w (16 * n + 15) 0 (omega arith),
    ) refl

pub after_rounds-none : (w block : List ℕ) → after_rounds w block 0 ≡ add_round_key w 0 block
unfolding after_rounds
after_rounds-none w block = refl

pub after_rounds-more : (w block : List ℕ) (n : ℕ) → after_rounds w block (suc n) ≡ add_round_key w (suc n) (mix_columns (shift_rows (sub_bytes (after_rounds w block n))))
unfolding after_rounds
after_rounds-more w block n = refl

-- the expansion begins with the key
pub expansion-front : (key : List ℕ) (n : ℕ) → take (length key) (expansion key n) ≡ key
expansion-front key zero = rw (expansion-none key) (take_all (length key) key (omega arith))
expansion-front key (suc n) =
    rw (expansion-more key n)
    (take-append-le (length key) (expansion key n) (next_word (length key / 4) (expansion key n) (length key / 4 + n)) (omega (arith, length-expansion key n))
    ∙ expansion-front key n)

-- the expanded key of a key is what an Aes keeps
pub kept_is : (key keys : List ℕ) → IsKeyLength (length key) → length keys ≡ 240 → take (16 * (rounds key + 1)) keys ≡ expanded key →
    IsExpanded (length key / 4 + 6) keys × (key_of (length key / 4 + 6) keys ≡ key)
unfolding expanded
kept_is key keys allowed len bytes =
    let n = 4 * (rounds key + 1) - length key / 4 in
    let size : 4 * (length key / 4 + 6 - 6) ≡ length key = omega (arith, allowed.whole) in
    let within : length key ≤ 16 * (rounds key + 1) = omega arith in
    let front : take (length key) (take (16 * (rounds key + 1)) keys) ≡ take (length key) keys = take-take (length key) (16 * (rounds key + 1)) keys within in
    let same : key_of (length key / 4 + 6) keys ≡ key = rw (size, ← front, bytes) (expansion-front key n) in (
      record {
        low = omega (arith, allowed.low);
        high = omega (arith, allowed.high);
        even = omega (arith, allowed.whole);
        len = len;
        bytes = rw same bytes;
      },
      same,
    )

-- a round key of the bytes kept is the expanded key's
pub round_key_is : (keys w s : List ℕ) (m n : ℕ) → 16 * n + 16 ≤ m → take m keys ≡ w → add_round_key keys n s ≡ add_round_key w n s
round_key_is keys w s m n fits held = sym (add_round_key-take keys m n s fits) ∙ ap (λ (x : List ℕ). add_round_key x n s) held

pub length-after : (w block : List ℕ) (n : ℕ) → length (after_rounds w block n) ≡ 16
unfolding after_rounds add_round_key
length-after w block zero = refl
length-after w block (suc n) = refl

-- one more round
pub round_more : (keys w block s next : List ℕ) (m n : ℕ) → 1 ≤ n → 16 * n + 16 ≤ m → take m keys ≡ w →
    s ≡ after_rounds w block (n - 1) → next ≡ add_round_key keys n (mix_columns (shift_rows (sub_bytes s))) →
    next ≡ after_rounds w block (n + 1 - 1)
round_more keys w block s next m n one fits held so_far is =
    let at : n + 1 - 1 ≡ suc (n - 1) = omega arith in
    let same : suc (n - 1) ≡ n = omega arith in
    rw (at, after_rounds-more w block (n - 1), same, ← so_far, is) (round_key_is keys w (mix_columns (shift_rows (sub_bytes s))) m n fits held)

-- the last round
pub last_round : (keys key block s last : List ℕ) (r n : ℕ) → IsExpanded r keys → key_of r keys ≡ key → n ≡ r →
    s ≡ after_rounds (expanded key) block (n - 1) → last ≡ add_round_key keys r (shift_rows (sub_bytes s)) →
    last ≡ aes key block
unfolding aes encrypted
last_round keys key block s last r n kept is end so_far last_is =
    let held : take (16 * (r + 1)) keys ≡ expanded key = kept.bytes ∙ ap expanded is in
    let size : length (key_of r keys) ≡ 4 * (r - 6) = length-take-le (4 * (r - 6)) keys (omega (arith, kept.len, kept.high)) in
    let long : length key ≡ 4 * (r - 6) = ap length (sym is) ∙ size in
    let count : rounds key ≡ r = omega (arith, long, kept.low) in
    let before : rounds key - 1 ≡ n - 1 = omega arith in
    let after : suc (n - 1) ≡ r = omega (arith, end, kept.low) in
    rw (before, after, ← so_far, last_is) (round_key_is keys (expanded key) (shift_rows (sub_bytes s)) (16 * (r + 1)) r (omega arith) held)

-- the key alone is the expansion at first
pub expand_first : (key keys : List ℕ) (nk : ℕ) → 4 * nk ≡ length key → take (length key) keys ≡ key → take (4 * nk) keys ≡ expansion key (nk - nk)
expand_first key keys nk e held =
    let none : nk - nk ≡ 0 = omega arith in
    rw (none, e, held, expansion-none key) refl

-- all words
pub expand_last : (key keys : List ℕ) (nk i : ℕ) → nk ≡ length key / 4 → i ≡ 4 * (nk + 7) → take (4 * i) keys ≡ expansion key (i - nk) →
    take (16 * (rounds key + 1)) keys ≡ expanded key
unfolding expanded
expand_last key keys nk i is end held =
    let count : 16 * (rounds key + 1) ≡ 4 * i = omega (arith, is) in
    let more : 4 * (rounds key + 1) - length key / 4 ≡ i - nk = omega (arith, is) in
    rw (count, more) held
