-- Pieces of an input, taken byte by byte.
use Rattle.std.proofs.Common.{◌≡◌, ◌<◌, ℕ, ◌+◌, ◌∷◌, List, [], ◌++◌, length, take, drop, get_or, sym, ap, ◌∙◌, append_assoc, append-nil, subst, take-append-drop}
use Rattle.std.specs.declared.option.Option.{Option}
use Rattle.std.specs.Io.KnownBytes.{Consumes}
use Rattle.std.proofs.KnownBytes.{Consumes-trans}
use Rattle.std.proofs.lemmas.List.{take_more}

-- one byte more of a piece
pub next_taken : (taken piece : List ℕ) (i : ℕ) → i < length piece → (taken ++ take i piece) ++ get_or piece i 0 ∷ [] ≡ taken ++ take (i + 1) piece
next_taken taken piece i h = append_assoc taken (take i piece) (get_or piece i 0 ∷ []) ∙ ap (λ (x : List ℕ). taken ++ x) (sym (take_more piece i 0 h))

-- and what follows it
pub all_taken : (taken piece : List ℕ) (i : ℕ) → i < length piece → ((taken ++ take i piece) ++ get_or piece i 0 ∷ []) ++ drop (i + 1) piece ≡ taken ++ piece
all_taken taken piece i h =
    ap (λ (x : List ℕ). x ++ drop (i + 1) piece) (next_taken taken piece i h)
    ∙ (append_assoc taken (take (i + 1) piece) (drop (i + 1) piece) ∙ ap (λ (x : List ℕ). taken ++ x) (take-append-drop (i + 1) piece))

-- a read of no bytes takes none
pub taken_still : (left_before left_mid left_now : Option (List ℕ)) (taken piece : List ℕ) → Consumes left_before left_mid taken → Consumes left_mid left_now piece → piece ≡ [] →
    Consumes left_before left_now taken
taken_still left_before left_mid left_now taken piece first more none =
    subst (λ (x : List ℕ). Consumes left_before left_now x) (ap (λ (x : List ℕ). taken ++ x) none ∙ append-nil taken)
    (Consumes-trans left_before left_mid left_now taken piece first more)
