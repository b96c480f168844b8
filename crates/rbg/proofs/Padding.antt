-- Bytes at the front of zeros.
use Rattle.std.proofs.Common.{◌≡◌, ℕ, ◌-◌, List, ◌++◌, length, take, drop, replicate, sym, ◌∙◌, refl}
use Rattle.std.proofs.lemmas.List.{take-append-drop, drop-replicate}

pub padding : (all bytes : List ℕ) → take (length bytes) all ≡ bytes →
    drop (length bytes) all ≡ drop (length bytes) (replicate 64 0) → all ≡ bytes ++ replicate (64 - length bytes) 0
padding all bytes front behind =
    let rest : drop (length bytes) all ≡ replicate (64 - length bytes) 0 = behind ∙ drop-replicate (length bytes) 64 0 in
    sym (take-append-drop (length bytes) all) ∙ rw (front, rest) refl
