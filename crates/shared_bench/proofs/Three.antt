-- The first, the second and the third of three words.
use Rattle.std.proofs.Common.{◌≡◌, ℕ, List, [], ◌∷◌, map, drop, get_or, ap}
use Rattle.std.specs.Prelude.{String, string_bytes}
use Rattle.std.specs.declared.alloc.Global.{Global}

pub second : (words : List (String Global)) (d : String Global) (a b c : List ℕ) → map string_bytes words ≡ a ∷ b ∷ c ∷ [] → string_bytes (get_or words 1 d) ≡ b
second [] d a b c h = absurd cc
second (x ∷ []) d a b c h = absurd (let short : [] ≡ b ∷ c ∷ [] = ap (λ (l : List (List ℕ)). drop 1 l) h in cc)
second (x ∷ y ∷ words) d a b c h = ap (λ (l : List (List ℕ)). get_or l 1 []) h

pub third : (words : List (String Global)) (d : String Global) (a b c : List ℕ) → map string_bytes words ≡ a ∷ b ∷ c ∷ [] → string_bytes (get_or words 2 d) ≡ c
third [] d a b c h = absurd cc
third (x ∷ []) d a b c h = absurd (let short : [] ≡ b ∷ c ∷ [] = ap (λ (l : List (List ℕ)). drop 1 l) h in cc)
third (x ∷ y ∷ []) d a b c h = absurd (let short : [] ≡ c ∷ [] = ap (λ (l : List (List ℕ)). drop 2 l) h in cc)
third (x ∷ y ∷ z ∷ words) d a b c h = ap (λ (l : List (List ℕ)). get_or l 2 []) h

pub first : (words : List (String Global)) (d : String Global) (a b c : List ℕ) → map string_bytes words ≡ a ∷ b ∷ c ∷ [] → string_bytes (get_or words 0 d) ≡ a
first [] d a b c h = absurd cc
first (x ∷ words) d a b c h = ap (λ (l : List (List ℕ)). get_or l 0 []) h
