-- Pieces of a line.
use Rattle.std.proofs.Common.{◌≡◌, ℕ, List, [], ◌++◌, ap, ◌∙◌}

-- five pieces
pub pieces_5 : (n0 n1 n2 n3 n4 n5 a b c d e : List ℕ) → n0 ≡ [] → n1 ≡ n0 ++ a → n2 ≡ n1 ++ b → n3 ≡ n2 ++ c → n4 ≡ n3 ++ d → n5 ≡ n4 ++ e
    → n5 ≡ a ++ b ++ c ++ d ++ e
pieces_5 n0 n1 n2 n3 n4 n5 a b c d e e0 e1 e2 e3 e4 e5 =
    e5 ∙ ap (λ (x : List ℕ). x ++ e) (e4 ∙ ap (λ (x : List ℕ). x ++ d) (e3 ∙ ap (λ (x : List ℕ). x ++ c) (e2 ∙ ap (λ (x : List ℕ). x ++ b) (e1 ∙ ap (λ (x : List ℕ). x ++ a) e0))))
