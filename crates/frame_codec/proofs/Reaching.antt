-- Spans that a number reaches, one after another.
use Rattle.std.proofs.Common.{◌≡◌, ◌≤◌, ◌<◌, inl, inr, ℕ, suc, zero, ◌+◌, ◌*◌, ◌/◌, ◌^◌, ◌∷◌, List, [], length, drop, get_or, arith}
use Rattle.frame_codec.specs.declared.table.Span.{Span}
use Rattle.frame_codec.specs.Rows.{Reaches}

pub found : (spans : List Span) (i : ℕ) (d : Span) (left n : ℕ) → i < length spans → (get_or spans i d).low / 2 ^ (8 * left) ≤ n →
    n ≤ (get_or spans i d).high / 2 ^ (8 * left) → Reaches spans left n
found [] i d left n less low high = absurd (omega (arith, less))
found (s ∷ spans) zero d left n less low high = inl (low, high)
found (s ∷ spans) (suc i) d left n less low high = inr (found spans i d left n (omega (arith, less)) low high)

pub passed : (spans : List Span) (i : ℕ) (d : Span) (left n : ℕ) → i < length spans →
    ((get_or spans i d).low / 2 ^ (8 * left) ≤ n → n ≤ (get_or spans i d).high / 2 ^ (8 * left) → ⊥) →
    Reaches (drop i spans) left n → Reaches (drop (i + 1) spans) left n
passed [] i d left n less miss reach = absurd (omega (arith, less))
passed (s ∷ spans) zero d left n less miss (inl hit) = absurd (miss hit.0 hit.1)
passed (s ∷ spans) zero d left n less miss (inr reach) = reach
passed (s ∷ spans) (suc i) d left n less miss reach =
    let e : suc i + 1 ≡ suc (i + 1) = omega arith in
    rw e (passed spans i d left n (omega (arith, less)) miss reach)
