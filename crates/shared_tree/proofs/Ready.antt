-- Passes that are ready stay ready where each is the tree's again and none changes its opening.
use Rattle.std.proofs.Common.{◌≡◌, ◌<◌, ℕ, List, [], ◌∷◌, length, take, drop, ◌++◌, refl, sym, ap, ◌∙◌, subst, arith}
use Rattle.std.specs.Prelude.{All, slice_index_or}
use Rattle.turn_table.specs.Passes.{Standing, opening_of}
use Rattle.shared_tree.specs.Passes.{SharedView, AreReady, IsPassOf}

first_opening : (ps : List Standing) (d : Standing) → 0 < length ps → opening_of ps ≡ (slice_index_or ps 0 d).view.opening
first_opening [] d h = absurd (omega arith)
first_opening (p ∷ ps) d h = refl

pub passes_of : (t : SharedView) (ps : List Standing) → AreReady t ps → All (λ (p : Standing). IsPassOf t p) ps
passes_of t ps ready k d inside = (ready k d inside).0

pub ready_on : (t : SharedView) (old new : List Standing) → AreReady t old → All (λ (p : Standing). IsPassOf t p) new
    → ((i : ℕ) (d : Standing) → i < length old → (slice_index_or new i d).view.opening ≡ (slice_index_or old i d).view.opening) → length new ≡ length old → AreReady t new
ready_on t old new ready all same count k d inside =
    let there : k < length old = subst (λ (n : ℕ). k < n) count inside in
    let some_old : 0 < length old = omega (arith, there) in
    let some_new : 0 < length new = omega (arith, inside) in
    (all k d inside, same k d there ∙ ((ready k d there).1 ∙ (first_opening old d some_old ∙ (sym (same 0 d some_old) ∙ sym (first_opening new d some_new)))))

take_front : (xs rest : List Standing) → take (length xs) (xs ++ rest) ≡ xs
take_front [] rest = refl
take_front (x ∷ xs) rest = ap (λ (l : List Standing). x ∷ l) (take_front xs rest)

-- passes that were lent as a slice, all of them, and came back ready
pub ready_back : (t : SharedView) (n : ℕ) (new old : List Standing) → n ≡ length new → AreReady t new → AreReady t (take n (new ++ drop (length new) old))
ready_back t n new old same ready =
    let whole : take n (new ++ drop (length new) old) ≡ new = ap (λ (k : ℕ). take k (new ++ drop (length new) old)) same ∙ take_front new (drop (length new) old) in
    subst (λ (ps : List Standing). AreReady t ps) (sym whole) ready
