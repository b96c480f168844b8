-- What is held, and what isn't.
use Rattle.std.proofs.Common.{◌≡◌, refl, sym, subst, inl, inr, true≢false, ◌⊎◌}
use Rattle.std.specs.Prelude.{Option, Some, None, IsSome}

pub some_or : {A : Type 0} (o : Option A) → (o ≡ None) ⊎ ((x : A) × (o ≡ Some x))
some_or None = inl refl
some_or (Some x) = inr (x, refl)

pub none_isnt : {A : Type 0} (o : Option A) → o ≡ None → IsSome o → ⊥
none_isnt {A} o e is = true≢false (sym (subst (λ (x : Option A). IsSome x) e is))

pub is_some_of : {A : Type 0} (o : Option A) (x : A) → o ≡ Some x → IsSome o
is_some_of {A} o x e = subst (λ (z : Option A). IsSome z) (sym e) refl

pub none_of : {A : Type 0} (o : Option A) → (IsSome o → ⊥) → o ≡ None
none_of None no_one = refl
none_of (Some x) no_one = absurd (no_one refl)
