-- The update by whether there is provided data, and gathered bytes by one more block.
use Rattle.std.proofs.Common.{◌≡◌, ◌<◌, ℕ, ◌+◌, ◌∷◌, List, [], ◌++◌, length, arith, refl, add-one}
use Rattle.hmac_core.specs.declared.hash.Hash.{Hash}
use Rattle.hmac_core.specs.Hmac.{hmac}
use Rattle.hmac_drbg.specs.HmacDrbg.{Working, update, half_update, turned, gathered, with_additional}

pub update-none : (h : Hash) (provided : List ℕ) (s : Working) → length provided ≡ 0 →
    update h provided s ≡ half_update h 0 provided s
unfolding update
update-none h [] s none = refl
update-none h (b ∷ provided) s none = absurd (omega arith)

pub update-some : (h : Hash) (provided : List ℕ) (s : Working) → 0 < length provided →
    update h provided s ≡ half_update h 1 provided (half_update h 0 provided s)
unfolding update
update-some h [] s some = absurd (omega arith)
update-some h (b ∷ provided) s some = refl

pub with_additional-none : (h : Hash) (additional : List ℕ) (s : Working) → length additional ≡ 0 → with_additional h additional s ≡ s
with_additional-none h [] s none = refl
with_additional-none h (b ∷ additional) s none = absurd (omega arith)

pub with_additional-some : (h : Hash) (additional : List ℕ) (s : Working) → 0 < length additional →
    with_additional h additional s ≡ update h additional s
with_additional-some h [] s some = absurd (omega arith)
with_additional-some h (b ∷ additional) s some = refl

pub turned-none : (h : Hash) (key value : List ℕ) → turned h key value 0 ≡ value
unfolding turned
turned-none h key value = refl

pub turned-more : (h : Hash) (key value : List ℕ) (n : ℕ) → turned h key value (n + 1) ≡ hmac h key (turned h key value n)
unfolding turned
turned-more h key value n = rw (add-one n) refl

pub gathered-none : (h : Hash) (key value : List ℕ) → gathered h key value 0 ≡ []
unfolding gathered
gathered-none h key value = refl

pub gathered-more : (h : Hash) (key value : List ℕ) (n : ℕ) →
    gathered h key value (n + 1) ≡ gathered h key value n ++ hmac h key (turned h key value n)
unfolding gathered turned
gathered-more h key value n = rw (add-one n) refl
