-- One more generate.
use Rattle.std.proofs.Common.{◌≡◌, ℕ, ◌+◌, List, [], ◌++◌, refl, sym, ap, ◌∙◌, add-one}
use Rattle.rbg_bench.specs.Outputs.{State, generated, after_generate, after_reseed, state_after, outputs, state_after_reseeds, reseeded_outputs}

pub state_after-none : (n : ℕ) (s : State) → state_after n 0 s ≡ s
unfolding state_after
state_after-none n s = refl

pub state_after-more : (n times : ℕ) (s : State) → state_after n (times + 1) s ≡ after_generate n (state_after n times s)
unfolding state_after
state_after-more n times s = rw (add-one times) refl

pub outputs-none : (n : ℕ) (s : State) → outputs n 0 s ≡ []
unfolding outputs
outputs-none n s = refl

pub outputs-more : (n times : ℕ) (s : State) → outputs n (times + 1) s ≡ outputs n times s ++ generated n (state_after n times s)
unfolding outputs
outputs-more n times s = rw (add-one times) refl

-- the state and the bytes after one more generate
pub state_step : (m n times : ℕ) (s now after : State) → m ≡ n → now ≡ state_after n times s →
    after ≡ after_generate n now → after ≡ state_after m (times + 1) s
state_step m n times s now after len so_far step =
    rw (len, state_after-more n times s) (step ∙ ap (λ (x : State). after_generate n x) so_far)

pub outputs_step : (m n times : ℕ) (s now : State) (bytes : List ℕ) → m ≡ n → now ≡ state_after n times s →
    bytes ≡ generated n now → outputs m (times + 1) s ≡ outputs n times s ++ bytes
outputs_step m n times s now bytes len so_far step =
    let same : bytes ≡ generated n (state_after n times s) = step ∙ ap (λ (x : State). generated n x) so_far in
    rw (len, outputs-more n times s) (ap (λ (x : List ℕ). outputs n times s ++ x) (sym same))

pub state_after_reseeds-none : (n : ℕ) (s : State) → state_after_reseeds n 0 s ≡ s
unfolding state_after_reseeds
state_after_reseeds-none n s = refl

pub state_after_reseeds-more : (n times : ℕ) (s : State) → state_after_reseeds n (times + 1) s ≡ after_generate n (after_reseed (state_after_reseeds n times s))
unfolding state_after_reseeds
state_after_reseeds-more n times s = rw (add-one times) refl

pub reseeded_outputs-none : (n : ℕ) (s : State) → reseeded_outputs n 0 s ≡ []
unfolding reseeded_outputs
reseeded_outputs-none n s = refl

pub reseeded_outputs-more : (n times : ℕ) (s : State) → reseeded_outputs n (times + 1) s ≡ reseeded_outputs n times s ++ generated n (after_reseed (state_after_reseeds n times s))
unfolding reseeded_outputs
reseeded_outputs-more n times s = rw (add-one times) refl

-- the state and the bytes after one more generate behind a reseed
pub reseed_step : (m n times : ℕ) (s now fresh after : State) → m ≡ n → now ≡ state_after_reseeds n times s → fresh ≡ after_reseed now →
    after ≡ after_generate n fresh → after ≡ state_after_reseeds m (times + 1) s
reseed_step m n times s now fresh after len so_far by step =
    rw (len, state_after_reseeds-more n times s) (step ∙ ap (λ (x : State). after_generate n x) (by ∙ ap (λ (x : State). after_reseed x) so_far))

pub reseeded_step : (m n times : ℕ) (s now fresh : State) (bytes : List ℕ) → m ≡ n → now ≡ state_after_reseeds n times s → fresh ≡ after_reseed now →
    bytes ≡ generated n fresh → reseeded_outputs m (times + 1) s ≡ reseeded_outputs n times s ++ bytes
reseeded_step m n times s now fresh bytes len so_far by step =
    let same : bytes ≡ generated n (after_reseed (state_after_reseeds n times s)) = step ∙ ap (λ (x : State). generated n x) (by ∙ ap (λ (x : State). after_reseed x) so_far) in
    rw (len, reseeded_outputs-more n times s) (ap (λ (x : List ℕ). reseeded_outputs n times s ++ x) (sym same))
