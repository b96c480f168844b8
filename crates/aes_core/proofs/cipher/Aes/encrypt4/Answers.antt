use Rattle.std.proofs.Common.{◌≡◌, ◌+◌, ◌-◌, ◌*◌, List, ℕ, ap, sym, ◌∙◌, arith, refl}
use Rattle.aes_core.specs.Aes.{add_round_key, aes, after_rounds, expanded, mix_columns, shift_rows, sub_bytes}
use Rattle.aes_core.specs.Code.Blocks.{each_block}
use Rattle.aes_core.proofs.Expansion.{after_rounds-none, last_round, length-after, round_key_is, round_more}
use Rattle.aes_core.proofs.Lengths.{length-aes}
use Rattle.aes_core.proofs.Rows.{each_of_alike, each_of_each, each_parted}
use Rattle.aes_core.proofs.cipher.Aes.encrypt4.Goals as goal

pub rounds-init : goal.rounds-init
rounds-init c =
    let keys = c.self.inside.keys in
    let w = expanded c.args.self.now in
    let held = c.self.invariant.bytes ∙ ap expanded c.self.view_is in
    c.joined-s.ensures
    ∙ rw (c.with_first_key.ensures, c.with_first_key-2.ensures, c.with_first_key-3.ensures, c.with_first_key-4.ensures)
    (each_of_alike (add_round_key keys 0) (λ b. after_rounds w b 0) c.args.blocks.now
    (λ b. round_key_is keys w b (16 * (c.self.inside.rounds + 1)) 0 (omega arith) held ∙ sym (after_rounds-none w b)))

pub rounds-preserved : goal.rounds-preserved
rounds-preserved c =
    let keys = c.self.inside.keys in
    let n = c.rounds.n in
    let w = expanded c.args.self.now in
    let held = c.self.invariant.bytes ∙ ap expanded c.self.view_is in
    let f : List ℕ → List ℕ = λ b. add_round_key c.self.inside.keys c.rounds.n (mix_columns (shift_rows (sub_bytes b))) in
    let g : List ℕ → List ℕ = λ b. after_rounds (expanded c.args.self.now) b (c.rounds.n - 1) in
    c.round-s.ensures
    ∙ (ap (each_block f) c.rounds.invariant
    ∙ (each_of_each f g c.args.blocks.now (λ b. length-after w b (n - 1))
    ∙ each_of_alike (λ b. f (g b)) (λ b. after_rounds w b (n + 1 - 1)) c.args.blocks.now
    (λ b. round_more keys w b (g b) (f (g b)) (16 * (c.self.inside.rounds + 1)) n c.rounds.auto.n (omega arith) held refl refl)))

pub returns-clause-value : goal.returns-clause-value
returns-clause-value c =
    let keys = c.self.inside.keys in
    let key = c.args.self.now in
    let n = c.rounds.n in
    let end : c.rounds.n ≡ c.self.inside.rounds = omega (arith, c.rounds.auto.n-end) in
    let f : List ℕ → List ℕ = λ b. add_round_key c.self.inside.keys c.self.inside.rounds (shift_rows (sub_bytes b)) in
    let g : List ℕ → List ℕ = λ b. after_rounds (expanded c.args.self.now) b (c.rounds.n - 1) in
    let is : c.last_round.result ≡ _ = c.last_round.ensures
    ∙ (ap (each_block f) c.rounds.invariant
    ∙ (each_of_each f g c.args.blocks.now (λ b. length-after (expanded key) b (n - 1))
    ∙ each_of_alike (λ b. f (g b)) (aes key) c.args.blocks.now
    (λ b. last_round keys key b (g b) (f (g b)) c.self.inside.rounds n c.self.invariant c.self.view_is end refl refl))) in
    c.parted.ensures ∙ each_parted (aes key) c.args.blocks.now c.last_round.result c.told-blocks (length-aes key) is
