use Rattle.std.proofs.Common.{◌≡◌, ◌+◌, ◌*◌, List, ℕ, ap, ◌∙◌, arith, refl}
use Rattle.aes_core.specs.Aes.{add_round_key, expanded, mix_columns, shift_rows, sub_bytes}
use Rattle.aes_core.proofs.Expansion.{after_rounds-none, last_round, round_key_is, round_more}
use Rattle.aes_core.proofs.Rows.{first_is}
use Rattle.aes_core.proofs.cipher.Aes.encrypt.Goals as goal

pub rounds-init : goal.rounds-init
rounds-init c =
    let r = c.self.inside.rounds in
    let held = c.self.invariant.bytes ∙ ap expanded c.self.view_is in
    rw (after_rounds-none (expanded c.args.self.now) c.args.block.now)
    (c.with_first_key-s.ensures ∙ round_key_is c.self.inside.keys (expanded c.args.self.now) c.args.block.now (16 * (r + 1)) 0 (omega arith) held)

pub rounds-preserved : goal.rounds-preserved
unfolding add_round_key
rounds-preserved c =
    let keys = c.self.inside.keys in
    let r = c.self.inside.rounds in
    let n = c.rounds.n in
    let held = c.self.invariant.bytes ∙ ap expanded c.self.view_is in
    let f : List ℕ → List ℕ = λ b. add_round_key c.self.inside.keys c.rounds.n (mix_columns (shift_rows (sub_bytes b))) in
    let is = first_is f c.rounds.s _ _ _ c.first-s.ensures c.round.ensures c.four_times.ensures c.rounds.auto.s.0 refl in
    round_more keys (expanded c.args.self.now) c.args.block.now c.rounds.s c.first-s.result (16 * (r + 1)) n c.rounds.auto.n (omega arith) held c.rounds.invariant is

pub returns-clause-value : goal.returns-clause-value
unfolding add_round_key
returns-clause-value c =
    let keys = c.self.inside.keys in
    let r = c.self.inside.rounds in
    let end : c.rounds.n ≡ c.self.inside.rounds = omega (arith, c.rounds.auto.n-end) in
    let f : List ℕ → List ℕ = λ b. add_round_key c.self.inside.keys c.self.inside.rounds (shift_rows (sub_bytes b)) in
    let is = first_is f c.rounds.s _ _ _ c.first.ensures c.last_round.ensures c.four_times-2.ensures c.rounds.auto.s.0 refl in
    last_round keys c.args.self.now c.args.block.now c.rounds.s c.first.result r c.rounds.n c.self.invariant c.self.view_is end c.rounds.invariant is
