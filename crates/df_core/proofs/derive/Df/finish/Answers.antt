use Rattle.std.proofs.Common.{◌≡◌, ◌<◌, ◌≤◌, ◌+◌, ◌∙◌, ℕ, ap, length, take, rules, refl}
use Rattle.df_core.specs.Df.{blocks_for, df}
use Rattle.df_core.proofs.Ending.{finished}
use Rattle.df_core.proofs.derive.Df.finish.Goals as goal

pub returns : goal.returns
unfolding df
returns c = λ keylen total want input h all.
    let self = c.args.self in
    let n : c.passes-passes.result ≡ blocks_for (keylen + 16) = c.passes-passes.ensures.passes ∙ ap (λ (k : ℕ). blocks_for (k + 16)) h.key in
    let few : c.args.self.fill < 16 = search rules in
    let long : length (take c.args.self.fill c.args.self.buf) ≡ c.args.self.fill = c.last_block.ensures.front in
    let room : c.passes-passes.result ≤ length c.absorbed.new.chains = search rules in
    let end = finished input (take self.fill self.buf) c.joined-temp.result c.last_block.result self.aes self.chains c.absorbed.new.chains h.cut.0
    keylen total want self.fill c.passes-passes.result all h.cut.1 long few h.cipher n room (rw n h.cut.2) c.last_block.ensures.bytes c.absorbed.ensures c.joined-temp.ensures.front in
    let size = c.bytes-end.ensures ∙ h.key in
    rw (c.output.ensures, c.block_at.ensures, c.in-Ok.ensures.key, size, h.wanted, end.0, end.1) refl
