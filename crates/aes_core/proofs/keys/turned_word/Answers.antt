use Rattle.std.proofs.Common.{◌≡◌, ℕ, ◌<◌, ◌-◌, ◌*◌, ◌/◌, ◌%◌, ap, ◌∙◌, arith, refl}
use Rattle.std.proofs.lemmas.Nat.{div_below}
use Rattle.aes_core.proofs.Bytes.{RCON_is}
use Rattle.aes_core.proofs.keys.turned_word.Goals as goal

pub returns-then-i-turns : goal.returns-then-i-turns
returns-then-i-turns c =
    let i = c.args.i in
    let words = c.args.words in
    let is : c.whole_keys-turns.result ≡ c.args.i / c.args.words = c.whole_keys-turns.ensures in
    let product : c.args.i ≡ c.args.i / c.args.words * c.args.words = c.if-i-turns.true ∙ ap (λ (n : ℕ). n * words) is in
    let zero : c.args.i % c.args.words ≡ 0 = omega (arith, c.requires.words.low) in
    let rows : c.args.i / c.args.words < 11 = div_below i words 11 (omega (arith, c.requires.words.low)) (omega arith) in
    let below : c.args.i / c.args.words - 1 < 10 = omega arith in
    rw (zero, c.xor_words.ensures, c.sub_word.ensures, c.rotated.ensures, is, RCON_is (i / words - 1) below) refl
