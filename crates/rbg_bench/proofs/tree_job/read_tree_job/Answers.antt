use Rattle.std.proofs.Common.{ap, ◌∙◌, ◌∷◌, [], sym}
use Rattle.std.specs.Prelude.{string_bytes}
use Rattle.rbg_bench.proofs.Asking.{three, four, three_draws, four_calls, as_strs}
use Rattle.rbg_bench.proofs.tree_job.read_tree_job.Goals as goal

pub returns-in-len3-clause-refused : goal.returns-in-len3-clause-refused
returns-in-len3-clause-refused c =
    let y = c.bytes-item.result in
    let z = c.times-item.result in
    let words = three c.args.words.now c.name-item.result y z c.in-len3.len_at_least c.in-len3.len_below c.name-item.is c.bytes-item.is c.times-item.is in
    three_draws _ _ _ _ c.draws.result
    (words
    ∙ (ap (λ v. v ∷ string_bytes y ∷ string_bytes z ∷ []) (sym c.as_str.ensures.value)
    ∙ (ap (λ v. c.as_str.result.now ∷ v ∷ string_bytes z ∷ []) (sym c.as_str-in-len3.ensures.value)
    ∙ ap (λ v. c.as_str.result.now ∷ c.as_str-in-len3.result.now ∷ v ∷ []) (sym c.as_str-in-len3-2.ensures.value))))
    c.draws.ensures.refused

pub returns-in-len4-clause-refused : goal.returns-in-len4-clause-refused
returns-in-len4-clause-refused c =
    let words = four c.args.words.now c.name-item-then-words-lt5.result c.node-item.result c.bytes-item-then-words-lt5.result c.times-item-then-words-lt5.result
    c.in-len4.len_at_least c.in-len4.len_below c.name-item-then-words-lt5.is c.node-item.is c.bytes-item-then-words-lt5.is c.times-item-then-words-lt5.is in
    four_calls _ _ _ _ _ c.calls.result
    (words ∙ as_strs _ _ _ _ _ _ _ _ (sym c.as_str-in-len4.ensures.value) (sym c.as_str-in-len4-2.ensures.value) (sym c.as_str-in-len4-3.ensures.value) (sym c.as_str-in-len4-4.ensures.value))
    c.calls.ensures.refused
