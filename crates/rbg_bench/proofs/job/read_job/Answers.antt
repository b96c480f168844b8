use Rattle.std.proofs.Common.{ap, ◌∙◌, ◌∷◌, [], sym}
use Rattle.std.specs.Prelude.{string_bytes}
use Rattle.rbg_bench.proofs.Asking.{two, three, four, two_refused, three_refused, four_refused, as_strs}
use Rattle.rbg_bench.proofs.job.read_job.Goals as goal

pub returns-in-len2-clause-refused : goal.returns-in-len2-clause-refused
returns-in-len2-clause-refused c =
    let a = c.as_str.result.now in
    let b = c.as_str-in-len2.result.now in
    let words = two c.args.words.now c.name-item.result c.times-item.result c.in-len2.len_at_least c.in-len2.len_below c.name-item.is c.times-item.is in
    two_refused _ a b c.repeats.result
    (words ∙ (ap (λ v. v ∷ string_bytes c.times-item.result ∷ []) (sym c.as_str.ensures.value) ∙ ap (λ v. a ∷ v ∷ []) (sym c.as_str-in-len2.ensures.value)))
    c.repeats.ensures.refused

pub returns-in-None-clause-refused : goal.returns-in-None-clause-refused
returns-in-None-clause-refused c =
    let x = c.name-item-then-words-lt4.result in
    let y = c.size-item.result in
    let z = c.times-item-then-words-lt4.result in
    let a = c.as_str-name_text.result.now in
    let b = c.as_str-size_text.result.now in
    let words =
    three c.args.words.now x y z c.in-len3.len_at_least c.in-len3.len_below c.name-item-then-words-lt4.is c.size-item.is c.times-item-then-words-lt4.is in
    three_refused _ a b c.as_str-times_text.result.now c.tests.result
    (words
    ∙ (ap (λ v. v ∷ string_bytes y ∷ string_bytes z ∷ []) (sym c.as_str-name_text.ensures.value)
    ∙ (ap (λ v. a ∷ v ∷ string_bytes z ∷ []) (sym c.as_str-size_text.ensures.value)
    ∙ ap (λ v. a ∷ b ∷ v ∷ []) (sym c.as_str-times_text.ensures.value))))
    c.in-None.ensures.refused c.tests.ensures.refused

pub returns-in-len4-clause-refused : goal.returns-in-len4-clause-refused
returns-in-len4-clause-refused c =
    let x = c.first-item.result in
    let y = c.name-item-then-words-lt5.result in
    let z = c.size-item-then-words-lt5.result in
    let w = c.times-item-then-words-lt5.result in
    let words = four c.args.words.now x y z w c.in-len4.len_at_least c.in-len4.len_below c.first-item.is c.name-item-then-words-lt5.is c.size-item-then-words-lt5.is c.times-item-then-words-lt5.is in
    four_refused _ _ _ _ _ c.reseeds.result
    (words ∙ as_strs _ _ _ _ _ _ _ _ (sym c.as_str-in-len4.ensures.value) (sym c.as_str-in-len4-2.ensures.value) (sym c.as_str-in-len4-3.ensures.value) (sym c.as_str-in-len4-4.ensures.value))
    c.reseeds.ensures.refused
