use Rattle.std.proofs.Common.{◌≡◌, ℕ, Some, None, refl, sym, ◌∙◌, ap, arith}
use Rattle.std.specs.Prelude.{Option, unwrap_or, string_bytes}
use Rattle.turn_bench.proofs.Three.{first, second, third}
use Rattle.turn_bench.proofs.job.read_job.Goals as goal

pub returns-in_err-callers-clause-read : goal.returns-in_err-callers-clause-read
returns-in_err-callers-clause-read c callers times rounds words least most few many much =
    let word = ap string_bytes c.callers-item.is ∙ first c.args.words.now c.callers-item.result _ _ _ words in
    let read = c.number.ensures.read callers least most (c.as_str.ensures.value ∙ word) in
    absurd (let no : None ≡ Some callers = sym c.in_err-callers.was ∙ read in cc)

pub returns-in_err-times-clause-read : goal.returns-in_err-times-clause-read
returns-in_err-times-clause-read c callers times rounds words least most few many much =
    let word = ap string_bytes c.times-item.is ∙ second c.args.words.now c.times-item.result _ _ _ words in
    let read = c.number-2.ensures.read times few many (c.as_str-2.ensures.value ∙ word) in
    absurd (let no : None ≡ Some times = sym c.in_err-times.was ∙ read in cc)

pub returns-in_err-rounds-clause-read : goal.returns-in_err-rounds-clause-read
returns-in_err-rounds-clause-read c callers times rounds words least most few many much =
    let word = ap string_bytes c.rounds-item.is ∙ third c.args.words.now c.rounds-item.result _ _ _ words in
    let read = c.number-3.ensures.read rounds (omega arith) much (c.as_str-3.ensures.value ∙ word) in
    absurd (let no : None ≡ Some rounds = sym c.in_err-rounds.was ∙ read in cc)

pub returns-clause-read : goal.returns-clause-read
returns-clause-read c callers times rounds words least most few many much =
    let callers_word = ap string_bytes c.callers-item.is ∙ first c.args.words.now c.callers-item.result _ _ _ words in
    let callers_read = c.number.ensures.read callers least most (c.as_str.ensures.value ∙ callers_word) in
    let times_word = ap string_bytes c.times-item.is ∙ second c.args.words.now c.times-item.result _ _ _ words in
    let times_read = c.number-2.ensures.read times few many (c.as_str-2.ensures.value ∙ times_word) in
    let rounds_word = ap string_bytes c.rounds-item.is ∙ third c.args.words.now c.rounds-item.result _ _ _ words in
    let rounds_read = c.number-3.ensures.read rounds (omega arith) much (c.as_str-3.ensures.value ∙ rounds_word) in
    let same_callers : c.in_ok-callers.callers ≡ callers = ap (λ (o : Option ℕ). unwrap_or o 0) (sym c.in_ok-callers.was ∙ callers_read) in
    let same_times : c.in_ok-times.times ≡ times = ap (λ (o : Option ℕ). unwrap_or o 0) (sym c.in_ok-times.was ∙ times_read) in
    let same_rounds : c.in_ok-rounds.rounds ≡ rounds = ap (λ (o : Option ℕ). unwrap_or o 0) (sym c.in_ok-rounds.was ∙ rounds_read) in
    rw (same_callers, same_times, same_rounds) refl
