use Rattle.std.proofs.Common.{◌≡◌, ℕ, Some, None, refl, sym, ◌∙◌, ap, arith}
use Rattle.std.specs.Prelude.{Option, unwrap_or, string_bytes}
use Rattle.shared_bench.proofs.Three.{first, second, third}
use Rattle.shared_bench.proofs.job.read_job.Goals as goal

pub returns-in_err-callers-clause-read : goal.returns-in_err-callers-clause-read
returns-in_err-callers-clause-read c callers bytes times words most few many some much =
    let word = ap string_bytes c.callers-item.is ∙ first c.args.words.now c.callers-item.result _ _ _ words in
    let read = c.number.ensures.read callers (omega arith) most (c.as_str.ensures.value ∙ word) in
    absurd (let no : None ≡ Some callers = sym c.in_err-callers.was ∙ read in cc)

pub returns-in_err-bytes-clause-read : goal.returns-in_err-bytes-clause-read
returns-in_err-bytes-clause-read c callers bytes times words most few many some much =
    let word = ap string_bytes c.bytes-item.is ∙ second c.args.words.now c.bytes-item.result _ _ _ words in
    let read = c.number-2.ensures.read bytes few many (c.as_str-2.ensures.value ∙ word) in
    absurd (let no : None ≡ Some bytes = sym c.in_err-bytes.was ∙ read in cc)

pub returns-in_err-times-clause-read : goal.returns-in_err-times-clause-read
returns-in_err-times-clause-read c callers bytes times words most few many some much =
    let word = ap string_bytes c.times-item.is ∙ third c.args.words.now c.times-item.result _ _ _ words in
    let read = c.number-3.ensures.read times some much (c.as_str-3.ensures.value ∙ word) in
    absurd (let no : None ≡ Some times = sym c.in_err-times.was ∙ read in cc)

pub returns-clause-read : goal.returns-clause-read
returns-clause-read c callers bytes times words most few many some much =
    let callers_word = ap string_bytes c.callers-item.is ∙ first c.args.words.now c.callers-item.result _ _ _ words in
    let callers_read = c.number.ensures.read callers (omega arith) most (c.as_str.ensures.value ∙ callers_word) in
    let bytes_word = ap string_bytes c.bytes-item.is ∙ second c.args.words.now c.bytes-item.result _ _ _ words in
    let bytes_read = c.number-2.ensures.read bytes few many (c.as_str-2.ensures.value ∙ bytes_word) in
    let times_word = ap string_bytes c.times-item.is ∙ third c.args.words.now c.times-item.result _ _ _ words in
    let times_read = c.number-3.ensures.read times some much (c.as_str-3.ensures.value ∙ times_word) in
    let same_callers : c.in_ok-callers.callers ≡ callers = ap (λ (o : Option ℕ). unwrap_or o 0) (sym c.in_ok-callers.was ∙ callers_read) in
    let same_bytes : c.in_ok-bytes.bytes ≡ bytes = ap (λ (o : Option ℕ). unwrap_or o 0) (sym c.in_ok-bytes.was ∙ bytes_read) in
    let same_times : c.in_ok-times.times ≡ times = ap (λ (o : Option ℕ). unwrap_or o 0) (sym c.in_ok-times.was ∙ times_read) in
    rw (same_callers, same_bytes, same_times) refl
