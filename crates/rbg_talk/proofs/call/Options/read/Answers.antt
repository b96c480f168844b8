use Rattle.std.proofs.Common.{◌<◌, sym, refl, length, arith}
use Rattle.rbg_talk.specs.Lines.{words_in}
use Rattle.rbg_talk.specs.Calls.{no_options, with_options}
use Rattle.rbg_talk.specs.Parsed.{options_of}
use Rattle.rbg_talk.proofs.Optional.{option_goes, option_stops, options_end, some_length}
use Rattle.rbg_talk.proofs.call.Options.read.Goals as goal

pub options-init : goal.options-init
options-init c = (refl, record { pr = λ h. absurd cc; strength = λ h. absurd cc; string = λ h. absurd cc; len = tt })

pub returns-then-is_empty-clause-read : goal.returns-then-is_empty-clause-read
returns-then-is_empty-clause-read c =
    options_end c.args.operation (options_of c.options.found c.options.buffer) c.next_word.result.0.now (words_in c.options.rest.now) (words_in c.next_word.result.1.now)
    (with_options c.args.operation no_options (words_in c.args.text.now)) c.next_word.ensures.words (sym c.if-is_empty.ensures) c.options.invariant.0

pub returns-then-is_empty-clause-allowed : goal.returns-then-is_empty-clause-allowed
returns-then-is_empty-clause-allowed c = c.options.invariant.1

pub with_option-requires-clause-allowed : goal.with_option-requires-clause-allowed
with_option-requires-clause-allowed c = c.options.invariant.1

pub returns-in-Err-clause-read : goal.returns-in-Err-clause-read
returns-in-Err-clause-read c =
    option_stops c.args.operation (options_of c.options.found c.options.buffer) c.next_word.result.0.now c.next_word-in-options.result.0.now (words_in c.options.rest.now)
    (words_in c.next_word.result.1.now) (words_in c.next_word-in-options.result.1.now) (with_options c.args.operation no_options (words_in c.args.text.now)) c.in-Err.why
    c.next_word.ensures.words (sym c.if-is_empty.ensures) c.next_word-in-options.ensures.words c.in-Err.ensures.read c.options.invariant.0

pub options-smaller-then-is_word : goal.options-smaller-then-is_word
options-smaller-then-is_word c = c.next_word.ensures.shorter (some_length c.next_word.result.0.now (sym c.if-is_empty.ensures))

pub options-preserved-then-is_word : goal.options-preserved-then-is_word
options-preserved-then-is_word c = (
  option_goes c.args.operation (options_of c.options.found c.options.buffer) (options_of c.in-Ok.more c.with_option.new.buffer) c.next_word.result.0.now c.next_word-in-options.result.0.now
      (words_in c.options.rest.now) (words_in c.next_word.result.1.now) (words_in c.next_word-in-options.result.1.now) (with_options c.args.operation no_options (words_in c.args.text.now)) _
      c.next_word.ensures.words (sym c.if-is_empty.ensures) c.next_word-in-options.ensures.words c.next_word-in-options.ensures.none c.in-Ok.ensures.read (sym c.if-is_word.ensures) c.options.invariant.0,
  c.in-Ok.ensures.allowed,
)

pub options-smaller : goal.options-smaller
options-smaller c =
    let first : length c.next_word.result.1.now < length c.options.rest.now = c.next_word.ensures.shorter (some_length c.next_word.result.0.now (sym c.if-is_empty.ensures)) in
    omega (arith, first, c.next_word-in-options.ensures.bound)

pub options-preserved : goal.options-preserved
options-preserved c = (
  option_goes c.args.operation (options_of c.options.found c.options.buffer) (options_of c.in-Ok.more c.with_option.new.buffer) c.next_word.result.0.now c.next_word-in-options.result.0.now
      (words_in c.options.rest.now) (words_in c.next_word.result.1.now) (words_in c.next_word-in-options.result.1.now) (with_options c.args.operation no_options (words_in c.args.text.now)) _
      c.next_word.ensures.words (sym c.if-is_empty.ensures) c.next_word-in-options.ensures.words c.next_word-in-options.ensures.none c.in-Ok.ensures.read (sym c.if-is_word.ensures) c.options.invariant.0,
  c.in-Ok.ensures.allowed,
)
