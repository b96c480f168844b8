use Rattle.std.proofs.Common.{◌≡◌, length}
use Rattle.rbg_talk.specs.Lines.{words_in}
use Rattle.rbg_talk.specs.Calls.{no_options, with_options}
use Rattle.rbg_talk.specs.Parsed.{AreAllowed, options_of}
use Rattle.rbg_talk.proofs.call.Options.read.Given as goal

abbrev pub invariant-options : goal.invariant-options
invariant-options l =
    (with_options l.fn.operation (options_of l.found l.buffer) (words_in l.rest) ≡ with_options l.fn.operation no_options (words_in l.fn.text)) × AreAllowed l.fn.operation l.found

abbrev pub decreases-options : goal.decreases-options
decreases-options l = length l.rest
