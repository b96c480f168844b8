-- Entries that are right in one way are right in a weaker one.
use Rattle.std.proofs.Common.{List, [], ◌∷◌, ◌++◌, ℕ, inl, inr}
use Rattle.std.specs.declared.option.Option.{Option}
use Rattle.session_core.specs.declared.end.End.{End}
use Rattle.session_core.specs.declared.end.End.TheVariants.{Read, Bad, Cut, ReadFault, WriteFault, Quota}
use Rattle.session_core.specs.Ends.{Ends}
use Rattle.session_core.specs.Answers.{Answered, service}
use Rattle.session_core.specs.Session.{IsHeld}

ends-weaker : (Right Right' : List Answered → Type 0) (max : ℕ) (end : End) (taken : List ℕ) (left : Option (List ℕ)) (text : List ℕ) → ((es : List Answered) → Right es → Right' es)
    → Ends service Right max end taken left text → Ends service Right' max end taken left text
ends-weaker Right Right' max (Read frames) taken left text weaker (rs, es, script, end, answers, right, less, frames_are, text_is) = (rs, es, script, end, answers, weaker es right, less, frames_are, text_is)
ends-weaker Right Right' max (Cut offset) taken left text weaker (rs, es, part, script, some, end, answers, right, less, offset_is, text_is) = (rs, es, part, script, some, end, answers, weaker es right, less, offset_is, text_is)
ends-weaker Right Right' max (Bad offset why) taken left text weaker (rs, es, bad, answers, right, less, text_is) = (rs, es, bad, answers, weaker es right, less, text_is)
ends-weaker Right Right' max (ReadFault count) taken left text weaker (rs, es, part, script, answers, right, less, text_is) = (rs, es, part, script, answers, weaker es right, less, text_is)
ends-weaker Right Right' max (WriteFault count) taken left text weaker (inl (rs, es, e, begins, answers, right, less, stops)) = inl (rs, es, e, begins, answers, weaker (es ++ e ∷ []) right, less, stops)
ends-weaker Right Right' max (WriteFault count) taken left text weaker (inr (rs, es, offset, why, bad, answers, right, less, stops)) = inr (rs, es, offset, why, bad, answers, weaker es right, less, stops)
ends-weaker Right Right' max (Quota frames) taken left text weaker (rs, es, begins, answers, right, full, frames_are, text_is) = (rs, es, begins, answers, weaker es right, full, frames_are, text_is)

pub held-weaker : (Right Right' : List Answered → Type 0) (max : ℕ) (end : End) (left_before left_now out_before out_now : Option (List ℕ)) → ((es : List Answered) → Right es → Right' es)
    → IsHeld Right max end left_before left_now out_before out_now → IsHeld Right' max end left_before left_now out_before out_now
held-weaker Right Right' max end left_before left_now out_before out_now weaker (taken, text, took, wrote, ends) =
    (taken, text, took, wrote, ends-weaker Right Right' max end taken left_now text weaker ends)
