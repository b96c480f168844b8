-- The replies to requests in a row, and to one request more.
use Rattle.std.proofs.Common.{◌≡◌, ◌∷◌, ◌∙◌, List, [], ◌++◌, sym, ap, subst, append_assoc}
use Rattle.std.proofs.lemmas.List.{map-append}
use Rattle.std.specs.List.{AllByRecursion}
use Rattle.frame_codec.specs.Grammar.{text_of}
use Rattle.frame_codec.specs.Frames.{replies}
use Rattle.frame_codec.proofs.Scripts.{all-push, flat-push}
use Rattle.tree_rules.specs.Fits.{Legal}
use Rattle.tree_rules.specs.History.{Entry, Opening, opened}
use Rattle.tree_rules.specs.Openings.{IsHistory}
use Rattle.tree_rules.proofs.Parting.{apart}
use Rattle.tree_rules.proofs.Parts.{joined}
use Rattle.tree_rules.proofs.Plans.{takes_samples}
use Rattle.tree_rules.proofs.Quieting.{quiet}
use Rattle.session_core.specs.Ends.{written}
use Rattle.session_core.specs.Answers.{Answered, IsAsked, AreRight, asked_of, entries_of, reply_to, service}

pub asked-push : (es : List Answered) (e : Answered) → asked_of (es ++ e ∷ []) ≡ asked_of es ++ e.asked ∷ []
asked-push es e = map-append (λ (e : Answered). e.asked) es (e ∷ [])

pub entries-push : (es : List Answered) (e : Answered) → entries_of (es ++ e ∷ []) ≡ entries_of es ++ e.entry ∷ []
entries-push es e = map-append (λ (e : Answered). e.entry) es (e ∷ [])

pub written-push : (es : List Answered) (e : Answered) → written service (es ++ e ∷ []) ≡ written service es ++ text_of replies (reply_to e.asked.head e.entry)
written-push es e = flat-push service.text es e

pub asked-more : (es : List Answered) (e : Answered) → AllByRecursion (IsAsked 1) es → IsAsked 1 e → AllByRecursion (IsAsked 1) (es ++ e ∷ [])
asked-more es e all one = all-push (IsAsked 1) es e all one

-- the entries behind h, with one more
pub behind-push : (h : List Entry) (es : List Answered) (e : Answered) → h ++ entries_of (es ++ e ∷ []) ≡ (h ++ entries_of es) ++ e.entry ∷ []
behind-push h es e = ap (λ (x : List Entry). h ++ x) (entries-push es e) ∙ sym (append_assoc h (entries_of es) (e.entry ∷ []))

pub history-more : (f : Opening) (o h : List Entry) (es : List Answered) (e : Answered) → IsHistory f o ((h ++ entries_of es) ++ e.entry ∷ []) → IsHistory f o (h ++ entries_of (es ++ e ∷ []))
history-more f o h es e is = subst (λ (x : List Entry). IsHistory f o x) (sym (behind-push h es e)) is

-- entries of requests whose history is legal are right
pub right : (f : Opening) (o h : List Entry) (es : List Answered) → AllByRecursion (IsAsked 1) es → IsHistory f o (h ++ entries_of es) → AreRight 1 f o h es
right f o h es asked is =
    let all = h ++ entries_of es in
    let whole : Legal f.plan (opened f) (o ++ all) = joined f.plan (opened f) o all is.opening.legal is.legal in record {
      asked = asked;
      history = is;
      apart = apart f (o ++ all) whole;
      quiet = quiet f (o ++ all) (takes_samples 0 f.plan is.opening.planned) whole;
    }
