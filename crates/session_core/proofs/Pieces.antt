-- A piece of bytes that is taken frame by frame.
use Rattle.std.proofs.Common.{◌≡◌, ℕ, ◌+◌, ◌-◌, List, ◌++◌, length, take, drop, sym, ap, ◌∙◌, append_assoc, subst, take-append-drop, arith, length-drop}
use Rattle.std.specs.declared.option.Option.{Option}
use Rattle.std.proofs.Math.Seq.{take-add}
use Rattle.std.proofs.lemmas.List.{take_all}
use Rattle.tree_core.specs.Solo.{SoloView}
use Rattle.session_core.specs.declared.end.End.{End}
use Rattle.session_core.specs.Answers.{Answered}
use Rattle.session_core.specs.Session.{Began, Moment, Stands, Stops}

-- the slice behind a place is all that stands behind it
behind : (piece : List ℕ) (at : ℕ) → take (length piece - at) (drop at piece) ≡ drop at piece
behind piece at = take_all (length piece - at) (drop at piece) (omega (arith, length-drop at piece))

-- more bytes of the piece were taken
pub taken_more : {S : Type 0} (told : S → Option (List ℕ)) (faults : S → ℕ) (reads : S → ℕ → Option (List ℕ) → S → Type 0) (b : Began S) (taken piece : List ℕ) (es : List Answered) (at count : ℕ) (p : Moment S) (out : Option (List ℕ)) →
    Stands told faults reads b ((taken ++ take at piece) ++ take count (take (length piece - at) (drop at piece))) es p out → Stands told faults reads b (taken ++ take (at + count) piece) es p out
taken_more told faults reads b taken piece es at count p out st =
    subst (λ (x : List ℕ). Stands told faults reads b x es p out)
    (append_assoc taken (take at piece) (take count (take (length piece - at) (drop at piece)))
    ∙ ap (λ (x : List ℕ). taken ++ x) (ap (λ (x : List ℕ). take at piece ++ take count x) (behind piece at) ∙ sym (take-add at count piece))) st

-- the session ended within the piece
pub stopped_within : {S : Type 0} (told : S → Option (List ℕ)) (faults : S → ℕ) (reads : S → ℕ → Option (List ℕ) → S → Type 0) (b : Began S) (taken piece : List ℕ) (at : ℕ) (t : SoloView S) (out : Option (List ℕ)) (end : End) →
    Stops told faults reads b ((taken ++ take at piece) ++ take (length piece - at) (drop at piece)) t out end → Stops told faults reads b (taken ++ piece) t out end
stopped_within told faults reads b taken piece at t out end stops =
    subst (λ (x : List ℕ). Stops told faults reads b x t out end)
    (append_assoc taken (take at piece) (take (length piece - at) (drop at piece))
    ∙ ap (λ (x : List ℕ). taken ++ x) (ap (λ (x : List ℕ). take at piece ++ x) (behind piece at) ∙ take-append-drop at piece)) stops
