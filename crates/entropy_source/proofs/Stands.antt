-- The state of a source, and how it goes on with a read.
use Rattle.std.proofs.Common.{◌≡◌, ◌+◌, ℕ, List, [], ◌++◌, length, take, drop, refl, sym, ap, ◌∙◌}
use Rattle.std.specs.Prelude.{Option, Some, None, IfSome, IsSome}
use Rattle.std.specs.Option.{option_map}
use Rattle.std.specs.Io.KnownBytes.{Keeps, Consumes, IsAtEnd}
use Rattle.std.proofs.Math.Seq.{take-append_seam, drop-append_seam}
use Rattle.health_tests.specs.declared.numbers.Tail.{Tail}
use Rattle.health_tests.specs.Numbers.{tail_after}
use Rattle.entropy_source.specs.declared.answers.SourceRow.{SourceRow}
use Rattle.entropy_source.specs.declared.answers.SourceMode.{SourceMode}
use Rattle.entropy_source.specs.declared.answers.SourceMode.TheVariants.{Idle, Running, Alarmed}
use Rattle.entropy_source.specs.Source.{SourceState, Read, given, source_after}
use Rattle.entropy_source.specs.Draws.{AreNext}
use Rattle.entropy_source.specs.Views.{SourceView, source_state, kept_tail}

-- the next samples of those that are left
pub are_next : (told now : Option (List ℕ)) (got : List ℕ) → Consumes told now got → (got ≡ [] → IsAtEnd now) → IfSome told (λ left. AreNext left got)
are_next None now got c e = tt
are_next (Some left) None got c e = absurd c
are_next (Some left) (Some ys) got c e = record {
  next = ap (take (length got)) c ∙ take-append_seam got ys;
  ended = λ none. c ∙ (ap (λ z. z ++ ys) none ∙ e none);
}

-- what is told after them
pub told_after : (told now : Option (List ℕ)) (got : List ℕ) → Consumes told now got → (told ≡ None → now ≡ None)
    → now ≡ option_map (λ xs. drop (length got) xs) told
told_after None now got c untold = untold refl
told_after (Some left) None got c untold = absurd c
told_after (Some left) (Some ys) got c untold = ap Some (sym (ap (drop (length got)) c ∙ drop-append_seam got ys))

-- a read that failed takes nothing
pub kept : (told now : Option (List ℕ)) → Keeps told now → Consumes told now []
kept None now k = tt
kept (Some xs) None k = absurd k
kept (Some xs) (Some ys) k = sym k

-- what the tests keep, where they keep something
pub kept_some : (m : SourceMode) (t : Tail) → IsSome (kept_tail m t) → (u : Tail) → kept_tail m u ≡ Some u
kept_some Idle t h u = refl
kept_some Running t h u = refl
kept_some (Alarmed index test) t h u = cc

-- the state of a source after a read is its state before, and then the read
pub read_state : {S : Type 0} (told : S → Option (List ℕ)) (faults : S → ℕ) (row : SourceRow) (v w : SourceView S) (asked : ℕ) (got : Option (List ℕ)) (count : ℕ)
    → w.taken ≡ v.taken + length (given got) → w.blocks ≡ v.blocks → w.alarms ≡ v.alarms → w.mode ≡ v.mode
    → w.tail ≡ option_map (λ t. tail_after row.cutoffs.window t (given got)) v.tail → count ≡ faults w.samples
    → Consumes (told v.samples) (told w.samples) (given got) → (told v.samples ≡ None → told w.samples ≡ None)
    → source_state told faults w ≡ source_after row (source_state told faults v) (Read asked got count)
read_state told faults row v w asked got count a b c d e f takes untold =
    let whole : ℕ → ℕ → ℕ → SourceMode → Option Tail → Option (List ℕ) → ℕ → SourceState =
    λ taken blocks alarms mode tail told faults.
    record { taken = taken; blocks = blocks; alarms = alarms; mode = mode; tail = tail; told = told; faults = faults } in
    let same : whole w.taken w.blocks w.alarms w.mode w.tail (told w.samples) (faults w.samples)
    ≡ whole (v.taken + length (given got)) v.blocks v.alarms v.mode (option_map (λ t. tail_after row.cutoffs.window t (given got)) v.tail)
    (option_map (λ xs. drop (length (given got)) xs) (told v.samples)) count =
    rw (a, b, c, d, e, told_after (told v.samples) (told w.samples) (given got) takes untold, sym f) refl in
    same
