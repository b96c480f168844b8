-- What a feed adds to a script.
use Rattle.std.proofs.Common.{refl, lit<, append-nil, ◌≡◌, ◌≤◌, ◌<◌, ℕ, ◌+◌, ◌∷◌, List, [], ◌++◌, length, take, drop, get_or, sym, ap, ◌∙◌, arith, length-append, append_assoc, subst, length-take, take-append-drop}
use Rattle.std.proofs.lemmas.List.{take_more}
use Rattle.frame_codec.specs.Rows.{why_at}
use Rattle.frame_codec.specs.Frames.{requests, Asked, request_fields, IsPart, BeginsNone, IsScript, IsBadAt}
use Rattle.frame_codec.proofs.RequestLaws.{script-goes, script-frame, script-bad, bad-more}
use Rattle.frame_codec.specs.declared.decoder.Step.{Step}
use Rattle.frame_codec.specs.declared.decoder.Step.TheVariants.{More, Whole, Bad}
use Rattle.frame_codec.specs.Decoding.{Begun, LeavesFrames, Steps, Feeds, Reads, ReadsOn}

read-bad : (b : List ℕ) (rs : List Asked) (rest bytes : List ℕ) (last : ℕ) → last < length bytes → IsScript b rs rest → IsPart (rest ++ take last bytes) →
    BeginsNone (rest ++ take (last + 1) bytes) → IsBadAt (b ++ bytes) rs (length b + last) (why_at request_fields (length (rest ++ take last bytes)))
read-bad b rs rest bytes last less s part none =
    let z = get_or bytes last 0 in
    let more : take (last + 1) bytes ≡ take last bytes ++ z ∷ [] = take_more bytes last 0 less in
    let script = script-goes b rs rest (take last bytes) s part in
    let begins : BeginsNone ((rest ++ take last bytes) ++ z ∷ []) =
    subst BeginsNone (ap (λ (x : List ℕ). rest ++ x) more ∙ sym (append_assoc rest (take last bytes) (z ∷ []))) none in
    let bad = script-bad (b ++ take last bytes) rs (rest ++ take last bytes) z [] script begins in
    let front : (b ++ take last bytes) ++ z ∷ [] ≡ b ++ take (last + 1) bytes = append_assoc b (take last bytes) (z ∷ []) ∙ ap (λ (x : List ℕ). b ++ x) (sym more) in
    let whole : (b ++ take (last + 1) bytes) ++ drop (last + 1) bytes ≡ b ++ bytes =
    append_assoc b (take (last + 1) bytes) (drop (last + 1) bytes) ∙ ap (λ (x : List ℕ). b ++ x) (take-append-drop (last + 1) bytes) in
    let place : length (b ++ take last bytes) ≡ length b + last = omega (arith, length-append b (take last bytes), length-take last bytes, less) in
    let longer = bad-more (b ++ take (last + 1) bytes) (drop (last + 1) bytes) rs (length (b ++ take last bytes)) (why_at request_fields (length (rest ++ take last bytes)))
    (subst (λ (x : List ℕ). IsBadAt x rs (length (b ++ take last bytes)) (why_at request_fields (length (rest ++ take last bytes)))) front bad) in
    subst (λ (x : List ℕ). IsBadAt x rs (length b + last) (why_at request_fields (length (rest ++ take last bytes)))) whole
    (subst (λ (o : ℕ). IsBadAt ((b ++ take (last + 1) bytes) ++ drop (last + 1) bytes) rs o (why_at request_fields (length (rest ++ take last bytes)))) place longer)

pub read-on : (b : List ℕ) (rs : List Asked) (bytes : List ℕ) (taken : ℕ) (old : Begun) (step : Step) (new : Begun) → Reads b rs old → taken ≤ length bytes →
    new.offset ≡ old.offset + taken → Feeds old bytes taken step new → ReadsOn b rs bytes taken step new
read-on b rs bytes taken old More new r within offset step = record {
  script = subst (λ (x : List ℕ). IsScript (b ++ bytes) rs x) (sym step.1.rest) (script-goes b rs old.rest bytes r.script step.1.part);
  offset = omega (arith, offset, r.offset, step.0, length-append b bytes);
}
read-on b rs bytes taken old (Whole q) new r within offset step = (
  record {
    script = subst (λ (x : List ℕ). IsScript (b ++ take taken bytes) (rs ++ record { head = q; string = new.string } ∷ []) x) (sym step.1.rest)
        (script-frame b rs old.rest (take taken bytes) (record { head = q; string = new.string }) r.script step.1.framed step.1.bytes);
    offset = omega (arith, offset, r.offset, length-append b (take taken bytes), length-take taken bytes, within);
  },
  step.1.rest,
)
read-on b rs bytes taken old (Bad at why) new r within offset step =
    let last = step.0 in
    let none : BeginsNone (old.rest ++ take (last + 1) bytes) = subst (λ (n : ℕ). BeginsNone (old.rest ++ take n bytes)) step.1 step.3.none in
    let bad = read-bad b rs old.rest bytes last (omega (arith, step.1, within)) r.script step.3.part none in
    let place : length b + last ≡ at = omega (arith, step.2, r.offset) in
    subst (λ (w : ℕ). IsBadAt (b ++ bytes) rs at w) (sym step.3.number)
    (subst (λ (o : ℕ). IsBadAt (b ++ bytes) rs o (why_at request_fields (length (old.rest ++ take last bytes)))) place bad)

-- a push is a feed of one byte
pub step-feeds : (old : Begun) (byte : ℕ) (step : Step) (new : Begun) → Steps old byte step new → Feeds old (byte ∷ []) 1 step new
step-feeds old byte More new step = (refl, step)
step-feeds old byte (Whole r) new step = (lit< tt, step)
step-feeds old byte (Bad at why) new step =
    let same : old.rest ≡ old.rest ++ [] = sym (append-nil old.rest) in (
      0,
      refl,
      omega (arith, step.0),
      subst (λ (x : List ℕ). LeavesFrames requests x (old.rest ++ byte ∷ []) why new) same step.1,
    )
