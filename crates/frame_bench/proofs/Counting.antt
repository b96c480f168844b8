-- A stream that is decoded frame by frame, and copies of it in a row.
use Rattle.std.proofs.Common.{◌≡◌, ◌≤◌, ◌<◌, ℕ, zero, suc, ◌+◌, ◌-◌, ◌∷◌, List, [], ◌++◌, length, take, drop, sym, ap, ◌∙◌, arith, append-nil, append_assoc, subst, length-append, length-drop, take-append-drop, inr}
use Rattle.std.proofs.Math.Seq.{take-add}
use Rattle.std.proofs.lemmas.List.{take_all}
use Rattle.frame_codec.specs.declared.decoder.Step.{Step}
use Rattle.frame_codec.specs.declared.decoder.Step.TheVariants.{More, Whole, Bad}
use Rattle.frame_codec.specs.declared.frames.Request.{Request}
use Rattle.frame_codec.specs.Frames.{Asked, IsBadAt}
use Rattle.frame_codec.specs.Decoding.{Begun, Feeds, Reads, ReadsOn}
use Rattle.frame_codec.proofs.Reading.{read-on}
use Rattle.frame_codec.proofs.RequestLaws.{bad-more}
use Rattle.frame_bench.specs.Counted.{copies, HasFrames}

-- what a slice has behind a place
abbrev pub behind : List ℕ → ℕ → List ℕ
behind stream at = take (length stream - at) (drop at stream)

behind-is : (stream : List ℕ) (at : ℕ) → behind stream at ≡ drop at stream
behind-is stream at = take_all (length stream - at) (drop at stream) (omega (arith, length-drop at stream))

-- the frames of b and of a front of the stream were read and counted
abbrev pub HasCounted : List ℕ → List ℕ → ℕ → Begun → ℕ → Type 0
HasCounted b stream at d count = (rs : List Asked) × Reads (b ++ take at stream) rs d × (count ≡ length rs)

-- a feed of what is behind the place
pub record HasFed (stream : List ℕ) (at count : ℕ) (old : Begun) (step : Step) (new : Begun) : Type 0 where
  pub within : count ≤ length (behind stream at)
  pub offset : new.offset ≡ old.offset + count
  pub feeds : Feeds old (behind stream at) count step new

module _ (b stream : List ℕ) (at count : ℕ) (old new : Begun) (step : Step) (n : ℕ) (h : HasCounted b stream at old n) (f : HasFed stream at count old step new) where
  on : (s : Step) → step ≡ s → ReadsOn (b ++ take at stream) h.0 (behind stream at) count s new
  on s is = subst (λ (x : Step). ReadsOn (b ++ take at stream) h.0 (behind stream at) count x new) is (read-on (b ++ take at stream) h.0 (behind stream at) count old step new h.1 f.within f.offset f.feeds)

  whole : (b ++ take at stream) ++ behind stream at ≡ b ++ stream
  whole = append_assoc b (take at stream) (behind stream at) ∙ ap (λ (x : List ℕ). b ++ x) (ap (λ (x : List ℕ). take at stream ++ x) (behind-is stream at) ∙ take-append-drop at stream)

  pub counted-more : (r : Request) → step ≡ Whole r → HasCounted b stream (at + count) new (n + 1)
  counted-more r is =
      let parts : (b ++ take at stream) ++ take count (behind stream at) ≡ b ++ take (at + count) stream =
      append_assoc b (take at stream) (take count (behind stream at))
      ∙ ap (λ (x : List ℕ). b ++ x) (ap (λ (x : List ℕ). take at stream ++ take count x) (behind-is stream at) ∙ sym (take-add at count stream)) in
      let rs = h.0 ++ record { head = r; string = new.string } ∷ [] in (
        rs,
        subst (λ (x : List ℕ). Reads x rs new) parts (on (Whole r) is).0,
        omega (arith, h.2, length-append h.0 (record { head = r; string = new.string } ∷ [])),
      )

  pub counted-all : step ≡ More → (rs : List Asked) × Reads (b ++ stream) rs new × (n ≡ length rs)
  counted-all is = (h.0, subst (λ (x : List ℕ). Reads x h.0 new) whole (on More is), h.2)

  pub counted-bad : (offset why : ℕ) → step ≡ Bad offset why → (rs : List Asked) × (offset' : ℕ) × (why' : ℕ) × IsBadAt (b ++ stream) rs offset' why' × (n ≡ length rs)
  counted-bad offset why is = (h.0, offset, why, subst (λ (x : List ℕ). IsBadAt x h.0 offset why) whole (on (Bad offset why) is), h.2)

-- the end of a frame takes some bytes
pub whole-some : (stream : List ℕ) (at count : ℕ) (old new : Begun) (step : Step) (r : Request) → HasFed stream at count old step new → step ≡ Whole r → 0 < count
whole-some stream at count old new step r f is = (subst (λ (x : Step). Feeds old (behind stream at) count x new) is f.feeds).0

-- more copies begin with fewer
pub more-copies : (n m : ℕ) (stream : List ℕ) → (more : List ℕ) × (copies (n + m) stream ≡ copies n stream ++ more)
more-copies n zero stream =
    let same : n + zero ≡ n = omega arith in
    ([], ap (λ (x : ℕ). copies x stream) same ∙ sym (append-nil (copies n stream)))
more-copies n (suc m) stream =
    let (more, is) = more-copies n m stream in
    let next : n + suc m ≡ suc (n + m) = omega arith in
    (more ++ stream, ap (λ (x : ℕ). copies x stream) next ∙ (ap (λ (x : List ℕ). x ++ stream) is ∙ append_assoc (copies n stream) more stream))

-- a bad byte of a copy ends all copies
pub bad-copy : (stream : List ℕ) (n all count : ℕ) (rs : List Asked) (offset why : ℕ) → n < all → IsBadAt (copies n stream ++ stream) rs offset why → count ≡ length rs → HasFrames (copies all stream) count
bad-copy stream n all count rs offset why less bad is =
    let (more, parts) = more-copies (suc n) (all - suc n) stream in
    let sum : suc n + (all - suc n) ≡ all = omega (arith, less) in
    record {
      rs = rs;
      count_is = is;
      goes = inr (
        offset,
        why,
        subst (λ (x : List ℕ). IsBadAt x rs offset why) (sym parts ∙ ap (λ (x : ℕ). copies x stream) sum) (bad-more (copies n stream ++ stream) more rs offset why bad),
      );
    }
