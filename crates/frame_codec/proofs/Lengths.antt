-- How many bytes request frames, and scripts of so many of them, may have.
use Rattle.std.proofs.Common.{refl, ◌≢◌, ◌≤◌, ◌<◌, ℕ, ◌+◌, ◌*◌, ◌∷◌, List, [], length, ap, arith, length-append, flat_map}
use Rattle.std.specs.List.{AllByRecursion}
use Rattle.frame_codec.specs.Rows.{spelled}
use Rattle.frame_codec.specs.Grammar.{text_of, IsFramed}
use Rattle.frame_codec.specs.Frames.{requests, request_fields, request_numbers, Asked, IsPart, IsScript}
use Rattle.frame_codec.specs.Decoding.{Begun, Reads}
use Rattle.frame_codec.proofs.Rows.{length-spelled}
use Rattle.frame_codec.proofs.Requests.{short-string}

-- how many bytes the longest request frame has
abbrev pub longest : ℕ
longest = 4112

pub frame-short : (a : Asked) → IsFramed requests a → length (text_of requests a) ≤ longest
frame-short a framed =
    omega (arith, length-append (spelled request_fields (request_numbers a.head)) a.string, length-spelled request_fields [] (request_numbers a.head) framed.taken, framed.string, short-string (request_numbers a.head) framed.taken)

some-byte : (b : List ℕ) → b ≢ [] → 0 < length b
some-byte [] some = absurd (some refl)
some-byte (x ∷ b) some = omega arith

pub part-short : (b : List ℕ) → IsPart b → length b < longest
part-short b (a, more, some, framed, e) = omega (arith, ap length e, length-append b more, some-byte more some, frame-short a framed)

frames-short : (rs : List Asked) → AllByRecursion (IsFramed requests) rs → length (flat_map (text_of requests) rs) ≤ longest * length rs
frames-short [] all = omega arith
frames-short (a ∷ rs) all = omega (arith, length-append (text_of requests a) (flat_map (text_of requests) rs), frame-short a all.0, frames-short rs all.1)

pub script-short : (b : List ℕ) (rs : List Asked) (rest : List ℕ) → IsScript b rs rest → length b < longest * (length rs + 1)
script-short b rs rest s = omega (arith, ap length s.bytes, length-append (flat_map (text_of requests) rs) rest, frames-short rs s.served, part-short rest s.part)

-- so many bytes were pushed to a decoder that has read so many requests
pub reads-short : (b : List ℕ) (rs : List Asked) (d : Begun) → Reads b rs d → d.offset < longest * (length rs + 1)
reads-short b rs d r = omega (arith, r.offset, script-short b rs d.rest r.script)
