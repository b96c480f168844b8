-- The table of requests is a grammar.
use Rattle.std.proofs.Common.{◌≡◌, ◌≤◌, ◌<◌, inl, inr, ℕ, ◌∷◌, ◌^◌, ◌*◌, slice_index, List, [], length, arith, refl, true, false, Bool, nat_eq, nat_lt, ◌||◌, if◌then◌else◌, lit<, lit≤}
use Rattle.std.specs.List.{AllByRecursion}
use Rattle.frame_codec.specs.declared.table.Span.{Span}
use Rattle.frame_codec.specs.Rows.{IsInOne, Takes}
use Rattle.frame_codec.specs.Grammar.{text_of, IsFramed}
use Rattle.frame_codec.specs.declared.frames.Request.{Request}
use Rattle.frame_codec.specs.Frames.{IsRequestHead, from_to, zero_only, op_of, flags_of, counts_of, strengths_of, lens_of, request_fields, requests}
use Rattle.frame_codec.proofs.Grammar.{IsExact, framed-free}
use Rattle.frame_codec.proofs.Rows.{AreProper, IsSound}
use Rattle.frame_codec.proofs.Scripts.{IsFree}

-- spans that lie within the width and are not empty
pub record IsGood (width : ℕ) (spans : List Span) : Type 0 where
  pub proper : AreProper width spans
  pub some : (n : ℕ) × IsInOne spans n

pub either : (width : ℕ) (b : Bool) (ones others : List Span) → IsGood width ones → IsGood width others → IsGood width (if b then ones else others)
either width true ones others good good' = good
either width false ones others good good' = good'

pub within : (width low high : ℕ) → low ≤ high → high < 2 ^ (8 * width) → IsGood width (from_to low high)
within width low high order fits = record { proper = (order, fits, tt); some = (low, inl (omega arith, order)) }

pub always : (width why : ℕ) (spans : List ℕ → List Span) → 1 ≤ width → ((before : List ℕ) → IsGood width (spans before)) →
    IsSound (record { width = width; why = why; spans = spans })
always width why spans wide good = record { wide = wide; proper = λ (before : List ℕ). (good before).proper; some = λ (before : List ℕ). (good before).some }

pub sound : AllByRecursion IsSound request_fields
sound = (
  always 1 1 (λ (before : List ℕ). from_to 1 1) (lit≤ tt) (λ (before : List ℕ). within 1 1 1 (lit≤ tt) (lit< tt)),
  (
    always 1 2 (λ (before : List ℕ). from_to 1 6) (lit≤ tt) (λ (before : List ℕ). within 1 1 6 (lit≤ tt) (lit< tt)),
    (
      always 1 3 (λ (before : List ℕ). flags_of (op_of before))
          (lit≤ tt) (λ (before : List ℕ). either 1 (nat_eq (op_of before) 2 || nat_eq (op_of before) 3) (from_to 0 1) zero_only (within 1 0 1 (lit≤ tt) (lit< tt)) (within 1 0 0 (lit≤ tt) (lit< tt))),
      (
        always 1 0 (λ (before : List ℕ). from_to 0 0xff) (lit≤ tt) (λ (before : List ℕ). within 1 0 0xff (lit≤ tt) (lit< tt)),
        (
          always 4 0 (λ (before : List ℕ). from_to 0 0xffffffff) (lit≤ tt) (λ (before : List ℕ). within 4 0 0xffffffff (lit≤ tt) (lit< tt)),
          (
            always 4 4 (λ (before : List ℕ). counts_of (op_of before))
                (lit≤ tt) (λ (before : List ℕ). either 4 (nat_eq (op_of before) 2) (from_to 0 0xffffffff) zero_only (within 4 0 0xffffffff (lit≤ tt) (lit< tt)) (within 4 0 0 (lit≤ tt) (lit< tt))),
            (
              always 2 5 (λ (before : List ℕ). strengths_of (op_of before))
                  (lit≤ tt) (λ (before : List ℕ). either 2 (nat_eq (op_of before) 1 || nat_eq (op_of before) 2) (from_to 0 0xffff) zero_only (within 2 0 0xffff (lit≤ tt) (lit< tt)) (within 2 0 0 (lit≤ tt) (lit< tt))),
              (
                always 2 6 (λ (before : List ℕ). lens_of (op_of before))
                    (lit≤ tt) (λ (before : List ℕ). either 2 (nat_lt (op_of before) 4) (from_to 0 4096) zero_only (within 2 0 4096 (lit≤ tt) (lit< tt)) (within 2 0 0 (lit≤ tt) (lit< tt))),
                tt,
              ),
            ),
          ),
        ),
      ),
    ),
  ),
)

pub just : (low n : ℕ) → IsInOne (from_to low low) n → n ≡ low
just low n (inl within) = omega arith
just low n (inr none) = absurd none

pub exact : IsExact requests
exact [] t = absurd t
exact (a ∷ []) t = absurd t.2
exact (a ∷ b ∷ []) t = absurd t.2.2
exact (a ∷ b ∷ c ∷ []) t = absurd t.2.2.2
exact (a ∷ b ∷ c ∷ d ∷ []) t = absurd t.2.2.2.2
exact (a ∷ b ∷ c ∷ d ∷ e ∷ []) t = absurd t.2.2.2.2.2
exact (a ∷ b ∷ c ∷ d ∷ e ∷ f ∷ []) t = absurd t.2.2.2.2.2.2
exact (a ∷ b ∷ c ∷ d ∷ e ∷ f ∷ g ∷ []) t = absurd t.2.2.2.2.2.2.2
exact (version ∷ b ∷ c ∷ d ∷ e ∷ f ∷ g ∷ h ∷ more) t =
    let end : more ≡ [] = t.2.2.2.2.2.2.2.2 in
    let first : version ≡ 1 = just 1 version t.1 in
    rw (end, first) refl

pub requests-free : IsFree (text_of requests) (IsFramed requests)
requests-free = framed-free requests

-- a number of a choice of spans that begin at 0
most : (b : Bool) (high n : ℕ) → IsInOne (if b then from_to 0 high else zero_only) n → n ≤ high
most true high n (inl fits) = fits.1
most true high n (inr none) = absurd none
most false high n (inl fits) = omega (arith, fits.1)
most false high n (inr none) = absurd none

-- no string is longer than 4,096 bytes
pub short-string : (ns : List ℕ) → Takes request_fields [] ns → slice_index ns 7 ≤ 4096
short-string [] t = absurd t
short-string (a ∷ []) t = absurd t.2
short-string (a ∷ b ∷ []) t = absurd t.2.2
short-string (a ∷ b ∷ c ∷ []) t = absurd t.2.2.2
short-string (a ∷ b ∷ c ∷ d ∷ []) t = absurd t.2.2.2.2
short-string (a ∷ b ∷ c ∷ d ∷ e ∷ []) t = absurd t.2.2.2.2.2
short-string (a ∷ b ∷ c ∷ d ∷ e ∷ f ∷ []) t = absurd t.2.2.2.2.2.2
short-string (a ∷ b ∷ c ∷ d ∷ e ∷ f ∷ g ∷ []) t = absurd t.2.2.2.2.2.2.2
short-string (version ∷ op ∷ flags ∷ node ∷ id ∷ count ∷ strength ∷ len ∷ more) t = most (nat_lt op 4) 4096 len t.2.2.2.2.2.2.2.1

-- a head with a string as long as it says
pub request-framed : (r : Request) (string : List ℕ) → IsRequestHead r → length string ≡ r.len → IsFramed requests (record { head = r; string = string })
request-framed r string taken len = record { taken = taken; same = refl; string = len }

fits : (b : Bool) (width high n : ℕ) → high < 2 ^ (8 * width) → IsInOne (if b then from_to 0 high else zero_only) n → n < 2 ^ (8 * width)
fits b width high n below one = omega (arith, below, most b high n one)

-- what requests ask, field by field
pub request-head : (r : Request) → 1 ≤ r.op → r.op ≤ 6 → IsInOne (flags_of r.op) r.flags → r.node < 2 ^ 8 → r.id < 2 ^ 32 → IsInOne (counts_of r.op) r.count
    → IsInOne (strengths_of r.op) r.strength → IsInOne (lens_of r.op) r.len → IsRequestHead r
request-head r least greatest flags node id count strength len = (
  lit< tt,
  inl (lit≤ tt, lit≤ tt),
  (
    omega (arith, greatest),
    inl (least, greatest),
    (
      fits (nat_eq r.op 2 || nat_eq r.op 3) 1 1 r.flags (lit< tt) flags,
      flags,
      (
        node,
        inl (omega arith, omega (arith, node)),
        (
          id,
          inl (omega arith, omega (arith, id)),
          (
            fits (nat_eq r.op 2) 4 0xffffffff r.count (lit< tt) count,
            count,
            (
              fits (nat_eq r.op 1 || nat_eq r.op 2) 2 0xffff r.strength (lit< tt) strength,
              strength,
              (fits (nat_lt r.op 4) 2 4096 r.len (lit< tt) len, len, refl),
            ),
          ),
        ),
      ),
    ),
  ),
)
