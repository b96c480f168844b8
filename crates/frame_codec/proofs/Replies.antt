-- The table of replies is a grammar.
use Rattle.std.proofs.Common.{◌≡◌, ◌≤◌, ◌<◌, inl, ℕ, ◌∷◌, ◌^◌, ◌*◌, List, [], arith, refl, nat_eq, if◌then◌else◌, lit<, lit≤, pow_pos}
use Rattle.std.specs.List.{AllByRecursion}
use Rattle.frame_codec.specs.declared.table.Span.{Span}
use Rattle.frame_codec.specs.Grammar.{text_of, IsFramed}
use Rattle.frame_codec.specs.Frames.{IsReplyHead, from_to, zero_only, code_of, replied_op, codes_served, unless_malformed, unless_done, payloads, reply_fields, replies}
use Rattle.frame_codec.proofs.Grammar.{IsExact, framed-free}
use Rattle.frame_codec.proofs.Requests.{IsGood, either, within, always, just}
use Rattle.frame_codec.proofs.Rows.{IsSound}
use Rattle.frame_codec.proofs.Scripts.{IsFree}

none : (width : ℕ) → IsGood width zero_only
none width = within width 0 0 (lit≤ tt) (pow_pos (8 * width))

not_malformed : (width high : ℕ) (spans : List Span) → IsGood width spans → (before : List ℕ) → IsGood width (unless_malformed (code_of before) spans)
not_malformed width high spans good before = either width (nat_eq (code_of before) 255) zero_only spans (none width) good

not_done : (before : List ℕ) → IsGood 8 (unless_done (code_of before) (from_to 0 0xffffffffffffffff))
not_done before = either 8 (nat_eq (code_of before) 0) zero_only (from_to 0 0xffffffffffffffff) (none 8) (within 8 0 0xffffffffffffffff (lit≤ tt) (lit< tt))

pub sound : AllByRecursion IsSound reply_fields
sound = (
  always 1 1 (λ (before : List ℕ). from_to 1 1) (lit≤ tt) (λ (before : List ℕ). within 1 1 1 (lit≤ tt) (lit< tt)),
  (
    always 1 8 (λ (before : List ℕ). codes_served)
        (lit≤ tt) (λ (before : List ℕ). record { proper = (lit≤ tt, lit< tt, (lit≤ tt, lit< tt, (lit≤ tt, lit< tt, tt))); some = (0, inl (lit≤ tt, lit≤ tt)) }),
    (
      always 1 2 (λ (before : List ℕ). unless_malformed (code_of before) (from_to 1 6)) (lit≤ tt) (not_malformed 1 6 (from_to 1 6) (within 1 1 6 (lit≤ tt) (lit< tt))),
      (
        always 1 4 (λ (before : List ℕ). unless_malformed (code_of before) (from_to 0 0xff)) (lit≤ tt) (not_malformed 1 0xff (from_to 0 0xff) (within 1 0 0xff (lit≤ tt) (lit< tt))),
        (
          always 4 5 (λ (before : List ℕ). unless_malformed (code_of before) (from_to 0 0xffffffff)) (lit≤ tt) (not_malformed 4 0xffffffff (from_to 0 0xffffffff) (within 4 0 0xffffffff (lit≤ tt) (lit< tt))),
          (
            always 8 7 (λ (before : List ℕ). unless_done (code_of before) (from_to 0 0xffffffffffffffff)) (lit≤ tt) not_done,
            (
              always 8 7 (λ (before : List ℕ). unless_done (code_of before) (from_to 0 0xffffffffffffffff)) (lit≤ tt) not_done,
              (
                always 4 6 (λ (before : List ℕ). payloads (code_of before) (replied_op before))
                    (lit≤ tt) (λ (before : List ℕ). either 4 (nat_eq (code_of before) 0)
                    (if nat_eq (replied_op before) 2 then from_to 0 65536 else if nat_eq (replied_op before) 6 then from_to 25 25 else zero_only) zero_only
                    (either 4 (nat_eq (replied_op before) 2) (from_to 0 65536) (if nat_eq (replied_op before) 6 then from_to 25 25 else zero_only)
                    (within 4 0 65536 (lit≤ tt) (lit< tt))
                    (either 4 (nat_eq (replied_op before) 6) (from_to 25 25) zero_only (within 4 25 25 (lit≤ tt) (lit< tt)) (none 4)))
                    (none 4)),
                tt,
              ),
            ),
          ),
        ),
      ),
    ),
  ),
)

pub exact : IsExact replies
exact [] t = absurd t
exact (a ∷ []) t = absurd t.2
exact (a ∷ b ∷ []) t = absurd t.2.2
exact (a ∷ b ∷ c ∷ []) t = absurd t.2.2.2
exact (a ∷ b ∷ c ∷ d ∷ []) t = absurd t.2.2.2.2
exact (a ∷ b ∷ c ∷ d ∷ e ∷ []) t = absurd t.2.2.2.2.2
exact (a ∷ b ∷ c ∷ d ∷ e ∷ f ∷ []) t = absurd t.2.2.2.2.2.2
exact (a ∷ b ∷ c ∷ d ∷ e ∷ f ∷ g ∷ []) t = absurd t.2.2.2.2.2.2.2
exact (version ∷ b ∷ c ∷ d ∷ e ∷ f ∷ g ∷ h ∷ more) t =
    let end : more ≡ [] = t.2.2.2.2.2.2.2.2 in
    let first : version ≡ 1 = just 1 version t.1 in
    rw (end, first) refl

pub replies-free : IsFree (text_of replies) (IsFramed replies)
replies-free = framed-free replies

-- the head of a Done reply to a Generate
pub done-head : (node id len : ℕ) → node < 2 ^ 8 → id < 2 ^ 32 → len ≤ 65536 →
    IsReplyHead (record { code = 0; op = 2; node = node; id = id; a = 0; b = 0; len = len })
done-head node id len node-fits id-fits most = (
  lit< tt,
  inl (lit≤ tt, lit≤ tt),
  (
    lit< tt,
    inl (lit≤ tt, lit≤ tt),
    (
      lit< tt,
      inl (lit≤ tt, lit≤ tt),
      (
        node-fits,
        inl (omega arith, omega arith),
        (
          id-fits,
          inl (omega arith, omega arith),
          (
            lit< tt,
            inl (lit≤ tt, lit≤ tt),
            (
              lit< tt,
              inl (lit≤ tt, lit≤ tt),
              (omega arith, inl (omega arith, most), refl),
            ),
          ),
        ),
      ),
    ),
  ),
)
