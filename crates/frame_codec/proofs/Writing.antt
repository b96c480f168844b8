-- std's bytes of a number are its digits, and a head's bytes are those of its numbers.
use Rattle.std.proofs.Common.{◌≡◌, ℕ, ◌+◌, ◌/◌, ◌%◌, ◌^◌, ◌∷◌, List, [], ◌++◌, ap, ◌∙◌, refl, mod-eq_of_lt}
use Rattle.std.specs.Int.{w32, w64, to_be_bytes}
use Rattle.std.proofs.lemmas.Nat.{shr-shr}
use Rattle.frame_codec.specs.declared.frames.ReplyHead.{ReplyHead}
use Rattle.frame_codec.specs.Rows.{digits, Takes, spelled}
use Rattle.frame_codec.specs.Frames.{reply_fields, reply_numbers}

chain : (n j k m : ℕ) → j + k ≡ m → n / 2 ^ j / 2 ^ k ≡ n / 2 ^ m
chain n j k m e = shr-shr n j k ∙ ap (λ (i : ℕ). n / 2 ^ i) e

pub digits-4 : (n : ℕ) → to_be_bytes w32 n ≡ digits 4 n
digits-4 n =
    let two : n / 256 / 256 ≡ n / 65536 = chain n 8 8 16 refl in
    let three : n / 65536 / 256 ≡ n / 16777216 = chain n 16 8 24 refl in
    rw (two, three) refl

pub digits-8 : (n : ℕ) → to_be_bytes w64 n ≡ digits 8 n
digits-8 n =
    let two : n / 256 / 256 ≡ n / 65536 = chain n 8 8 16 refl in
    let three : n / 65536 / 256 ≡ n / 2 ^ 24 = chain n 16 8 24 refl in
    let four : n / 2 ^ 24 / 256 ≡ n / 2 ^ 32 = chain n 24 8 32 refl in
    let five : n / 2 ^ 32 / 256 ≡ n / 2 ^ 40 = chain n 32 8 40 refl in
    let six : n / 2 ^ 40 / 256 ≡ n / 2 ^ 48 = chain n 40 8 48 refl in
    let seven : n / 2 ^ 48 / 256 ≡ n / 2 ^ 56 = chain n 48 8 56 refl in
    rw (two, three, four, five, six, seven) refl

four_ways : {a b c d p q r s : List ℕ} (f : List ℕ → List ℕ → List ℕ → List ℕ → List ℕ) → a ≡ p → b ≡ q → c ≡ r → d ≡ s → f a b c d ≡ f p q r s
four_ways f h k m n = rw (h, k, m, n) refl

-- the head's bytes, in the words of the code
pub reply-text : (h : ReplyHead) → Takes reply_fields [] (reply_numbers h) →
    1 ∷ h.code ∷ h.op ∷ h.node ∷ (to_be_bytes w32 h.id ++ (to_be_bytes w64 h.a ++ (to_be_bytes w64 h.b ++ to_be_bytes w32 h.len))) ≡ spelled reply_fields (reply_numbers h)
reply-text h t =
    let code : h.code % 256 ≡ h.code = mod-eq_of_lt t.2.0 in
    let op : h.op % 256 ≡ h.op = mod-eq_of_lt t.2.2.0 in
    let node : h.node % 256 ≡ h.node = mod-eq_of_lt t.2.2.2.0 in
    let layout : List ℕ → List ℕ → List ℕ → List ℕ → List ℕ =
    λ (i a b l : List ℕ). 1 ∷ h.code ∷ h.op ∷ h.node ∷ (i ++ (a ++ (b ++ l))) in
    let bytes : layout (to_be_bytes w32 h.id) (to_be_bytes w64 h.a) (to_be_bytes w64 h.b) (to_be_bytes w32 h.len) ≡ layout (digits 4 h.id) (digits 8 h.a) (digits 8 h.b) (digits 4 h.len) =
    four_ways layout (digits-4 h.id) (digits-8 h.a) (digits-8 h.b) (digits-4 h.len) in
    let heads : layout (digits 4 h.id) (digits 8 h.a) (digits 8 h.b) (digits 4 h.len) ≡ spelled reply_fields (reply_numbers h) = rw (code, op, node) refl in
    bytes ∙ heads
