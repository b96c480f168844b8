-- Bytes that are no blanks and end no line.
use Rattle.std.proofs.Common.{zero, suc, ◌≡◌, ◌<◌, ◌≤◌, ◌^◌, ℕ, ◌-◌, ◌/◌, ◌%◌, List, [], ◌∷◌, ◌++◌, length, take, get_or, decimal, Bool, true, false, cond, refl, ap, ◌∙◌, arith}
use Rattle.std.specs.Prelude.{◌==◌, ◌||◌, nat_le, slice_index}
use Rattle.std.specs.List.{All}
use Rattle.std.specs.Str.{all_ascii_digits}
use Rattle.std.specs.Str.Lines.{lines, strip_carriage_return}
use Rattle.std.proofs.lemmas.Bool.{leb-true, ne_eqb}
use Rattle.std.proofs.lemmas.Fmt.{digits_decimal}
use Rattle.std.proofs.lemmas.Str.Parse.{tells_all_ascii_digits}
use Rattle.hex.specs.Hex.{IsBytes, encode_lower, encode_with, lower_digits}
use Rattle.vector_text.specs.declared.trim.Blank.{Blank}
use Rattle.vector_text.specs.declared.trim.Blank.TheVariants.{Space, SpaceOrTab}
use Rattle.vector_text.specs.Feeding.{is_line_feed}
use Rattle.vector_text.specs.Trims.{before_kept, is_blank, without_first, without_last}
use Rattle.vector_text.specs.Printing.{text_of}
use Rattle.vector_text.proofs.Lining.{lines_at}
use Rattle.vector_text.proofs.Numerals.{own}

-- all bytes are at least k
abbrev pub From : ℕ → List ℕ → Type 0
From k [] = Unit {0}
From k (c ∷ cs) = (k ≤ c) × From k cs

-- the same as a test
abbrev pub all_from : ℕ → List ℕ → Bool
all_from k [] = true
all_from k (c ∷ cs) = cond (nat_le k c) (all_from k cs) false

cond_both : (b x : Bool) → cond b x false ≡ true → (b ≡ true) × (x ≡ true)
cond_both true x e = (refl, e)
cond_both false x e = absurd cc

pub from_test : (k : ℕ) (cs : List ℕ) → all_from k cs ≡ true → From k cs
from_test k [] e = tt
from_test k (c ∷ cs) e = let p = cond_both (nat_le k c) (all_from k cs) e in (leb-true k c p.0, from_test k cs p.1)

pub from_both : (k : ℕ) (a b : List ℕ) → From k a → From k b → From k (a ++ b)
from_both k [] b p q = q
from_both k (c ∷ a) b p q = (p.0, from_both k a b p.1 q)

pub from_less : (j k : ℕ) (cs : List ℕ) → j ≤ k → From k cs → From j cs
from_less j k [] h p = tt
from_less j k (c ∷ cs) h p = let first : k ≤ c = p.0 in (omega arith, from_less j k cs h p.1)

from_at : (k : ℕ) (cs : List ℕ) (i d : ℕ) → i < length cs → From k cs → k ≤ get_or cs i d
from_at k [] i d h p = absurd (omega arith)
from_at k (c ∷ cs) zero d h p = p.0
from_at k (c ∷ cs) (suc i) d h p = from_at k cs i d (omega arith) p.1

-- ---- digits

lower_from : From 48 lower_digits
lower_from = from_test 48 lower_digits refl

digit_from : (i : ℕ) → i < 16 → 48 ≤ slice_index lower_digits i
digit_from i h = from_at 48 lower_digits i 0 h lower_from

pub hex_from : (bs : List ℕ) → IsBytes bs → From 48 (encode_lower bs)
unfolding encode_with
hex_from [] h = tt
hex_from (b ∷ bs) h =
    let small : b < 256 = h zero in
    (digit_from (b / 16) (omega arith), (digit_from (b % 16) (omega arith), hex_from bs (λ i. h (suc i))))

digits_from : (ds : List ℕ) → all_ascii_digits ds ≡ true → From 48 ds
digits_from [] all = tt
digits_from (c ∷ cs) all =
    let parts = tells_all_ascii_digits.parts c cs all in
    (parts.0.0, digits_from cs parts.1)

pub decimal_digits : (n : ℕ) → n < 2 ^ 64 → all_ascii_digits (decimal n) ≡ true
decimal_digits n small = digits_decimal own n small

pub decimal_from : (n : ℕ) → n < 2 ^ 64 → From 48 (decimal n)
decimal_from n small = digits_from (decimal n) (decimal_digits n small)

-- ---- blanks

not_blank : (b : Blank) (c : ℕ) → 33 ≤ c → is_blank b c ≡ false
not_blank Space c h = ne_eqb c 32 (omega arith)
not_blank SpaceOrTab c h = ap (λ (x : Bool). x || (c == 9)) (ne_eqb c 32 (omega arith)) ∙ ne_eqb c 9 (omega arith)

pub first_kept : (b : Blank) (cs : List ℕ) → From 33 cs → without_first (is_blank b) cs ≡ cs
first_kept b [] p = refl
first_kept b (c ∷ cs) p = ap (λ (x : Bool). cond x (without_first (is_blank b) cs) (c ∷ cs)) (not_blank b c p.0)

last_kept : (b : Blank) (d : ℕ) (ds : List ℕ) → From 33 (d ∷ ds) → without_last (is_blank b) (d ∷ ds) ≡ d ∷ ds
last_kept b d [] p = ap (λ (x : Bool). cond x [] (d ∷ [])) (not_blank b d p.0)
last_kept b d (e ∷ es) p = ap (before_kept (is_blank b) d) (last_kept b e es p.1)

kept_before : (p : ℕ → Bool) (x : ℕ) (xs : List ℕ) (d : ℕ) (ds : List ℕ) → before_kept p x (xs ++ d ∷ ds) ≡ x ∷ (xs ++ d ∷ ds)
kept_before p x [] d ds = refl
kept_before p x (y ∷ ys) d ds = refl

kept_behind : (p : ℕ → Bool) (xs : List ℕ) (d : ℕ) (ds : List ℕ) → without_last p (d ∷ ds) ≡ d ∷ ds → without_last p (xs ++ d ∷ ds) ≡ xs ++ d ∷ ds
kept_behind p [] d ds e = e
kept_behind p (x ∷ xs) d ds e = ap (before_kept p x) (kept_behind p xs d ds e) ∙ kept_before p x xs d ds

-- no blank at the end
pub end_kept : (b : Blank) (xs : List ℕ) (d : ℕ) (ds : List ℕ) → From 33 (d ∷ ds) → without_last (is_blank b) (xs ++ d ∷ ds) ≡ xs ++ d ∷ ds
end_kept b xs d ds p = kept_behind (is_blank b) xs d ds (last_kept b d ds p)

-- ---- lines

no_feed : (cs : List ℕ) → From 32 cs → All (λ c. is_line_feed c ≡ false) cs
no_feed cs p = λ k d h. let least : 32 ≤ get_or cs k d = from_at 32 cs k d h p in ne_eqb (get_or cs k d) 10 (omega arith)

no_return : (cs : List ℕ) → From 32 cs → strip_carriage_return cs ≡ cs
no_return [] p = refl
no_return (c ∷ cs) p =
    let last = length (c ∷ cs) - 1 in
    let least : 32 ≤ get_or (c ∷ cs) last 0 = from_at 32 (c ∷ cs) last 0 (omega arith) p in
    ap (λ (x : Bool). cond x (take last (c ∷ cs)) (c ∷ cs)) (ne_eqb (get_or (c ∷ cs) last 0) 13 (omega arith))

-- lines of printed bytes
abbrev pub EachFrom : ℕ → List (List ℕ) → Type 0
EachFrom k [] = Unit {0}
EachFrom k (l ∷ ls) = From k l × EachFrom k ls

pub each_both : (k : ℕ) (a b : List (List ℕ)) → EachFrom k a → EachFrom k b → EachFrom k (a ++ b)
each_both k [] b p q = q
each_both k (l ∷ a) b p q = (p.0, each_both k a b p.1 q)

pub lines_text : (ls : List (List ℕ)) → EachFrom 32 ls → lines (text_of ls) ≡ ls
lines_text [] p = refl
lines_text (l ∷ ls) p =
    lines_at l (text_of ls) (no_feed l p.0) ∙ (ap (λ (x : List ℕ). x ∷ lines (text_of ls)) (no_return l p.0) ∙ ap (λ (x : List (List ℕ)). l ∷ x) (lines_text ls p.1))
