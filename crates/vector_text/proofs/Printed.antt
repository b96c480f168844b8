-- What the lines of a printed case are.
use Rattle.std.proofs.Common.{◌≡◌, ◌<◌, ◌≤◌, ◌^◌, ℕ, ◌+◌, ◌*◌, ◌/◌, ◌%◌, List, [], ◌∷◌, ◌++◌, length, take, drop, codes, decimal, Bool, true, false, cond, refl, sym, ap, ◌∙◌, subst, arith, append-nil, lt-ltb, le-ltb, Some, None}
use Rattle.std.specs.Prelude.{◌==◌, ◌||◌, ◌&&◌, nat_eq, nat_lt, slice_index}
use Rattle.std.specs.List.{position_or_len}
use Rattle.std.specs.Str.{all_ascii_digits}
use Rattle.std.specs.Str.Parse.{digits_value}
use Rattle.std.proofs.lemmas.Fmt.{decimal_nonempty, digits_value-decimal, length-decimal-le}
use Rattle.hex.specs.Hex.{encode_lower, encode_with, lower_digits}
use Rattle.hex.proofs.HexLemmas.{length-encode_with}
use Rattle.hmac_core.specs.declared.hash.Hash.TheVariants.{Sha224, Sha256, Sha384, Sha512, Sha512_224, Sha512_256}
use Rattle.df_core.specs.declared.key_len.KeyLen.TheVariants.{K16, K24, K32}
use Rattle.ctr_drbg.specs.declared.seeds.Mode.TheVariants.{UseDf, NoDf}
use Rattle.vector_text.specs.declared.case.Family.{Family}
use Rattle.vector_text.specs.declared.case.Mech.{Mech}
use Rattle.vector_text.specs.declared.case.Mech.TheVariants.{Hmac, Ctr}
use Rattle.vector_text.specs.declared.shape.Field.{Field}
use Rattle.vector_text.specs.declared.shape.Field.TheVariants.{EntropyInput, Nonce, PersonalizationString, EntropyInputReseed, AdditionalInputReseed, AdditionalInput, EntropyInputPr, ReturnedBits}
use Rattle.vector_text.specs.declared.shape.Section.TheVariants.{Under}
use Rattle.vector_text.specs.declared.shape.Shape.TheVariants.{Long, Nothing, Mechanism, Resistance, Count, Value}
use Rattle.vector_text.specs.declared.trim.Blank.TheVariants.{Space, SpaceOrTab}
use Rattle.vector_text.specs.Trims.{Parts, is_blank, is_equals, parted, parted_at, without_first, without_last}
use Rattle.vector_text.specs.Names.{count_below, count_of}
use Rattle.vector_text.specs.Shapes.{bracketed, inner_shape, is_passed_over, parted_field, shape_of, shape_of_count, trimmed, trimmed_shape, value_in, value_of}
use Rattle.vector_text.specs.Printing.{IsValue, count_line, family_of, field_line, mechanism_line, resistance_line, value_text}
use Rattle.vector_text.proofs.Above.{From, decimal_digits, decimal_from, end_kept, first_kept, from_both, from_less, from_test, hex_from}
use Rattle.vector_text.proofs.Lining.{nonempty}
use Rattle.vector_text.proofs.Numerals.{own}

-- ---- the lines before the fields

pub mechanism_says : (m : Mech) → (shape_of (family_of m) (mechanism_line m) ≡ Mechanism (Under m)) × From 32 (mechanism_line m)
unfolding shape_of
mechanism_says (Hmac Sha224) = (refl, from_test 32 (mechanism_line (Hmac Sha224)) refl)
mechanism_says (Hmac Sha256) = (refl, from_test 32 (mechanism_line (Hmac Sha256)) refl)
mechanism_says (Hmac Sha384) = (refl, from_test 32 (mechanism_line (Hmac Sha384)) refl)
mechanism_says (Hmac Sha512) = (refl, from_test 32 (mechanism_line (Hmac Sha512)) refl)
mechanism_says (Hmac Sha512_224) = (refl, from_test 32 (mechanism_line (Hmac Sha512_224)) refl)
mechanism_says (Hmac Sha512_256) = (refl, from_test 32 (mechanism_line (Hmac Sha512_256)) refl)
mechanism_says (Ctr K16 UseDf) = (refl, from_test 32 (mechanism_line (Ctr K16 UseDf)) refl)
mechanism_says (Ctr K24 UseDf) = (refl, from_test 32 (mechanism_line (Ctr K24 UseDf)) refl)
mechanism_says (Ctr K32 UseDf) = (refl, from_test 32 (mechanism_line (Ctr K32 UseDf)) refl)
mechanism_says (Ctr K16 NoDf) = (refl, from_test 32 (mechanism_line (Ctr K16 NoDf)) refl)
mechanism_says (Ctr K24 NoDf) = (refl, from_test 32 (mechanism_line (Ctr K24 NoDf)) refl)
mechanism_says (Ctr K32 NoDf) = (refl, from_test 32 (mechanism_line (Ctr K32 NoDf)) refl)

pub resistance_says : (f : Family) (pr : Bool) → (shape_of f (resistance_line pr) ≡ Resistance pr) × From 32 (resistance_line pr)
unfolding shape_of
resistance_says f true = (refl, from_test 32 (resistance_line true) refl)
resistance_says f false = (refl, from_test 32 (resistance_line false) refl)

-- ---- a name, and what stands behind it

-- the parts of a line whose first `=` stands at a place
parted_with : (t : List ℕ) (n : ℕ) (name value : List ℕ) → position_or_len is_equals t ≡ n → n < length t → without_last (is_blank Space) (take n t) ≡ name
    → without_first (is_blank Space) (drop (n + 1) t) ≡ value → parted t ≡ Some (record { name = name; value = value })
parted_with t n name value at within before behind =
    ap (parted_at t) (ap (λ (i : ℕ). cond (nat_lt i (length t)) (Some i) None) at ∙ ap (λ (b : Bool). cond b (Some n) None) (lt-ltb n (length t) within))
    ∙ (ap (λ (x : List ℕ). Some (record { name = x; value = without_first (is_blank Space) (drop (n + 1) t) })) before
    ∙ ap (λ (x : List ℕ). Some (record { name = name; value = x })) behind)

-- a line that begins with a letter is no comment
not_passed : (c : ℕ) (cs : List ℕ) → (c == 35) ≡ false → (c == 42) ≡ false → is_passed_over (c ∷ cs) ≡ false
not_passed c cs e f =
    ap (λ (x : Bool). x || (c == 35) || ((c == 42) && (slice_index (c ∷ cs) 1 == 42))) (nonempty c cs)
    ∙ (ap (λ (x : Bool). x || ((c == 42) && (slice_index (c ∷ cs) 1 == 42))) e ∙ ap (λ (x : Bool). x && (slice_index (c ∷ cs) 1 == 42)) f)

-- the shape of a line with no blank at its ends that begins with a letter
shape_by : (f : Family) (line : List ℕ) (p : Parts) → length line ≤ 16384 → trimmed line ≡ line → is_passed_over line ≡ false → bracketed line ≡ None → parted line ≡ Some p
    → shape_of f line ≡ parted_field (Some p)
unfolding shape_of
shape_by f line p short same letter opens parts =
    ap (λ (b : Bool). cond b Long (trimmed_shape f (trimmed line))) (le-ltb 16384 (length line) short)
    ∙ (ap (trimmed_shape f) same ∙ (ap (λ (b : Bool). cond b Nothing (inner_shape f line (bracketed line))) letter
    ∙ (ap (inner_shape f line) opens ∙ ap parted_field parts)))

value_by : (line : List ℕ) (p : Parts) → trimmed line ≡ line → parted line ≡ Some p → value_of line ≡ p.value
unfolding value_of
value_by line p same parts = ap (λ (x : List ℕ). value_in (parted x)) same ∙ ap value_in parts

-- ---- the line of COUNT

counted : (n : ℕ) (d : ℕ) (ds : List ℕ) → n < 2 ^ 64 → all_ascii_digits (d ∷ ds) ≡ true → digits_value 10 (d ∷ ds) ≡ n → count_of (d ∷ ds) ≡ Some n
counted n d ds small all is =
    ap (λ (b : Bool). cond b (count_below (d ∷ ds)) None) all
    ∙ (ap (λ (k : ℕ). cond (nat_lt k (2 ^ 64)) (Some k) None) is ∙ ap (λ (b : Bool). cond b (Some n) None) (lt-ltb n (2 ^ 64) small))

count_by : (f : Family) (n : ℕ) (ds : List ℕ) → n < 2 ^ 64 → 0 < length ds → length ds ≤ 20 → all_ascii_digits ds ≡ true → digits_value 10 ds ≡ n → From 33 ds
    → shape_of f (codes "COUNT = " ++ ds) ≡ Count n
count_by f n [] small some short all is above = absurd (omega (arith, some))
count_by f n (d ∷ ds) small some short all is above =
    let line = codes "COUNT = " ++ d ∷ ds in
    shape_by f line (record { name = codes "COUNT"; value = d ∷ ds }) (omega arith) (end_kept SpaceOrTab (codes "COUNT = ") d ds above) (not_passed 67 (drop 1 line) refl refl) refl
    (parted_with line 6 (codes "COUNT") (d ∷ ds) refl (omega arith) refl (first_kept Space (d ∷ ds) above))
    ∙ ap shape_of_count (counted n d ds small all is)

pub count_says : (f : Family) (n : ℕ) → n < 2 ^ 64 → (shape_of f (count_line n) ≡ Count n) × From 32 (count_line n)
count_says f n small = (
  count_by f n (decimal n) small (decimal_nonempty n small) (length-decimal-le 20 n (omega arith) (omega arith) small) (decimal_digits n small) (digits_value-decimal own n small)
      (from_less 33 48 (decimal n) (omega arith) (decimal_from n small)),
  from_both 32 (codes "COUNT = ") (decimal n) (from_test 32 (codes "COUNT = ") refl) (from_less 32 48 (decimal n) (omega arith) (decimal_from n small)),
)

-- ---- the line of a field

abbrev pub name_of : Field → List ℕ
name_of EntropyInput = codes "EntropyInput"
name_of Nonce = codes "Nonce"
name_of PersonalizationString = codes "PersonalizationString"
name_of EntropyInputReseed = codes "EntropyInputReseed"
name_of AdditionalInputReseed = codes "AdditionalInputReseed"
name_of AdditionalInput = codes "AdditionalInput"
name_of EntropyInputPr = codes "EntropyInputPR"
name_of ReturnedBits = codes "ReturnedBits"

-- what is known of a line with a value
record IsFieldLine (family : Family) (f : Field) (line value : List ℕ) : Type 0 where
  shape : shape_of family line ≡ Value f
  value_is : value_of line ≡ value

-- without a value
empty_line : (family : Family) (f : Field) → IsFieldLine family f (name_of f ++ codes " =") []
unfolding shape_of value_of
empty_line family EntropyInput = record { shape = refl; value_is = refl }
empty_line family Nonce = record { shape = refl; value_is = refl }
empty_line family PersonalizationString = record { shape = refl; value_is = refl }
empty_line family EntropyInputReseed = record { shape = refl; value_is = refl }
empty_line family AdditionalInputReseed = record { shape = refl; value_is = refl }
empty_line family AdditionalInput = record { shape = refl; value_is = refl }
empty_line family EntropyInputPr = record { shape = refl; value_is = refl }
empty_line family ReturnedBits = record { shape = refl; value_is = refl }

-- with digits
abbrev filled : Field → List ℕ → List ℕ
filled f ds = name_of f ++ codes " =" ++ (codes " " ++ ds)

filled_by : (family : Family) (f : Field) (line name value : List ℕ) → length line ≤ 16384 → trimmed line ≡ line → is_passed_over line ≡ false → bracketed line ≡ None
    → parted line ≡ Some (record { name = name; value = value }) → parted_field (Some (record { name = name; value = value })) ≡ Value f → IsFieldLine family f line value
filled_by family f line name value short same letter opens parts named = record {
  shape = shape_by family line (record { name = name; value = value }) short same letter opens parts ∙ named;
  value_is = value_by line (record { name = name; value = value }) same parts;
}

filled_line : (family : Family) (f : Field) (d : ℕ) (ds : List ℕ) → length (d ∷ ds) ≤ 8192 → From 33 (d ∷ ds) → IsFieldLine family f (filled f (d ∷ ds)) (d ∷ ds)
filled_line family EntropyInput d ds short above =
    let line = filled EntropyInput (d ∷ ds) in
    filled_by family EntropyInput line (codes "EntropyInput") (d ∷ ds) (omega arith) (end_kept SpaceOrTab (codes "EntropyInput = ") d ds above) (not_passed 69 (drop 1 line) refl refl) refl
    (parted_with line 13 (codes "EntropyInput") (d ∷ ds) refl (omega arith) refl (first_kept Space (d ∷ ds) above)) refl
filled_line family Nonce d ds short above =
    let line = filled Nonce (d ∷ ds) in
    filled_by family Nonce line (codes "Nonce") (d ∷ ds) (omega arith) (end_kept SpaceOrTab (codes "Nonce = ") d ds above) (not_passed 78 (drop 1 line) refl refl) refl
    (parted_with line 6 (codes "Nonce") (d ∷ ds) refl (omega arith) refl (first_kept Space (d ∷ ds) above)) refl
filled_line family PersonalizationString d ds short above =
    let line = filled PersonalizationString (d ∷ ds) in
    filled_by family PersonalizationString line (codes "PersonalizationString") (d ∷ ds) (omega arith) (end_kept SpaceOrTab (codes "PersonalizationString = ") d ds above) (not_passed 80 (drop 1 line) refl refl) refl
    (parted_with line 22 (codes "PersonalizationString") (d ∷ ds) refl (omega arith) refl (first_kept Space (d ∷ ds) above)) refl
filled_line family EntropyInputReseed d ds short above =
    let line = filled EntropyInputReseed (d ∷ ds) in
    filled_by family EntropyInputReseed line (codes "EntropyInputReseed") (d ∷ ds) (omega arith) (end_kept SpaceOrTab (codes "EntropyInputReseed = ") d ds above) (not_passed 69 (drop 1 line) refl refl) refl
    (parted_with line 19 (codes "EntropyInputReseed") (d ∷ ds) refl (omega arith) refl (first_kept Space (d ∷ ds) above)) refl
filled_line family AdditionalInputReseed d ds short above =
    let line = filled AdditionalInputReseed (d ∷ ds) in
    filled_by family AdditionalInputReseed line (codes "AdditionalInputReseed") (d ∷ ds) (omega arith) (end_kept SpaceOrTab (codes "AdditionalInputReseed = ") d ds above) (not_passed 65 (drop 1 line) refl refl) refl
    (parted_with line 22 (codes "AdditionalInputReseed") (d ∷ ds) refl (omega arith) refl (first_kept Space (d ∷ ds) above)) refl
filled_line family AdditionalInput d ds short above =
    let line = filled AdditionalInput (d ∷ ds) in
    filled_by family AdditionalInput line (codes "AdditionalInput") (d ∷ ds) (omega arith) (end_kept SpaceOrTab (codes "AdditionalInput = ") d ds above) (not_passed 65 (drop 1 line) refl refl) refl
    (parted_with line 16 (codes "AdditionalInput") (d ∷ ds) refl (omega arith) refl (first_kept Space (d ∷ ds) above)) refl
filled_line family EntropyInputPr d ds short above =
    let line = filled EntropyInputPr (d ∷ ds) in
    filled_by family EntropyInputPr line (codes "EntropyInputPR") (d ∷ ds) (omega arith) (end_kept SpaceOrTab (codes "EntropyInputPR = ") d ds above) (not_passed 69 (drop 1 line) refl refl) refl
    (parted_with line 15 (codes "EntropyInputPR") (d ∷ ds) refl (omega arith) refl (first_kept Space (d ∷ ds) above)) refl
filled_line family ReturnedBits d ds short above =
    let line = filled ReturnedBits (d ∷ ds) in
    filled_by family ReturnedBits line (codes "ReturnedBits") (d ∷ ds) (omega arith) (end_kept SpaceOrTab (codes "ReturnedBits = ") d ds above) (not_passed 82 (drop 1 line) refl refl) refl
    (parted_with line 13 (codes "ReturnedBits") (d ∷ ds) refl (omega arith) refl (first_kept Space (d ∷ ds) above)) refl

-- a value that is empty or not
digits_line : (family : Family) (f : Field) (v : List ℕ) → IsValue v → IsFieldLine family f (field_line (name_of f) v) (encode_lower v)
unfolding encode_with
digits_line family f [] is = subst (λ (x : List ℕ). IsFieldLine family f x []) (sym (append-nil (name_of f ++ codes " ="))) (empty_line family f)
digits_line family f (b ∷ bs) is =
    let long : length (encode_lower (b ∷ bs)) ≡ 2 * length (b ∷ bs) = length-encode_with lower_digits (b ∷ bs) in
    let short : length (b ∷ bs) ≤ 4096 = is.short in
    subst (λ (x : Bool). IsFieldLine family f (name_of f ++ codes " =" ++ cond x [] (codes " " ++ encode_lower (b ∷ bs))) (encode_lower (b ∷ bs))) (sym (nonempty b bs))
    (filled_line family f (slice_index lower_digits (b / 16)) (slice_index lower_digits (b % 16) ∷ encode_lower bs) (omega (arith, long, short))
    (from_less 33 48 (encode_lower (b ∷ bs)) (omega arith) (hex_from (b ∷ bs) is.bytes)))

pub field_shape_is : (family : Family) (f : Field) (v : List ℕ) → IsValue v → shape_of family (field_line (name_of f) v) ≡ Value f
field_shape_is family f v is = (digits_line family f v is).shape

pub field_value_is : (family : Family) (f : Field) (v : List ℕ) → IsValue v → value_of (field_line (name_of f) v) ≡ encode_lower v
field_value_is family f v is = (digits_line family f v is).value_is

name_from : (f : Field) → From 32 (name_of f ++ codes " =")
name_from EntropyInput = from_test 32 (codes "EntropyInput =") refl
name_from Nonce = from_test 32 (codes "Nonce =") refl
name_from PersonalizationString = from_test 32 (codes "PersonalizationString =") refl
name_from EntropyInputReseed = from_test 32 (codes "EntropyInputReseed =") refl
name_from AdditionalInputReseed = from_test 32 (codes "AdditionalInputReseed =") refl
name_from AdditionalInput = from_test 32 (codes "AdditionalInput =") refl
name_from EntropyInputPr = from_test 32 (codes "EntropyInputPR =") refl
name_from ReturnedBits = from_test 32 (codes "ReturnedBits =") refl

cond_from : (b : Bool) (cs : List ℕ) → From 32 cs → From 32 (cond b [] cs)
cond_from true cs p = tt
cond_from false cs p = p

pub field_from : (f : Field) (v : List ℕ) → IsValue v → From 32 (field_line (name_of f) v)
field_from f v is =
    from_both 32 (name_of f ++ codes " =") (value_text v) (name_from f)
    (cond_from (nat_eq (length v) 0) (codes " " ++ encode_lower v) (omega arith, from_less 32 48 (encode_lower v) (omega arith) (hex_from v is.bytes)))
