-- The lines of bytes.
use Rattle.std.proofs.Common.{◌≡◌, ◌<◌, ◌≤◌, ℕ, ◌+◌, ◌-◌, List, [], ◌∷◌, ◌++◌, length, take, drop, get_or, Bool, true, false, cond, refl, sym, ap, ◌∙◌, subst, arith, append_assoc, take-append-drop, length-take, length-append}
use Rattle.std.specs.Prelude.{◌==◌, slice_index, nat_eq}
use Rattle.std.specs.List.{All, slice_split, onto_first}
use Rattle.std.specs.Str.Lines.{lines, lines_of_parts, strip_carriage_return}
use Rattle.std.proofs.lemmas.List.{take-append-le}
use Rattle.std.proofs.lemmas.Bool.{ne_eqb}
use Rattle.std.proofs.lemmas.List.Splits.{slice_split_none, slice_split_at, slice_split-cons_no}
use Rattle.std.proofs.lemmas.List.Elements.{All-head, All-tail}
use Rattle.vector_text.specs.Feeding.{is_line_feed, IsLineEnd, BeginsLong}
use Rattle.vector_text.proofs.Numerals.{dropped}

-- ---- the parts between line feeds

abbrev Some_parts : List (List ℕ) → Type 0
Some_parts ps = (q : List ℕ) × (qs : List (List ℕ)) × (ps ≡ q ∷ qs)

onto_some : (c : ℕ) (ps : List (List ℕ)) → Some_parts (onto_first c ps)
onto_some c [] = (c ∷ [], [], refl)
onto_some c (p ∷ ps) = (c ∷ p, ps, refl)

cond_some : (b : Bool) (c : ℕ) (ps : List (List ℕ)) → Some_parts (cond b ([] ∷ ps) (onto_first c ps))
cond_some true c ps = ([], ps, refl)
cond_some false c ps = onto_some c ps

split_some : (bs : List ℕ) → Some_parts (slice_split is_line_feed bs)
split_some [] = ([], [], refl)
split_some (c ∷ bs) = cond_some (is_line_feed c) c (slice_split is_line_feed bs)

parts_first : (x : List ℕ) (ps : List (List ℕ)) → Some_parts ps → lines_of_parts (x ∷ ps) ≡ strip_carriage_return x ∷ lines_of_parts ps
parts_first x ps (q, qs, e) =
    ap (λ (ys : List (List ℕ)). lines_of_parts (x ∷ ys)) e ∙ sym (ap (λ (ys : List (List ℕ)). strip_carriage_return x ∷ lines_of_parts ys) e)

-- ---- a line with its line feed, and the last one

pub lines_at : (line more : List ℕ) → All (λ c. is_line_feed c ≡ false) line → lines (line ++ 10 ∷ more) ≡ strip_carriage_return line ∷ lines more
lines_at line more all = ap lines_of_parts (slice_split_at is_line_feed line 10 more all refl) ∙ parts_first line (slice_split is_line_feed more) (split_some more)

-- what has a first element is not empty
pub nonempty : (c : ℕ) (cs : List ℕ) → nat_eq (length (c ∷ cs)) 0 ≡ false
nonempty c cs = ne_eqb (length (c ∷ cs)) 0 (omega arith)

pub lines_last : (c : ℕ) (line : List ℕ) → All (λ x. is_line_feed x ≡ false) (c ∷ line) → lines (c ∷ line) ≡ (c ∷ line) ∷ []
lines_last c line all = ap lines_of_parts (slice_split_none is_line_feed (c ∷ line) all) ∙ ap (λ (b : Bool). cond b [] ((c ∷ line) ∷ [])) (nonempty c line)

-- the line feed at a place ends the first line
pub line_found : (ahead : List ℕ) (i len : ℕ) → i < length ahead → get_or ahead i 0 ≡ 10 → All (λ c. is_line_feed c ≡ false) (take i ahead) → len ≤ i
    → take len (take i ahead) ≡ strip_carriage_return (take i ahead) → IsLineEnd ahead len (i + 1)
line_found ahead i len within feed all short stripped = record {
  short = omega (arith, short);
  some = omega arith;
  within = omega (arith, within);
  line = λ more.
      let here : ahead ≡ take i ahead ++ 10 ∷ drop (i + 1) ahead =
      sym (take-append-drop i ahead) ∙ (ap (λ (x : List ℕ). take i ahead ++ x) (dropped ahead i within) ∙ ap (λ (c : ℕ). take i ahead ++ c ∷ drop (i + 1) ahead) feed) in
      let all_more : ahead ++ more ≡ take i ahead ++ 10 ∷ (drop (i + 1) ahead ++ more) =
      ap (λ (x : List ℕ). x ++ more) here ∙ append_assoc (take i ahead) (10 ∷ drop (i + 1) ahead) more in
      let front : take len (take i ahead) ≡ take len ahead =
      sym (take-append-le len (take i ahead) (drop i ahead) (omega (arith, length-take i ahead, short, within))) ∙ ap (take len) (take-append-drop i ahead) in
      ap lines all_more ∙ (lines_at (take i ahead) (drop (i + 1) ahead ++ more) all
      ∙ ap (λ (l : List ℕ). l ∷ lines (drop (i + 1) ahead ++ more)) (sym stripped ∙ front));
}

-- ---- a line that is too long, whatever follows

joined : (b more part : List ℕ) (ps : List (List ℕ)) → All (λ c. is_line_feed c ≡ false) b → slice_split is_line_feed more ≡ part ∷ ps
    → slice_split is_line_feed (b ++ more) ≡ (b ++ part) ∷ ps
joined [] more part ps all e = e
joined (c ∷ b) more part ps all e =
    slice_split-cons_no is_line_feed c (b ++ more) (All-head (λ x. is_line_feed x ≡ false) c b all)
    ∙ ap (onto_first c) (joined b more part ps (All-tail (λ x. is_line_feed x ≡ false) c b all) e)

cond_len : (b : Bool) (l : List ℕ) → length l ≤ length (cond b (take (length l - 1) l) l) + 1
cond_len true l = omega (arith, length-take (length l - 1) l)
cond_len false l = omega arith

long_parts : (x : List ℕ) (ps : List (List ℕ)) → 16386 ≤ length x → BeginsLong (lines_of_parts (x ∷ ps))
long_parts [] ps h = absurd (omega (arith, h))
long_parts (c ∷ x) [] h = subst BeginsLong (sym (ap (λ (b : Bool). cond b [] ((c ∷ x) ∷ [])) (nonempty c x))) (omega (arith, h))
long_parts (c ∷ x) (y ∷ ys) h = omega (arith, h, cond_len (slice_index (c ∷ x) (length (c ∷ x) - 1) == 13) (c ∷ x))

pub lines_long : (ahead more : List ℕ) → All (λ c. is_line_feed c ≡ false) ahead → 16386 ≤ length ahead → BeginsLong (lines (ahead ++ more))
lines_long ahead more all h =
    let some = split_some more in
    subst BeginsLong (ap lines_of_parts (sym (joined ahead more some.0 some.1 all some.2))) (long_parts (ahead ++ some.0) some.1 (omega (arith, h, length-append ahead some.0)))
