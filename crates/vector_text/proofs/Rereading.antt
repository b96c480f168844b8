-- The text of a case is read as that case.
use Rattle.std.proofs.Common.{◌≡◌, ◌<◌, ◌≤◌, ◌^◌, ℕ, ◌+◌, List, [], ◌∷◌, ◌++◌, length, codes, Bool, true, false, cond, refl, sym, ap, ◌∙◌, le-ltb, Some, None, Ok}
use Rattle.hex.specs.Hex.{decode_of}
use Rattle.hex.proofs.HexLemmas.{decode_of-encode_lower}
use Rattle.vector_text.specs.declared.case.Family.{Family}
use Rattle.vector_text.specs.declared.case.Mech.{Mech}
use Rattle.vector_text.specs.declared.case.Case.{Case}
use Rattle.vector_text.specs.declared.shape.Field.{Field}
use Rattle.vector_text.specs.declared.shape.Field.TheVariants.{EntropyInput, Nonce, PersonalizationString, EntropyInputReseed, AdditionalInputReseed, AdditionalInput, EntropyInputPr, ReturnedBits}
use Rattle.vector_text.specs.declared.shape.Section.TheVariants.{Under}
use Rattle.vector_text.specs.declared.shape.Shape.{Shape}
use Rattle.vector_text.specs.Groups.{Group, begun, has_place, with_value}
use Rattle.vector_text.specs.Text.{ACase, TheEnd, Place, Step, Goes, Fails, at_start, behind_step, decoded, entries, entries_from, from_line, placed}
use Rattle.vector_text.specs.Printing.{EmptyUnless, IsPrintable, IsValue, ReadsAgain, count_line, family_of, field_line, generate_lines, mechanism_line, reseed_lines, resistance_line, text_of}
use Rattle.vector_text.proofs.Above.{EachFrom, each_both, lines_text}
use Rattle.vector_text.proofs.Printed.{count_says, field_from, field_shape_is, field_value_is, mechanism_says, name_of, resistance_says}
use Rattle.vector_text.proofs.Steps.{entries_end, entries_line, later_of}

-- ---- one line after another

-- the place behind so many lines, with an open group
abbrev at : Mech → Bool → ℕ → Group → Place
at m pr number g = record { section = Under m; pr = pr; number = number; group = Some g }

placed_by : (m : Mech) (pr : Bool) (number : ℕ) (g : Group) (f : Field) (v : List ℕ) → length v ≤ 4096 → has_place f g ≡ true
    → decoded (at m pr number g) f (Ok v) ≡ Goes (at m pr (number + 1) (with_value f v g))
placed_by m pr number g f v short room =
    ap (λ (b : Bool). cond b (Fails 7) (placed (at m pr number g) f v (Some g))) (le-ltb 4096 (length v) short)
    ∙ ap (λ (b : Bool). cond b (Goes (at m pr (number + 1) (with_value f v g))) (Fails 4)) room

field_step : (fam : Family) (m : Mech) (pr : Bool) (number : ℕ) (g : Group) (f : Field) (v : List ℕ) (later : List (List ℕ)) → IsValue v → has_place f g ≡ true
    → entries_from fam (at m pr number g) (field_line (name_of f) v ∷ later) ≡ entries_from fam (at m pr (number + 1) (with_value f v g)) later
field_step fam m pr number g f v later is room =
    let line = field_line (name_of f) v in
    let p = at m pr number g in
    let read = ap (λ (x : List ℕ). decoded p f (decode_of x)) (field_value_is fam f v is) ∙ (ap (decoded p f) (decode_of-encode_lower v is.bytes) ∙ placed_by m pr number g f v is.short room) in
    entries_line fam p line later
    ∙ (ap (λ (s : Shape). from_line p line s (later_of fam later)) (field_shape_is fam f v is)
    ∙ ap (λ (s : Step). behind_step (number + 1) s (later_of fam later)) read)

head_step : (m : Mech) (pr : Bool) (n : ℕ) (later : List (List ℕ)) → n < 2 ^ 64
    → entries_from (family_of m) at_start (mechanism_line m ∷ resistance_line pr ∷ count_line n ∷ later) ≡ entries_from (family_of m) (at m pr 3 (begun 3 n m pr)) later
head_step m pr n later small =
    let fam = family_of m in
    let l2 = count_line n ∷ later in
    let l1 = resistance_line pr ∷ l2 in
    let p1 : Place = record { section = Under m; pr = false; number = 1; group = None } in
    let p2 : Place = record { section = Under m; pr = pr; number = 2; group = None } in
    entries_line fam at_start (mechanism_line m) l1
    ∙ (ap (λ (s : Shape). from_line at_start (mechanism_line m) s (later_of fam l1)) (mechanism_says m).0
    ∙ (entries_line fam p1 (resistance_line pr) l2
    ∙ (ap (λ (s : Shape). from_line p1 (resistance_line pr) s (later_of fam l2)) (resistance_says fam pr).0
    ∙ (entries_line fam p2 (count_line n) later ∙ ap (λ (s : Shape). from_line p2 (count_line n) s (later_of fam later)) (count_says fam n small).0))))

-- ---- all lines of a case

module _ (m : Mech) (count : ℕ) (e n p r ar a1 a2 p1 p2 ret : List ℕ)
    (ise : IsValue e) (isn : IsValue n) (isp : IsValue p) (isr : IsValue r) (isar : IsValue ar) (is1 : IsValue a1) (is2 : IsValue a2)
    (isp1 : IsValue p1) (isp2 : IsValue p2) (isret : IsValue ret) where
  abbrev case_with : Bool → Bool → List ℕ → List ℕ → List ℕ → List ℕ → Case
  case_with has pr r' ar' p1' p2' = record {
    line = 3;
    count = count;
    mech = m;
    pr = pr;
    entropy = e;
    nonce = n;
    pers = p;
    has_reseed = has;
    reseed = r';
    add_reseed = ar';
    add1 = a1;
    add2 = a2;
    pr1 = p1';
    pr2 = p2';
    returned = ret;
  }

  abbrev lines_with : Bool → Bool → List (List ℕ)
  lines_with has pr =
      field_line (codes "EntropyInput") e ∷ field_line (codes "Nonce") n ∷ field_line (codes "PersonalizationString") p
      ∷ (reseed_lines has r ar ++ (generate_lines pr a1 p1 ++ (generate_lines pr a2 p2 ++ field_line (codes "ReturnedBits") ret ∷ [])))

  abbrev fam : Family
  fam = family_of m

  fields_read : (has pr : Bool) → EmptyUnless has r → EmptyUnless has ar → EmptyUnless pr p1 → EmptyUnless pr p2
      → entries_from fam (at m pr 3 (begun 3 count m pr)) (lines_with has pr) ≡ ACase (case_with has pr r ar p1 p2) ∷ TheEnd ∷ []
  fields_read true true nr nar np1 np2 =
      field_step fam m true _ _ EntropyInput e _ ise refl ∙ (field_step fam m true _ _ Nonce n _ isn refl ∙ (field_step fam m true _ _ PersonalizationString p _ isp refl
      ∙ (field_step fam m true _ _ EntropyInputReseed r _ isr refl ∙ (field_step fam m true _ _ AdditionalInputReseed ar _ isar refl
      ∙ (field_step fam m true _ _ AdditionalInput a1 _ is1 refl ∙ (field_step fam m true _ _ EntropyInputPr p1 _ isp1 refl
      ∙ (field_step fam m true _ _ AdditionalInput a2 _ is2 refl ∙ (field_step fam m true _ _ EntropyInputPr p2 _ isp2 refl
      ∙ (field_step fam m true _ _ ReturnedBits ret _ isret refl ∙ entries_end fam _)))))))))
  fields_read false true nr nar np1 np2 =
      field_step fam m true _ _ EntropyInput e _ ise refl ∙ (field_step fam m true _ _ Nonce n _ isn refl ∙ (field_step fam m true _ _ PersonalizationString p _ isp refl
      ∙ (field_step fam m true _ _ AdditionalInput a1 _ is1 refl ∙ (field_step fam m true _ _ EntropyInputPr p1 _ isp1 refl
      ∙ (field_step fam m true _ _ AdditionalInput a2 _ is2 refl ∙ (field_step fam m true _ _ EntropyInputPr p2 _ isp2 refl
      ∙ (field_step fam m true _ _ ReturnedBits ret _ isret refl ∙ (entries_end fam _
      ∙ (ap (λ (x : List ℕ). ACase (case_with false true x [] p1 p2) ∷ TheEnd ∷ []) (sym nr) ∙ ap (λ (x : List ℕ). ACase (case_with false true r x p1 p2) ∷ TheEnd ∷ []) (sym nar))))))))))
  fields_read true false nr nar np1 np2 =
      field_step fam m false _ _ EntropyInput e _ ise refl ∙ (field_step fam m false _ _ Nonce n _ isn refl ∙ (field_step fam m false _ _ PersonalizationString p _ isp refl
      ∙ (field_step fam m false _ _ EntropyInputReseed r _ isr refl ∙ (field_step fam m false _ _ AdditionalInputReseed ar _ isar refl
      ∙ (field_step fam m false _ _ AdditionalInput a1 _ is1 refl ∙ (field_step fam m false _ _ AdditionalInput a2 _ is2 refl
      ∙ (field_step fam m false _ _ ReturnedBits ret _ isret refl ∙ (entries_end fam _
      ∙ (ap (λ (x : List ℕ). ACase (case_with true false r ar x []) ∷ TheEnd ∷ []) (sym np1) ∙ ap (λ (x : List ℕ). ACase (case_with true false r ar p1 x) ∷ TheEnd ∷ []) (sym np2))))))))))
  fields_read false false nr nar np1 np2 =
      field_step fam m false _ _ EntropyInput e _ ise refl ∙ (field_step fam m false _ _ Nonce n _ isn refl ∙ (field_step fam m false _ _ PersonalizationString p _ isp refl
      ∙ (field_step fam m false _ _ AdditionalInput a1 _ is1 refl ∙ (field_step fam m false _ _ AdditionalInput a2 _ is2 refl
      ∙ (field_step fam m false _ _ ReturnedBits ret _ isret refl ∙ (entries_end fam _
      ∙ (ap (λ (x : List ℕ). ACase (case_with false false x [] [] []) ∷ TheEnd ∷ []) (sym nr) ∙ (ap (λ (x : List ℕ). ACase (case_with false false r x [] []) ∷ TheEnd ∷ []) (sym nar)
      ∙ (ap (λ (x : List ℕ). ACase (case_with false false r ar x []) ∷ TheEnd ∷ []) (sym np1) ∙ ap (λ (x : List ℕ). ACase (case_with false false r ar p1 x) ∷ TheEnd ∷ []) (sym np2))))))))))

  reseed_from : (has : Bool) → EachFrom 32 (reseed_lines has r ar)
  reseed_from true = (field_from EntropyInputReseed r isr, (field_from AdditionalInputReseed ar isar, tt))
  reseed_from false = tt

  generate_from : (pr : Bool) (a q : List ℕ) → IsValue a → IsValue q → EachFrom 32 (generate_lines pr a q)
  generate_from true a q isa isq = (field_from AdditionalInput a isa, (field_from EntropyInputPr q isq, tt))
  generate_from false a q isa isq = (field_from AdditionalInput a isa, tt)

  all_from_32 : (has pr : Bool) → EachFrom 32 (lines_with has pr)
  all_from_32 has pr = (
    field_from EntropyInput e ise,
    (
      field_from Nonce n isn,
      (
        field_from PersonalizationString p isp,
        each_both 32 _ _ (reseed_from has) (each_both 32 _ _ (generate_from pr a1 p1 is1 isp1) (each_both 32 _ _ (generate_from pr a2 p2 is2 isp2) (field_from ReturnedBits ret isret, tt))),
      ),
    ),
  )

  case_read : (has pr : Bool) → count < 2 ^ 64 → EmptyUnless has r → EmptyUnless has ar → EmptyUnless pr p1 → EmptyUnless pr p2
      → entries fam (text_of (mechanism_line m ∷ resistance_line pr ∷ count_line count ∷ lines_with has pr)) ≡ ACase (case_with has pr r ar p1 p2) ∷ TheEnd ∷ []
  case_read has pr small nr nar np1 np2 =
      let all : List (List ℕ) = mechanism_line m ∷ resistance_line pr ∷ count_line count ∷ lines_with has pr in
      ap (entries_from fam at_start)
      (lines_text all ((mechanism_says m).1, ((resistance_says fam pr).1, ((count_says fam count small).1, all_from_32 has pr))))
      ∙ (head_step m pr count (lines_with has pr) small ∙ fields_read has pr nr nar np1 np2)

pub reads_again : (c : Case) → IsPrintable c → ReadsAgain c
reads_again c is =
    case_read c.mech c.count c.entropy c.nonce c.pers c.reseed c.add_reseed c.add1 c.add2 c.pr1 c.pr2 c.returned
    is.entropy is.nonce is.pers is.reseed is.add_reseed is.add1 is.add2 is.pr1 is.pr2 is.returned
    c.has_reseed c.pr is.count is.no_reseed is.no_add_reseed is.no_pr1 is.no_pr2
