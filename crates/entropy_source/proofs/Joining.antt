-- Reads one after another are reads.
use Rattle.std.proofs.Common.{◌≡◌, ◌≤◌, ℕ, List, [], ◌∷◌, ◌++◌, refl, sym, ap, ◌∙◌, subst, arith, append_assoc, append-nil, length-append}
use Rattle.std.specs.Prelude.{Option, Some, None, IsSome, Ok, Err}
use Rattle.rbg_bytes.specs.Streams.{Rose}
use Rattle.health_tests.specs.declared.numbers.Tail.{Tail}
use Rattle.health_tests.specs.Numbers.{tail_step, tail_after}
use Rattle.entropy_source.specs.declared.answers.SourceRow.{SourceRow}
use Rattle.entropy_source.specs.declared.answers.SourceRefusal.{SourceRefusal}
use Rattle.entropy_source.specs.declared.answers.SourceRefusal.TheVariants.{SourceSpent, InError, SourceFault, HealthFailed, WantOfEntropy}
use Rattle.entropy_source.specs.Source.{SourceAct, SourceState, source_after, source_after_all}
use Rattle.entropy_source.specs.Draws.{Gathers, found_in}
use Rattle.entropy_source.specs.Views.{SourceView, source_state}
use Rattle.entropy_source.specs.Scaffolding.{IsLeft, LeadsTo, Leads, Stops}
use Rattle.entropy_source.proofs.Leading.{lead_on}

-- the state after two rows of acts
pub after_append : (row : SourceRow) (s : SourceState) (xs ys : List SourceAct) → source_after_all row s (xs ++ ys) ≡ source_after_all row (source_after_all row s xs) ys
after_append row s [] ys = refl
after_append row s (x ∷ xs) ys = after_append row (source_after row s x) xs ys

pub tail_append : (w : ℕ) (t : Tail) (x y : List ℕ) → tail_after w (tail_after w t x) y ≡ tail_after w t (x ++ y)
tail_append w t [] y = refl
tail_append w t (s ∷ x) y = tail_append w (tail_step w t s) x y

-- a refusal is left so, looked at from a moment before
pub left_before : (s mid now : SourceState) (lacks left : ℕ) (why : SourceRefusal) → mid.mode ≡ s.mode → mid.faults ≡ s.faults → left ≤ lacks
    → IsLeft mid now left why → IsLeft s now lacks why
left_before s mid now lacks left (SourceSpent taken need) m f l h = h
left_before s mid now lacks left (InError cause) m f l h = h
left_before s mid now lacks left (SourceFault count) m f l (a, b, c) = (subst (λ z. Rose z now.faults) f a, b, c ∙ m)
left_before s mid now lacks left (HealthFailed index test) m f l (a, b) = (a ∙ f, b)
left_before s mid now lacks left (WantOfEntropy missing) m f l (a, b, c, d) = (a ∙ f, b ∙ m, c, omega arith)

module _ {S : Type 0} (told : S → Option (List ℕ)) (faults : S → ℕ) (reads : S → ℕ → Option (List ℕ) → S → Type 0) (row : SourceRow) where
  abbrev of : SourceView S → SourceState
  of v = source_state told faults v

  pub to_itself : (v : SourceView S) → LeadsTo told faults reads row [] v v
  to_itself v = record { state = refl; made = refl }

  pub to_on : (v m w : SourceView S) (xs ys : List SourceAct) → LeadsTo told faults reads row xs v m → LeadsTo told faults reads row ys m w
      → LeadsTo told faults reads row (xs ++ ys) v w
  to_on v m w xs ys a b = record {
    state = b.state ∙ (ap (λ (z : SourceState). source_after_all row z ys) a.state ∙ sym (after_append row (of v) xs ys));
    made = lead_on reads faults v.samples m.samples w.samples xs ys a.made b.made;
  }

module _ {S : Type 0} (told : S → Option (List ℕ)) (faults : S → ℕ) (reads : S → ℕ → Option (List ℕ) → S → Type 0) (row : SourceRow) (v : SourceView S) where
  abbrev s : SourceState
  s = source_state told faults v

  pub leads_none : (lacks : ℕ) → Leads told faults reads row v v lacks lacks []
  leads_none lacks = record {
    acts = [];
    leads = to_itself told faults reads row v;
    keeps = λ t h. h;
    count = omega arith;
    taken = omega arith;
    blocks = refl;
    others = record { mode = refl; alarms = refl; faults = refl };
    goes = λ t has read more end tl g.
        subst (λ z. Gathers row (found_in row.cutoffs (Some t)) lacks s z read more end) (append-nil has)
        (subst (λ z. Gathers row (found_in row.cutoffs (Some t)) lacks s (has ++ []) z more end) (append-nil read) g);
  }

  module _ (m w : SourceView S) (lacks left : ℕ) (got : List ℕ) (a : Leads told faults reads row v m lacks left got) where
    abbrev mid : SourceState
    mid = source_state told faults m

    abbrev now : SourceState
    now = source_state told faults w

    abbrev window : ℕ
    window = row.cutoffs.window

    tail_mid : (t : Tail) (read : List ℕ) → s.tail ≡ Some (tail_after window t read) → mid.tail ≡ Some (tail_after window t (read ++ got))
    tail_mid t read tl = a.keeps (tail_after window t read) tl ∙ ap Some (tail_append window t read got)

    pub leads_more : (rest : ℕ) (more : List ℕ) → Leads told faults reads row m w left rest more → Leads told faults reads row v w lacks rest (got ++ more)
    leads_more rest more b = record {
      acts = a.acts ++ b.acts;
      leads = to_on told faults reads row v m w a.acts b.acts a.leads b.leads;
      keeps = λ t h. b.keeps (tail_after window t got) (a.keeps t h) ∙ ap Some (tail_append window t got more);
      count = omega (arith, length-append got more, a.count, b.count);
      taken = omega (arith, length-append got more, a.taken, b.taken);
      blocks = b.blocks ∙ a.blocks;
      others = record {
        mode = b.others.mode ∙ a.others.mode;
        alarms = b.others.alarms ∙ a.others.alarms;
        faults = b.others.faults ∙ a.others.faults;
      };
      goes = λ t has read rest' end tl g.
          subst (λ z. Gathers row (found_in row.cutoffs (Some t)) lacks s has read z end) (sym (append_assoc a.acts b.acts rest'))
          (a.goes t has read (b.acts ++ rest') end tl
          (b.goes t (has ++ got) (read ++ got) rest' end (tail_mid t read tl)
          (subst (λ z. Gathers row (found_in row.cutoffs (Some t)) rest now z ((read ++ got) ++ more) rest' end) (sym (append_assoc has got more))
          (subst (λ z. Gathers row (found_in row.cutoffs (Some t)) rest now (has ++ (got ++ more)) z rest' end) (sym (append_assoc read got more)) g))));
    }

    pub leads_stops : (why : SourceRefusal) → Stops told faults reads row m w left why → Stops told faults reads row v w lacks why
    leads_stops why b = record {
      acts = a.acts ++ b.acts;
      leads = to_on told faults reads row v m w a.acts b.acts a.leads b.leads;
      few = omega (arith, a.count, a.taken, b.few);
      blocks = b.blocks ∙ a.blocks;
      left = left_before s mid now lacks left why a.others.mode a.others.faults (omega (arith, a.count)) b.left;
      ends = λ t has read tl. a.goes t has read b.acts (Err why) tl (b.ends t (has ++ got) (read ++ got) (tail_mid t read tl));
    }

-- all samples were read
pub gathered_all : {S : Type 0} (told : S → Option (List ℕ)) (faults : S → ℕ) (reads : S → ℕ → Option (List ℕ) → S → Type 0) (row : SourceRow)
    (v w : SourceView S) (lacks : ℕ) (got : List ℕ) (a : Leads told faults reads row v w lacks 0 got)
    → (t : Tail) (has read : List ℕ) → v.tail ≡ Some (tail_after row.cutoffs.window t read)
    → Gathers row (found_in row.cutoffs (Some t)) lacks (source_state told faults v) has read a.acts (Ok (has ++ got))
gathered_all told faults reads row v w lacks got a t has read tl =
    subst (λ z. Gathers row (found_in row.cutoffs (Some t)) lacks (source_state told faults v) has read z (Ok (has ++ got))) (append-nil a.acts)
    (a.goes t has read [] (Ok (has ++ got)) tl (refl, refl))

-- Reads so that some samples are left to be read.
module _ {S : Type 0} (told : S → Option (List ℕ)) (faults : S → ℕ) (reads : S → ℕ → Option (List ℕ) → S → Type 0) (row : SourceRow) (v : SourceView S) (lacks : ℕ) where
  abbrev pub Left : SourceView S → ℕ → Type 0
  Left w left = (got : List ℕ) × Leads told faults reads row v w lacks left got

  pub left_none : (left : ℕ) → left ≡ lacks → Left v left
  left_none left is = ([], subst (λ k. Leads told faults reads row v v lacks k []) (sym is) (leads_none told faults reads row v lacks))

  module _ (m w : SourceView S) (here : SourceRow) (is : here ≡ row) (left : ℕ) where
    pub left_more : (rest : ℕ) (more : List ℕ) → Left m left → Leads told faults reads here m w left rest more → Left w rest
    left_more rest more (got, first) second =
        (got ++ more, leads_more told faults reads row v m w lacks left got first rest more (subst (λ r. Leads told faults reads r m w left rest more) is second))

    pub left_stops : (why : SourceRefusal) → Left m left → Stops told faults reads here m w left why → Stops told faults reads row v w lacks why
    left_stops why (got, first) second =
        leads_stops told faults reads row v m w lacks left got first why (subst (λ r. Stops told faults reads r m w left why) is second)

-- the tests keep something after reads without an alarm
pub still_tested : {S : Type 0} (told : S → Option (List ℕ)) (faults : S → ℕ) (reads : S → ℕ → Option (List ℕ) → S → Type 0) (row : SourceRow)
    (v w : SourceView S) (lacks left : ℕ) (got : List ℕ) → Leads told faults reads row v w lacks left got → IsSome v.tail → IsSome w.tail
still_tested told faults reads row v w lacks left got leads some = by v.tail some leads.keeps where
  by : (o : Option Tail) → IsSome o → ((t : Tail) → o ≡ Some t → w.tail ≡ Some (tail_after row.cutoffs.window t got)) → IsSome w.tail
  by None some keeps = cc
  by (Some t) some keeps = subst (λ (o : Option Tail). IsSome o) (sym (keeps t refl)) refl
