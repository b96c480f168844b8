-- Calls that were made, and one more.
use Rattle.std.proofs.Common.{◌≡◌, ◌∙◌, ◌++◌, ◌∷◌, ◌+◌, ℕ, List, [], suc, Bool, true, false, refl, sym, ap, subst, arith, append_assoc, append-nil, add-zero, eq-eqb, eqb-true}
use Rattle.std.specs.Prelude.{◌==◌, if◌then◌else◌, filter, length, map, not, Option}
use Rattle.std.proofs.lemmas.List.{map-append}
use Rattle.std.proofs.lemmas.List.FromFn.{map-range_with_len_more}
use Rattle.entropy_source.specs.Views.{SourceView}
use Rattle.rbg_nodes.specs.Views.{NodeView}
use Rattle.tree_rules.specs.declared.call.Call.{Call}
use Rattle.tree_rules.specs.declared.reply.Reply.{Reply}
use Rattle.tree_rules.specs.History.{Act, Entry, Opening, acts_of, opened}
use Rattle.tree_rules.specs.Openings.{IsHistory}
use Rattle.tree_rules.specs.Stands.{StandAfter}
use Rattle.tree_rules.specs.Apart.{Apart}
use Rattle.tree_rules.specs.Quiet.{Quiet}
use Rattle.tree_core.specs.Made.{AreReads, samples_in}
use Rattle.tree_core.specs.Solo.{GoesOn}
use Rattle.tree_core.proofs.Made.{acts_more, reads_none, reads_on, samples_count}
use Rattle.tree_load.specs.Load.{number, reached, stated_call, stated_calls}
use Rattle.tree_load.specs.Made.{AreMade, is_done, is_refused}

-- the stated calls, with the next one
pub one_more : (nodes seed i : ℕ) → stated_calls nodes seed (i + 1) ≡ stated_calls nodes seed i ++ stated_call nodes (number seed i) ∷ []
unfolding stated_calls
one_more nodes seed i = map-range_with_len_more (λ i. stated_call nodes (number seed i)) 0 i i (omega arith)

pub none_stated : (nodes seed : ℕ) → stated_calls nodes seed 0 ≡ []
unfolding stated_calls
none_stated nodes seed = refl

-- the numbers
pub reached_none : (seed : ℕ) → reached seed 0 ≡ seed
unfolding reached
reached_none seed = refl

pub reached_more : (seed i : ℕ) → reached seed (i + 1) ≡ number seed i
unfolding reached
reached_more seed i = let one : i + 1 ≡ suc i = omega arith in ap (λ k. reached seed k) one

-- so many entries of a kind, with one more
abbrev count : (Entry → Bool) → List Entry → ℕ
count test es = length (filter test es)

count_push : (test : Entry → Bool) (es : List Entry) (e : Entry) → count test (es ++ e ∷ []) ≡ count test es + count test (e ∷ [])
count_push test [] e = omega arith
count_push test (x ∷ es) e = by (test x) (count_push test es e) where
  more : List Entry
  more = filter test (es ++ e ∷ [])

  by : (b : Bool) → count test (es ++ e ∷ []) ≡ count test es + count test (e ∷ [])
      → length (if b then x ∷ more else more) ≡ length (if b then x ∷ filter test es else filter test es) + count test (e ∷ [])
  by true h = omega (arith, h)
  by false h = h

module _ {S : Type 0} (told : S → Option (List ℕ)) (faults : S → ℕ) (reads : S → ℕ → Option (List ℕ) → S → Type 0) (f : Opening) (o h : List Entry) where
  -- no call
  pub none_made : (nodes : List NodeView) (sources : List (SourceView S)) → IsHistory f o h → Apart f.plan (o ++ h) → Quiet f.plan (opened f) (o ++ h)
      → StandAfter told faults f o h nodes sources → AreMade told faults reads f o h (samples_in sources) [] 0 0 nodes sources
  none_made nodes sources history apart quiet stand =
      let same : h ++ [] ≡ h = append-nil h in record {
        entries = [];
        calls_are = refl;
        callers = refl;
        strings = refl;
        history = subst (λ (x : List Entry). IsHistory f o x) (sym same) history;
        apart = subst (λ (x : List Entry). Apart f.plan (o ++ x)) (sym same) apart;
        quiet = subst (λ (x : List Entry). Quiet f.plan (opened f) (o ++ x)) (sym same) quiet;
        stand = subst (λ (x : List Entry). StandAfter told faults f o x nodes sources) (sym same) stand;
        made = reads_none reads faults f.plan (samples_in sources);
        done_are = refl;
        refused_are = refl;
      }

  -- and a call more
  pub more_made : (samples : List S) → length samples ≡ length f.plan.sources → (calls : List Call) (done refused : ℕ) (nodes now : List NodeView) (sources next : List (SourceView S))
      (c : Call) (reply : Reply) (bytes : List ℕ) (m : AreMade told faults reads f o h samples calls done refused nodes sources)
      → GoesOn told faults reads f o (h ++ m.entries) (samples_in sources) c [] reply bytes now next
      → AreMade told faults reads f o h samples (calls ++ c ∷ []) (done + (if reply.code == 0 then 1 else 0)) (refused + (if reply.code == 0 then 0 else 1)) now next
  more_made samples many calls done refused nodes now sources next c reply bytes m g =
      let e = g.entry in
      let es = m.entries in
      let same : (h ++ es) ++ e ∷ [] ≡ h ++ (es ++ e ∷ []) = append_assoc h es (e ∷ []) in
      let code : e.reply.code ≡ reply.code = ap (λ (r : Reply). r.code) g.reply_is in record {
        entries = es ++ e ∷ [];
        calls_are = map-append (λ (e : Entry). e.call) es (e ∷ []) ∙ (ap (λ (x : List Call). x ++ e.call ∷ []) m.calls_are ∙ ap (λ (x : Call). calls ++ x ∷ []) g.call_is);
        callers = map-append (λ (e : Entry). e.caller) es (e ∷ []) ∙ (ap (λ (x : List ℕ). x ++ e.caller ∷ []) m.callers
            ∙ (ap {B = List ℕ} (λ (x : ℕ). map (λ (e : Entry). 1) es ++ x ∷ []) g.caller_is ∙ sym (map-append (λ (e : Entry). 1) es (e ∷ []))));
        strings = map-append (λ (e : Entry). e.string) es (e ∷ []) ∙ (ap (λ (x : List (List ℕ)). x ++ e.string ∷ []) m.strings
            ∙ (ap {B = List (List ℕ)} (λ (x : List ℕ). map (λ (e : Entry). []) es ++ x ∷ []) g.string_is ∙ sym (map-append (λ (e : Entry). []) es (e ∷ []))));
        history = subst (λ (x : List Entry). IsHistory f o x) same g.history;
        apart = subst (λ (x : List Entry). Apart f.plan (o ++ x)) same g.apart;
        quiet = subst (λ (x : List Entry). Quiet f.plan (opened f) (o ++ x)) same g.quiet;
        stand = subst (λ (x : List Entry). StandAfter told faults f o x now next) same g.stand;
        made = subst (λ (x : List Act). AreReads reads faults f.plan samples (samples_in next) x) (sym (acts_more es e))
            (reads_on reads faults f.plan samples (samples_in sources) (samples_in next) (acts_of es) e.acts (samples_count sources ∙ (m.stand.source_count ∙ sym many)) m.made g.made);
        done_are = let a = m.done_are in let b = count_push is_done es e in let d = counts_done (e.reply.code == 0) in
            let k = ap {B = ℕ} (λ (z : ℕ). if z == 0 then 1 else 0) code in omega (arith, a, b, d, k);
        refused_are = let a = m.refused_are in let b = count_push is_refused es e in let d = counts_refused (e.reply.code == 0) in
            let k = ap {B = ℕ} (λ (z : ℕ). if z == 0 then 0 else 1) code in omega (arith, a, b, d, k);
      } where
        counts_done : (b : Bool) → length (if b then g.entry ∷ [] else []) ≡ (if b then 1 else 0)
        counts_done true = refl
        counts_done false = refl

        counts_refused : (b : Bool) → length (if not b then g.entry ∷ [] else []) ≡ (if b then 0 else 1)
        counts_refused true = refl
        counts_refused false = refl

  -- one more that was Done, and one more that was refused
  module _ (samples : List S) (many : length samples ≡ length f.plan.sources) (nodes seed i done refused : ℕ) (old now : List NodeView) (sources next : List (SourceView S))
      (c : Call) (reply : Reply) (bytes : List ℕ) (m : AreMade told faults reads f o h samples (stated_calls nodes seed i) done refused old sources)
      (goes : GoesOn told faults reads f o (h ++ m.entries) (samples_in sources) c [] reply bytes now next) (is : c ≡ stated_call nodes (number seed i)) where
    all : AreMade told faults reads f o h samples (stated_calls nodes seed (i + 1)) (done + (if reply.code == 0 then 1 else 0)) (refused + (if reply.code == 0 then 0 else 1)) now next
    all = subst (λ (x : List Call). AreMade told faults reads f o h samples x (done + (if reply.code == 0 then 1 else 0)) (refused + (if reply.code == 0 then 0 else 1)) now next)
        (ap (λ (x : Call). stated_calls nodes seed i ++ x ∷ []) is ∙ sym (one_more nodes seed i))
        (more_made samples many (stated_calls nodes seed i) done refused old now sources next c reply bytes m goes)

    abbrev Then : ℕ → ℕ → Type 0
    Then d r = AreMade told faults reads f o h samples (stated_calls nodes seed (i + 1)) d r now next

    pub more_done : (d r : ℕ) → d ≡ done + 1 → r ≡ refused → reply.code ≡ 0 → Then d r
    more_done d r d_is r_is code =
        subst (λ (x : ℕ). Then x r) (sym d_is) (subst (λ (x : ℕ). Then (done + 1) x) (add-zero refused ∙ sym r_is)
        (subst (λ (b : Bool). Then (done + (if b then 1 else 0)) (refused + (if b then 0 else 1))) (eq-eqb reply.code 0 code) all))

    pub more_refused : (d r : ℕ) → d ≡ done → r ≡ refused + 1 → (reply.code ≡ 0 → ⊥) → Then d r
    more_refused d r d_is r_is other =
        subst (λ (x : ℕ). Then d x) (sym r_is) (subst (λ (x : ℕ). Then x (refused + 1)) (add-zero done ∙ sym d_is)
        (subst (λ (b : Bool). Then (done + (if b then 1 else 0)) (refused + (if b then 0 else 1))) (is_not (reply.code == 0) refl) all)) where
          is_not : (b : Bool) → (reply.code == 0) ≡ b → b ≡ false
          is_not false e = refl
          is_not true e = absurd (other (eqb-true reply.code 0 e))
