-- Draws on a source that is held: one, and one after the other.
use Rattle.std.proofs.Common.{◌≡◌, ◌∙◌, ◌∷◌, ◌++◌, ◌+◌, ◌*◌, ◌<◌, ◌≤◌, ◌^◌, ℕ, List, [], length, map, true, false, refl, sym, ap, subst, arith}
use Rattle.std.specs.Prelude.{Option, Some, None, Result, Ok, Err, MatchResult, OnOk, sum}
use Rattle.health_tests.specs.declared.numbers.Tail.{Tail}
use Rattle.tree_config.specs.Tree.{Tree}
use Rattle.entropy_source.specs.declared.answers.Range.{Range}
use Rattle.entropy_source.specs.declared.answers.SourceRow.{SourceRow}
use Rattle.entropy_source.specs.declared.answers.SourceMode.{SourceMode}
use Rattle.entropy_source.specs.declared.answers.SourceMode.TheVariants.{Idle, Running, Alarmed}
use Rattle.entropy_source.specs.declared.answers.SourceRefusal.{SourceRefusal}
use Rattle.entropy_source.specs.Source.{SourceAct, SourceState, need_of, source_after_all}
use Rattle.entropy_source.specs.Draws.{Drawn, portions, found_in}
use Rattle.entropy_source.specs.Views.{SourceView, source_state, HasDrawn, AnswersDraw, IsSource, HasTail}
use Rattle.tree_rules.specs.History.{SlotState, SourceIs, source_in}
use Rattle.tree_rules.specs.Slots.{source_row, source_slot}
use Rattle.tree_rules.specs.Chain.{source_at}
use Rattle.tree_rules.specs.Fits.{at_source}
use Rattle.tree_rules.proofs.Parting.{place_of}
use Rattle.rbg_nodes.specs.Views.{NodeView}
use Rattle.tree_acts.specs.Hold.{Hold, PutsSource, IsOfPlan, states_held, source_held}
use Rattle.tree_acts.specs.Did.{Did}
use Rattle.tree_acts.specs.Drew.{Drew, Runs}
use Rattle.entropy_source.specs.Counted.{behind}
use Rattle.entropy_source.proofs.Portions.{wants_on, portions_on, draws_length}
use Rattle.tree_rules.specs.History.{AtSource, slot_after_all}
use Rattle.tree_rules.specs.Chain.{SourceLink}
use Rattle.std.proofs.lemmas.Bool.Decides.{nat_tests}
use Rattle.std.proofs.lemmas.List.Sums.{sum-map, sum_by-append}
use Rattle.std.specs.List.{sum_by}
use native.Mathlib.Nat.{add-mul}
use Rattle.entropy_source.specs.Source.{blocks_for, need_of_block}
use Rattle.tree_acts.proofs.Doing.{did_source, did_join, own_here, source_acts}

same_slot : (l m : SourceLink) (acts : List SourceAct) → l.slot ≡ m.slot → map (at_source m) acts ≡ map (at_source l) acts
same_slot l m [] e = refl
same_slot l m (a ∷ acts) e = rw (e, same_slot l m acts e) refl

map_on : (l m : SourceLink) (xs ys : List SourceAct) → l.slot ≡ m.slot → map (at_source l) (xs ++ ys) ≡ map (at_source l) xs ++ map (at_source m) ys
map_on l m [] ys e = sym (same_slot l m ys e)
map_on l m (x ∷ xs) ys e = ap (λ z. at_source l x ∷ z) (map_on l m xs ys e)

pub blocks_on : (row : SourceRow) (xs ys : List ℕ) → sum (map (λ n. blocks_for row n) (xs ++ ys)) ≡ sum (map (λ n. blocks_for row n) xs) + sum (map (λ n. blocks_for row n) ys)
blocks_on row xs ys = sum-map (λ n. blocks_for row n) (xs ++ ys) ∙ (sum_by-append (λ n. blocks_for row n) xs ys
    ∙ (ap (λ k. k + sum_by (λ n. blocks_for row n) ys) (sym (sum-map (λ n. blocks_for row n) xs)) ∙ ap (λ k. sum (map (λ n. blocks_for row n) xs) + k) (sym (sum-map (λ n. blocks_for row n) ys))))

pub need_on : (row : SourceRow) (xs ys : List ℕ) → need_of row (xs ++ ys) ≡ need_of row xs + need_of row ys
need_on row xs ys = ap (λ k. k * need_of_block row) (blocks_on row xs ys) ∙ add-mul (sum (map (λ n. blocks_for row n) xs)) (sum (map (λ n. blocks_for row n) ys)) (need_of_block row)

abbrev pub why_of : Result Range SourceRefusal → Option SourceRefusal
why_of (Ok range) = None
why_of (Err why) = Some why

module _ {S : Type 0} (told : S → Option (List ℕ)) (faults : S → ℕ) (p : Tree) where
  -- the state of a source that is held
  pub held_source : (h : Hold (SourceView S)) (j : ℕ) (v : SourceView S) → IsOfPlan p h → h.sources (source_slot p j) ≡ Some v
      → source_held told faults h (source_slot p j) ≡ source_state told faults v
  held_source h j v plan at = by (h.nodes (source_slot p j)) refl where
    by : (o : Option NodeView) → h.nodes (source_slot p j) ≡ o → source_held told faults h (source_slot p j) ≡ source_state told faults v
    by None e = rw (e, at) refl
    by (Some x) e = absurd (let a = (plan.node (source_slot p j) x e).low in omega (arith, a))

  pub row_source : (h : Hold (SourceView S)) (j : ℕ) (v : SourceView S) → IsOfPlan p h → h.sources (source_slot p j) ≡ Some v → v.row ≡ source_row p j
  row_source h j v plan at = (plan.source (source_slot p j) v at).row ∙ ap (λ k. source_row p k) (place_of (length p.nodes) j)

  pub tail_of_running : (m : SourceMode) (o : Option Tail) → m ≡ Running → HasTail m o → (t : Tail) × (o ≡ Some t)
  tail_of_running Idle o e h = cc
  tail_of_running (Alarmed i t) o e h = cc
  tail_of_running Running (Some t) e h = (t, refl)
  tail_of_running Running None e h = absurd (let f : false ≡ true = h in cc)

  pub drew_one : (reads : S → ℕ → Option (List ℕ) → S → Type 0) (h t : Hold (SourceView S)) (j : ℕ) (v w : SourceView S) (n : ℕ) (out : List ℕ) (result : Result Range SourceRefusal)
      → IsOfPlan p h → h.sources (source_slot p j) ≡ Some v → PutsSource h t (source_slot p j) w → w.row ≡ v.row → IsSource v → v.mode ≡ Running
      → HasDrawn told faults reads n out result v w
      → OnOk result ((w.mode ≡ v.mode) × (w.taken ≡ v.taken + need_of v.row (n ∷ [])) × (faults w.samples ≡ faults v.samples))
      → Drew told faults reads p h t j (n ∷ []) (why_of result) (out ∷ [])
  drew_one reads h t j v w n out result plan at puts rows ok running drew after = record {
    acts = drew.acts;
    end = drew.bytes;
    draw = subst (λ row. fam row (source_held told faults h (source_slot p j))) row (subst (λ s. fam v.row s) (sym state) drew.draw);
    did = did_source told faults p reads h t j v w drew.acts (source_at p (states_held told faults h) j) refl plan at puts rows drew.state drew.made;
    answer = answers drew.bytes result drew.answer;
    mode = λ e. ap (λ (s : SourceState). s.mode) now ∙ (ends result e after).0;
    taken = λ e. ap (λ (s : SourceState). s.taken) now ∙ ((ends result e after).1 ∙ (ap (λ r. v.taken + need_of r (n ∷ [])) row ∙ ap (λ (s : SourceState). s.taken + need_of (source_row p j) (n ∷ [])) (sym state)));
    tail = subst (λ (s : SourceState). (t : Tail) × (s.tail ≡ Some t)) (sym state) (tail_of_running v.mode v.tail running ok.tail);
  } where
    state : source_held told faults h (source_slot p j) ≡ source_state told faults v
    state = held_source h j v plan at

    row : v.row ≡ source_row p j
    row = row_source h j v plan at

    fam : SourceRow → SourceState → Type 0
    fam r s = Drawn r (found_in r.cutoffs s.tail) s (n ∷ []) drew.acts drew.bytes

    now : source_held told faults t (source_slot p j) ≡ source_state told faults w
    now = by (h.nodes (source_slot p j)) refl where
      by : (o : Option NodeView) → h.nodes (source_slot p j) ≡ o → source_held told faults t (source_slot p j) ≡ source_state told faults w
      by None e = rw (puts.nodes (source_slot p j), e, puts.there) refl
      by (Some x) e = absurd (let a = (plan.node (source_slot p j) x e).low in omega (arith, a))

    answers : (bytes : Result (List ℕ) SourceRefusal) (result : Result Range SourceRefusal)
        → AnswersDraw v.taken w.taken n out bytes result
        → MatchResult bytes (λ all. (why_of result ≡ None) × (out ∷ [] ≡ portions (source_row p j) (n ∷ []) all)) (λ why. why_of result ≡ Some why)
    answers (Ok all) result (e, f) = (ap why_of e, ap (λ z. z ∷ []) f)
    answers (Err why) result e = ap why_of e

    ends : (result : Result Range SourceRefusal) → why_of result ≡ None
        → OnOk result ((w.mode ≡ v.mode) × (w.taken ≡ v.taken + need_of v.row (n ∷ [])) × (faults w.samples ≡ faults v.samples))
        → (w.mode ≡ Running) × (w.taken ≡ v.taken + need_of v.row (n ∷ []))
    ends (Ok r) e (a, b, c) = (a ∙ running, b)
    ends (Err why) e h = cc

  pub drew_at : (reads : S → ℕ → Option (List ℕ) → S → Type 0) (h t : Hold (SourceView S)) (j k : ℕ) (v x w : SourceView S) (n : ℕ) (out : List ℕ) (result : Result Range SourceRefusal) (r : Option SourceRefusal)
      → k ≡ source_slot p j → IsOfPlan p h → h.sources k ≡ Some v → h.sources k ≡ Some x → PutsSource h t k w → w.row ≡ v.row → IsSource x
      → Runs told faults p h j (need_of (source_row p j) (n ∷ [])) → 0 < n
      → (0 < n → v.taken + need_of v.row (n ∷ []) ≤ 2 ^ 60 → v.mode ≡ Running → HasDrawn told faults reads n out result v w)
      → OnOk result ((w.mode ≡ v.mode) × (w.taken ≡ v.taken + need_of v.row (n ∷ [])) × (faults w.samples ≡ faults v.samples))
      → why_of result ≡ r → Drew told faults reads p h t j (n ∷ []) r (out ∷ [])
  drew_at reads h t j k v x w n out result r slot plan at also puts rows ok runs some acts after is =
      let at' : h.sources (source_slot p j) ≡ Some v = subst (λ k. h.sources k ≡ Some v) slot at in
      let puts' : PutsSource h t (source_slot p j) w = subst (λ k. PutsSource h t k w) slot puts in
      let same : x ≡ v = cc in
      let ok' : IsSource v = subst (λ (y : SourceView S). IsSource y) same ok in
      let state = held_source h j v plan at' in
      let row = row_source h j v plan at' in
      let running : v.mode ≡ Running = ap (λ (s : SourceState). s.mode) (sym state) ∙ runs.mode in
      let room : v.taken + need_of v.row (n ∷ []) ≤ 2 ^ 60 =
      subst (λ (s : SourceState). s.taken + need_of v.row (n ∷ []) ≤ 2 ^ 60) state
      (subst (λ r. (source_held told faults h (source_slot p j)).taken + need_of r (n ∷ []) ≤ 2 ^ 60) (sym row) runs.room) in
      subst (λ (r : Option SourceRefusal). Drew told faults reads p h t j (n ∷ []) r (out ∷ [])) is
      (drew_one reads h t j v w n out result plan at' puts' rows ok' running (acts some room running) after)

  state_is : (h : Hold (SourceView S)) (j : ℕ) (v : SourceView S) → IsOfPlan p h → h.sources (source_slot p j) ≡ Some v
      → states_held told faults h (source_slot p j) ≡ SourceIs (source_state told faults v)
  state_is h j v plan at = by (h.nodes (source_slot p j)) refl where
    by : (o : Option NodeView) → h.nodes (source_slot p j) ≡ o → states_held told faults h (source_slot p j) ≡ SourceIs (source_state told faults v)
    by None e = rw (e, at) refl
    by (Some x) e = absurd (let a = (plan.node (source_slot p j) x e).low in omega (arith, a))

  -- two draws in a row
  after_draw : (reads : S → ℕ → Option (List ℕ) → S → Type 0) (h t : Hold (SourceView S)) (j : ℕ) (xs : List ℕ) (ss : List (List ℕ)) (r : Option SourceRefusal) (d : Drew told faults reads p h t j xs r ss)
      → (v : SourceView S) → IsOfPlan p h → h.sources (source_slot p j) ≡ Some v
      → source_held told faults t (source_slot p j) ≡ source_after_all (source_row p j) (source_held told faults h (source_slot p j)) d.acts
  after_draw reads h t j xs ss r d v plan at =
      let k = source_slot p j in
      let here = own_here k (source_at p (states_held told faults h) j) d.acts (grind (arith, nat_tests)) in
      let is : states_held told faults h k ≡ SourceIs (source_state told faults v) = state_is h j v plan at in
      ap source_in (d.did.states k ∙ (ap (λ z. slot_after_all p k (states_held told faults h k) z) here
      ∙ (ap (λ (x : SlotState). slot_after_all p k x (map AtSource d.acts)) is ∙ source_acts p k (source_state told faults v) d.acts)))
      ∙ (ap (λ i. source_after_all (source_row p i) (source_state told faults v) d.acts) (place_of (length p.nodes) j)
      ∙ ap (λ (s : SourceState). source_after_all (source_row p j) s d.acts) (sym (ap source_in is)))

  pub drew_join : (reads : S → ℕ → Option (List ℕ) → S → Type 0) (h t u : Hold (SourceView S)) (j : ℕ) (v : SourceView S) (xs ys : List ℕ) (ss zs : List (List ℕ)) (r : Option SourceRefusal)
      → IsOfPlan p h → h.sources (source_slot p j) ≡ Some v
      → Drew told faults reads p h t j xs None ss → Drew told faults reads p t u j ys r zs → Drew told faults reads p h u j (xs ++ ys) r (ss ++ zs)
  drew_join reads h t u j v xs ys ss zs r plan at a b = by a.end refl a.answer b.end refl b.answer where
    k : ℕ
    k = source_slot p j

    row : SourceRow
    row = source_row p j

    s : SourceState
    s = source_held told faults h k

    now : source_held told faults t k ≡ source_after_all row s a.acts
    now = after_draw reads h t j xs ss None a v plan at

    tail : s.tail ≡ Some a.tail.0
    tail = a.tail.1

    first : Drawn row (found_in row.cutoffs (Some a.tail.0)) s xs a.acts a.end
    first = subst (λ o. Drawn row (found_in row.cutoffs o) s xs a.acts a.end) tail a.draw

    second : Drawn row (found_in row.cutoffs (source_after_all row s a.acts).tail) (source_after_all row s a.acts) ys b.acts b.end
    second = subst (λ (s : SourceState). Drawn row (found_in row.cutoffs s.tail) s ys b.acts b.end) now b.draw

    by : (e : Result (List ℕ) SourceRefusal) → a.end ≡ e → MatchResult e (λ all. (◌≡◌ {A = Option SourceRefusal} None None) × (ss ≡ portions row xs all)) (λ why. ◌≡◌ {A = Option SourceRefusal} None (Some why))
        → (f : Result (List ℕ) SourceRefusal) → b.end ≡ f → MatchResult f (λ all. (r ≡ None) × (zs ≡ portions row ys all)) (λ why. r ≡ Some why)
        → Drew told faults reads p h u j (xs ++ ys) r (ss ++ zs)
    by (Err why) e m f i n = cc
    by (Ok mid) e (m, ps) f i n = record {
      acts = a.acts ++ b.acts;
      end = behind mid b.end;
      draw = subst (λ o. Drawn row (found_in row.cutoffs o) s (xs ++ ys) (a.acts ++ b.acts) (behind mid b.end)) (sym tail)
          (wants_on row a.tail.0 xs ys s a.acts mid b.acts b.end tail (subst (λ z. Drawn row (found_in row.cutoffs (Some a.tail.0)) s xs a.acts z) e first) second);
      did = subst (λ z. Did told faults reads p h u z) (sym (map_on (source_at p (states_held told faults h) j) (source_at p (states_held told faults t) j) a.acts b.acts refl)) (did_join told faults p reads h t u _ _ a.did b.did);
      answer = ans b.end b.answer;
      mode = b.mode;
      taken = λ n. b.taken n ∙ (ap (λ k. k + need_of row ys) (a.taken refl) ∙ (let e = need_on row xs ys in omega (arith, e)));
      tail = a.tail;
    }
      where
        ans : (f : Result (List ℕ) SourceRefusal) → MatchResult f (λ all. (r ≡ None) × (zs ≡ portions row ys all)) (λ why. r ≡ Some why)
            → MatchResult (behind mid f) (λ all. (r ≡ None) × (ss ++ zs ≡ portions row (xs ++ ys) all)) (λ why. r ≡ Some why)
        ans (Ok all) (n, q) =
            let whole : Drawn row (found_in row.cutoffs (Some a.tail.0)) s xs a.acts (Ok mid) = subst (λ z. Drawn row (found_in row.cutoffs (Some a.tail.0)) s xs a.acts z) e first in
            let len = draws_length row (found_in row.cutoffs (Some a.tail.0)) (sum (map (λ n. blocks_for row n) xs)) s [] [] a.acts mid whole in
            (n, ap (λ z. z ++ zs) ps ∙ (ap (λ z. portions row xs mid ++ z) q ∙ sym (portions_on row xs ys mid all (omega (arith, len)))))
        ans (Err why) n = n
