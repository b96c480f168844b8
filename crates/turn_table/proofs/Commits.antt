-- A commit keeps the rule of the turns.
use Rattle.std.proofs.Common.{◌≡◌, ℕ, zero, suc, ◌+◌, ◌*◌, ◌-◌, ◌%◌, ◌^◌, ◌<◌, ◌≤◌, ◌≢◌, ◌⊎◌, inl, inr, ⊎_elim, List, [], ◌∷◌, ◌++◌, map, length, length-append, get_or, set, sym, refl, ap, ◌∙◌, subst, arith, length-set, get_or-set_other, get_or-set_same, eq-eqb, Bool, true, false, append_assoc}
use mathlib.Core.Logic.{dite}
use mathlib.Core.Option.{none, some, some-injective, some-ne-none}
use native.Mathlib.Decide.{ℕ_discrete}
use lib.ListN.{get_elem?}
use Rattle.std.specs.Prelude.{◌==◌}
use Rattle.std.specs.declared.option.Option.{Option}
use Rattle.atomic_table.specs.Table.{State, Me, step, keeps, Allows}
use Rattle.atomic_table.proofs.Lists.{at_set, at_snoc, at_map, set_here}
use Rattle.turn_table.proofs.Lists.{if_true, at_map_back, states_snoc, legal_snoc, of_snoc, of_snoc_else, few_entries, state_listed}
use Rattle.turn_table.proofs.Totals.{total_set, times_here, once_small, once_below, own_here, same_total, one_of, two_of, inside_of, append_none, taken_stays}
use Rattle.turn_table.proofs.Keeps.{turned_of, finds_at, apart}
use Rattle.turn_table.specs.declared.view.View.{View}
use Rattle.turn_table.specs.declared.view.Lease.{Lease}
use Rattle.turn_table.specs.declared.view.Ended.{Ended}
use Rattle.turn_table.specs.Meaning.{Meaning, ReadsTouched, LeavesOthers}
use Rattle.turn_table.specs.History.{Entry, caller_of, of_caller, Begins, state_of, LegalOver}
use Rattle.turn_table.specs.Views.{turn_word, with_seen, with_mine, with_leases, moved, state_in, HasTurn}
use Rattle.turn_table.specs.TurnRule.{total, times, once_to, own_number, number_of_ended, numbers, undrawn, made_by_ended, made, IsLeased, Knows, IsFree, TurnRule}
use Rattle.turn_table.specs.Kept.{Kept}
use Rattle.turn_table.specs.Calls.{MayCommit}
use Rattle.turn_table.specs.Steps.{committed}

pub times_append : (x : ℕ) (ys zs : List ℕ) → times x (ys ++ zs) ≡ times x ys + times x zs
times_append x [] zs = omega arith
times_append x (y ∷ ys) zs = let i = times_append x ys zs in omega arith

ended_times : (xs : List Ended) (i : ℕ) (x : Ended) (n : ℕ) → get_elem? xs i ≡ some x → x.number ≡ n → 1 ≤ times n (map number_of_ended xs)
ended_times [] i x n at is = absurd (some-ne-none x (sym at))
ended_times (y ∷ ys) zero x n at is = let e = if_true {A = ℕ} (y.number == n) 1 0 (eq-eqb y.number n (ap (λ (z : Ended). z.number) (some-injective y x at) ∙ is)) in omega arith
ended_times (y ∷ ys) (suc i) x n at is = let e = ended_times ys i x n at is in omega arith

pub numbers_live : (v : View) → v.live ≡ true → numbers v ≡ own_number v.number ++ map number_of_ended v.ended
numbers_live v live = if_true v.live (own_number v.number ++ map number_of_ended v.ended) [] live

pub made_live : (v : View) → v.live ≡ true → made v ≡ length v.mine + made_by_ended v.ended
made_live v live = if_true v.live (length v.mine + made_by_ended v.ended) 0 live

-- the number of a caller that has ended
ended_here : (v : View) (i : ℕ) (x : Ended) (n : ℕ) → v.live ≡ true → get_elem? v.ended i ≡ some x → x.number ≡ n → 1 ≤ times n (numbers v)
ended_here v i x n live at is = let a = ap (times n) (numbers_live v live) in let b = times_append n (own_number v.number) (map number_of_ended v.ended) in let c = ended_times v.ended i x n at is in omega arith

-- it is not the number of the same view
ended_else : (v : View) (i : ℕ) (x : Ended) (n : ℕ) → v.live ≡ true → get_elem? v.ended i ≡ some x → x.number ≡ suc n → v.number ≡ suc n → 2 ≤ times (suc n) (numbers v)
ended_else v i x n live at is own = let a = ap (times (suc n)) (numbers_live v live ∙ ap (λ (k : ℕ). own_number k ++ map number_of_ended v.ended) own) in let b = times_here (suc n) (map number_of_ended v.ended) in
    let c = ended_times v.ended i x (suc n) at is in omega arith

begins_more : (xs ys : List Entry) (e : Entry) → Begins xs ys → Begins xs (ys ++ e ∷ [])
begins_more xs ys e b = (b.0 ++ e ∷ [], ap (λ (l : List Entry). l ++ e ∷ []) b.1 ∙ append_assoc xs b.0 (e ∷ []))

next_of : (k : ℕ) → suc (7 + 8 * k) ≡ 8 + 8 * k
next_of k = omega arith

module _ {S : Type 0} (M : Meaning S)
    (reads_touched : ReadsTouched M) (leaves_others : LeavesOthers M) where
  abbrev Rule : State (Option S) View → Type 0
  Rule = TurnRule M

  abbrev stated : List ℕ → List Entry → ℕ → List ℕ
  stated = state_of M

  module _ (s : State (Option S) View) (r : Rule s) (id : ℕ) (v : View) (e : Entry) (at : get_elem? s.views id ≡ some v) (live : v.live ≡ true) (number : ℕ) (own : v.number ≡ suc number) (by : caller_of e ≡ v.number)
      (held : (k : ℕ) → M.touches e k ≡ true → HasTurn v k) (fit : M.fits v.opening (state_in v.leases) e) (room : length v.mine < 1099511627776) where
    abbrev o : List ℕ
    o = r.opening

    abbrev log' : List Entry
    log' = r.history ++ e ∷ []

    abbrev known : Knows M o r.callers r.history s.words s.homes v
    known = r.knows id v at live

    fits_now : M.fits o (stated o r.history) e
    fits_now = reads_touched o e (state_in v.leases) (stated o r.history)
        (λ k t. let h = held k t in state_listed (stated o r.history) v.leases (λ i x a. (known.leases i x a).state_is) k h.0 h.1 h.2 h.3)
        (subst (λ (z : List ℕ). M.fits z (state_in v.leases) e) known.opening_is fit)

    by_touch : (k : ℕ) (b : Bool) → M.touches e k ≡ b → (HasTurn v k) ⊎ (stated o log' k ≡ stated o r.history k)
    by_touch k true t = inl (held k t)
    by_touch k false t = inr (states_snoc (M.after o) (M.start o) r.history e k ∙ leaves_others o e (stated o r.history) k fits_now t)

    -- one slot that stands for any: it is held by the view, or its state stays
    touched_or : (k : ℕ) → (HasTurn v k) ⊎ (stated o log' k ≡ stated o r.history k)
    touched_or k = by_touch k (M.touches e k) refl

    -- where another live view lists a slot, its state stays
    others_stay : (j : ℕ) (u : View) → j ≢ id → get_elem? s.views j ≡ some u → u.live ≡ true → (i : ℕ) (t : Lease) → get_elem? u.leases i ≡ some t → stated o log' t.slot ≡ stated o r.history t.slot
    others_stay j u ne a l i t b = ⊎_elim
        (λ (h : HasTurn v t.slot). let p = (r.knows j u a l).leases i t b in let q = known.leases h.0 h.1 h.2 in
        let one : get_or s.words (8 + 8 * t.slot) 0 ≡ turn_word t.target u.number = p.word in
        let two : get_or s.words (8 + 8 * t.slot) 0 ≡ turn_word h.1.target v.number = ap (λ (z : ℕ). get_or s.words (8 + 8 * z) 0) (sym h.3) ∙ q.word in
        let c = p.target in let d = q.target in let same : u.number ≡ suc number = omega arith in
        absurd (ne (apart M s r j id u v number a at l live same own)))
        (λ h. h) (touched_or t.slot)

    words_stay : (x k : ℕ) → get_or (set s.words 0 x) (suc k) 0 ≡ get_or s.words (suc k) 0
    words_stay x k = get_or-set_other s.words 0 (suc k) x 0 (λ z. omega arith)

    held_stays : (x n : ℕ) (t : Lease) → IsLeased M o r.history s.words s.homes n t → stated o log' t.slot ≡ stated o r.history t.slot → IsLeased M o log' (set s.words 0 x) s.homes n t
    held_stays x n t h same = record {
      inside = h.inside;
      target = h.target;
      word = subst (λ (z : ℕ). get_or (set s.words 0 x) z 0 ≡ turn_word t.target n) (next_of t.slot) (words_stay x (7 + 8 * t.slot) ∙ (ap (λ (z : ℕ). get_or s.words z 0) (next_of t.slot) ∙ h.word));
      state_is = h.state_is ∙ sym same;
      on_path = h.on_path;
      home = h.home;
    }

    abbrev w : View
    w = with_seen log' (with_mine (v.mine ++ e ∷ []) (with_leases (map (moved (M.after v.opening) e) v.leases) v))

    abbrev K' : ℕ → View → Type 0
    K' x = Knows M o r.callers log' (set s.words 0 x) s.homes

    own_knows : (x : ℕ) → K' x w
    own_knows x = let kn = known in record {
      old = kn.old;
      opening_is = kn.opening_is;
      callers_is = kn.callers_is;
      seen = ([], sym (append_none log'));
      olds = λ i z a. let b = kn.olds i z a in (begins_more z.one r.history e b.0, begins_more z.other r.history e b.1);
      mine = ap (λ (l : List Entry). l ++ e ∷ []) kn.mine ∙ sym (of_snoc v.number r.history e by);
      ended = λ i z a. kn.ended i z a ∙ sym (of_snoc_else z.number r.history e (λ is. let n : z.number ≡ suc number = sym is ∙ (by ∙ own) in
          let t = ended_else v i z number live a n own in let m = one_of (λ u. times (suc number) (numbers u)) s.views id v at in let c = r.once (suc number) in let d = once_small (suc number) (get_or s.words 1 0) in absurd (omega arith)));
      leases = λ i t a. let b = at_map_back (moved (M.after v.opening) e) v.leases i t a in let h = kn.leases i b.0 b.1 in
          subst (IsLeased M o log' (set s.words 0 x) s.homes v.number) b.2 record {
            inside = h.inside;
            target = h.target;
            word = subst (λ (z : ℕ). get_or (set s.words 0 x) z 0 ≡ turn_word b.0.target v.number) (next_of b.0.slot) (words_stay x (7 + 8 * b.0.slot) ∙ (ap (λ (z : ℕ). get_or s.words z 0) (next_of b.0.slot) ∙ h.word));
            state_is = (λ i. M.after (kn.opening_is i) b.0.slot (h.state_is i) e) ∙ sym (states_snoc (M.after o) (M.start o) r.history e b.0.slot);
            on_path = h.on_path;
            home = h.home;
          };
      unnumbered = λ z. absurd (let q : v.number ≡ 0 = z in omega arith);
    }

    other_knows : (x j : ℕ) (u : View) → j ≢ id → get_elem? s.views j ≡ some u → u.live ≡ true → K' x u
    other_knows x j u ne a l = let kn = r.knows j u a l in record {
      old = kn.old;
      opening_is = kn.opening_is;
      callers_is = kn.callers_is;
      seen = begins_more u.seen r.history e kn.seen;
      olds = λ i z a. let b = kn.olds i z a in (begins_more z.one r.history e b.0, begins_more z.other r.history e b.1);
      mine = kn.mine ∙ sym (of_snoc_else u.number r.history e (λ is. absurd (ne (apart M s r j id u v number a at l live (sym is ∙ (by ∙ own)) own))));
      ended = λ i z b. kn.ended i z b ∙ sym (of_snoc_else z.number r.history e (λ is. let n : z.number ≡ suc number = sym is ∙ (by ∙ own) in
          let t = ended_here u i z (suc number) l b n in let t' = own_here v number live own in let m = two_of (λ u. times (suc number) (numbers u)) s.views j id u v a at ne in
          let c = r.once (suc number) in let d = once_small (suc number) (get_or s.words 1 0) in absurd (omega arith)));
      leases = λ i t b. held_stays x u.number t (kn.leases i t b) (others_stay j u ne a l i t b);
      unnumbered = kn.unnumbered;
    }

    own_drawn : suc number ≤ get_or s.words 1 0
    own_drawn = let a = own_here v number live own in let b = one_of (λ u. times (suc number) (numbers u)) s.views id v at in let c = r.once (suc number) in once_below (suc number) (get_or s.words 1 0) (omega arith)

    still_bounded : (k : ℕ) → length (of_caller k log') ≤ 1099511627776
    still_bounded k = dite (ℕ_discrete (caller_of e) k)
        (λ is. let a = ap (λ (l : List Entry). length l) (of_snoc k r.history e is) in let b = length-append (of_caller k r.history) (e ∷ []) in
        let c : length v.mine ≡ length (of_caller k r.history) = ap (λ (l : List Entry). length l) (known.mine ∙ ap (λ (z : ℕ). of_caller z r.history) (sym by ∙ is)) in omega arith)
        (λ ne. let a = ap (λ (l : List Entry). length l) (of_snoc_else k r.history e ne) in let b = r.bounded k in omega arith)

    still_drawn : (i : ℕ) (z : Entry) → get_elem? log' i ≡ some z → (1 ≤ caller_of z) × (caller_of z ≤ get_or s.words 1 0)
    still_drawn i z a = ⊎_elim (λ b. r.drawn i z b) (λ is. let c : caller_of z ≡ suc number = ap caller_of (sym is) ∙ (by ∙ own) in let d = own_drawn in (omega arith, omega arith)) (at_snoc r.history e z i a)

    few : get_or s.words 0 0 < 70368744177665
    few = let l = few_entries (get_or s.words 1 0) r.history r.drawn r.bounded in let c = r.counted in let p = r.parts in let f = r.few in omega arith

    legal_now : LegalOver M o log'
    legal_now = (r.legal.0, legal_snoc (M.after o) (M.fits o) (M.start o) r.history e r.legal.1 fits_now)

    after_commit : (x : ℕ) → x ≡ get_or s.words 0 0 + 1 → Rule record { words = set s.words 0 x; homes = s.homes; views = set s.views id w }
    after_commit x is = let w1 = words_stay x 0 in let wide = r.wide in record {
      opening = o;
      callers = r.callers;
      history = log';
      legal = legal_now;
      few = r.few;
      wide = length-set s.words 0 x ∙ wide;
      counted = let a = get_or-set_same s.words 0 x 0 (omega arith) in let b = length-append r.history (e ∷ []) in let c = r.counted in omega arith;
      opened = λ j u a. ⊎_elim (λ (t : (j ≡ id) × (w ≡ u)). subst (λ (z : View). z.fresh ≡ false) t.1 known.old) (λ (t : (j ≢ id) × (get_elem? s.views j ≡ some u)). r.opened j u t.1) (at_set s.views id j w u a);
      knows = λ j u a l. ⊎_elim (λ (t : (j ≡ id) × (w ≡ u)). subst (K' x) t.1 (own_knows x)) (λ (t : (j ≢ id) × (get_elem? s.views j ≡ some u)). other_knows x j u t.0 t.1 l) (at_set s.views id j w u a);
      turns = λ k h. ⊎_elim
          (λ (f : IsFree M o r.history s.words s.homes k). inl (
            subst (λ (z : ℕ). get_or (set s.words 0 x) z 0 ≡ 0) (next_of k) (words_stay x (7 + 8 * k) ∙ (ap (λ (z : ℕ). get_or s.words z 0) (next_of k) ∙ f.0)),
            (
              f.1.0,
              f.1.1,
              ⊎_elim (λ (h : HasTurn v k). let q : get_or s.words (8 + 8 * h.1.slot) 0 ≡ turn_word h.1.target v.number = (known.leases h.0 h.1 h.2).word in
                  let z : get_or s.words (8 + 8 * h.1.slot) 0 ≡ 0 = ap (λ (z : ℕ). get_or s.words (8 + 8 * z) 0) h.3 ∙ f.0 in absurd (omega arith))
                  (λ same. subst (M.stands f.1.0) (sym same) f.1.2) (touched_or k),
            ),
          ))
          (λ t. inr (taken_stays s.views id v w at (inside_of s.views id v at) live (λ i t a. (i, moved (M.after v.opening) e t, at_map (moved (M.after v.opening) e) v.leases i t a, refl)) k t)) (r.turns k h);
      longest = (id, w, set_here s.views id w (inside_of s.views id v at), live, refl);
      shared_out = let t = total_set made s.views id v w at in let n = length-append v.mine (e ∷ []) in let m = length-append r.history (e ∷ []) in let a = made_live v live in let b = made_live w live in let c = r.shared_out in omega arith;
      drawn = λ i z a. let d = still_drawn i z a in (d.0, subst (λ (n : ℕ). caller_of z ≤ n) (sym w1) d.1);
      bounded = still_bounded;
      once = λ n. same_total (λ u. times n (numbers u)) s.views id v w at refl ∙ (r.once n ∙ ap (once_to n) (sym w1));
      many = same_total (λ u. length (numbers u)) s.views id v w at refl ∙ (r.many ∙ sym w1);
      parts = ap (λ (n : ℕ). n + get_or (set s.words 0 x) 1 0) (same_total undrawn s.views id v w at refl) ∙ (ap (λ (n : ℕ). total undrawn s.views + n) w1 ∙ r.parts);
    }

  pub commit_goes : (values : ℕ × List (Option S)) (slots id : ℕ) (me : Me (Option S) View) (test : Entry → Type 0) → me.0.live ≡ true → me.0.number ≢ 0 → length me.0.mine < 1099511627776
      → MayCommit M test me.0
      → Allows (Kept M values) slots id me 0 (λ n. (n + 1) % 2 ^ 64) (committed M test (step slots 0 1 0 none) me)
  commit_goes values slots id me test live numbered room may s kept _ at _ = let r = turned_of M values s id me.0 kept at live in
      let number : ℕ = me.0.number - 1 in let own : me.0.number ≡ suc number = omega arith in let e : Entry = may.entry in
      let next = after_commit s r id me.0 e at live number own may.by may.has_turns may.fits room in let f = few s r id me.0 e at live number own may.by may.has_turns may.fits room in let kn = r.knows id me.0 at live in
      let sum : (get_or s.words 0 0 + 1) % 2 ^ 64 ≡ get_or s.words 0 0 + 1 = omega arith in (
        w s r id me.0 e at live number own may.by may.has_turns may.fits room,
        keeps,
        tt,
        inr (next ((get_or s.words 0 0 + 1) % 2 ^ 64) sum),
        (
          record {
            history = r.history;
            entry = e;
            finds = finds_at M s r me.0 kn;
            passes = may.passes;
            by = may.by;
            legal = subst (λ (z : List ℕ). LegalOver M z (r.history ++ e ∷ [])) (sym kn.opening_is) (legal_now s r id me.0 e at live number own may.by may.has_turns may.fits room);
            after = refl;
          },
          refl,
        ),
      )
