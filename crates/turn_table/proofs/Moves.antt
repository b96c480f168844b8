-- A slot that a pass holds leaves its place and comes back, and its turn is given back.
use Rattle.std.proofs.Common.{◌≡◌, ℕ, suc, ◌+◌, ◌*◌, ◌-◌, ◌<◌, ◌≢◌, inl, inr, List, [], ◌∷◌, map, length, get_or, set, sym, refl, ap, ◌∙◌, subst, arith, length-set, get_or-set_same, Bool, true, false, true≢false}
use mathlib.Core.Logic.{dite}
use mathlib.Core.Option as opt
use mathlib.Core.Option.{none, some}
use native.Mathlib.Decide.{ℕ_discrete}
use lib.ListN.{get_elem?}
use Rattle.std.specs.declared.option.Option.{Option}
use Rattle.std.specs.declared.option.Option.TheVariants.{None, Some}
use Rattle.atomic_table.specs.Table.{State, step, takes, gives, Allows}
use Rattle.atomic_table.proofs.Lists.{set_here, at_map}
use Rattle.turn_table.proofs.Lists.{at_map_back, marked_here, marked_else, marked_slot, at_without, in_without}
use Rattle.turn_table.proofs.Totals.{inside_of, nothing_listed}
use Rattle.turn_table.proofs.Keeps.{turned_of, apart, held_else, Others, retold}
use Rattle.turn_table.specs.declared.view.View.{View}
use Rattle.turn_table.specs.declared.view.Lease.{Lease}
use Rattle.turn_table.specs.Meaning.{Meaning}
use Rattle.turn_table.specs.History.{Entry}
use Rattle.turn_table.specs.Views.{turn_word, with_leases, marked, without}
use Rattle.turn_table.specs.TurnRule.{Homes, IsLeased, Knows, TurnRule}
use Rattle.turn_table.specs.Kept.{Kept}
use Rattle.turn_table.specs.Steps.{rested, fetched, released}

module _ {S : Type 0} (M : Meaning S) where
  abbrev Rule : State (Option S) View → Type 0
  Rule = TurnRule M

  held_marked : (o : List ℕ) (history : List Entry) (words : List ℕ) (homes : Homes S) (n : ℕ) (t : Lease) (k : ℕ) (b : Bool) (h : opt.Option (Option S)) → (b ≡ false → h ≡ some None) → 8 + 8 * k < length words
      → IsLeased M o history words homes n t → IsLeased M o history (set words (8 + 8 * k) (get_or words (8 + 8 * k) 0)) (set homes k h) n (marked k b t)
  held_marked o history words homes n t k b h place inside a = dite (ℕ_discrete t.slot k)
      (λ e. subst (IsLeased M o history (set words (8 + 8 * k) (get_or words (8 + 8 * k) 0)) (set homes k h) n) (sym (marked_here k b t e)) record {
        inside = subst (λ (z : ℕ). t.slot < z) (sym (length-set homes k h)) a.inside;
        target = a.target;
        word = subst (λ (z : ℕ). get_or (set words (8 + 8 * k) (get_or words (8 + 8 * k) 0)) (8 + 8 * z) 0 ≡ turn_word t.target n) (sym e)
            (get_or-set_same words (8 + 8 * k) (get_or words (8 + 8 * k) 0) 0 inside ∙ (ap (λ (z : ℕ). get_or words (8 + 8 * z) 0) (sym e) ∙ a.word));
        state_is = a.state_is;
        on_path = a.on_path;
        home = λ o. subst (λ (z : ℕ). get_elem? (set homes k h) z ≡ some (some None)) (sym e) (set_here homes k h (subst (λ (z : ℕ). z < length homes) e a.inside) ∙ ap some (place o));
      })
      (λ ne. subst (IsLeased M o history (set words (8 + 8 * k) (get_or words (8 + 8 * k) 0)) (set homes k h) n) (sym (marked_else k b t ne)) (held_else M o history words homes n t k (get_or words (8 + 8 * k) 0) h a ne))

  module _ (s : State (Option S) View) (r : Rule s) (id : ℕ) (v : View) (at : get_elem? s.views id ≡ some v) (live : v.live ≡ true) (i : ℕ) (t : Lease) (lists : get_elem? v.leases i ≡ some t) where
    abbrev known : Knows M r.opening r.callers r.history s.words s.homes v
    known = r.knows id v at live

    abbrev held : IsLeased M r.opening r.history s.words s.homes v.number t
    held = known.leases i t lists

    numbered : v.number ≢ 0
    numbered z = nothing_listed v.leases (known.unnumbered z) i t lists

    others_of : Others M s r id t.slot
    others_of j u ne a l i' t' b is = let n = numbered in let next : v.number ≡ suc (v.number - 1) = omega arith in let p = (r.knows j u a l).leases i' t' b in
        let one : get_or s.words (8 + 8 * t.slot) 0 ≡ turn_word t.target v.number = held.word in
        let two : get_or s.words (8 + 8 * t.slot) 0 ≡ turn_word t'.target u.number = ap (λ (z : ℕ). get_or s.words (8 + 8 * z) 0) (sym is) ∙ p.word in
        let c : t'.target < 65536 = p.target in let d : t.target < 65536 = held.target in let same : u.number ≡ suc (v.number - 1) = omega arith in
        ne (apart M s r j id u v (v.number - 1) a at l live same next)

    wide : 8 + 8 * t.slot < length s.words
    wide = let a = r.wide in let b = held.inside in omega arith

    abbrev w : Bool → View
    w b = with_leases (map (marked t.slot b) v.leases) v

    marks : (b : Bool) (h : opt.Option (Option S)) → (b ≡ false → h ≡ some None) → Rule record { words = set s.words (8 + 8 * t.slot) (get_or s.words (8 + 8 * t.slot) 0); homes = set s.homes t.slot h; views = set s.views id (w b) }
    marks b h place = let kn = known in retold M s r id t.slot (get_or s.words (8 + 8 * t.slot) 0) h v (w b) at live others_of record {
      old = kn.old;
      opening_is = kn.opening_is;
      callers_is = kn.callers_is;
      seen = kn.seen;
      olds = kn.olds;
      mine = kn.mine;
      ended = kn.ended;
      leases = λ j x a. let m = at_map_back (marked t.slot b) v.leases j x a in
          subst (IsLeased M r.opening r.history (set s.words (8 + 8 * t.slot) (get_or s.words (8 + 8 * t.slot) 0)) (set s.homes t.slot h) v.number) m.2
          (held_marked r.opening r.history s.words s.homes v.number m.0 t.slot b h place wide (kn.leases j m.0 m.1));
      unnumbered = λ z. absurd (numbered z);
    }
        (λ j x a _. (j, marked t.slot b x, at_map (marked t.slot b) v.leases j x a, marked_slot t.slot b x))
        (inr (id, w b, i, marked t.slot b t, set_here s.views id (w b) (inside_of s.views id v at), live, at_map (marked t.slot b) v.leases i t lists, marked_slot t.slot b t))
        (λ e. e) refl refl refl

    abbrev gone : View
    gone = with_leases (without t.slot v.leases) v

    frees : (x : S) → M.stands x t.state → Rule record { words = set s.words (8 + 8 * t.slot) 0; homes = set s.homes t.slot (some (Some x)); views = set s.views id gone }
    frees x stand = let kn = known in retold M s r id t.slot 0 (some (Some x)) v gone at live others_of record {
      old = kn.old;
      opening_is = kn.opening_is;
      callers_is = kn.callers_is;
      seen = kn.seen;
      olds = kn.olds;
      mine = kn.mine;
      ended = kn.ended;
      leases = λ j y a. let m = at_without t.slot v.leases j y a in
          held_else M r.opening r.history s.words s.homes v.number y t.slot 0 (some (Some x)) (kn.leases m.1.0 y m.1.1) m.0;
      unnumbered = λ z. absurd (numbered z);
    }
        (λ j y a ne. let m = in_without t.slot v.leases j y a ne in (m.0, y, m.1, refl))
        (inl (get_or-set_same s.words (8 + 8 * t.slot) 0 0 wide, (x, set_here s.homes t.slot (some (Some x)) held.inside, subst (M.stands x) held.state_is stand)))
        (λ e. e) refl refl refl

  module _ (values : ℕ × List (Option S)) (slots id : ℕ) (v : View) (live : v.live ≡ true) (i : ℕ) (t : Lease) (lists : get_elem? v.leases i ≡ some t) where
    abbrev All : State (Option S) View → Type 0
    All = Kept M values

    pub rest_goes : Allows All slots id (v, (t.slot, None) ∷ []) (8 + 8 * t.slot) (λ n. n) (rested (step slots (8 + 8 * t.slot) 0 0 none) (v, (t.slot, None) ∷ []))
    rest_goes s kept _ at _ = let r = turned_of M values s id v kept at live in
        (w s r id v at live i t lists false, gives, tt, inr (marks s r id v at live i t lists false (some None) (λ _. refl)), (t.slot, refl, refl))

    pub fetch_goes : t.away ≡ false → Allows All slots id (v, []) (8 + 8 * t.slot) (λ n. n) (fetched (step slots (8 + 8 * t.slot) 0 0 none) (v, []))
    fetch_goes home s kept _ at _ = let r = turned_of M values s id v kept at live in
        (w s r id v at live i t lists true, takes t.slot None, (held s r id v at live i t lists).home home, inr (marks s r id v at live i t lists true none (λ e. absurd (true≢false e))), (t.slot, refl, refl))

    pub release_goes : (x : S) → M.stands x t.state → Allows All slots id (v, (t.slot, Some x) ∷ []) (8 + 8 * t.slot) (λ _. 0) (released (step slots (8 + 8 * t.slot) 0 0 none) (v, (t.slot, Some x) ∷ []))
    release_goes x stand s kept _ at _ = let r = turned_of M values s id v kept at live in
        (gone s r id v at live i t lists, gives, tt, inr (frees s r id v at live i t lists x stand), (t.slot, refl, refl))
