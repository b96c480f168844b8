-- The two laws that a table of turns asks for, and what a history of lists is a history of.
use Rattle.std.proofs.Common.{◌≡◌, ℕ, List, [], ◌∷◌, refl, sym, ap, ◌∙◌, subst, Bool, true, false}
use Rattle.std.specs.Prelude.{◌==◌, ◌||◌, if◌then◌else◌}
use Rattle.tree_rules.specs.History.{Entry, Opening, States, SlotState, has, after, opened, states_after}
use Rattle.tree_rules.specs.Codes as codes
use Rattle.tree_rules.specs.Codes.{numbers, entry_list}
use Rattle.tree_rules.specs.Fits.{Fits}
use Rattle.tree_rules.specs.Table.{opening_list, has_at_front, touches, after_entry, slot_list, slot_state, Tells, FitsLists, LegalLists, Reads, lists_after}
use Rattle.tree_rules.proofs.Coding.{numbers_back, entry_back, opening_back, list_back}
use Rattle.tree_rules.proofs.Near.{near}
use Rattle.tree_rules.proofs.Leaves.{if_false, leaves}

front_has : (chain r : List ℕ) (k : ℕ) → has_at_front (numbers chain r) k ≡ has chain k
front_has [] r k = refl
front_has (x ∷ chain) r k = ap (λ b. (x == k) || b) (front_has chain r k)

pub touches_entry : (e : Entry) (k : ℕ) → touches (entry_list e) k ≡ has e.chain k
touches_entry e k = front_has e.chain _ k

pub near_lists : (o e : List ℕ) (s t : ℕ → List ℕ) → ((k : ℕ) → touches e k ≡ true → s k ≡ t k) → FitsLists o s e → FitsLists o t e
near_lists o e s t same f = record {
  opening = f.opening;
  calls = f.calls;
  entry = f.entry;
  states = f.states;
  opening_is = f.opening_is;
  entry_is = f.entry_is;
  fits = f.fits;
  told = λ k h. subst (λ l. Tells f.opening f.calls k l (f.states k))
      (same k (ap (λ l. touches l k) f.entry_is ∙ (touches_entry f.entry k ∙ h))) (f.told k h);
}

if_true : {A : Type 0} (b : Bool) (x y : A) → b ≡ true → (if b then x else y) ≡ x
if_true b x y e = ap (λ (c : Bool). if c then x else y) e

pub leaves_lists : (o e : List ℕ) (s : ℕ → List ℕ) (k : ℕ) → FitsLists o s e → touches e k ≡ false → after_entry o k (s k) e ≡ s k
leaves_lists o e s k f h = if_false (touches e k) (1 ∷ numbers e (s k)) (s k) h

-- the list of a slot has one reading
slot_back : (k : ℕ) (o : List ℕ) (es fs : List Entry) → slot_list k o es ≡ slot_list k o fs → es ≡ fs
slot_back k o [] [] h = refl
slot_back k o [] (f ∷ fs) h = cc
slot_back k o (e ∷ es) [] h = cc
slot_back k o (e ∷ es) (f ∷ fs) h =
    let rest : numbers (entry_list e) (slot_list k o es) ≡ numbers (entry_list f) (slot_list k o fs) = cc in
    let one = numbers_back (entry_list e) (entry_list f) _ _ rest in
    let head = entry_back e f [] [] one.0 in
    let more = slot_back k o es fs one.1 in cc (head.0, more)

-- and it is the list of one slot, over one opening
pub slot_one : (k j : ℕ) (l m : List ℕ) (es fs : List Entry) → slot_list k l es ≡ slot_list j m fs → (k ≡ j) × (l ≡ m)
slot_one k j l m [] [] h = (cc, cc)
slot_one k j l m [] (f ∷ fs) h = cc
slot_one k j l m (e ∷ es) [] h = cc
slot_one k j l m (e ∷ es) (f ∷ fs) h =
    let rest : numbers (entry_list e) (slot_list k l es) ≡ numbers (entry_list f) (slot_list j m fs) = cc in
    slot_one k j l m es fs (numbers_back (entry_list e) (entry_list f) _ _ rest).1

-- so has an opening
pub opening_one : (f g : Opening) (o p : List Entry) → opening_list f o ≡ opening_list g p → (f ≡ g) × (o ≡ p)
opening_one f g o p h =
    let one = opening_back f g _ _ h in
    let two = list_back codes.entry entry_back o p [] [] one.1 in (one.0, two.0)

-- a list tells one state
pub tells_one : (f : Opening) (o : List Entry) (k : ℕ) (s : List ℕ) (x y : SlotState) → Tells f o k s x → Tells f o k s y → x ≡ y
tells_one f o k s x y a b =
    let same = slot_back k (opening_list f o) a.touched b.touched (sym a.list_is ∙ b.list_is) in
    a.state_is ∙ (ap (λ es. slot_state f.plan k (states_after f.plan (opened f) o k) es) same ∙ sym b.state_is)

-- a list that tells a state goes on with the entry
pub tells_on : (f : Opening) (o : List Entry) (k : ℕ) (s : List ℕ) (t : States) (x : Entry) → Fits f.plan t x → Tells f o k s (t k)
    → Tells f o k (after_entry (opening_list f o) k s (entry_list x)) (after f.plan k (t k) x)
tells_on f o k s t x fit tell = by (has x.chain k) refl where
  list : List ℕ
  list = 1 ∷ numbers (entry_list x) s

  by : (b : Bool) → has x.chain k ≡ b → Tells f o k (after_entry (opening_list f o) k s (entry_list x)) (after f.plan k (t k) x)
  by true h = record {
    touched = x ∷ tell.touched;
    list_is = if_true (touches (entry_list x) k) list s (touches_entry x k ∙ h) ∙ ap (λ l. 1 ∷ numbers (entry_list x) l) tell.list_is;
    state_is = ap (λ z. after f.plan k z x) tell.state_is;
  }
  by false h = record {
    touched = tell.touched;
    list_is = if_false (touches (entry_list x) k) list s (touches_entry x k ∙ h) ∙ tell.list_is;
    state_is = leaves f.plan t k x fit h (t k) ∙ tell.state_is;
  }

pub reads : (f : Opening) (o : List Entry) (s : ℕ → List ℕ) (t : States) (h : List (List ℕ))
    → ((k : ℕ) → Tells f o k (s k) (t k)) → LegalLists (opening_list f o) s h → Reads f o s t h
reads f o s t [] tell l = record { entries = []; are = refl; legal = tt; tell = tell }
reads f o s t (e ∷ h) tell (fit, l) =
    let one = opening_one f fit.opening o fit.calls fit.opening_is in
    let told : (k : ℕ) → has fit.entry.chain k ≡ true → Tells f o k (s k) (fit.states k) =
    λ k i. subst (λ (z : Opening × List Entry). Tells z.0 z.1 k (s k) (fit.states k)) (sym (pair one)) (fit.told k i) in
    let right : Fits f.plan fit.states fit.entry = subst (λ (z : Opening). Fits z.plan fit.states fit.entry) (sym one.0) fit.fits in
    let good : Fits f.plan t fit.entry = near f.plan fit.states t fit.entry (λ k i. tells_one f o k (s k) (fit.states k) (t k) (told k i) (tell k)) right in
    let next : LegalLists (opening_list f o) (λ k. after_entry (opening_list f o) k (s k) (entry_list fit.entry)) h =
    subst (λ (z : List ℕ). LegalLists (opening_list f o) (λ k. after_entry (opening_list f o) k (s k) z) h) fit.entry_is l in
    let rest = reads f o (λ k. after_entry (opening_list f o) k (s k) (entry_list fit.entry)) (λ k. after f.plan k (t k) fit.entry) h
    (λ k. tells_on f o k (s k) t fit.entry good (tell k)) next in
    record {
      entries = fit.entry ∷ rest.entries;
      are = cc (fit.entry_is, rest.are);
      legal = (good, rest.legal);
      tell = λ k. subst (λ (z : List ℕ). Tells f o k (lists_after (opening_list f o) (λ k. after_entry (opening_list f o) k (s k) z) h k)
          (states_after f.plan (λ k. after f.plan k (t k) fit.entry) rest.entries k)) (sym fit.entry_is) (rest.tell k);
    } where
      pair : {a b : Opening} {c d : List Entry} → (a ≡ b) × (c ≡ d) → ◌≡◌ {A = Opening × List Entry} (a, c) (b, d)
      pair x = rw (x.0, x.1) refl
