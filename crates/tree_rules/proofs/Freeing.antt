-- No row of the table stands exactly where the call may be made in a caller's words.
use Rattle.std.proofs.Common.{◌≡◌, ◌∙◌, ◌++◌, ◌∷◌, ◌<◌, ◌≤◌, ℕ, List, [], Bool, true, false, refl, sym, ap, subst, arith}
use Rattle.std.proofs.lemmas.Bool.Decides.{nat_tests}
use Rattle.std.specs.Prelude.{◌&&◌, ◌||◌, if◌then◌else◌, nat_lt, nat_le, not, Option, Some, None, IsSome, is_none}
use Rattle.tree_config.specs.Tree.{Tree}
use Rattle.tree_rules.specs.declared.call.Call.{Call}
use Rattle.tree_rules.specs.declared.reply.Reply.{Reply}
use Rattle.tree_rules.specs.declared.reply.ReplyRow.{ReplyRow}
use Rattle.tree_rules.specs.Chain.{Chain, need, whole_chain}
use Rattle.tree_rules.specs.Free.{IsFree}
use Rattle.tree_rules.specs.History.{States}
use Rattle.tree_rules.specs.Links.{first_link}
use Rattle.tree_rules.specs.Replies.{chain_by, chain_of, chain_rows, first_reply, is_instantiate, plain_rows, refusal}
use Rattle.tree_rules.proofs.Leaves.{none_before}
use Rattle.tree_rules.proofs.Sources.{NoneStands, none_stands}

pub lt_of : (a b : ℕ) → nat_le a b ≡ false → b < a
lt_of a b h = grind (arith, nat_tests)

of_lt : (a b : ℕ) → b < a → nat_le a b ≡ false
of_lt a b h = grind (arith, nat_tests)

le_of : (a b : ℕ) → nat_lt a b ≡ false → b ≤ a
le_of a b h = grind (arith, nat_tests)

of_le : (a b : ℕ) → b ≤ a → nat_lt a b ≡ false
of_le a b h = grind (arith, nat_tests)

lt_yes : (a b : ℕ) → a < b → nat_lt a b ≡ true
lt_yes a b h = grind (arith, nat_tests)

yes_lt : (a b : ℕ) → nat_lt a b ≡ true → a < b
yes_lt a b h = grind (arith, nat_tests)

no_row : (r : ReplyRow) (rows : List ReplyRow) → r.stands ≡ false → first_reply rows ≡ None → first_reply (r ∷ rows) ≡ None
no_row r rows h i = ap (λ (b : Bool). if b then Some r.reply else first_reply rows) h ∙ i

pub none_reply : (rows : List ReplyRow) → NoneStands rows → first_reply rows ≡ None
none_reply [] h = refl
none_reply (r ∷ rows) (h, hs) = no_row r rows h (none_reply rows hs)

-- one test and another
both_no : (a b : Bool) → (a ≡ true → b ≡ false) → (a && b) ≡ false
both_no true b f = f refl
both_no false b f = refl

second_no : (a b : Bool) → (a && b) ≡ false → a ≡ true → b ≡ false
second_no true b h i = h
second_no false b h i = cc

yes_of : (a : Bool) → not a ≡ false → a ≡ true
yes_of true h = refl
yes_of false h = cc

of_yes : (a : Bool) → a ≡ true → not a ≡ false
of_yes a h = ap not h

-- the row of an RBG1 that is asked to reseed, or to be instantiated once more
seed_no : {A : Type 0} (rbg1 reseeds begins : Bool) (kept : Option A) → (reseeds ≡ true → rbg1 ≡ false) → (begins ≡ true → rbg1 ≡ true → IsSome kept)
    → (rbg1 && (reseeds || begins && is_none kept)) ≡ false
seed_no false reseeds begins kept f g = refl
seed_no true true begins kept f g = f refl
seed_no true false false kept f g = refl
seed_no true false true None f g = sym (g refl refl)
seed_no true false true (Some x) f g = refl

no_reseed : {A : Type 0} (rbg1 reseeds begins : Bool) (kept : Option A) → (rbg1 && (reseeds || begins && is_none kept)) ≡ false → reseeds ≡ true → rbg1 ≡ false
no_reseed false reseeds begins kept h i = refl
no_reseed true true begins kept h i = h
no_reseed true false begins kept h i = cc

kept_seed_is : {A : Type 0} (rbg1 reseeds begins : Bool) (kept : Option A) → (rbg1 && (reseeds || begins && is_none kept)) ≡ false → begins ≡ true → rbg1 ≡ true
    → IsSome kept
kept_seed_is rbg1 reseeds begins (Some x) h i j = refl
kept_seed_is true true true None h i j = cc
kept_seed_is true false true None h i j = cc
kept_seed_is true reseeds false None h i j = cc
kept_seed_is false reseeds begins None h i j = cc

-- the row of a source that isn't running
idle_no : (needed runs starts : Bool) → (needed ≡ true → starts ≡ false → runs ≡ true) → (needed && not runs && not starts) ≡ false
idle_no false runs starts f = refl
idle_no true true starts f = refl
idle_no true false true f = refl
idle_no true false false f = sym (f refl refl)

runs_yes : (needed runs starts : Bool) → (needed && not runs && not starts) ≡ false → needed ≡ true → starts ≡ false → runs ≡ true
runs_yes needed true starts h i j = refl
runs_yes true false false h i j = cc
runs_yes true false true h i j = cc
runs_yes false false starts h i j = cc

due_no : (asks rbg1 : Bool) (interval counter : ℕ) → (asks ≡ true → rbg1 ≡ true → counter ≤ interval) → (asks && rbg1 && nat_lt interval counter) ≡ false
due_no false rbg1 interval counter f = refl
due_no true false interval counter f = refl
due_no true true interval counter f = of_le interval counter (f refl refl)

no_due : (asks rbg1 : Bool) (interval counter : ℕ) → (asks && rbg1 && nat_lt interval counter) ≡ false → asks ≡ true → rbg1 ≡ true → counter ≤ interval
no_due true true interval counter h i j = le_of interval counter h
no_due true false interval counter h i j = cc
no_due false rbg1 interval counter h i j = cc

module _ (p : Tree) (c : Call) (string : List ℕ) (ch : Chain) where
  free_of : NoneStands (plain_rows p c string ++ chain_rows c ch) → IsFree p c string ch
  free_of (r1, (r2, (r2', (r3, (r4, (r5, (r6, (r7, (r8, (r10, (r11, end))))))))))) = record {
    there = lt_of _ _ r1;
    count = le_of _ _ r2;
    brief = le_of _ _ r2';
    new = second_no _ _ r3;
    alive = λ h. yes_of _ (second_no _ _ r4 h);
    strong = le_of _ _ r5;
    reseed = no_reseed _ _ _ _ r6;
    seed = kept_seed_is _ _ _ _ r6;
    resistance = second_no _ _ r7;
    interval = no_due _ _ _ _ r8;
    room = le_of _ _ r10;
    runs = λ h. runs_yes _ _ _ r11 (lt_yes 0 (need c ch) h);
  }

  stands_none : IsFree p c string ch → NoneStands (plain_rows p c string ++ chain_rows c ch)
  stands_none f = (
    of_lt _ _ f.there,
    (
      of_le _ _ f.count,
      (
        of_le _ _ f.brief,
        (
          both_no _ _ f.new,
          (
            both_no _ _ (λ h. of_yes _ (f.alive h)),
            (
              of_le _ _ f.strong,
              (
                seed_no _ _ _ _ f.reseed f.seed,
                (
                  both_no _ _ f.resistance,
                  (
                    due_no _ _ _ _ f.interval,
                    (
                      of_le _ _ f.room,
                      (idle_no _ _ _ (λ h. f.runs (yes_lt 0 (need c ch) h)), tt),
                    ),
                  ),
                ),
              ),
            ),
          ),
        ),
      ),
    ),
  )

-- the chain of a call that the table doesn't refuse is the whole one
module _ (p : Tree) (s : States) (c : Call) (string : List ℕ) where
  abbrev whole : Chain
  whole = whole_chain p s c

  abbrev cut : Bool → Chain
  cut b = if b then record { links = first_link whole.links ∷ []; source = None } else whole

  abbrev is_live : Bool
  is_live = (first_link whole.links).state.live

  plain_chain : (r : Option Reply) → first_reply (plain_rows p c string) ≡ r → r ≡ None → chain_of p s c string ≡ cut (is_instantiate c && is_live)
  plain_chain (Some r) is h = cc
  plain_chain None is h = ap (λ r. chain_by p s c r) is

  not_cut : (b : Bool) → b ≡ false → cut b ≡ whole
  not_cut b h = ap cut h

  -- an Instantiate that is cut short is refused
  live_none : (b : Bool) → (is_instantiate c && (first_link (cut b).links).state.live) ≡ false → is_instantiate c && is_live ≡ b → b ≡ false
  live_none false h is = refl
  live_none true h is = sym is ∙ h

  pub chain_is_whole : refusal p c string (chain_of p s c string) ≡ None → chain_of p s c string ≡ whole
  chain_is_whole free =
      let plain = none_before (plain_rows p c string) (chain_rows c (chain_of p s c string)) free in
      let is = plain_chain (first_reply (plain_rows p c string)) refl plain in
      let all = none_stands (plain_rows p c string ++ chain_rows c (chain_of p s c string)) free in
      let live : (is_instantiate c && (first_link (cut (is_instantiate c && is_live)).links).state.live) ≡ false =
      subst (λ (ch : Chain). (is_instantiate c && (first_link ch.links).state.live) ≡ false) is all.1.1.1.0 in
      is ∙ not_cut (is_instantiate c && is_live) (live_none (is_instantiate c && is_live) live refl)

  pub is_free : refusal p c string (chain_of p s c string) ≡ None → IsFree p c string whole
  is_free free =
      free_of p c string whole (none_stands (plain_rows p c string ++ chain_rows c whole)
      (subst (λ (ch : Chain). refusal p c string ch ≡ None) (chain_is_whole free) free))

  pub free_is : IsFree p c string whole → refusal p c string (chain_of p s c string) ≡ None
  free_is f =
      let none : refusal p c string whole ≡ None = none_reply (plain_rows p c string ++ chain_rows c whole) (stands_none p c string whole f) in
      let is = plain_chain (first_reply (plain_rows p c string)) refl (none_before (plain_rows p c string) (chain_rows c whole) none)
      ∙ not_cut (is_instantiate c && is_live) (both_no (is_instantiate c) is_live f.new) in
      subst (λ (ch : Chain). refusal p c string ch ≡ None) (sym is) none
