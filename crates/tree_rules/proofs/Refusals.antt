-- A refusal of the table does nothing, and no refusal changes a node.
use Rattle.std.proofs.Common.{◌≡◌, ◌++◌, ◌∷◌, ◌≢◌, ◌<◌, ℕ, List, [], zero, suc, Bool, true, false, map, refl, sym, subst, ne_eqb, arith}
use Rattle.std.specs.Prelude.{◌==◌, if◌then◌else◌, Option, Some, None, Result, Ok, Err, MatchOption, MatchResult}
use Rattle.entropy_source.specs.Draws.{portions}
use Rattle.entropy_source.specs.Source.{SourceAct}
use Rattle.entropy_source.specs.declared.answers.SourceRefusal.{SourceRefusal}
use Rattle.health_tests.specs.declared.windows.Alarm.{Alarm}
use Rattle.rbg_nodes.specs.Node.{NodeState}
use Rattle.tree_config.specs.Tree.{Tree}
use Rattle.tree_rules.specs.Causes.{IsOfTable}
use Rattle.tree_rules.specs.Chain.{Chain, SourceLink, asks_pr, wants}
use Rattle.tree_rules.specs.Fits.{AnswersBy, DrawsAndWorks, Fits, Serves, Starts, at_source, done, found_by, source_reply}
use Rattle.tree_rules.specs.History.{Act, AtSource, Entry, NodeIs, States, after, own, slot_after_all}
use Rattle.tree_rules.specs.Links.{Link}
use Rattle.tree_rules.specs.Replies.{chain_of, chain_rows, first_reply, plain_rows, refusal}
use Rattle.tree_rules.specs.Served.{Served, entry_of}
use Rattle.tree_rules.specs.Works.{worked}
use Rattle.tree_rules.specs.declared.call.Call.{Call}
use Rattle.tree_rules.specs.declared.call.Call.TheVariants.{Generate, Instantiate, Reseed, Start, Status, Uninstantiate}
use Rattle.tree_rules.specs.declared.reply.Reply.{Reply}
use Rattle.tree_rules.specs.declared.reply.ReplyRow.{ReplyRow}
use Rattle.tree_rules.proofs.Quieting.{refusal_coded}

not_both : (b : Bool) → b ≡ true → b ≡ false → ⊥
not_both b h i = cc

no_zero : (n : ℕ) → (n == 0) ≡ false → n ≡ 0 → ⊥
no_zero zero h i = cc
no_zero (suc n) h i = cc

-- an entry that the table refuses has that reply, no act and no bytes
pub refused_by : (p : Tree) (s : States) (e : Entry) (r : Reply) → Fits p s e → refusal p e.call e.string (chain_of p s e.call e.string) ≡ Some r
    → (e.acts ≡ []) × (e.reply ≡ r) × (e.bytes ≡ [])
refused_by p s e r f is =
    let ch = chain_of p s e.call e.string in
    let a : AnswersBy e [] r [] = subst (λ o. MatchOption o (Serves (found_by ch.source) ch e e.call) (λ reply. AnswersBy e [] reply [])) is f.answer in
    (a.acts_are, a.reply_is, a.bytes_are)

pub coded_refusal : (p : Tree) (c : Call) (string : List ℕ) (ch : Chain) (r : Reply) → refusal p c string ch ≡ Some r → r.code ≢ 0
coded_refusal p c string ch r h = no_zero r.code (refusal_coded p c string ch r h)

module _ (p : Tree) (k : ℕ) (x : NodeState) where
  abbrev Stays : List Act → Type 0
  Stays acts = slot_after_all p k (NodeIs x) (own k acts) ≡ NodeIs x

  -- acts of a source leave every node as it is
  by_source : (t : SourceLink) (acts : List SourceAct) → Stays (map (at_source t) acts)
  by_source t [] = refl
  by_source t (a ∷ acts) = by (t.slot == k) (by_source t acts) where
    by : (b : Bool) → Stays (map (at_source t) acts)
        → slot_after_all p k (NodeIs x) (if b then AtSource a ∷ own k (map (at_source t) acts) else own k (map (at_source t) acts)) ≡ NodeIs x
    by true e = e
    by false e = e

  module _ (e : Entry) (code : (e.reply.code == 0) ≡ false) where
    not_zero : (r : Reply) → e.reply ≡ r → (r.code == 0) ≡ true → ⊥
    not_zero r is h = not_both (r.code == 0) h (subst (λ (z : Reply). (z.code == 0) ≡ false) is code)

    by_works : (found : List ℕ → List ℕ → Option Alarm) (c : Call) (ls : List Link) (lens : List ℕ) (source : Option SourceLink)
        → DrawsAndWorks found c ls lens source e → Stays e.acts
    by_works found c ls lens None w = absurd (not_zero _ w.reply_is refl)
    by_works found c ls lens (Some t) (acts, end, drawn, answer) = by end answer where
      by : (end : Result (List ℕ) SourceRefusal) → MatchResult end
          (λ bytes. let w = worked (asks_pr c) (portions t.row lens bytes) e.string ls in
          AnswersBy e (map (at_source t) acts ++ w.acts) (done w.bytes) w.bytes)
          (λ why. AnswersBy e (map (at_source t) acts) (source_reply t.number why) []) → Stays e.acts
      by (Ok bytes) answer = absurd (not_zero _ answer.reply_is refl)
      by (Err why) answer = subst Stays (sym answer.acts_are) (by_source t acts)

    by_start : (source : Option SourceLink) → Starts source e → Stays e.acts
    by_start None w = absurd w
    by_start (Some t) (acts, end, start, answer) = subst Stays (sym answer.acts_are) (by_source t acts)

    by_call : (found : List ℕ → List ℕ → Option Alarm) (ch : Chain) (c : Call) → Serves found ch e c → Stays e.acts
    by_call found ch (Start j) w = by_start ch.source w
    by_call found ch (Uninstantiate n) w = absurd (not_zero _ w.reply_is refl)
    by_call found ch (Status n) w = absurd (not_zero _ w.reply_is refl)
    by_call found ch (Instantiate n y) w = by_works found (Instantiate n y) ch.links (wants (Instantiate n y) ch) ch.source w
    by_call found ch (Generate n y z v) w = by_works found (Generate n y z v) ch.links (wants (Generate n y z v) ch) ch.source w
    by_call found ch (Reseed n z) w = by_works found (Reseed n z) ch.links (wants (Reseed n z) ch) ch.source w

    by_whole : (found : List ℕ → List ℕ → Option Alarm) (ch : Chain) (o : Option Reply)
        → MatchOption o (Serves found ch e e.call) (λ reply. AnswersBy e [] reply []) → Stays e.acts
    by_whole found ch None w = by_call found ch e.call w
    by_whole found ch (Some r) w = subst Stays (sym w.acts_are) refl

-- no refusal changes a node
pub nodes_stay : (p : Tree) (s : States) (e : Entry) → Fits p s e → e.reply.code ≢ 0 → (k : ℕ) (x : NodeState) → after p k (NodeIs x) e ≡ NodeIs x
nodes_stay p s e f code k x =
    let ch = chain_of p s e.call e.string in
    by_whole p k x e (ne_eqb e.reply.code 0 code) (found_by ch.source) ch (refusal p e.call e.string ch) f.answer

-- no row of the table has bytes
abbrev AreBare : List ReplyRow → Type 0
AreBare [] = Unit {0}
AreBare (r ∷ rows) = (r.reply.len ≡ 0) × AreBare rows

bare : (rows : List ReplyRow) (x : Reply) → AreBare rows → first_reply rows ≡ Some x → x.len ≡ 0
bare [] x h i = cc
bare (r ∷ rows) x (h, hs) i = by r.stands (λ j. bare rows x hs j) i where
  by : (b : Bool) → (first_reply rows ≡ Some x → x.len ≡ 0) → (if b then Some r.reply else first_reply rows) ≡ Some x → x.len ≡ 0
  by true more i = let is : r.reply ≡ x = cc in subst (λ (z : Reply). z.len ≡ 0) is h
  by false more i = more i

pub bare_refusal : (p : Tree) (c : Call) (string : List ℕ) (ch : Chain) (r : Reply) → refusal p c string ch ≡ Some r → r.len ≡ 0
bare_refusal p c string ch r h =
    bare (plain_rows p c string ++ chain_rows c ch) r (refl, (refl, (refl, (refl, (refl, (refl, (refl, (refl, (refl, (refl, (refl, tt))))))))))) h

-- a call that the table refuses is served between equal states, without an act
pub refused_served : (p : Tree) (s : States) (c : Call) (string : List ℕ) (r : Reply) → refusal p c string (chain_of p s c string) ≡ Some r → Served p s s c string r []
refused_served p s c string r is = record {
  acts = [];
  fits = λ caller. record { chain_is = refl; answer = by caller (refusal p c string (chain_of p s c string)) is };
  leaves = λ k. refl;
} where
  by : (caller : ℕ) (o : Option Reply) → o ≡ Some r
      → MatchOption o (Serves (found_by (chain_of p s c string).source) (chain_of p s c string) (entry_of p s c string r [] [] caller) c)
      (λ reply. AnswersBy (entry_of p s c string r [] [] caller) [] reply [])
  by caller None e = cc
  by caller (Some x) e = let same : x ≡ r = cc in record { acts_are = refl; reply_is = sym same; bytes_are = refl }

-- every row of the table has one of its codes
abbrev AreCoded : List ReplyRow → Type 0
AreCoded [] = Unit {0}
AreCoded (r ∷ rows) = IsOfTable r.reply.code × AreCoded rows

of_table : (rows : List ReplyRow) (x : Reply) → AreCoded rows → first_reply rows ≡ Some x → IsOfTable x.code
of_table [] x h i = cc
of_table (r ∷ rows) x (h, hs) i = by r.stands (λ j. of_table rows x hs j) i where
  by : (b : Bool) → (first_reply rows ≡ Some x → IsOfTable x.code) → (if b then Some r.reply else first_reply rows) ≡ Some x → IsOfTable x.code
  by true more i = let is : r.reply ≡ x = cc in subst (λ (z : Reply). IsOfTable z.code) is h
  by false more i = more i

at_code : (n : ℕ) → 0 < n → n < 12 → IsOfTable n
at_code n a b = record { low = a; high = b }

pub coded_by_table : (p : Tree) (c : Call) (string : List ℕ) (ch : Chain) (r : Reply) → refusal p c string ch ≡ Some r → IsOfTable r.code
coded_by_table p c string ch r h =
    let at : (n : ℕ) → 0 < n → n < 12 → IsOfTable n = at_code in
    of_table (plain_rows p c string ++ chain_rows c ch) r (
      at 1 (omega arith) (omega arith),
      (
        at 2 (omega arith) (omega arith),
        (
          at 2 (omega arith) (omega arith),
          (
            at 3 (omega arith) (omega arith),
            (
              at 4 (omega arith) (omega arith),
              (
                at 5 (omega arith) (omega arith),
                (
                  at 6 (omega arith) (omega arith),
                  (
                    at 7 (omega arith) (omega arith),
                    (at 8 (omega arith) (omega arith), (at 10 (omega arith) (omega arith), (at 11 (omega arith) (omega arith), tt))),
                  ),
                ),
              ),
            ),
          ),
        ),
      ),
    ) h
