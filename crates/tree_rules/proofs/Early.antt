-- The codes of the table come of it alone.
use Rattle.std.proofs.Common.{◌≡◌, ◌∙◌, ℕ, arith, List, [], map, refl, sym, ap, subst}
use Rattle.std.specs.Prelude.{sum, Option, Some, None, Result, Ok, Err, MatchOption}
use Rattle.entropy_source.specs.Source.{blocks_for, source_after_all}
use Rattle.entropy_source.specs.declared.answers.SourceRefusal.{SourceRefusal}
use Rattle.entropy_source.specs.declared.answers.SourceRefusal.TheVariants.{HealthFailed, InError, SourceFault, SourceSpent, WantOfEntropy}
use Rattle.tree_config.specs.Tree.{Tree}
use Rattle.tree_rules.specs.Causes.{IsOfTable}
use Rattle.tree_rules.specs.Chain.{Chain, SourceLink, wants}
use Rattle.tree_rules.specs.Fits.{AnswersBy, DrawsAndWorks, Fits, Serves, Starts, done, found_by, source_reply}
use Rattle.tree_rules.specs.History.{Entry, States}
use Rattle.tree_rules.specs.Links.{Link}
use Rattle.tree_rules.specs.Replies.{chain_of, refusal}
use Rattle.tree_rules.specs.declared.call.Call.{Call}
use Rattle.tree_rules.specs.declared.call.Call.TheVariants.{Generate, Instantiate, Reseed, Start, Status, Uninstantiate}
use Rattle.tree_rules.specs.declared.reply.Reply.{Reply}
use Rattle.tree_rules.proofs.Endings.{draws_left, start_left}
use Rattle.tree_rules.proofs.Wording.{IsRead, ReplyBy, read_left, read_started}
use Rattle.tree_rules.proofs.Answered.{start_answered, works_answered}

-- none of the codes of the table comes of a source
module _ (e : Entry) (early : IsOfTable e.reply.code) where
  not_early : (n : ℕ) (r : Reply) → e.reply ≡ r → r.code ≡ n → ¬ IsOfTable n → ⊥
  not_early n r is at never = never (subst (λ z. IsOfTable z) (ap (λ (z : Reply). z.code) is ∙ at) early)

  abbrev no_zero : ¬ IsOfTable 0
  no_zero i = let l = i.low in omega arith

  late : (j : ℕ) (end : Result (List ℕ) SourceRefusal) → IsRead end → ReplyBy j e end → ⊥
  late j (Ok bytes) read r = not_early 0 (done e.bytes) r refl no_zero
  late j (Err (SourceSpent a b)) read r = absurd read
  late j (Err (InError cause)) read r = absurd read
  late j (Err (SourceFault n)) read r = not_early 12 (source_reply j (SourceFault n)) r.0 refl (λ i. let h = i.high in omega arith)
  late j (Err (HealthFailed index test)) read r = not_early 13 (source_reply j (HealthFailed index test)) r.0 refl (λ i. let h = i.high in omega arith)
  late j (Err (WantOfEntropy n)) read r = not_early 14 (source_reply j (WantOfEntropy n)) r.0 refl (λ i. let h = i.high in omega arith)

  works_late : (c : Call) (ls : List Link) (lens : List ℕ) (source : Option SourceLink) → DrawsAndWorks (found_by source) c ls lens source e → ⊥
  works_late c ls lens None w = not_early 0 _ w.reply_is refl no_zero
  works_late c ls lens (Some t) w =
      let a = works_answered (found_by (Some t)) c ls lens t e w in
      let read = read_left t.state (source_after_all t.row t.state a.acts) a.end (draws_left t.row (found_by (Some t)) (sum (map (λ n. blocks_for t.row n) lens)) t.state [] [] a.acts a.end a.used) in
      late t.number a.end read.0 a.reply

  start_late : (source : Option SourceLink) → Starts source e → ⊥
  start_late None w = w
  start_late (Some t) w =
      let a = start_answered t e w in
      let read = read_started t.row t.state (source_after_all t.row t.state a.acts) a.end (start_left t.row t.state a.acts a.end a.used) in
      late t.number a.end read.0 a.reply

  serves_late : (ch : Chain) (c : Call) → Serves (found_by ch.source) ch e c → ⊥
  serves_late ch (Start i) w = start_late ch.source w
  serves_late ch (Uninstantiate n) w = not_early 0 _ w.reply_is refl no_zero
  serves_late ch (Status n) w = not_early 0 _ w.reply_is refl no_zero
  serves_late ch (Instantiate n x) w = works_late (Instantiate n x) ch.links (wants (Instantiate n x) ch) ch.source w
  serves_late ch (Generate n x y z) w = works_late (Generate n x y z) ch.links (wants (Generate n x y z) ch) ch.source w
  serves_late ch (Reseed n z) w = works_late (Reseed n z) ch.links (wants (Reseed n z) ch) ch.source w

pub by_table : (p : Tree) (s : States) (e : Entry) (r : Reply) → Fits p s e → e.reply ≡ r → IsOfTable r.code
    → refusal p e.call e.string (chain_of p s e.call e.string) ≡ Some r
by_table p s e r f is early = by (refusal p e.call e.string ch) f.answer where
  ch : Chain
  ch = chain_of p s e.call e.string

  by : (o : Option Reply) → MatchOption o (Serves (found_by ch.source) ch e e.call) (λ reply. AnswersBy e [] reply []) → o ≡ Some r
  by None w = absurd (serves_late e (subst (λ (z : Reply). IsOfTable z.code) (sym is) early) ch e.call w)
  by (Some x) w = ap Some (sym w.reply_is ∙ is)
