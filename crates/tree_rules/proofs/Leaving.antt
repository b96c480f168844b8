-- What a reply leaves of the call's source.
use Rattle.std.proofs.Common.{◌≡◌, ◌≢◌, ◌∙◌, ℕ, List, [], true, false, map, refl, sym, ap, subst, eq-eqb}
use Rattle.std.specs.Prelude.{◌==◌, sum, Some, None, IfSome, Result, Ok, Err}
use Rattle.entropy_source.specs.Source.{Began, SourceState, blocks_for, source_after, source_after_all}
use Rattle.entropy_source.specs.declared.answers.SourceRefusal.{SourceRefusal}
use Rattle.entropy_source.specs.declared.answers.SourceRefusal.TheVariants.{HealthFailed, InError, SourceFault, SourceSpent, WantOfEntropy}
use Rattle.rbg_nodes.specs.Node.{Cleared}
use Rattle.tree_config.specs.Tree.{Tree}
use Rattle.tree_rules.specs.Chain.{Chain, SourceLink, wants}
use Rattle.tree_rules.specs.Fits.{DrawsAndWorks, Fits, Serves, Starts, done, found_by, source_reply}
use Rattle.tree_rules.specs.History.{Entry, States, at_slot}
use Rattle.tree_rules.specs.Leaves.{LeavesSource}
use Rattle.tree_rules.specs.Links.{first_link}
use Rattle.tree_rules.specs.Replies.{chain_of, error_index, error_test, is_start, refusal}
use Rattle.tree_rules.specs.declared.call.Call.{Call}
use Rattle.tree_rules.specs.declared.call.Call.TheVariants.{Generate, Instantiate, Reseed, Start, Status, Uninstantiate}
use Rattle.tree_rules.specs.declared.reply.Reply.{Reply}
use Rattle.tree_rules.proofs.Answered.{served, start_answered, works_answered}
use Rattle.tree_rules.proofs.Wording.{ReplyBy}
use Rattle.tree_rules.proofs.Endings.{Left, StartLeft, draws_left, start_left}
use Rattle.tree_rules.proofs.Sources.{never_done, node_skip}

-- the mode after acts, by the reply
record LeftBy (before now : SourceState) (r : Reply) : Type 0 where
  pub alarmed : r.code ≡ 13 → (error_index now.mode ≡ r.a) × (error_test now.mode ≡ r.b)
  pub kept : r.code ≢ 13 → now.mode ≡ before.mode
  pub ended : r.code ≡ 14 → IfSome now.told (λ left. left ≡ [])

other_code : {A : Type 0} (n m : ℕ) (r x : Reply) → r ≡ x → x.code ≡ n → r.code ≡ m → (n == m) ≡ false → A
other_code n m r x is at h off = let same : n ≡ m = sym at ∙ (sym (ap (λ (z : Reply). z.code) is) ∙ h) in let yes : (n == m) ≡ true = eq-eqb n m same in cc

left_by : (before now : SourceState) (j : ℕ) (e : Entry) (end : Result (List ℕ) SourceRefusal) → Left before now end → ReplyBy j e end → LeftBy before now e.reply
left_by before now j e (Ok bytes) (m, f) r = record {
  alarmed = λ h. other_code 0 13 e.reply (done e.bytes) r refl h refl;
  kept = λ h. m;
  ended = λ h. other_code 0 14 e.reply (done e.bytes) r refl h refl;
}
left_by before now j e (Err (SourceSpent a b)) h r = absurd h
left_by before now j e (Err (InError cause)) h r = absurd h
left_by before now j e (Err (SourceFault n)) (m, f, rose) r = record {
  alarmed = λ h. other_code 12 13 e.reply (source_reply j (SourceFault n)) r.0 refl h refl;
  kept = λ h. m;
  ended = λ h. other_code 12 14 e.reply (source_reply j (SourceFault n)) r.0 refl h refl;
}
left_by before now j e (Err (HealthFailed index test)) (m, f) r = record {
  alarmed = λ h. (ap error_index m ∙ sym (ap (λ (z : Reply). z.a) r.0), ap error_test m ∙ sym (ap (λ (z : Reply). z.b) r.0));
  kept = λ h. absurd (h (ap (λ (z : Reply). z.code) r.0));
  ended = λ h. other_code 13 14 e.reply (source_reply j (HealthFailed index test)) r.0 refl h refl;
}
left_by before now j e (Err (WantOfEntropy n)) (m, f, ends) r = record {
  alarmed = λ h. other_code 14 13 e.reply (source_reply j (WantOfEntropy n)) r.0 refl h refl;
  kept = λ h. m;
  ended = λ h. ends;
}

start_by : (t : SourceLink) (now : SourceState) (i : ℕ) (e : Entry) (end : Result (List ℕ) SourceRefusal) → StartLeft t.row t.state now end
    → ReplyBy t.number e end → LeavesSource (Start i) t.state now e.reply
start_by t now i e (Ok bytes) (m, f) r = record {
  alarmed = λ h. other_code 0 13 e.reply (done e.bytes) r refl h refl;
  started = λ s h. m;
  halted = λ s no_zero h. absurd (no_zero (ap (λ (z : Reply). z.code) r));
  kept = λ s. cc;
  ended = λ h. other_code 0 14 e.reply (done e.bytes) r refl h refl;
}
start_by t now i e (Err why) left r =
    let l = left_by (source_after t.row t.state Began) now t.number e (Err why) left r in record {
      alarmed = l.alarmed;
      started = λ s h. absurd (never_done e t.number why r.0 h);
      halted = λ s no_zero h. l.kept h;
      kept = λ s. cc;
      ended = l.ended;
    }

-- a call that is no Start
of_left : (c : Call) (before now : SourceState) (r : Reply) → is_start c ≡ false → LeftBy before now r → LeavesSource c before now r
of_left c before now r no_start l = record {
  alarmed = l.alarmed;
  started = λ s. let both : is_start c ≡ true = s in cc;
  halted = λ s. let both : is_start c ≡ true = s in cc;
  kept = λ s. l.kept;
  ended = l.ended;
}

abbrev Leaves : SourceLink → Entry → Call → Type 0
Leaves t e c = LeavesSource c t.state (source_after_all t.row t.state (at_slot t.slot e.acts)) e.reply

idle : (c : Call) (t : SourceLink) (e : Entry) → is_start c ≡ false → at_slot t.slot e.acts ≡ [] → e.reply ≡ done e.bytes → Leaves t e c
idle c t e no_start none is =
    of_left c t.state (source_after_all t.row t.state (at_slot t.slot e.acts)) e.reply no_start
    (left_by t.state (source_after_all t.row t.state (at_slot t.slot e.acts)) t.number e (Ok [])
    (subst (λ z. Left t.state (source_after_all t.row t.state z) (Ok [])) (sym none) (refl, refl)) is)

works : (ch : Chain) (e : Entry) (t : SourceLink) (c : Call) → is_start c ≡ false → ch.source ≡ Some t
    → DrawsAndWorks (found_by ch.source) c ch.links (wants c ch) ch.source e → Leaves t e c
works ch e t c no_start is w =
    let a = works_answered (found_by (Some t)) c ch.links (wants c ch) t e (subst (λ o. DrawsAndWorks (found_by o) c ch.links (wants c ch) o e) is w) in
    of_left c t.state (source_after_all t.row t.state (at_slot t.slot e.acts)) e.reply no_start
    (left_by t.state (source_after_all t.row t.state (at_slot t.slot e.acts)) t.number e a.end
    (subst (λ z. Left t.state (source_after_all t.row t.state z) a.end) (sym a.here)
    (draws_left t.row (found_by (Some t)) (sum (map (λ n. blocks_for t.row n) (wants c ch))) t.state [] [] a.acts a.end a.used)) a.reply)

source_left_by : (ch : Chain) (e : Entry) (t : SourceLink) (c : Call) → ch.source ≡ Some t → Serves (found_by ch.source) ch e c → Leaves t e c
source_left_by ch e t (Start i) is w =
    let a = start_answered t e (subst (λ o. Starts o e) is w) in
    start_by t (source_after_all t.row t.state (at_slot t.slot e.acts)) i e a.end
    (subst (λ z. StartLeft t.row t.state (source_after_all t.row t.state z) a.end) (sym a.here) (start_left t.row t.state a.acts a.end a.used)) a.reply
source_left_by ch e t (Uninstantiate n) is w =
    idle (Uninstantiate n) t e refl (ap (at_slot t.slot) w.acts_are ∙ node_skip t.slot (first_link ch.links) Cleared []) (w.reply_is ∙ ap done (sym w.bytes_are))
source_left_by ch e t (Status n) is w = idle (Status n) t e refl (ap (at_slot t.slot) w.acts_are) (w.reply_is ∙ ap done (sym w.bytes_are))
source_left_by ch e t (Instantiate n x) is w = works ch e t (Instantiate n x) refl is w
source_left_by ch e t (Generate n x y z) is w = works ch e t (Generate n x y z) refl is w
source_left_by ch e t (Reseed n z) is w = works ch e t (Reseed n z) refl is w

-- what is left of the source of a call that the table doesn't refuse
pub source_left : (p : Tree) (s : States) (e : Entry) (t : SourceLink) → Fits p s e
    → (let ch = chain_of p s e.call e.string in refusal p e.call e.string ch ≡ None → ch.source ≡ Some t → Leaves t e e.call)
source_left p s e t f free is = source_left_by (chain_of p s e.call e.string) e t e.call is (served p s e f free)
