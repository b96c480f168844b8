-- A call that was made or found a turn held, in entries of one history.
use Rattle.std.proofs.Common.{◌≡◌, ℕ, List, [], ◌∷◌, ◌++◌, length, length-append, refl, sym, ap, ◌∙◌, subst, arith, Bool, true, false}
use Rattle.std.specs.Prelude.{◌==◌, if◌then◌else◌, Result, Ok, Err, IfErr, IsOk, Option}
use Rattle.turn_table.specs.declared.view.View.{View}
use Rattle.turn_table.specs.History as table
use Rattle.turn_table.specs.History.{Begins, of_caller, caller_of}
use Rattle.tree_config.specs.Tree.{Tree}
use Rattle.tree_rules.specs.declared.call.Call.{Call}
use Rattle.tree_rules.specs.declared.reply.Reply.{Reply}
use Rattle.tree_rules.specs.History.{Entry, Opening, opened}
use Rattle.tree_rules.specs.Chain.{target}
use Rattle.tree_rules.specs.Fits.{Fits, Legal}
use Rattle.tree_rules.specs.Openings.{IsHistory, states_behind}
use Rattle.tree_rules.specs.Codes.{entry_list}
use Rattle.tree_rules.specs.Table.{start, after_entry, FitsLists}
use Rattle.tree_rules.proofs.Coding.{entry_back}
use Rattle.tree_rules.proofs.Going.{last_fits}
use Rattle.tree_rules.proofs.Parts.{both, joined}
use Rattle.tree_rules.proofs.Parting.{apart}
use Rattle.tree_rules.proofs.Plans.{takes_samples}
use Rattle.tree_rules.proofs.Quieting.{quiet}
use Rattle.tree_rules.proofs.Rightness.{legal_history}
use Rattle.tree_core.specs.Reasons.{HasReason}
use Rattle.shared_tree.specs.declared.busy.Busy.{Busy}
use Rattle.shared_tree.specs.Passes.{SharedView, IsPassOf}
use Rattle.turn_table.specs.Passes.{Standing}
use Rattle.shared_tree.specs.Answers.{GrowsByOthers, IsAnswered, IsBusy, IsWhole, lists_of}
use Rattle.shared_tree.specs.Carries.{Makes, Meets}
use Rattle.shared_tree.proofs.Reading.{read}

-- a legal history is whole
pub whole : (f : Opening) (o h : List Entry) → IsHistory f o h → IsWhole f o h
whole f o h is =
    let all : Legal f.plan (opened f) (o ++ h) = joined f.plan (opened f) o h is.opening.legal is.legal in record {
      history = is;
      right = legal_history f (takes_samples 0 f.plan is.opening.planned) [] (o ++ h) tt all;
      apart = apart f (o ++ h) all;
      quiet = quiet f (o ++ h) (takes_samples 0 f.plan is.opening.planned) all;
    }

-- the entries of a caller in two lists behind one another
of_both : (n : ℕ) (xs ys : List (List ℕ)) → of_caller n (xs ++ ys) ≡ of_caller n xs ++ of_caller n ys
of_both n [] ys = refl
of_both n (x ∷ xs) ys = by (caller_of x == n) (of_both n xs ys) where
  by : (b : Bool) → of_caller n (xs ++ ys) ≡ of_caller n xs ++ of_caller n ys
      → (if b then x ∷ of_caller n (xs ++ ys) else of_caller n (xs ++ ys)) ≡ (if b then x ∷ of_caller n xs else of_caller n xs) ++ of_caller n ys
  by true e = ap (λ (l : List (List ℕ)). x ∷ l) e
  by false e = e

none_more : (xs ys : List (List ℕ)) → xs ≡ xs ++ ys → ys ≡ []
none_more xs [] e = refl
none_more xs (y ∷ ys) e = absurd (let a = ap (λ (l : List (List ℕ)). length l) e in let b = length-append xs (y ∷ ys) in omega (arith, a, b))

-- what began with what was seen, and has as many own entries, grew by others' alone
grows : (n : ℕ) (mine before after : List (List ℕ)) → mine ≡ of_caller n before → Begins before after → mine ≡ of_caller n after → GrowsByOthers n before after
grows n mine before after own b now = record {
  others = b.0;
  grows = b.1;
  none_own = none_more (of_caller n before) (of_caller n b.0) (sym own ∙ (now ∙ (ap (λ (l : List (List ℕ)). of_caller n l) b.1 ∙ of_both n before b.0)));
}

-- entries whose lists are some lists and one entry's: they are some entries and that one
parted : (h : List (List ℕ)) (x : Entry) (es : List Entry) → h ++ entry_list x ∷ [] ≡ lists_of es → (ys : List Entry) × (h ≡ lists_of ys) × (es ≡ ys ++ x ∷ [])
parted [] x [] e = cc
parted [] x (y ∷ []) e = let one : entry_list x ≡ entry_list y = cc in let same = (entry_back x y [] [] one).0 in ([], refl, ap (λ (z : Entry). z ∷ []) (sym same))
parted [] x (y ∷ z ∷ zs) e = cc
parted (l ∷ h) x [] e = cc
parted (l ∷ h) x (y ∷ es) e =
    let head : l ≡ entry_list y = cc in
    let rest : h ++ entry_list x ∷ [] ≡ lists_of es = cc in
    let r = parted h x es rest in
    (y ∷ r.0, two head r.1, ap (λ (zs : List Entry). y ∷ zs) r.2) where
      two : {a b : List ℕ} {xs ys : List (List ℕ)} → a ≡ b → xs ≡ ys → a ∷ xs ≡ b ∷ ys
      two p q = λ i. p i ∷ q i

-- each right entry behind a history has its reason
abbrev pub HaveReasons : Type 0
HaveReasons = (f : Opening) (o h : List Entry) (e : Entry) → IsHistory f o h → Fits f.plan (states_behind f o h) e → HasReason f.plan (states_behind f o h) e

module _ {S : Type 0} (told : S → Option (List ℕ)) (faults : S → ℕ) (t : SharedView) (s : Standing) (is : IsPassOf t s) where
  pub answered : HaveReasons → (c : Call) (string : List ℕ) (reply : Reply) (bytes : List ℕ) (w : View) → Makes told faults c string reply bytes s.view w
      → IsAnswered t.plan c string reply bytes s.view w
  answered reasons c string reply bytes w m =
      let f = is.f in let o = is.o in
      let rd = read f o (m.before ++ entry_list m.entry ∷ []) is.is_opening
      (subst (λ (l : List ℕ). table.Legal (after_entry l) (FitsLists l) (start l) (m.before ++ entry_list m.entry ∷ [])) is.opening_is m.legal.1) in
      let p = parted m.before m.entry rd.entries rd.are in
      let history : IsHistory f o (p.0 ++ m.entry ∷ []) = subst (λ (es : List Entry). IsHistory f o es) p.2 rd.history in
      let first : IsHistory f o p.0 = record { opening = is.is_opening; legal = (both f.plan _ p.0 (m.entry ∷ []) history.legal).0 } in
      record {
        f = f;
        o = o;
        before = p.0;
        entry = m.entry;
        opening_is = is.opening_is;
        plan_is = is.plan_is;
        caller_is = m.caller_is;
        call_is = m.call_is;
        string_is = m.string_is;
        reply_is = m.reply_is;
        bytes_are = m.bytes_are;
        others = grows s.view.number s.view.mine s.view.seen (lists_of p.0) is.own (subst (λ (h : List (List ℕ)). Begins s.view.seen h) p.1 m.begins)
            (m.own ∙ ap (λ (h : List (List ℕ)). of_caller s.view.number h) p.1);
        seen_is = m.seen_is ∙ (rd.are ∙ ap (λ (es : List Entry). lists_of es) p.2);
        mine_is = m.mine_is;
        whole = whole f o (p.0 ++ m.entry ∷ []) history;
        reason = reasons f o p.0 m.entry first (last_fits f o p.0 m.entry history);
      }

  pub busy : (c : Call) (string : List ℕ) (b : Busy) (w : View) → Meets t.plan (target t.plan c) c string b s.view w → IsBusy t.plan c string b s.view w
  busy c string b w m = record {
    f = m.f;
    o = m.o;
    entries = m.entries;
    item = m.item;
    opening_is = m.opening_is;
    plan_is = m.plan_is;
    seen_is = m.seen_is;
    whole = whole m.f m.o m.entries m.history;
    others = grows s.view.number s.view.mine s.view.seen w.seen is.own m.begins m.own;
    mine_is = m.mine_is;
    met_is = m.met_is;
    slot_is = m.slot_is;
    word_is = m.word_is;
    at_is = m.at_is;
    holder_low = m.holder_low;
    holder_high = m.holder_high;
    another = m.another;
    chain = m.chain;
    on_path = m.on_path;
    on_target = m.on_target;
  }

-- where nothing was met the call was made
pub made_unmet : (p : Tree) (t : ℕ) (c : Call) (string : List ℕ) (v w : View) (r : Result Reply Busy) → IfErr r (λ b. Meets p t c string b v w) → w.met ≡ v.met → IsOk r
made_unmet p t c string v w (Ok x) busy same = refl
made_unmet p t c string v w (Err b) busy same = absurd (let a = ap (λ l. length l) (sym same ∙ busy.met_is) in let e = length-append v.met (busy.item ∷ []) in omega (arith, a, e))
