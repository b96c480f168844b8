-- Rows of the table of refusals: those in front and those behind, and by links in plain numbers.
use Rattle.std.proofs.Common.{◌≡◌, ◌++◌, ◌∷◌, ◌+◌, ℕ, List, [], Bool, true, false, refl, ap}
use Rattle.std.specs.Prelude.{◌&&◌, ◌||◌, not, is_none, is_some, nat_lt, if◌then◌else◌, Option, Some, None}
use Rattle.rbg_bytes.specs.Kinds.{strength}
use Rattle.entropy_source.specs.declared.answers.SourceMode.{SourceMode}
use Rattle.rbg_nodes.specs.Node.{is_due}
use Rattle.tree_rules.specs.declared.call.Call.{Call}
use Rattle.tree_rules.specs.declared.call.Call.TheVariants.{Generate, Instantiate, Reseed, Start, Status, Uninstantiate}
use Rattle.tree_rules.specs.declared.reply.Reply.{Reply}
use Rattle.tree_rules.specs.declared.reply.ReplyRow.{ReplyRow}
use Rattle.tree_rules.specs.Links.{Link, is_alive, is_rbg1}
use Rattle.tree_rules.specs.Chain.{asks_pr, need_by}
use Rattle.tree_rules.specs.Replies.{asked_strength, error_index, error_test, first_reply, is_instantiate, is_reseed, is_running, is_start, needs_life, reply_row, rows_by, sample_limit, seeds_or_gives}
use Rattle.tree_acts.specs.Plain.{kept_if}
use Rattle.tree_acts.specs.Plainly.{plain}

pub in_front : (xs ys : List ReplyRow) (r : Reply) → first_reply xs ≡ Some r → first_reply (xs ++ ys) ≡ Some r
in_front [] ys r h = cc
in_front (x ∷ xs) ys r h = by x.stands (λ i. in_front xs ys r i) h where
  by : (b : Bool) → (first_reply xs ≡ Some r → first_reply (xs ++ ys) ≡ Some r) → (if b then Some x.reply else first_reply xs) ≡ Some r → (if b then Some x.reply else first_reply (xs ++ ys)) ≡ Some r
  by true ih h = h
  by false ih h = ih h

pub behind_none : (xs ys : List ReplyRow) → first_reply xs ≡ None → first_reply (xs ++ ys) ≡ first_reply ys
behind_none [] ys h = refl
behind_none (x ∷ xs) ys h = by x.stands (λ i. behind_none xs ys i) h where
  by : (b : Bool) → (first_reply xs ≡ None → first_reply (xs ++ ys) ≡ first_reply ys) → (if b then Some x.reply else first_reply xs) ≡ None → (if b then Some x.reply else first_reply (xs ++ ys)) ≡ first_reply ys
  by true ih h = cc
  by false ih h = ih h

pub need_none : (c : Call) (lens : List ℕ) → need_by c None lens ≡ 0
need_none (Start j) lens = refl
need_none (Instantiate n x) lens = refl
need_none (Generate n x y z) lens = refl
need_none (Reseed n z) lens = refl
need_none (Uninstantiate n) lens = refl
need_none (Status n) lens = refl

-- no row reads more of a node than its plain numbers
none_plain : (kept : Option (List ℕ)) → is_none (kept_if (is_some kept)) ≡ is_none kept
none_plain (Some seed) = refl
none_plain None = refl

pub rows_plain : (c : Call) (l e : Link) (taken : ℕ) (mode : SourceMode) (samples : ℕ) → rows_by c (plain l) (plain e) taken mode samples ≡ rows_by c l e taken mode samples
rows_plain c l e taken mode samples = ap
    (λ (b : Bool). reply_row 3 (is_instantiate c && l.state.live) l.slot 0
    ∷ reply_row 4 (needs_life c && not (is_alive e)) e.slot 0
    ∷ reply_row 5 (nat_lt (strength l.row.drbg) (asked_strength c)) (asked_strength c) (strength l.row.drbg)
    ∷ reply_row 6 (is_rbg1 l.row.kind && (is_reseed c || is_instantiate c && b)) l.slot 0
    ∷ reply_row 7 (asks_pr c && is_rbg1 e.row.kind) e.slot 0
    ∷ reply_row 8 (seeds_or_gives c && is_rbg1 e.row.kind && is_due e.row e.state) e.slot e.state.counter
    ∷ reply_row 10 (nat_lt sample_limit (taken + samples)) taken samples
    ∷ reply_row 11 (nat_lt 0 samples && not (is_running mode) && not (is_start c)) (error_test mode) (error_index mode)
    ∷ [])
    (none_plain l.state.kept)
