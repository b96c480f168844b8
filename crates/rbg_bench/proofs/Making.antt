-- The same call made once more.
use Rattle.std.proofs.Common.{◌≡◌, ◌∙◌, ℕ, ◌+◌, List, [], ◌∷◌, ◌++◌, length, refl, sym, ap, subst, arith, length-append, append_assoc, append-nil}
use Rattle.std.specs.Prelude.{Option, ◌==◌, if◌then◌else◌}
use Rattle.std.specs.List.{AllByRecursion}
use Rattle.entropy_source.specs.Views.{SourceView}
use Rattle.rbg_nodes.specs.Views.{NodeView}
use Rattle.tree_rules.specs.declared.call.Call.{Call}
use Rattle.tree_rules.specs.declared.reply.Reply.{Reply}
use Rattle.tree_rules.specs.History.{Entry, Opening}
use Rattle.tree_rules.specs.Openings.{IsHistory}
use Rattle.tree_core.specs.Solo.{StandAfter, GoesOn}
use Rattle.rbg_bench.specs.Calls.{IsOf, done_in, bytes_in}

-- the call was made so many times: this many of them are Done, and the hasher holds all bytes
pub record Went {S : Type 0} (told : S → Option (List ℕ)) (faults : S → ℕ) (f : Opening) (o : List Entry) (c : Call) (count done : ℕ) (holds : List ℕ → Type 0)
    (nodes : List NodeView) (sources : List (SourceView S)) : Type 0 where
  pub es : List Entry
  pub history : IsHistory f o es
  pub calls : AllByRecursion (IsOf c) es
  pub len : length es ≡ count
  pub done_are : done ≡ done_in es
  pub held : holds (bytes_in es)
  pub stand : StandAfter told faults f o es nodes sources

all-push : {X : Type 0} (P : X → Type 0) (xs : List X) (x : X) → AllByRecursion P xs → P x → AllByRecursion P (xs ++ x ∷ [])
all-push P [] x all one = (one, tt)
all-push P (y ∷ xs) x all one = (all.0, all-push P xs x all.1 one)

bytes-push : (es : List Entry) (e : Entry) → bytes_in (es ++ e ∷ []) ≡ bytes_in es ++ e.bytes
bytes-push [] e = append-nil e.bytes
bytes-push (x ∷ es) e = ap (λ (b : List ℕ). x.bytes ++ b) (bytes-push es e) ∙ sym (append_assoc x.bytes (bytes_in es) e.bytes)

done-push : (es : List Entry) (e : Entry) → done_in (es ++ e ∷ []) ≡ done_in es + (if e.reply.code == 0 then 1 else 0)
done-push [] e = omega arith
done-push (x ∷ es) e =
    let more = done-push es e in
    let one : ℕ = if x.reply.code == 0 then 1 else 0 in
    let last : ℕ = if e.reply.code == 0 then 1 else 0 in
    let here : one + done_in (es ++ e ∷ []) ≡ (one + done_in es) + last = ap (λ (n : ℕ). one + n) more ∙ omega arith in
    here

pub went_none : {S : Type 0} (told : S → Option (List ℕ)) (faults : S → ℕ) (f : Opening) (o : List Entry) (c : Call) (holds : List ℕ → Type 0)
    (nodes : List NodeView) (sources : List (SourceView S)) → IsHistory f o [] → holds [] → StandAfter told faults f o [] nodes sources → Went told faults f o c 0 0 holds nodes sources
went_none told faults f o c holds nodes sources is held stand = record { es = []; history = is; calls = tt; len = refl; done_are = refl; held = held; stand = stand }

pub went_more : {S : Type 0} (told : S → Option (List ℕ)) (faults : S → ℕ) (reads : S → ℕ → Option (List ℕ) → S → Type 0) (samples : List S) (f : Opening) (o : List Entry) (c : Call) (count done : ℕ) (before now : List ℕ → Type 0)
    (nodes ns : List NodeView) (sources ss : List (SourceView S)) (went : Went told faults f o c count done before nodes sources) (reply : Reply) (bytes : List ℕ)
    → GoesOn told faults reads f o went.es samples c [] reply bytes ns ss → ((m : List ℕ) → before m → now (m ++ bytes)) → (done' : ℕ) → done' ≡ done + (if reply.code == 0 then 1 else 0)
    → Went told faults f o c (count + 1) done' now ns ss
went_more told faults reads samples f o c count done before now nodes ns sources ss went reply bytes on more done' rises =
    let e = on.entry in
    let es = went.es in
    let all : bytes_in (es ++ e ∷ []) ≡ bytes_in es ++ bytes = bytes-push es e ∙ ap (λ (b : List ℕ). bytes_in es ++ b) on.bytes_are in
    let sum : done' ≡ done_in (es ++ e ∷ []) =
    rises ∙ (ap (λ (n : ℕ). n + (if reply.code == 0 then 1 else 0)) went.done_are
    ∙ (ap (λ (r : Reply). done_in es + (if r.code == 0 then 1 else 0)) (sym on.reply_is) ∙ sym (done-push es e))) in
    record {
      es = es ++ e ∷ [];
      history = on.history;
      calls = all-push (IsOf c) es e went.calls (record { caller = on.caller_is; call = on.call_is; string = on.string_is });
      len = length-append es (e ∷ []) ∙ ap (λ (n : ℕ). n + 1) went.len;
      done_are = sum;
      held = subst now (sym all) (more (bytes_in es) went.held);
      stand = on.stand;
    }
