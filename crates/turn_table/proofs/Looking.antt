-- A pass that looks again and again has looked once.
use Rattle.std.proofs.Common.{◌≡◌, List, [], ◌++◌, sym, refl, ap, ◌∙◌, subst, append_assoc, append-nil}
use Rattle.turn_table.specs.declared.view.View.{View}
use Rattle.turn_table.specs.Meaning.{Meaning}
use Rattle.turn_table.specs.History.{Entry, Begins}
use Rattle.turn_table.specs.Views.{with_seen}
use Rattle.turn_table.specs.Calls.{Looks, SeesOn}

begins_on : (xs ys zs : List Entry) → Begins xs ys → Begins ys zs → Begins xs zs
begins_on xs ys zs a b = (a.0 ++ b.0, b.1 ∙ (ap (λ (l : List Entry). l ++ b.0) a.1 ∙ append_assoc xs a.0 b.0))

pub sees_same : (v : View) → SeesOn v v
sees_same v = record { begins = ([], sym (append-nil v.seen)); after = refl }

module _ {V : Type 0} (M : Meaning V) where
  looks_from : (v : View) (h : List Entry) (u : View) → Begins v.seen h → Looks M (with_seen h v) u → Looks M v u
  looks_from v h u a b = record {
    history = b.history;
    finds = record {
      legal = b.finds.legal;
      seen = begins_on v.seen h b.history a b.finds.seen;
      mine = b.finds.mine;
      states = b.finds.states;
      few = b.finds.few;
    };
    after = b.after;
  }

  pub looks_on : (v w u : View) → SeesOn v w → Looks M w u → Looks M v u
  looks_on v w u a b = looks_from v w.seen u a.begins (subst (λ (z : View). Looks M z u) a.after b)

  pub sees_on : (v w u : View) → SeesOn v w → Looks M w u → SeesOn v u
  sees_on v w u a b = let l = looks_on v w u a b in let e : u.seen ≡ l.history = ap (λ (z : View). z.seen) l.after in record {
    begins = subst (Begins v.seen) (sym e) l.finds.seen;
    after = l.after ∙ ap (λ (h : List Entry). with_seen h v) (sym e);
  }
