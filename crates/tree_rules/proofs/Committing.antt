-- What the test of a commit gives: its condition, and the condition of putting each value back.
use Rattle.std.proofs.Common.{◌≡◌, ℕ, List, ◌∷◌, refl, sym, ap, ◌∙◌, Bool, true}
use Rattle.std.specs.Prelude.{if◌then◌else◌}
use Rattle.tree_rules.specs.declared.call.Call.{Call}
use Rattle.tree_rules.specs.declared.reply.Reply.{Reply}
use Rattle.tree_rules.specs.History.{Entry, Opening, States, has, own, slot_after_all}
use Rattle.tree_rules.specs.Chain.{slots_of}
use Rattle.tree_rules.specs.Replies.{chain_of}
use Rattle.tree_rules.specs.Codes.{numbers, entry_list}
use Rattle.tree_rules.specs.Table.{opening_list, touches, after_entry, Tells, FitsLists}
use Rattle.tree_rules.specs.Served.{entry_of}
use Rattle.tree_rules.specs.Commits.{Bears}
use Rattle.tree_rules.proofs.Listing.{touches_entry}

module _ (f : Opening) (o : List Entry) (caller : ℕ) (s : ℕ → List ℕ) (new : States) (c : Call) (string : List ℕ) (reply : Reply) (bytes : List ℕ) (e : List ℕ)
    (b : Bears f o caller s new c string reply bytes e) where
  abbrev made : Entry
  made = entry_of f.plan b.old c string reply bytes b.served.acts caller

  -- it fits the lists of the held slots
  pub may_commit : FitsLists (opening_list f o) s e
  may_commit = record {
    opening = f;
    calls = o;
    entry = made;
    states = b.old;
    opening_is = refl;
    entry_is = b.entry_is;
    fits = b.served.fits caller;
    told = b.told;
  }

  -- and a touched slot's new value stands for its list after the entry
  pub may_put : (k : ℕ) → touches e k ≡ true → Tells f o k (after_entry (opening_list f o) k (s k) e) (new k)
  may_put k h =
      let held : has (slots_of (chain_of f.plan b.old c string)) k ≡ true = sym (touches_entry made k) ∙ (sym (ap (λ z. touches z k) b.entry_is) ∙ h) in
      let tell = b.told k held in
      record {
        touched = made ∷ tell.touched;
        list_is = ap (λ (x : Bool). if x then 1 ∷ numbers e (s k) else s k) h
            ∙ (ap (λ z. 1 ∷ numbers z (s k)) b.entry_is ∙ ap (λ z. 1 ∷ numbers (entry_list made) z) tell.list_is);
        state_is = b.served.leaves k ∙ ap (λ x. slot_after_all f.plan k x (own k b.served.acts)) tell.state_is;
      }
