-- The outputs of an RBG3(XOR).
use Rattle.std.proofs.Common.{◌≡◌, ◌∙◌, ◌∷◌, ◌≤◌, ◌+◌, ◌*◌, ℕ, List, [], length, Bool, true, false, refl, sym, ap, subst, arith}
use Rattle.std.specs.Prelude.{if◌then◌else◌, Some, None, nat_lt}
use Rattle.std.proofs.lemmas.Bool.Decides.{nat_tests}
use Rattle.tree_config.specs.Tree.{Tree}
use Rattle.tree_config.specs.declared.plan.NodeKind.{NodeKind}
use Rattle.tree_config.specs.declared.plan.NodeKind.TheVariants.{Rbg1, Rbg2, Rbg3Xor, Rbg3Rs, Child}
use Rattle.tree_config.specs.declared.plan.Origin.{Origin}
use Rattle.tree_config.specs.declared.plan.Origin.TheVariants.{SeedFile, Source, Parent}
use Rattle.rbg_nodes.specs.Node.{Seeded, Gave, Renew, node_after, given_bytes, entropy_len}
use Rattle.rbg_nodes.specs.Views.{xor_bytes}
use Rattle.tree_rules.specs.History.{AtNode, SlotState, States, node_in}
use Rattle.tree_rules.specs.Slots.{node_plan, node_row}
use Rattle.tree_rules.specs.Links.{Task, Gives, Link, link, is_alive, is_xor, is_rs, must_seed, wanted}
use Rattle.tree_rules.specs.Chain.{SourceLink, source_of, source_by}
use Rattle.tree_rules.specs.Replies.{count_limit}
use Rattle.tree_rules.specs.Works.{task_work, first_drawn, last_drawn}
use Rattle.tree_acts.specs.Chained.{room_for}
use Rattle.tree_acts.specs.Pieces.{some_len, some_string}

pub xor_kind : (k : NodeKind) (len : ℕ) → is_xor k ≡ true → (is_rs k ≡ false) × ((count_limit k ≡ 4096) × (room_for k len ≡ len * 2 + 64))
xor_kind Rbg3Xor len h = (refl, (refl, refl))
xor_kind Rbg1 len h = cc
xor_kind Rbg2 len h = cc
xor_kind Rbg3Rs len h = cc
xor_kind Child len h = cc

no_items : (xs : List ℕ) → length xs ≤ 0 → xs ≡ []
no_items [] h = refl
no_items (x ∷ xs) h = absurd (omega arith)

-- the last of the drawn strings is the fresh bytes, where there are any
pub last_plain : (given fresh : List ℕ) → xor_bytes given fresh ≡ xor_bytes given (last_drawn (some_string fresh))
last_plain given fresh = by (nat_lt 0 (length fresh)) refl where
  by : (b : Bool) → nat_lt 0 (length fresh) ≡ b → xor_bytes given fresh ≡ xor_bytes given (last_drawn (if b then fresh ∷ [] else []))
  by true e = refl
  by false e = let none : length fresh ≤ 0 = grind (arith, nat_tests) in ap (λ z. xor_bytes given z) (no_items fresh none)

pub last_seeded : (given m fresh : List ℕ) → length given ≡ length fresh → xor_bytes given fresh ≡ xor_bytes given (last_drawn (m ∷ some_string fresh))
last_seeded given m fresh size = by (nat_lt 0 (length fresh)) refl where
  by : (b : Bool) → nat_lt 0 (length fresh) ≡ b → xor_bytes given fresh ≡ xor_bytes given (last_drawn (m ∷ (if b then fresh ∷ [] else [])))
  by true e = refl
  by false e =
      let none : length fresh ≤ 0 = grind (arith, nat_tests) in
      let empty : given ≡ [] = no_items given (omega (arith, none, size)) in
      ap (λ z. xor_bytes z fresh) empty ∙ ap (λ z. xor_bytes z m) (sym empty)

module _ (p : Tree) (pr : Bool) (n : ℕ) (task : Task) (x : SlotState) (len : ℕ) (gives : task ≡ Gives len) (xor : is_xor (node_row p n).kind ≡ true) where
  rs : is_rs (node_row p n).kind ≡ false
  rs = (xor_kind (node_row p n).kind len xor).0

  pub wants_plain : must_seed pr (link p n task x) ≡ false → wanted pr (link p n task x) ≡ some_len len
  wants_plain must = rw (gives, rs, xor, must) refl

  pub wants_seeded : must_seed pr (link p n task x) ≡ true → wanted pr (link p n task x) ≡ entropy_len (node_row p n) ∷ some_len len
  wants_seeded must = rw (gives, rs, xor, must) refl

  pub part_plain : (ss : List (List ℕ)) (string : List ℕ) → must_seed pr (link p n task x) ≡ false
      → task_work pr ss string (link p n task x) [] task
      ≡ record { acts = record { slot = n; act = AtNode (Gave string len (given_bytes (node_row p n) (node_in x) string len)) } ∷ []; bytes = xor_bytes (given_bytes (node_row p n) (node_in x) string len) (last_drawn ss) }
  part_plain ss string must =
      subst (λ t. must_seed pr (link p n t x) ≡ false → task_work pr ss string (link p n t x) [] t
      ≡ record { acts = record { slot = n; act = AtNode (Gave string len (given_bytes (node_row p n) (node_in x) string len)) } ∷ []; bytes = xor_bytes (given_bytes (node_row p n) (node_in x) string len) (last_drawn ss) })
      (sym gives) (λ m. rw (m, rs, xor) refl) must

  pub part_seeded : (ss : List (List ℕ)) (string : List ℕ) (j : ℕ) → must_seed pr (link p n task x) ≡ true → (node_plan p n).origin ≡ Source j
      → task_work pr ss string (link p n task x) [] task
      ≡ (let seeded = Seeded Renew (first_drawn ss) string in let now = node_after (node_row p n) (node_in x) seeded in
      record {
        acts = record { slot = n; act = AtNode seeded } ∷ record { slot = n; act = AtNode (Gave [] len (given_bytes (node_row p n) now [] len)) } ∷ [];
        bytes = xor_bytes (given_bytes (node_row p n) now [] len) (last_drawn ss);
      })
  part_seeded ss string j must from =
      subst (λ t. must_seed pr (link p n t x) ≡ true → task_work pr ss string (link p n t x) [] t
      ≡ (let seeded = Seeded Renew (first_drawn ss) string in let now = node_after (node_row p n) (node_in x) seeded in
      record {
        acts = record { slot = n; act = AtNode seeded } ∷ record { slot = n; act = AtNode (Gave [] len (given_bytes (node_row p n) now [] len)) } ∷ [];
        bytes = xor_bytes (given_bytes (node_row p n) now [] len) (last_drawn ss);
      })) (sym gives) (λ m. rw (m, rs, xor, from) refl) must

-- a node that draws has a source as origin
pub from_source : (p : Tree) (s : States) (pr : Bool) (l : Link) (t : SourceLink) → source_of p s pr l ≡ Some t → (j : ℕ) × (l.origin ≡ Source j)
from_source p s pr l t e = by (is_alive l) (wanted pr l) l.origin refl e where
  by : (b : Bool) (lens : List ℕ) (o : Origin) → l.origin ≡ o → (if b then source_by p s lens o else None) ≡ Some t → (j : ℕ) × (l.origin ≡ Source j)
  by false lens o f e = cc
  by true [] o f e = cc
  by true (y ∷ ys) (SeedFile name) f e = cc
  by true (y ∷ ys) (Parent q) f e = cc
  by true (y ∷ ys) (Source j) f e = (j, f)
