-- The links of a chain from a node on, as a walk goes along them, and when nothing stops their work.
-- This project's own.
use Rattle.std.specs.Prelude.{◌≡◌, ◌<◌, ◌≤◌, ◌+◌, ◌*◌, ◌^◌, ◌||◌, if◌then◌else◌, ℕ, List, [], ◌∷◌, ◌++◌, length, map, Bool, true, false, Option, IsSome, IfSome}
use Rattle.tree_config.specs.Tree.{Tree, IsTree, parent_in}
use Rattle.tree_config.specs.Planned.{IsPlanned}
use Rattle.tree_config.specs.declared.plan.NodeKind.{NodeKind}
use Rattle.entropy_source.specs.declared.answers.SourceMode.TheVariants.{Running}
use Rattle.entropy_source.specs.Source.{need_of}
use Rattle.tree_rules.specs.Slots.{node_plan, node_row, ancestors}
use Rattle.tree_rules.specs.History.{States}
use Rattle.tree_rules.specs.Links.{Task, Gives, Link, link, links, first_link, last_link, is_alive, is_rbg1, is_xor, is_rs, must_seed, asks_parent, seeding_len, wanted, starts}
use Rattle.tree_rules.specs.Chain.{SourceLink, source_of, slots_of_source}
use Rattle.tree_rules.specs.Replies.{count_limit}
use Rattle.entropy_source.specs.Views.{SourceView}
use Rattle.tree_acts.specs.Hold.{Hold, IsOfPlan, AreHeld, FewCounts, states_held}

-- node n with at most so many of its ancestors
abbrev pub links_from : Tree → States → Bool → Task → ℕ → ℕ → List Link
links_from p s pr task far n = links p s pr task (n ∷ ancestors far p (parent_in (node_plan p n).origin))

-- the links behind the first of these
abbrev pub rest_from : Tree → States → Bool → Task → ℕ → ℕ → List Link
rest_from p s pr task far n =
    let l = link p n task (s n) in
    if asks_parent pr l then links p s pr (Gives (seeding_len l)) (ancestors far p (parent_in (node_plan p n).origin)) else []

-- the slots of links, and of the source of the last one
abbrev pub slots_with : Tree → States → Bool → List Link → List ℕ
slots_with p s pr ls = map (λ (l : Link). l.slot) ls ++ slots_of_source (source_of p s pr (last_link ls))

-- the bytes that a task asks
abbrev pub len_of : Task → ℕ
len_of (Gives len) = len
len_of _ = 0

-- the bytes that strings drawn for a task may take, of the nodes that draw more than their seed
abbrev pub room_for : NodeKind → ℕ → ℕ
room_for kind len = if is_xor kind || is_rs kind then len * 2 + 64 else 0

-- no refusal of the table stands, in the words of the links
pub record Able (pr : Bool) (ls : List Link) (source : Option SourceLink) : Type 0 where
  pub alive : is_alive (last_link ls) ≡ true
  pub whole : asks_parent pr (last_link ls) ≡ false
  pub dead : starts (first_link ls).task ≡ true → (first_link ls).state.live ≡ false
  pub own : is_rbg1 (last_link ls).row.kind ≡ true → must_seed pr (last_link ls) ≡ true → (starts (last_link ls).task ≡ true) × IsSome (last_link ls).state.kept
  pub runs : IfSome source (λ t. (t.state.mode ≡ Running) × (t.state.taken + need_of t.row (wanted pr (last_link ls)) ≤ 2 ^ 60))
  pub few : len_of (first_link ls).task ≤ count_limit (first_link ls).row.kind

-- what a call holds serves the links from node n on: they and their source are held, no refusal stands, and no count is near its limit;
-- `string`, `out` and `spare` are lengths
pub record Ready {S : Type 0} (told : S → Option (List ℕ)) (faults : S → ℕ) (p : Tree) (h : Hold (SourceView S)) (pr : Bool) (task : Task) (n : ℕ) (ls : List Link)
    (string out spare : ℕ) : Type 0 where
  pub plan : IsOfPlan p h
  pub range : IsPlanned 0 p
  pub tree : IsTree 8 p.nodes
  pub planned : n < length p.nodes
  pub held : AreHeld h (slots_with p (states_held told faults h) pr ls)
  pub counts : FewCounts h
  pub able : Able pr ls (source_of p (states_held told faults h) pr (last_link ls))
  pub brief : string ≤ 4096
  pub asks : out ≡ len_of task
  pub room : room_for (node_row p n).kind (len_of task) ≤ spare

-- node n with a task, in the state in which it is held
abbrev pub link_held : {S : Type 0} → (S → Option (List ℕ)) → (S → ℕ) → Tree → Hold (SourceView S) → Task → ℕ → Link
link_held told faults p h task n = link p n task (states_held told faults h n)

abbrev pub links_held : {S : Type 0} → (S → Option (List ℕ)) → (S → ℕ) → Tree → Hold (SourceView S) → Bool → Task → ℕ → ℕ → List Link
links_held told faults p h pr task far n = links_from p (states_held told faults h) pr task far n
