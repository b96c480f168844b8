-- A plan that was read is in range.
use Rattle.std.proofs.Common.{◌≡◌, ℕ, zero, suc, ◌+◌, ◌<◌, ◌≤◌, Bool, true, false, nat_le, if◌then◌else◌, List, [], ◌∷◌, map, length, slice_get, IfSome, Option, Some, None, option_map, Result, Ok, Err, refl, sym, ap, ◌∙◌, arith, subst, codes, inl, inr}
use Rattle.std.proofs.lemmas.Bool.{cases_lt}
use Rattle.std.proofs.lemmas.List.{length-map}
use Rattle.std.proofs.lemmas.Option.{same_Some, slice_get-map}
use Rattle.toml.specs.Data.{Data, array, item, Members, get_member}
use Rattle.tree_config.specs.declared.fault.Field.{Field}
use Rattle.tree_config.specs.declared.fault.Field.TheVariants as field
use Rattle.tree_config.specs.declared.fault.Place.{Place}
use Rattle.tree_config.specs.declared.fault.Place.TheVariants as place
use Rattle.tree_config.specs.declared.fault.ConfigFault.TheVariants.{TooMany}
use Rattle.tree_config.specs.declared.plan.Origin.{Origin}
use Rattle.tree_config.specs.declared.plan.Origin.TheVariants as origin
use Rattle.tree_config.specs.declared.plan.NodeKind.{NodeKind}
use Rattle.tree_config.specs.declared.plan.NodeKind.TheVariants.{Rbg1}
use Rattle.tree_config.specs.declared.plan.NodePlan.{NodePlan}
use Rattle.tree_config.specs.declared.plan.SourcePlan.{SourcePlan}
use Rattle.tree_config.specs.declared.row.NodeRow.{NodeRow}
use Rattle.tree_config.specs.Fields.{required, or_default, where_true, number_within, one_of}
use Rattle.tree_config.specs.Names.{opening_names}
use Rattle.tree_config.specs.Keys.{has_only, top_keys}
use Rattle.tree_config.specs.Source.{source_at}
use Rattle.tree_config.specs.Node.{node_at}
use Rattle.tree_config.specs.Top.{Top, top_at, tables, some_tables, are_tables, table_list, members_in}
use Rattle.tree_config.specs.Rows.{Rows, rows_at, rows_of, document_of, at_place, at_most, each_at, sources_at, nodes_at, source_limit, node_limit}
use Rattle.tree_config.specs.Graph.{parent_at, LacksParent, IsNever}
use Rattle.tree_config.specs.Tree.{Tree, tree_of, node_of_row, parents, parent_in}
use Rattle.tree_config.specs.Planned.{IsSource, IsNode, IsPlanned, Fits, IsFile}
use Rattle.tree_config.proofs.Ranges.{both, same_Ok, present, source_in_range, node_in}

none_of : {A : Type 0} (k : ℕ) (x : A) → slice_get [] k ≡ Some x → ⊥
none_of k x h = cc

placed : {A : Type 0} (p : Place) (r : Result A Field) (x : A) → at_place p r ≡ Ok x → r ≡ Ok x
placed p (Ok y) x h = ap Ok (same_Ok _ y x refl h)
placed p (Err f) x h = cc

few : (nodes : Bool) (limit count : ℕ) (b : Bool) (u : Unit {0}) → nat_le count limit ≡ b
    → (if b then Ok tt else Err (TooMany nodes count limit)) ≡ Ok u → count ≤ limit
few nodes limit count true u is h = grind arith
few nodes limit count false u is h = cc

module _ {A : Type 0} (place : ℕ → Place) (read : Members → Result A Field) where
  -- as many were read as there are tables
  each_count : (i : ℕ) (mss : List Members) (xs : List A) → each_at place read i mss ≡ Ok xs → length xs ≡ length mss
  each_count i [] xs h = rw (← same_Ok _ [] xs refl h) refl
  each_count i (ms ∷ rest) xs h =
      let one = both (at_place (place i) (read ms)) _ xs h in
      let more = both (each_at place read (i + 1) rest) _ xs one.2 in
      rw (← same_Ok _ (one.0 ∷ more.0) xs refl more.2) (ap suc (each_count (i + 1) rest more.0 more.1))

  first_or_later : (ms : Members) (y : A) (more : List A) → read ms ≡ Ok y
      → ((k : ℕ) (x : A) → slice_get more k ≡ Some x → (ms : Members) × (read ms ≡ Ok x))
      → (k : ℕ) (x : A) → slice_get (y ∷ more) k ≡ Some x → (ms : Members) × (read ms ≡ Ok x)
  first_or_later ms y more here later zero x at = (ms, here ∙ ap Ok (same_Some y x at))
  first_or_later ms y more here later (suc k) x at = later k x at

  -- and each of some table
  each_read : (i : ℕ) (mss : List Members) (xs : List A) → each_at place read i mss ≡ Ok xs → (k : ℕ) (x : A) → slice_get xs k ≡ Some x
      → (ms : Members) × (read ms ≡ Ok x)
  each_read i [] xs h k x at = let none : [] ≡ xs = same_Ok _ [] xs refl h in absurd (none_of k x (subst (λ (ys : List A). slice_get ys k ≡ Some x) (sym none) at))
  each_read i (ms ∷ rest) xs h k x at =
      let one = both (at_place (place i) (read ms)) _ xs h in
      let more = both (each_at place read (i + 1) rest) _ xs one.2 in
      let is : one.0 ∷ more.0 ≡ xs = same_Ok _ (one.0 ∷ more.0) xs refl more.2 in
      first_or_later ms one.0 more.0 (placed (place i) (read ms) one.0 one.1) (each_read (i + 1) rest more.0 more.1) k x (subst (λ (ys : List A). slice_get ys k ≡ Some x) (sym is) at)

listed : (b : Bool) (x : Members) (xs mss : List Members) → (if b then Some (x ∷ xs) else None) ≡ Some mss → 1 ≤ length mss
listed true x xs mss h = rw (← same_Some (x ∷ xs) mss h) (omega arith)
listed false x xs mss h = cc

some_listed : (d : Data) (mss : List Members) → some_tables d ≡ Some mss → 1 ≤ length mss
some_listed (array (item d ds)) mss h = listed (are_tables (item d ds)) (members_in d) (table_list ds) mss h
some_listed d mss h = cc

-- there is a node at least
some_nodes : (ms : Members) (top : Top) → top_at ms ≡ Ok top → 1 ≤ length top.nodes
unfolding top_at
some_nodes ms top h =
    let a = both (required field.Version (number_within 1 1) (get_member (codes "version") ms)) _ top h in
    let b = both (or_default true field.Opening (one_of opening_names) (get_member (codes "opening") ms)) _ top a.2 in
    let c = both (or_default [] field.Sources tables (get_member (codes "source") ms)) _ top b.2 in
    let d = both (required field.Nodes some_tables (get_member (codes "node") ms)) _ top c.2 in
    let e = both (where_true field.Unknown (has_only top_keys ms)) _ top d.2 in
    let made : Top = record { version = a.0; opens_all = b.0; sources = c.0; nodes = d.0 } in
    let at = present field.Nodes some_tables (get_member (codes "node") ms) d.0 d.1 in
    rw (← same_Ok _ made top refl e.2) (some_listed at.0 d.0 at.1)

-- the parent of a node is among the nodes
parent_within : (ps : List (Option ℕ)) (n : ℕ) (o : Option ℕ) → parent_at ps n ≡ o → IsNever (LacksParent ps) → IfSome o (λ q. q < length ps)
parent_within ps n None h never = tt
parent_within ps n (Some q) h never = elim (cases_lt q (length ps)) [ inl within ↦ within | inr past ↦ absurd (never n (q, h, past)) ]

link : (nodes : List NodePlan) (n : ℕ) (p : NodePlan) → slice_get nodes n ≡ Some p → parent_at (parents nodes) n ≡ parent_in p.origin
link nodes n p at = rw (slice_get-map (λ (n : NodePlan). parent_in n.origin) nodes n, at) refl

link_within : (nodes : List NodePlan) (n : ℕ) (p : NodePlan) → slice_get nodes n ≡ Some p → IsNever (LacksParent (parents nodes))
    → IfSome (parent_in p.origin) (λ q. q < length nodes)
link_within nodes n p at never =
    let size : length (parents nodes) ≡ length nodes = length-map nodes _ in
    rw (← size) (parent_within (parents nodes) n (parent_in p.origin) (link nodes n p at) never)

mapped : (o : Option NodeRow) (p : NodePlan) → option_map node_of_row o ≡ Some p → (r : NodeRow) × (o ≡ Some r) × (node_of_row r ≡ p)
mapped None p h = cc
mapped (Some r) p h = (r, refl, same_Some (node_of_row r) p h)

-- the nodes that are read of tables are in range, where they lack no parent
nodes_in : (version count : ℕ) (mss : List Members) (rows : List NodeRow) → nodes_at version count mss ≡ Ok rows → IsNever (LacksParent (parents (map node_of_row rows)))
    → (n : ℕ) (p : NodePlan) → slice_get (map node_of_row rows) n ≡ Some p → IsNode 1 count (length (map node_of_row rows)) p
nodes_in version count mss rows h never n p at =
    let row = mapped (slice_get rows n) p (sym (slice_get-map node_of_row rows n) ∙ at) in
    let from = each_read place.Node (node_at version count) 0 mss rows h n row.0 row.1 in
    let within = link_within (map node_of_row rows) n p at never in
    let here = subst (λ (p : NodePlan). IfSome (parent_in p.origin) (λ q. q < length (map node_of_row rows))) (sym row.2) within in
    subst (λ (p : NodePlan). IsNode 1 count (length (map node_of_row rows)) p) row.2 (node_in version count (length (map node_of_row rows)) from.0 row.0 from.1 here)

sources_in : (version : ℕ) (mss : List Members) (sources : List SourcePlan) → sources_at version mss ≡ Ok sources
    → (n : ℕ) (s : SourcePlan) → slice_get sources n ≡ Some s → IsSource s
sources_in version mss sources h n s at =
    let from = each_read place.Source (source_at version) 0 mss sources h n s at in source_in_range version from.0 s from.1

rows_in : (ms : Members) (rows : Rows) → rows_at ms ≡ Ok rows → IsNever (LacksParent (parents (tree_of rows).nodes)) → IsPlanned 1 (tree_of rows)
unfolding rows_at
rows_in ms rows h =
    let a = both (at_place place.Top (top_at ms)) _ rows h in
    let b = both (at_most false (source_limit a.0.version) (length a.0.sources)) _ rows a.2 in
    let c = both (at_most true (node_limit a.0.version) (length a.0.nodes)) _ rows b.2 in
    let d = both (sources_at a.0.version a.0.sources) _ rows c.2 in
    let e = both (nodes_at a.0.version (length a.0.sources) a.0.nodes) _ rows d.2 in
    let made : Rows = record { version = a.0.version; opens_all = a.0.opens_all; sources = d.0; nodes = e.0 } in
    let some = some_nodes ms a.0 (placed place.Top (top_at ms) a.0 a.1) in
    let sources : length d.0 ≡ length a.0.sources = each_count place.Source (source_at a.0.version) 0 a.0.sources d.0 d.1 in
    let nodes : length e.0 ≡ length a.0.nodes = each_count place.Node (node_at a.0.version (length a.0.sources)) 0 a.0.nodes e.0 e.1 in
    let all : length (map node_of_row e.0) ≡ length e.0 = length-map e.0 node_of_row in
    let few_sources = few false (source_limit a.0.version) (length a.0.sources) _ b.0 refl b.1 in
    let few_nodes = few true (node_limit a.0.version) (length a.0.nodes) _ c.0 refl c.1 in
    rw (← same_Ok _ made rows refl e.2) (λ never. record {
      few_sources = rw sources few_sources;
      some_nodes = rw (all ∙ nodes) some;
      few_nodes = rw (all ∙ nodes) few_nodes;
      source = sources_in a.0.version a.0.sources d.0 d.1;
      node = λ n p at. rw sources (nodes_in a.0.version (length a.0.sources) a.0.nodes e.0 e.1 never n p at);
    })

-- the plan of a text is in range
pub planned : (text : List ℕ) (rows : Rows) → rows_of text ≡ Ok rows → IsNever (LacksParent (parents (tree_of rows).nodes)) → IsPlanned 1 (tree_of rows)
planned text rows h never = let table = both (document_of text) rows_at rows h in rows_in table.0 rows table.2 never

named_or_not : (o : Origin) → IsFile 1 o → IsFile 0 o
named_or_not (origin.SeedFile name) h = (omega arith, h.1)
named_or_not o h = h

fits_any : (sources nodes : ℕ) (kind : NodeKind) (o : Origin) → Fits 1 sources nodes kind o → Fits 0 sources nodes kind o
fits_any sources nodes Rbg1 o h = named_or_not o h
fits_any sources nodes kind o h = h

-- a plan whose seed files have names is a plan
pub any_plan : (tree : Tree) → IsPlanned 1 tree → IsPlanned 0 tree
any_plan tree h = record {
  few_sources = h.few_sources;
  some_nodes = h.some_nodes;
  few_nodes = h.few_nodes;
  source = h.source;
  node = λ n p at.
      let is = h.node n p at in
      record { interval_low = is.interval_low; interval_high = is.interval_high; origin = fits_any (length tree.sources) (length tree.nodes) p.kind p.origin is.origin };
}
