-- A load on a tree that was opened, and what is printed of it.
use Rattle.std.proofs.Common.{◌≡◌, ◌∙◌, ◌++◌, ℕ, List, [], length, map, refl, sym, subst}
use Rattle.std.specs.Prelude.{Option, Result, Err, filter}
use Rattle.rbg_bytes.specs.Streams.{TakesAll}
use Rattle.tree_config.specs.Tree.{Tree}
use Rattle.tree_rules.specs.History.{Entry, Opening, States}
use Rattle.tree_rules.specs.Openings.{IsHistory, states_behind}
use Rattle.tree_rules.specs.Stands.{StandAfter, StandIn}
use Rattle.tree_core.specs.Made.{samples_in}
use Rattle.tree_core.specs.Solo.{SoloView}
use Rattle.tree_load.specs.Load.{stated_calls}
use Rattle.tree_load.specs.Made.{AreMade, is_done, is_refused}
use Rattle.rbgtree.specs.Recordings.{Recordings}
use Rattle.rbgtree.specs.Trees.{OpensTree}
use Rattle.rbgtree.specs.Counts.{calls_text, counts_lines}
use Rattle.rbgtree.specs.Check.{HasCheckCause, HasOpenCause, status_without}
use Rattle.rbgtree.specs.Load.{AreStated, IsLoaded, PrintsLoad}
use Rattle.rbgtree.specs.declared.check.NotOpened.{NotOpened}
use Rattle.rbgtree.specs.declared.check.NotOpened.TheVariants.{Fault, OutOfMemory}
use Rattle.rbgtree.specs.declared.load.Load.{Load}
use Rattle.rbgtree.proofs.Served.{sample_count}

module _ {S : Type 0} (told : S → Option (List ℕ)) (faults : S → ℕ) (reads : S → ℕ → Option (List ℕ) → S → Type 0) where
  -- calls that were made on a tree that was just opened, and what was printed of the tree after them
  pub prints_load : {T E : Type 0} (f : Opening) (o : List Entry) (load : Load) (t t' : SoloView S) (done refused : ℕ) (before now : Option (List ℕ)) (result : Result T E)
      → f.plan ≡ t.plan → t'.plan ≡ t.plan → StandAfter told faults f o [] t.nodes t.sources
      → AreMade told faults reads f o [] (samples_in t.sources) (stated_calls (length t.plan.nodes) load.seed load.count) done refused t'.nodes t'.sources
      → ((s : States) → StandIn told faults t'.plan s t'.nodes t'.sources → TakesAll before now result (calls_text load.count done refused ++ counts_lines t'.plan s))
      → PrintsLoad faults reads f o load (samples_in t.sources) before now result
  prints_load f o load t t' done refused before now result plan same stand m printed =
      let es = m.entries in
      let s = states_behind f o es in
      let here : f.plan ≡ t'.plan = plan ∙ sym same in
      let takes = printed s (subst (λ (p : Tree). StandIn told faults p s t'.nodes t'.sources) here m.stand) in (
        calls_text load.count (length (filter is_done es)) (length (filter is_refused es)) ++ counts_lines f.plan s,
        record {
          es = es;
          calls = subst (λ (p : Tree). map (λ (e : Entry). e.call) es ≡ stated_calls (length p.nodes) load.seed load.count) (sym plan) m.calls_are;
          callers = m.callers;
          strings = m.strings;
          history = m.history;
          apart = m.apart;
          quiet = m.quiet;
          after = samples_in t'.sources;
          made = record {
            count = sample_count told faults f o [] f.plan t.nodes t.sources stand refl;
            count_after = sample_count told faults f o es f.plan t'.nodes t'.sources m.stand refl;
            made = m.made;
          };
          printed = refl;
        },
        subst (λ (p : Tree). TakesAll before now result (calls_text load.count (length (filter is_done es)) (length (filter is_refused es)) ++ counts_lines p s)) (sym here)
            (subst (λ (r : ℕ). TakesAll before now result (calls_text load.count (length (filter is_done es)) r ++ counts_lines t'.plan s)) m.refused_are
            (subst (λ (d : ℕ). TakesAll before now result (calls_text load.count d refused ++ counts_lines t'.plan s)) m.done_are takes)),
      )

  -- the work of `load` on a tree that was opened so, of whose text this was printed
  pub loaded : (Takes : List ℕ → Type 0) (p : Tree) (seeds : List (List ℕ)) (load : Load) (before now : Option Recordings) (t : SoloView S) → OpensTree told faults reads p seeds before now t
      → ((f : Opening) (o : List Entry) → IsHistory f o [] → f.plan ≡ t.plan → StandAfter told faults f o [] t.nodes t.sources
      → (text : List ℕ) × AreStated faults reads f o load (samples_in t.sources) text × Takes text)
      → (text : List ℕ) × IsLoaded told faults reads p seeds load before now text × Takes text
  loaded Takes p seeds load before now t tree printed =
      let (text, stated, takes) = printed tree.opened.f tree.opened.o (record { opening = tree.opened.opening; legal = tt }) tree.plan tree.stand in
      (text, record { between = samples_in t.sources; tree = tree.opened; stated = stated }, takes)

-- how a command that does not read its input ends where no tree was opened
pub check_without : (T : Type 0) (before now out : ℕ) (why : NotOpened) → HasOpenCause {T = T} before now (Err why) → HasCheckCause before now out out (status_without why now)
check_without T before now out Fault cause = (cause, refl, refl)
check_without T before now out OutOfMemory cause = (cause, refl)
