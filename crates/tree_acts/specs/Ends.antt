-- What the work of a last node on a source comes to: a draw, and once it was answered the node's own part.
-- This project's own.
use Rattle.std.specs.Prelude.{◌≡◌, ℕ, List, [], ◌∷◌, Bool, Option, MatchOption}
use Rattle.tree_config.specs.Tree.{Tree}
use Rattle.entropy_source.specs.declared.answers.SourceRefusal.{SourceRefusal}
use Rattle.entropy_source.specs.Views.{SourceView}
use Rattle.tree_rules.specs.History.{Act}
use Rattle.tree_rules.specs.Links.{Link, wanted, seeding_len}
use Rattle.tree_rules.specs.Works.{task_work}
use Rattle.tree_acts.specs.Hold.{Hold}
use Rattle.tree_acts.specs.Did.{Did}
use Rattle.tree_acts.specs.Drew.{Drew}
use Rattle.tree_acts.specs.Work.{seeded_part}

pub record SourceWorked {S : Type 0} (told : S → Option (List ℕ)) (faults : S → ℕ) (reads : S → ℕ → Option (List ℕ) → S → Type 0) (p : Tree) (h u : Hold (SourceView S)) (pr : Bool)
    (string : List ℕ) (l : Link) (j : ℕ) (r : Option SourceRefusal) (bytes : List ℕ) : Type 0 where
  pub mid : Hold (SourceView S)
  pub strings : List (List ℕ)
  pub drew : Drew told faults reads p h mid j (wanted pr l) r strings
  pub acts : List Act
  pub did : Did told faults reads p mid u acts
  pub works : MatchOption r (let w = task_work pr strings string l [] l.task in (acts ≡ w.acts) × (bytes ≡ w.bytes)) (λ why. acts ≡ [])

-- the node draws one string, for its seeding
pub record SeedsAlone (pr : Bool) (string : List ℕ) (l : Link) : Type 0 where
  pub wants : wanted pr l ≡ seeding_len l ∷ []
  pub part : (d : List ℕ) → task_work pr (d ∷ []) string l [] l.task ≡ seeded_part l d string l.task
