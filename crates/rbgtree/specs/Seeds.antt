-- The seeds that nodes have from files, and what a tree of a plan is opened over.
-- This project's own; a seed has the bytes of an instantiation, entropy and nonce (SP 800-90A Rev. 1, 8.6.7).
use Rattle.std.specs.Prelude.{◌≡◌, ◌<◌, ◌⊎◌, ℕ, List, [], length, map, slice_get, Option, Some, None}
use Rattle.rbg_nodes.specs.Node.{New, seed_len}
use Rattle.rbg_nodes.specs.Views.{row_of}
use Rattle.tree_config.specs.Tree.{Tree}
use Rattle.tree_config.specs.declared.plan.NodePlan.{NodePlan}
use Rattle.tree_config.specs.declared.plan.Origin.{Origin}
use Rattle.tree_config.specs.declared.plan.Origin.TheVariants.{SeedFile}
use Rattle.tree_core.specs.Solo.{seed_in}
use Rattle.tree_rules.specs.History.{Opening}
use Rattle.rbgtree.specs.Files.{Entries, BeginsFile, IsWholeFile}
use Rattle.rbgtree.specs.Recordings.{Recording, Recordings}
use Rattle.rbgtree.specs.Check.{OpensAll, sample_names}

-- so many bytes at the front of the file of that name, or all bytes of one that has fewer
abbrev pub IsFront : Option Entries → List ℕ → ℕ → List ℕ → Type 0
IsFront files name need seed = ((length seed ≡ need) × BeginsFile files name seed) ⊎ ((length seed < need) × IsWholeFile files name seed)

-- the seed file that a node's plan names, if it names one
abbrev pub file_in : Origin → Option (List ℕ)
file_in (SeedFile name) = Some name
file_in _ = None

abbrev pub planned_file : NodePlan → Option (List ℕ)
planned_file plan = file_in plan.origin

-- a node's seed out of its file; a node that has no file has no seed
abbrev pub IsSeedOf : Option Entries → Option (List ℕ) → NodePlan → List ℕ → Type 0
IsSeedOf files None plan seed = seed ≡ []
IsSeedOf files (Some name) plan seed = IsFront files name (seed_len (row_of plan) New) seed

-- one seed for each node, out of the file that `file` says for it
pub record AreSeeds (files : Option Entries) (file : NodePlan → Option (List ℕ)) (nodes : List NodePlan) (seeds : List (List ℕ)) : Type 0 where
  pub count : length seeds ≡ length nodes
  pub each : (n : ℕ) (plan : NodePlan) → slice_get nodes n ≡ Some plan → IsSeedOf files (file plan) plan (seed_in seeds n)

-- the opening of a plan over these seeds, and over the recordings of the samples that the plan names, opened one after another
pub record IsOver (before now : Option Recordings) (p : Tree) (seeds : List (List ℕ)) (f : Opening) : Type 0 where
  pub plan_is : f.plan ≡ p
  pub seeds_are : f.seeds ≡ seeds
  pub opened : List Recording
  pub opens : OpensAll before now (sample_names p.sources) opened
  pub told_are : f.told ≡ map (λ (r : Recording). r.told) opened
  pub faults_are : f.faults ≡ map (λ (r : Recording). r.faults) opened
