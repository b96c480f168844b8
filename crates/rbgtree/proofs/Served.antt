-- A tree that was opened, a session's end as a status, and how the program ends without one.
use Rattle.std.proofs.Common.{◌≡◌, ◌∷◌, ◌∙◌, ℕ, List, [], length, map, refl, sym, ap, subst}
use Rattle.std.specs.Prelude.{Option, Err}
use Rattle.entropy_source.specs.Views.{SourceView}
use Rattle.rbg_nodes.specs.Views.{NodeView}
use Rattle.tree_config.specs.Tree.{Tree}
use Rattle.tree_rules.specs.History.{Entry, Opening}
use Rattle.tree_rules.specs.Openings.{IsHistory}
use Rattle.tree_core.specs.Made.{samples_in}
use Rattle.tree_core.specs.Solo.{AreLong, OpensBy, SoloView, StandAfter}
use Rattle.tree_core.proofs.Made.{samples_count}
use Rattle.session_core.specs.Answers.{Answered, entries_of}
use Rattle.session_core.specs.Session.{AreMade, HasReadCause, HasWriteCause, IsHeld}
use Rattle.session_core.proofs.Weaker.{held-weaker}
use Rattle.rbgtree.specs.Files.{Entries}
use Rattle.rbgtree.specs.Recordings.{Recording, Recordings, recording_of}
use Rattle.rbgtree.specs.Check.{HasNoPlan, HasPlanCause, OpensAll, sample_names, status_without}
use Rattle.rbgtree.specs.Trees.{EndedOver, HasNoTree, IsShort, OpensTree}
use Rattle.rbgtree.specs.Run.{AreServed, Outside, HasStatusCause, IsUntouched, RanOver, Served}
use Rattle.rbgtree.specs.Statuses.{status_of}
use Rattle.rbgtree.specs.declared.check.NotOpened.{NotOpened}
use Rattle.rbgtree.specs.declared.check.NotOpened.TheVariants.{Fault, OutOfMemory}
use Rattle.session_core.specs.declared.end.End.{End}
use Rattle.session_core.specs.declared.end.End.TheVariants.{Read, Bad, Cut, ReadFault, WriteFault, Quota}
use Rattle.rbgtree.specs.declared.status.Status.{Status}
use Rattle.rbgtree.specs.declared.status.Status.TheVariants as statuses

module _ {S : Type 0} (told : S → Option (List ℕ)) (faults : S → ℕ) where
  told_of : (xs : List S) → map (λ (r : Recording). r.told) (map (recording_of told faults) xs) ≡ map told xs
  told_of [] = refl
  told_of (x ∷ xs) = ap (λ (l : List (Option (List ℕ))). told x ∷ l) (told_of xs)

  faults_of : (xs : List S) → map (λ (r : Recording). r.faults) (map (recording_of told faults) xs) ≡ map faults xs
  faults_of [] = refl
  faults_of (x ∷ xs) = ap (λ (l : List ℕ). faults x ∷ l) (faults_of xs)

  -- one of the samples for each source that stands
  pub sample_count : (f : Opening) (o h : List Entry) (p : Tree) (nodes : List NodeView) (sources : List (SourceView S)) → StandAfter told faults f o h nodes sources → f.plan ≡ p
      → length (samples_in sources) ≡ length p.sources
  sample_count f o h p nodes sources stand is = samples_count sources ∙ (stand.source_count ∙ ap (λ (t : Tree). length t.sources) is)

  pub opens_tree : (reads : S → ℕ → Option (List ℕ) → S → Type 0) (p : Tree) (seeds : List (List ℕ)) (before now : Option Recordings) (samples : List S) (t : SoloView S) → length samples ≡ length p.sources
      → OpensAll before now (sample_names p.sources) (map (recording_of told faults) samples) → OpensBy told faults reads p samples seeds t → OpensTree told faults reads p seeds before now t
  opens_tree reads p seeds before now samples t count opens by = let is = by.opens in record {
    opened = record {
      f = is.f;
      o = is.o;
      over = record {
        plan_is = is.given.plan_is;
        seeds_are = is.given.seeds_are;
        opened = map (recording_of told faults) samples;
        opens = opens;
        told_are = is.given.told_are ∙ sym (told_of samples);
        faults_are = is.given.faults_are ∙ sym (faults_of samples);
      };
      opening = is.is_opening;
      samples = samples;
      recorded = refl;
      made = record { count = count; count_after = sample_count is.f is.o [] p t.nodes t.sources is.stand is.given.plan_is; made = by.made };
    };
    plan = is.given.plan_is ∙ sym is.plan_is;
    stand = is.stand;
    calls = is.calls;
  }

  -- the entries of a session on a tree that was opened
  are_served : (reads : S → ℕ → Option (List ℕ) → S → Type 0) (f : Opening) (o : List Entry) (t t' : SoloView S) (es : List Answered) → StandAfter told faults f o [] t.nodes t.sources
      → AreMade told faults reads f o [] (samples_in t.sources) t.calls t' es → AreServed faults reads f o (samples_in t.sources) es
  are_served reads f o t t' es stand made = record {
    right = made.right;
    after = samples_in t'.sources;
    made = record {
      count = sample_count f o [] f.plan t.nodes t.sources stand refl;
      count_after = sample_count f o (entries_of es) f.plan t'.nodes t'.sources made.stand refl;
      made = made.made;
    };
  }

  pub served : (reads : S → ℕ → Option (List ℕ) → S → Type 0) (p : Tree) (seeds : List (List ℕ)) (before now : Outside) (t t' : SoloView S) (max : ℕ) (end : End) → OpensTree told faults reads p seeds before.recordings now.recordings t → max ≡ 1048576
      → ((f : Opening) (o h : List Entry) → IsHistory f o h → f.plan ≡ t.plan → StandAfter told faults f o h t.nodes t.sources
      → IsHeld (AreMade told faults reads f o h (samples_in t.sources) t.calls t') max end before.left now.left before.out now.out)
      → Served told faults reads p seeds before now end
  served reads p seeds before now t t' max end tree is table =
      let f = tree.opened.f in
      let o = tree.opened.o in record {
        between = samples_in t.sources;
        tree = tree.opened;
        session = held-weaker (AreMade told faults reads f o [] (samples_in t.sources) t.calls t') (AreServed faults reads f o (samples_in t.sources)) 1048576 end before.left now.left before.out now.out
            (λ (es : List Answered) (made : AreMade told faults reads f o [] (samples_in t.sources) t.calls t' es). are_served reads f o t t' es tree.stand made)
            (subst (λ (m : ℕ). IsHeld (AreMade told faults reads f o [] (samples_in t.sources) t.calls t') m end before.left now.left before.out now.out) is
            (table f o [] (record { opening = tree.opened.opening; legal = tt }) tree.plan tree.stand));
      }

  module _ (reads : S → ℕ → Option (List ℕ) → S → Type 0) (p : Tree) (seeds : List (List ℕ)) (before now : Outside) where
    pub ran_served : (end : End) → Served told faults reads p seeds before now end → RanOver told faults reads p seeds before now (status_of end)
    ran_served (Read frames) served = (Read frames, refl, served)
    ran_served (Bad offset why) served = (Bad offset why, refl, served)
    ran_served (Cut offset) served = (Cut offset, refl, served)
    ran_served (ReadFault count) served = (ReadFault count, refl, served)
    ran_served (WriteFault count) served = (WriteFault count, refl, served)
    ran_served (Quota frames) served = (Quota frames, refl, served)

    pub ran_short : (status : Status) → IsUntouched before now → now.recordings ≡ before.recordings → IsShort p seeds status → RanOver told faults reads p seeds before now status
    ran_short (statuses.SeedShort node have need) still same short = (still, same, short)
    ran_short statuses.Done still same short = absurd short
    ran_short statuses.Usage still same short = absurd short
    ran_short (statuses.Config fault) still same short = absurd short
    ran_short (statuses.Malformed offset why) still same short = absurd short
    ran_short (statuses.Cut offset) still same short = absurd short
    ran_short (statuses.Text line fault) still same short = absurd short
    ran_short (statuses.Differs differed) still same short = absurd short
    ran_short (statuses.ReadFault count) still same short = absurd short
    ran_short (statuses.WriteFault count) still same short = absurd short
    ran_short (statuses.OpenFault count) still same short = absurd short
    ran_short statuses.Memory still same short = absurd short
    ran_short (statuses.Quota frames) still same short = absurd short
    ran_short (statuses.SourceRefused source) still same short = absurd short

-- how the program ended where no tree was opened
pub ended_without : {S : Type 0} (told : S → Option (List ℕ)) (faults : S → ℕ) (p : Tree) (seeds : List (List ℕ)) (before now : Option Recordings) (Idle : Type 0) (Did : Status → Type 0) (why : NotOpened)
    (count : ℕ) → Idle → AreLong p seeds (length p.nodes) → HasNoTree told faults p before now why → EndedOver told faults p seeds before now Idle Did (status_without why count)
ended_without told faults p seeds before now Idle Did Fault count idle long none = (idle, long, none)
ended_without told faults p seeds before now Idle Did OutOfMemory count idle long none = (idle, none)

pub cause_served : (before now : Outside) (end : End) → now.world ≡ before.world → HasReadCause before.input now.input end → HasWriteCause before.output now.output end →
    HasStatusCause before now (status_of end)
cause_served before now (Read frames) world read write = record { world = world; input = read; output = write }
cause_served before now (Bad offset why) world read write = record { world = world; input = read; output = write }
cause_served before now (Cut offset) world read write = record { world = world; input = read; output = write }
cause_served before now (ReadFault count) world read write = (read.0, read.1, world, write)
cause_served before now (WriteFault count) world read write = (write.0, write.1, world, read)
cause_served before now (Quota frames) world read write = record { world = world; input = read; output = write }

-- the outside before a step that left what it tells as it was
abbrev outside : Option Entries → Option Recordings → Option (List ℕ) → Option (List ℕ) → ℕ → ℕ → ℕ → Outside
outside files recordings left out world input output = record { files = files; recordings = recordings; left = left; out = out; world = world; input = input; output = output }

pub same_outside : (files files' : Option Entries) (recordings recordings' : Option Recordings) (left out : Option (List ℕ)) (world world' input output : ℕ)
    → files ≡ files' → recordings ≡ recordings' → world ≡ world' → outside files recordings left out world input output ≡ outside files' recordings' left out world' input output
same_outside files files' recordings recordings' left out world world' input output a b c = rw (a, b, c) refl

pub cause_planless : (T : Type 0) (files : Option Entries) (name : List ℕ) (before now : Outside) (status : Status) → HasNoPlan files name status → HasPlanCause {T = T} before.world now.world (Err status)
    → now.input ≡ before.input → now.output ≡ before.output → HasStatusCause before now status
cause_planless T files name before now (statuses.Config fault) none cause input output = record { world = cause; input = input; output = output }
cause_planless T files name before now statuses.Memory none cause input output = record { world = cause; input = input; output = output }
cause_planless T files name before now (statuses.OpenFault count) none cause input output = (cause.0, cause.1, input, output)
cause_planless T files name before now statuses.Done none cause input output = absurd none
cause_planless T files name before now statuses.Usage none cause input output = absurd none
cause_planless T files name before now (statuses.Malformed offset why) none cause input output = absurd none
cause_planless T files name before now (statuses.Cut offset) none cause input output = absurd none
cause_planless T files name before now (statuses.Text line fault) none cause input output = absurd none
cause_planless T files name before now (statuses.Differs differed) none cause input output = absurd none
cause_planless T files name before now (statuses.ReadFault count) none cause input output = absurd none
cause_planless T files name before now (statuses.WriteFault count) none cause input output = absurd none
cause_planless T files name before now (statuses.Quota frames) none cause input output = absurd none
cause_planless T files name before now (statuses.SeedShort node have need) none cause input output = absurd none
cause_planless T files name before now (statuses.SourceRefused source) none cause input output = absurd none
