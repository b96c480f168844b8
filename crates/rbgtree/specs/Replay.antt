-- What `replay` does: the text of a file, read for a family, and what is printed of it.
-- This project's own.
use Rattle.std.specs.Prelude.{◌≡◌, ◌⊎◌, ℕ, List, take, nat_eq, if◌then◌else◌, Option, Result, Ok, Err}
use Rattle.vector_text.specs.declared.case.Family.{Family}
use Rattle.vector_text.specs.declared.reader.TextRefusal as texts
use Rattle.vector_text.specs.Feeding.{most_bytes}
use Rattle.vector_replay.specs.declared.totals.Totals.{Totals}
use Rattle.vector_replay.specs.declared.totals.ReplayRefusal as replays
use Rattle.vector_replay.specs.declared.totals.ReplayRefusal.{ReplayRefusal}
use Rattle.vector_replay.specs.Replaying.{Ends, replayed}
use Rattle.rbgtree.specs.Files.{Entries, IsWholeFile}
use Rattle.rbgtree.specs.Check.{status_without}
use Rattle.rbgtree.specs.declared.check.NotOpened.{NotOpened}
use Rattle.rbgtree.specs.declared.status.Status.{Status}
use Rattle.rbgtree.specs.declared.status.Status.TheVariants.{Done, Text, WriteFault, OpenFault, Memory, Differs}

-- how the program ends where a text was replayed so; a read that fails is one of the file
abbrev pub status_by : Result Totals ReplayRefusal → Status
status_by (Ok totals) = if nat_eq totals.differed 0 then Done else Differs totals.differed
status_by (Err (replays.TheVariants.Text (texts.TheVariants.Fault line why))) = Text line why
status_by (Err (replays.TheVariants.Text (texts.TheVariants.ReadFault count))) = OpenFault count
status_by (Err (replays.TheVariants.WriteFault count)) = WriteFault count
status_by (Err replays.TheVariants.OutOfMemory) = Memory

-- What became of a text: the first read of the file failed, or memory was lacking, and nothing was printed; or the text is that of the
-- file of this name, where the files are told, at most its first 2^63 bytes, and what is printed is its report by how the replay ended.
-- After a read of the file that failed later, whole lines of the report are printed, and no others.
abbrev pub Replays : Option Entries → Family → List ℕ → ℕ → Option (List ℕ) → Option (List ℕ) → Status → Type 0
Replays files family name world before now status =
    ((why : NotOpened) × (status ≡ status_without why world) × (now ≡ before))
    ⊎ ((bytes : List ℕ) × IsWholeFile files name bytes × ((ended : Result Totals ReplayRefusal) × (status ≡ status_by ended) × Ends (replayed family (take most_bytes bytes)) before now ended))
