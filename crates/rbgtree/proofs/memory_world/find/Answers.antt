use Rattle.std.proofs.Common.{List, ℕ, sym, subst}
use Rattle.rbgtree.specs.Files.{IsFile}
use Rattle.rbgtree.specs.MemoryFiles.{named}
use Rattle.rbgtree.proofs.Found.{file_at, no_file}
use Rattle.rbgtree.proofs.memory_world.find.Goals as goal

pub returns-in-Some-clause-some : goal.returns-in-Some-clause-some
returns-in-Some-clause-some c =
    subst (λ (bytes : List ℕ). IsFile (named c.args.files.now) c.args.name.now bytes) (sym c.as_slice.ensures.value)
    (file_at c.args.files.now c.in-Some.place c.index-files-place.result c.args.name.now c.in-Some.ensures.some)

pub returns-in-None-clause-none : goal.returns-in-None-clause-none
returns-in-None-clause-none c = no_file c.args.files.now c.args.name.now c.in-None.ensures.none
