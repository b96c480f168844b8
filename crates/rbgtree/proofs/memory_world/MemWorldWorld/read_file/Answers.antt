use Rattle.std.proofs.Common.{◌≡◌, ◌⊎◌, List, ℕ, false, true, inl, inr, sym, ◌∙◌, ap, subst}
use Rattle.std.specs.Prelude.{Contains, String, Vec}
use Rattle.std.specs.declared.alloc.Global.{Global}
use Rattle.rbgtree.specs.Files.{Entries, IsFile, IsMissing}
use Rattle.rbgtree.specs.MemoryFiles.{Shelf, named}
use Rattle.rbgtree.proofs.Found.{file-not-missing}
use Rattle.rbgtree.proofs.memory_world.MemWorldWorld.read_file.Goals as goal

pub returns-in-Some-clause-failed : goal.returns-in-Some-clause-failed
returns-in-Some-clause-failed g c = (
  λ (e : false ≡ true). absurd cc,
  λ (h : Contains c.args.self.now.fail c.args.self.now.calls ⊎ IsMissing c.args.self.now.files c.args.name.now). elim h [
    | inl listed ↦ sym c.if-not-fails.true ∙ c.fails_next-fails.ensures.1 listed
    | inr missing ↦
        let same = ap (λ (w : Shelf g.row.S.Denot). w.files) c.self.view_is in
        let held = subst (λ (fs : List (String Global × Vec ℕ Global)). IsFile (named fs) c.args.name.now c.in-Some.bytes.now) c.deref.ensures.value c.in-Some.ensures.some in
        absurd (file-not-missing _ _ _ held (subst (λ (es : Entries). IsMissing es c.args.name.now) (sym same) missing))
  ],
)
