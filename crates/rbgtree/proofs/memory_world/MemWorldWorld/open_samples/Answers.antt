use Rattle.std.proofs.Common.{◌≡◌, ◌⊎◌, List, ℕ, false, true, inl, inr, refl, sym, ◌∙◌, ap, subst}
use Rattle.std.specs.Prelude.{Contains}
use Rattle.rbgtree.specs.Recordings.{TakesOut}
use Rattle.rbgtree.specs.MemoryFiles.{Shelf, recorded, labelled, AreMissing}
use Rattle.rbgtree.proofs.Found.{told_out, samples-not-missing}
use Rattle.rbgtree.proofs.memory_world.MemWorldWorld.open_samples.Goals as goal

pub returns-in-Some-clause-samples : goal.returns-in-Some-clause-samples
returns-in-Some-clause-samples g c =
    let same = ap (λ (w : Shelf g.row.S.Denot). w.samples) c.self.view_is in
    let out = subst (λ (es : List (List ℕ × g.row.S.Denot)). TakesOut es c.args.name.now c.in-Some.samples (labelled c.take_out.new.samples.items)) same c.in-Some.ensures.some in
    (recorded g.S.Samples.told g.S.Samples.faults (labelled c.take_out.new.samples.items), refl, told_out g.S.Samples.told g.S.Samples.faults _ c.args.name.now c.in-Some.samples _ out)

pub returns-in-Some-clause-failed : goal.returns-in-Some-clause-failed
returns-in-Some-clause-failed g c = (
  λ (e : false ≡ true). absurd cc,
  λ (h : Contains c.args.self.now.fail c.args.self.now.calls ⊎ AreMissing c.args.self.now.samples c.args.name.now). elim h [
    | inl listed ↦ sym c.if-not-fails.true ∙ c.fails_next-fails.ensures.1 listed
    | inr missing ↦
        let same = ap (λ (w : Shelf g.row.S.Denot). w.samples) c.self.view_is in
        absurd (samples-not-missing _ _ _ _ c.in-Some.ensures.some (subst (λ (es : List (List ℕ × g.row.S.Denot)). AreMissing es c.args.name.now) (sym same) missing))
  ],
)
