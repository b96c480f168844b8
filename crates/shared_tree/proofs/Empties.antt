-- An empty place has room.
use Rattle.std.proofs.Common.{◌≡◌, ℕ, sym, ap, ◌∙◌, eq-eqb, refl}
use Rattle.std.specs.Prelude.{Option, Some, None, ◌==◌, if◌then◌else◌, Bool}
use Rattle.entropy_source.specs.Views.{SourceView}
use Rattle.shared_tree.specs.declared.row.SourcePlace.{SourcePlace}
use Rattle.shared_tree.specs.declared.row.SourcePlace.TheVariants.{Empty, Holds}
use Rattle.shared_tree.specs.Rows.{source_in, source_room}

pub is_empty : {S : Type 0} (p : SourcePlace (SourceView S)) → ((j : ℕ) → source_in p j ≡ None) → source_room p ≡ 1
is_empty Empty free = refl
is_empty {S} (Holds slot source) free =
    let some_there : (if slot == slot then Some source else None) ≡ Some source = ap (λ (b : Bool). if b then Some source else None) (eq-eqb slot slot refl) in
    let bad : ◌≡◌ {A = Option (SourceView S)} None (Some source) = sym (free slot) ∙ some_there in cc
