use Rattle.std.proofs.Common.{◌∙◌, ◌∷◌, Bool, ap, sym, subst}
use Rattle.vector_text.specs.declared.spot.Answer.{Answer}
use Rattle.vector_text.specs.Shapes.{ends_group}
use Rattle.vector_text.specs.Gathered.{group_of}
use Rattle.vector_text.specs.Text.{entries_from, does}
use Rattle.vector_text.specs.Spots.{Says, lines_behind, opened, place_of}
use Rattle.vector_text.proofs.Steps.{says_inside, says_outside, says_closed}
use Rattle.vector_text.proofs.spot.Spot.take_line.Goals as goal
use Rattle.vector_text.proofs.spot.Spot.take_line.Goals.{else-self-via-then-self+else-ends_group, else-self-via-else-self}

pub returns-then-ends_group-clause-says : goal.returns-then-ends_group-clause-says
returns-then-ends_group-clause-says c later =
    let f = c.args.family in
    let p = place_of c.args.self.now in
    let q = place_of c.close.new.self in
    let g = group_of c.args.self.now.group in
    let line = c.args.line.now in
    let ends = sym (ap ends_group c.shape_of-shape.ensures) ∙ (sym c.ends_group.ensures ∙ c.if-ends_group.true) in
    subst (λ (a : Answer). Says a (entries_from f p (line ∷ later)) c.close.new.self.group.case (entries_from f q (lines_behind a line later))) (sym c.close.ensures.answer)
    (says_closed f p q g line later c.close.new.self.group.case (ap (λ (b : Bool). opened b g) c.if-self.true) c.close.ensures.place ends c.close.ensures.case)

pub returns-clause-says : goal.returns-clause-says
returns-clause-says c later =
    let f = c.args.family in
    let p = place_of c.args.self.now in
    let q = place_of c.take.new.self in
    let line = c.args.line.now in
    let g = group_of c.args.self.now.group in
    let did = c.take.ensures.does ∙ ap (does p line) c.shape_of-shape.ensures in
    subst (λ (a : Answer). Says a (entries_from f p (line ∷ later)) c.take.new.self.group.case (entries_from f q (lines_behind a line later))) (sym c.answer.ensures)
    (elim c.else-self.branch [
      | else-self-via-then-self+else-ends_group w ↦
          says_inside f p q line later c.take.new.self.group.case c.take.result did (sym (ap ends_group c.shape_of-shape.ensures) ∙ (sym w.ends_group.ensures ∙ w.if-ends_group.false))
      | else-self-via-else-self w ↦
          says_outside f p q line later c.take.new.self.group.case c.take.result did (ap (λ (b : Bool). opened b g) w.if-self.false)
    ])
