use Rattle.std.proofs.Common.{Bool, ap, sym, subst, []}
use Rattle.vector_text.specs.declared.spot.Answer.{Answer}
use Rattle.vector_text.specs.Gathered.{group_of}
use Rattle.vector_text.specs.Text.{entries_from}
use Rattle.vector_text.specs.Spots.{Says, opened, place_of}
use Rattle.vector_text.proofs.Steps.{says_ended, says_end}
use Rattle.vector_text.proofs.spot.Spot.end.Goals as goal

pub returns-then-self-clause-says : goal.returns-then-self-clause-says
returns-then-self-clause-says c family =
    let p = place_of c.args.self.now in
    let q = place_of c.close.new.self in
    let g = group_of c.args.self.now.group in
    subst (λ (a : Answer). Says a (entries_from family p []) c.close.new.self.group.case (entries_from family q [])) (sym c.close.ensures.answer)
    (says_ended family p q g c.close.new.self.group.case (ap (λ (b : Bool). opened b g) c.if-self.true) c.close.ensures.place c.close.ensures.case)

pub returns-else-self-clause-says : goal.returns-else-self-clause-says
returns-else-self-clause-says c family =
    says_end family (place_of c.args.self.now) (ap (λ (b : Bool). opened b (group_of c.args.self.now.group)) c.if-self.false)
