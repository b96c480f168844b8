use Rattle.std.proofs.Common.{◌≡◌, ◌∙◌, ◌++◌, ◌∷◌, [], List, ℕ, ap, sym, subst, take, length, length-take, arith, ◌+◌}
use Rattle.std.proofs.lemmas.List.{with_items_is}
use Rattle.rbg_talk.specs.Asker.{line_of, Stands}
use Rattle.rbg_talk.proofs.Lining.{next_byte, stops_long}
use Rattle.rbg_talk.proofs.ask.Asker.take_byte.Goals as goal

pub returns-then-self-eq-MAX_LINE-clause-goes : goal.returns-then-self-eq-MAX_LINE-clause-goes
returns-then-self-eq-MAX_LINE-clause-goes c before out taken st =
    let full : length (line_of c.args.self.now) ≡ 9000 =
    omega (arith, length-take c.args.self.now.len c.args.self.now.line.items, c.requires.asker.rooms.line, c.if-self-eq-MAX_LINE.true) in
    stops_long before taken (line_of c.args.self.now) c.args.self.now.number c.args.self.now.calls c.args.self.now.taken out c.args.byte st full c.requires.byte

pub returns-clause-goes : goal.returns-clause-goes
returns-clause-goes c before out taken st =
    let items = with_items_is c.args.self.now.line c.put_at.new.out (c.put_at.auto.out ∙ c.deref_mut.ensures.len) in
    subst (λ (l : List ℕ). Stands before (taken ++ c.args.byte ∷ []) l c.args.self.now.number c.args.self.now.calls (c.args.self.now.taken + 1) out)
    (sym (ap (take (c.args.self.now.len + 1)) items ∙ (c.put_at.ensures.front ∙ ap (λ (x : List ℕ). take c.args.self.now.len x ++ c.args.byte ∷ []) c.deref_mut.ensures.value)))
    (next_byte before taken (line_of c.args.self.now) c.args.self.now.number c.args.self.now.calls c.args.self.now.taken out st c.args.byte c.requires.byte)
