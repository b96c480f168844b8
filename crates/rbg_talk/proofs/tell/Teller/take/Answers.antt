use Rattle.std.proofs.Common.{◌≡◌, ◌<◌, ◌∙◌, ◌∷◌, ◌++◌, [], ◌+◌, take, refl, ap, arith}
use Rattle.std.proofs.lemmas.List.{with_items_is}
use Rattle.rbg_talk.proofs.Telling.{go_more, go_head, whole_head, go_payload, whole_payload, stops_bad, reply_ended, more_string}
use Rattle.rbg_talk.proofs.tell.Teller.take.Goals as goal

pub returns-in-More-clause-goes : goal.returns-in-More-clause-goes
returns-in-More-clause-goes g c before taken st =
    go_more before taken _ _ _ _ _ _ st c.args.byte c.push.new.self c.push.ensures.offset _ c.in-More.ensures.step

pub returns-then-head-eq0-clause-goes : goal.returns-then-head-eq0-clause-goes
returns-then-head-eq0-clause-goes g c before taken st =
    reply_ended before (taken ++ c.args.byte ∷ []) _ c.end_reply.new.self st.ps _ _
    (whole_head before taken _ _ _ _ _ _ st c.args.byte c.push.new.self c.push.ensures.offset c.in-Head.head c.in-Head.ensures.step c.if-head-eq0.true)
    (c.in-Head.ensures.step.1.left ∙ c.if-head-eq0.true) st.count st.text c.end_reply.ensures.same c.end_reply.result c.end_reply.ensures.bytes c.end_reply.ensures.ended c.end_reply.ensures.kind

pub returns-else-head-eq0-clause-goes : goal.returns-else-head-eq0-clause-goes
returns-else-head-eq0-clause-goes g c before taken st =
    let some : 0 < c.in-Head.head.len = omega (arith, c.if-head-eq0.false) in
    go_head before taken _ _ _ _ _ _ st c.args.byte c.push.new.self c.push.ensures.offset c.in-Head.head [] refl c.in-Head.ensures.step some

pub returns-in-Bad-clause-goes : goal.returns-in-Bad-clause-goes
returns-in-Bad-clause-goes g c before taken st =
    stops_bad before taken _ _ _ _ _ _ st c.args.byte c.push.new.self c.push.ensures.offset c.in-Bad.offset c.in-Bad.why c.in-Bad.ensures.step

pub returns-then-self-clause-goes : goal.returns-then-self-clause-goes
returns-then-self-clause-goes g c before taken st =
    let steps = c.in-Payload.ensures.step in
    let some : 0 < c.args.self.now.decoder.left = omega (arith, steps.left) in
    let none : c.push.new.self.left ≡ 0 = omega (arith, steps.left, c.requires.teller.left some, c.if-self.true) in
    let items = with_items_is c.args.self.now.payload c.put_at.new.out (c.put_at.auto.out ∙ c.deref_mut.ensures.len) in
    let is = more_string c.args.self.now.head _ _ _ c.args.self.now.got c.in-Payload.byte c.args.byte (ap (take (c.args.self.now.got + 1)) items ∙ c.put_at.ensures.front) c.deref_mut.ensures.value steps.same in
    reply_ended before (taken ++ c.args.byte ∷ []) _ c.end_reply-then-self.new.self st.ps _ _
    (whole_payload before taken _ _ _ _ _ _ st c.args.byte c.push.new.self c.push.ensures.offset c.in-Payload.byte _ is steps none (c.requires.teller.head some))
    none st.count st.text c.end_reply-then-self.ensures.same c.end_reply-then-self.result c.end_reply-then-self.ensures.bytes c.end_reply-then-self.ensures.ended c.end_reply-then-self.ensures.kind

pub returns-else-self-clause-goes : goal.returns-else-self-clause-goes
returns-else-self-clause-goes g c before taken st =
    let steps = c.in-Payload.ensures.step in
    let some : 0 < c.args.self.now.decoder.left = omega (arith, steps.left) in
    let left : 0 < c.push.new.self.left = omega (arith, steps.left, c.requires.teller.left some, c.if-self.false) in
    let items = with_items_is c.args.self.now.payload c.put_at.new.out (c.put_at.auto.out ∙ c.deref_mut.ensures.len) in
    let is = more_string c.args.self.now.head _ _ _ c.args.self.now.got c.in-Payload.byte c.args.byte (ap (take (c.args.self.now.got + 1)) items ∙ c.put_at.ensures.front) c.deref_mut.ensures.value steps.same in
    go_payload before taken _ _ _ _ _ _ st c.args.byte c.push.new.self c.push.ensures.offset c.in-Payload.byte _ is steps left
