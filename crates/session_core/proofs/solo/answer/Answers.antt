use Rattle.std.proofs.Common.{◌<◌, ◌^◌, ◌∙◌, List, ℕ, take, ap, sym, subst, arith}
use Rattle.std.proofs.lemmas.List.{drop_at}
use Rattle.rbg_bytes.specs.Streams.{TakesAll}
use Rattle.tree_rules.specs.declared.reply.Reply.{Reply}
use Rattle.tree_core.specs.Whole.{states_of}
use Rattle.session_core.specs.Inbox.{CanAnswer}
use Rattle.session_core.proofs.Answering.{can_answer, is_call, answered_text}
use Rattle.session_core.proofs.solo.answer.Goals as goal

pub put_reply-end-requires-clause-answer : goal.put_reply-end-requires-clause-answer
put_reply-end-requires-clause-answer g c =
    let reply = c.call-reply.result in
    let p = c.args.tree.now.plan in
    let s = states_of g.S.Samples.told g.S.Samples.faults c.args.tree.now.nodes c.args.tree.now.sources in
    let t = states_of g.S.Samples.told g.S.Samples.faults c.call-reply.new.self.nodes c.call-reply.new.self.sources in
    let a64 : reply.a < 2 ^ 64 = omega (arith, c.reply_of-reply.ensures.details.0, ap (λ (x : Reply). x.a) c.reply_of-reply.ensures.reply) in
    let b64 : reply.b < 2 ^ 64 = omega (arith, c.reply_of-reply.ensures.details.1, ap (λ (x : Reply). x.b) c.reply_of-reply.ensures.reply) in
    subst (λ (x : Reply). CanAnswer c.args.inbox.now.asked x) (sym c.reply_of-reply.ensures.reply)
    (can_answer c.args.inbox.now.asked c.args.inbox.now.decoder c.next_call-call.result p s t c.string.result.now reply (take reply.len c.call-reply.new.out)
    c.next_call-call.ensures.framed c.next_call-call.ensures.call c.call-reply.ensures.served a64 b64 c.call-reply.ensures.within)

pub returns-clause-replies : goal.returns-clause-replies
returns-clause-replies g c r is f o h history plan stand =
    let on = c.call-reply.ensures.history f o h history plan stand in
    let frame = answered_text c.args.inbox.now.asked r c.call-reply.result c.reply_of-reply.result on.entry _ c.call-reply.new.out _ is c.reply_of-reply.ensures.reply c.put_reply-end.ensures.frame
    (drop_at c.split_at_mut-payload.result.0.now c.call-reply.new.out 32 c.split_at_mut-payload.ensures.front_len) on.reply_is on.bytes_are in (
      record {
        entry = on.entry;
        is = record { caller_is = on.caller_is; call = on.call_is ∙ is_call c.args.inbox.now.asked r c.next_call-call.result is c.next_call-call.ensures.call; string = on.string_is ∙ c.string.ensures };
        history = on.history;
        stand = on.stand;
        made = on.made;
      },
      subst (λ (bytes : List ℕ). TakesAll (g.O.ByteSink.out c.args.output.now) (g.O.ByteSink.out c.write_all-written.new.self) c.write_all-written.result bytes) frame c.write_all-written.ensures.bytes,
    )
