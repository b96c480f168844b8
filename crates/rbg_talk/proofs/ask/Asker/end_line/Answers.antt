use Rattle.std.proofs.Common.{◌∙◌, List, ℕ, ap, sym, subst, take}
use Rattle.std.specs.Prelude.{option_map}
use Rattle.std.proofs.lemmas.List.{with_items_is}
use Rattle.frame_codec.specs.declared.frames.Request.{Request}
use Rattle.rbg_talk.specs.Asker.{WritesSaid}
use Rattle.rbg_talk.specs.Calls.{line_says}
use Rattle.rbg_talk.specs.Parsed.{asked_of}
use Rattle.rbg_talk.proofs.Lining.{passes_line}
use Rattle.rbg_talk.proofs.ask.Asker.end_line.Goals as goal

pub returns-in-Ok-clause-ends : goal.returns-in-Ok-clause-ends
returns-in-Ok-clause-ends g c =
    let items = with_items_is c.args.self.now.string c.line_says.new.buffer (c.line_says.auto.buffer ∙ c.deref_mut.ensures.len) in
    passes_line c.args.self.now c.pass.new.self (option_map (λ (r : Request). asked_of r c.line_says.new.buffer) c.in-Ok.said) (g.O.ByteSink.out c.args.output.now) (g.O.ByteSink.out c.pass.new.output)
    c.pass.result (ap (λ (x : List ℕ). line_says (take c.args.self.now.len x)) (sym c.deref.ensures.value) ∙ c.in-Ok.ensures.read)
    (subst (λ (b : List ℕ). WritesSaid (option_map (λ (r : Request). asked_of r b) c.in-Ok.said) c.args.self.now.calls c.args.self.now.number c.pass.new.self (g.O.ByteSink.out c.args.output.now) (g.O.ByteSink.out c.pass.new.output) c.pass.result)
    items c.pass.ensures.writes)
