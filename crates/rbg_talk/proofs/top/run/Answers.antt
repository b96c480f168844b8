use Rattle.std.proofs.Common.{map, refl, inl, inr}
use Rattle.std.specs.Prelude.{string_bytes}
use Rattle.rbg_talk.proofs.Finishing.{complete}
use Rattle.rbg_talk.proofs.top.run.Goals as goal

pub returns-in-Some-clause-complete : goal.returns-in-Some-clause-complete
returns-in-Some-clause-complete g c =
    complete (map string_bytes c.args.words.now) _ _ c.run_command.result (inl (c.in-Some.command, c.in-Some.ensures.some, c.run_command.ensures.ends)) c.run_command.ensures.cause

pub returns-in-None-clause-complete : goal.returns-in-None-clause-complete
returns-in-None-clause-complete g c =
    complete (map string_bytes c.args.words.now) _ _ _ (inr (c.in-None.ensures.none, refl, record { left = refl; out = refl })) (record { input = refl; output = refl })
