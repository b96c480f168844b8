use Rattle.std.proofs.Common.{◌≡◌, take, drop, sym, ◌∙◌, arith, take-append-drop}
use Rattle.std.proofs.lemmas.List.{drop-drop}
use Rattle.std.proofs.Math.ListN.{drop_of_length-le}
use Rattle.std.proofs.lemmas.Grind.{common_steps}
use Rattle.sample_source.proofs.recorded.RecordedSamples.read.Goals as goal

pub returns-clause-samples : goal.returns-clause-samples
returns-clause-samples c =
    let at = c.self.inside.at in
    let n = c.min-count.result in
    let xs = c.self.inside.samples.items in
    let got : take n c.put_front.new.out ≡ take n (drop at xs) = grind (arith, common_steps) in
    let left : drop at xs ≡ c.args.self.now = c.self.view_is in
    (sym left ∙ rw (got, ← drop-drop n at xs) (sym (take-append-drop n (drop at xs))), λ none room. drop_of_length-le xs (omega arith))
