use Rattle.std.proofs.Common.{◌≡◌, ◌≤◌, ◌∷◌, ◌++◌, [], ℕ, List, length, length-append, map, take, sym, subst, ap, ◌∙◌, arith}
use Rattle.std.proofs.lemmas.List.{length-map, map-append, take_all}
use Rattle.tree_config.specs.declared.plan.SourcePlan.{SourcePlan}
use Rattle.rbg_bytes.specs.declared.stream.Failed.{Failed}
use Rattle.rbgtree.specs.Recordings.{Recording, recording_of}
use Rattle.rbgtree.specs.Check.{sample_names, OpensOne, OpensAll}
use Rattle.rbgtree.proofs.Openings.{opens_one, opens_more, take_next}
use Rattle.rbgtree.proofs.check.open_all.Goals as goal

pub loop-number-preserved : goal.loop-number-preserved
loop-number-preserved g c =
    let told = g.W.Samples.Samples.told in
    let faults = g.W.Samples.Samples.faults in
    let samples = c.in-Ok-open_samples.samples in
    let name = λ (s : SourcePlan). s.samples in
    let sources = c.args.plan.now.sources in
    let before = g.W.World.recordings c.args.world.now in
    let between = g.W.World.recordings c.loop-number.world in
    let next = g.W.World.recordings c.open_samples.new.self in
    let one = subst (λ (n : List ℕ). OpensOne between next n (recording_of told faults samples)) c.as_str.ensures.bytes
    (opens_one Failed told faults between next c.as_str.result.now samples c.in-Ok-open_samples.ensures.samples) in
    let more = opens_more before between next _ _ c.source.result.now.samples (recording_of told faults samples) c.loop-number.invariant.opens one in
    let names = take_next name sources c.loop-number.number c.source.result.now c.source.ensures.value in
    let items = c.push_reserved.ensures.items in
    let all : map (recording_of told faults) c.push_reserved.new.self.items ≡ map (recording_of told faults) c.loop-number.opened.items ++ recording_of told faults samples ∷ [] =
    ap (map (recording_of told faults)) items ∙ map-append (recording_of told faults) c.loop-number.opened.items (samples ∷ []) in record {
      opens = subst (λ (ns : List (List ℕ)). OpensAll before next ns (map (recording_of told faults) c.push_reserved.new.self.items)) (sym names)
          (subst (λ (rs : List Recording). OpensAll before next (take c.loop-number.number (sample_names sources) ++ c.source.result.now.samples ∷ []) rs) (sym all) more);
      count = omega (arith, ap (λ (l : List _). length l) items, length-append c.loop-number.opened.items (samples ∷ []), c.loop-number.invariant.count);
      room = omega (arith, c.push_reserved.ensures.capacity, c.loop-number.invariant.room);
      files = c.in-Ok-open_samples.ensures.files ∙ c.loop-number.invariant.files;
      faults = c.in-Ok-open_samples.ensures.cause.kept ∙ c.loop-number.invariant.faults;
      end = c.loop-number.invariant.end;
      within = omega (arith, c.loop-number-test.true);
    }

pub returns-clause-opened : goal.returns-clause-opened
returns-clause-opened g c =
    let told = g.W.Samples.Samples.told in
    let faults = g.W.Samples.Samples.faults in
    let past : length (sample_names c.args.plan.now.sources) ≤ c.loop-number.number =
    omega (arith, length-map c.args.plan.now.sources (λ (s : SourcePlan). s.samples), c.loop-number-test.false, c.loop-number.invariant.end) in
    subst (λ (ns : List (List ℕ)). OpensAll (g.W.World.recordings c.args.world.now) (g.W.World.recordings c.loop-number.world) ns (map (recording_of told faults) c.loop-number.opened.items))
    (take_all c.loop-number.number (sample_names c.args.plan.now.sources) past) c.loop-number.invariant.opens
