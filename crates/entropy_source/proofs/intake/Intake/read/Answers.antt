use Rattle.std.proofs.Common.{◌≡◌, ◌≤◌, ℕ, List, [], ◌++◌, length, take, drop, refl, sym, ap, ◌∙◌, subst, arith}
use Rattle.std.specs.Prelude.{Option, Some}
use Rattle.std.proofs.lemmas.List.{take-append-le, length-take-le}
use Rattle.std.specs.Io.KnownBytes.{Consumes}
use Rattle.entropy_source.specs.declared.answers.SourceRefusal.TheVariants.{SourceFault, WantOfEntropy}
use Rattle.entropy_source.specs.Draws.{asks}
use Rattle.entropy_source.proofs.Reading.{failed, ended, moved, quiet_read, alarm_read}
use Rattle.entropy_source.proofs.intake.Intake.read.Goals as goal

-- the piece of the buffer that is read to
as_asked : (lacks asked : ℕ) (buffer : List ℕ) → asked ≡ asks lacks → length buffer ≡ 4096 → length (take asked buffer) ≡ asks lacks
as_asked lacks asked buffer is size = let fits : asked ≤ length buffer = omega (arith, is) in omega (arith, length-take-le asked buffer fits, is)

-- a read that asked for so many samples and gave these
made_so : {S : Type 0} (reads : S → ℕ → Option (List ℕ) → S → Type 0) (before after : S) {n asked : ℕ} {x got : Option (List ℕ)} → n ≡ asked → x ≡ got
    → reads before n x after → reads before asked got after
made_so reads before after {n = n} {got = got} size is made = subst (λ k. reads before k got after) size (subst (λ z. reads before n z after) is made)

pub returns-in-Err-clause-comes : goal.returns-in-Err-clause-comes
returns-in-Err-clause-comes g c =
    let e = c.in-Err.ensures in
    let now = c.read.new.self in
    let size = as_asked c.args.lacks c.min-asked.result c.args.buffer.now (omega arith) c.requires.buffer in
    let one = made_so g.S.Samples.reads c.self.inside.samples now size refl e.made in
    moved g.S.Samples.told g.S.Samples.faults g.S.Samples.reads _ _ c.self.view_is _ c.args.lacks (SourceFault c.fault_count.result)
    (failed g.S.Samples.told g.S.Samples.faults g.S.Samples.reads _ now c.args.lacks c.requires.lacking e.untold c.fault_count.result c.fault_count.ensures e.samples e.cause.failed one)

pub returns-then-count-eq0-clause-comes : goal.returns-then-count-eq0-clause-comes
returns-then-count-eq0-clause-comes g c =
    let e = c.in-Ok.ensures in
    let now = c.read.new.self in
    let buf = c.read.new.buf in
    let size = as_asked c.args.lacks c.min-asked.result c.args.buffer.now (omega arith) c.requires.buffer in
    let none : take c.in-Ok.count buf ≡ [] = rw (c.if-count-eq0.true) refl in
    let one = made_so g.S.Samples.reads c.self.inside.samples now size (ap Some none) e.made in
    moved g.S.Samples.told g.S.Samples.faults g.S.Samples.reads _ _ c.self.view_is _ c.args.lacks (WantOfEntropy c.args.lacks)
    (ended g.S.Samples.told g.S.Samples.faults g.S.Samples.reads _ now c.args.lacks c.requires.lacking e.untold
    (subst (λ (z : List ℕ). Consumes (g.S.Samples.told c.self.inside.samples) (g.S.Samples.told now) z) none e.samples.0)
    (e.samples.1 c.if-count-eq0.true (omega (arith, size, c.read.auto.buf, c.requires.lacking))) e.cause.kept one)

pub returns-in-None-clause-comes : goal.returns-in-None-clause-comes
returns-in-None-clause-comes g c =
    let i = c.self.inside in
    let e = c.in-Ok.ensures in
    let now = c.read.new.self in
    let buf = c.read.new.buf in
    let size = as_asked c.args.lacks c.min-asked.result c.args.buffer.now (omega arith) c.requires.buffer in
    let same = sym (take-append-le c.in-Ok.count buf (drop c.min-asked.result c.args.buffer.now) e.bound.0) in
    let one = made_so g.S.Samples.reads i.samples now size (ap Some same) e.made in
    quiet_read g.S.Samples.told g.S.Samples.faults g.S.Samples.reads i.row i.samples now i.tests c.step_all.new.self i.taken i.blocks i.alarms i.mode c.args.self.now
    c.args.lacks c.in-Ok.count (take c.in-Ok.count (buf ++ drop c.min-asked.result c.args.buffer.now)) c.self.view_is c.requires.lacking c.requires.tested (e.bound.1 ∙ ap (length {A = ℕ}) same) (omega arith)
    (omega (arith, e.bound.0, size, c.read.auto.buf)) (subst (λ z. Consumes (g.S.Samples.told i.samples) (g.S.Samples.told now) z) same e.samples.0) e.untold e.cause.kept one c.self.invariant.1 c.in-None.ensures.answer c.in-None.ensures.numbers

pub returns-in-Some-clause-comes : goal.returns-in-Some-clause-comes
returns-in-Some-clause-comes g c =
    let i = c.self.inside in
    let e = c.in-Ok.ensures in
    let now = c.read.new.self in
    let buf = c.read.new.buf in
    let size = as_asked c.args.lacks c.min-asked.result c.args.buffer.now (omega arith) c.requires.buffer in
    let same = sym (take-append-le c.in-Ok.count buf (drop c.min-asked.result c.args.buffer.now) e.bound.0) in
    let one = made_so g.S.Samples.reads i.samples now size (ap Some same) e.made in
    alarm_read g.S.Samples.told g.S.Samples.faults g.S.Samples.reads i.row i.samples now i.tests c.step_all.new.self i.taken i.blocks i.alarms i.mode c.args.self.now
    c.args.lacks c.in-Ok.count (take c.in-Ok.count (buf ++ drop c.min-asked.result c.args.buffer.now)) c.self.view_is c.requires.lacking c.requires.tested (e.bound.1 ∙ ap (length {A = ℕ}) same) (omega arith)
    (omega (arith, e.bound.0, size, c.read.auto.buf)) (subst (λ z. Consumes (g.S.Samples.told i.samples) (g.S.Samples.told now) z) same e.samples.0) e.untold e.cause.kept one c.self.invariant.1 c.in-Some.alarm c.in-Some.ensures.answer
