use Rattle.std.proofs.Common.{◌≡◌, ◌+◌, ◌-◌, ◌*◌, ℕ, arith, ap, IsTrue}
use Rattle.frame_codec.specs.Rows.{Reaches}
use Rattle.frame_codec.specs.Heads.{field_at, numbers_of}
use Rattle.frame_codec.proofs.Heads.{number-range, step-bad, step-more, step-field, step-whole}
use Rattle.frame_codec.proofs.head.Head.push.Goals as goal

pub overflow_mul-number : goal.overflow_mul-number
overflow_mul-number c =
    let h = number-range c.args.self.now.number c.args.self.now.have c.args.byte c.requires.head.fits c.ranges.byte.fits (omega (arith, c.requires.have, c.width.ensures.width, c.width.ensures.range)) in
    omega (arith, h)

pub overflow_add-number : goal.overflow_add-number
overflow_add-number c =
    let h = number-range c.args.self.now.number c.args.self.now.have c.args.byte c.requires.head.fits c.ranges.byte.fits (omega (arith, c.requires.have, c.width.ensures.width, c.width.ensures.range)) in
    omega (arith, h, c.from.ensures)

pub returns-then-not-reaches-clause-step : goal.returns-then-not-reaches-clause-step
returns-then-not-reaches-clause-step c =
    let h = c.args.self.now in
    let left : c.width.result - 1 - h.have ≡ (field_at h.table h.index).width - 1 - h.have = ap (λ (w : ℕ). w - 1 - h.have) c.width.ensures.width in
    step-bad h c.args.byte c.why.result (c.width.result - 1 - h.have) c.requires c.ranges.byte.fits left
    (λ (r : Reaches ((field_at h.table h.index).spans (numbers_of h)) (c.width.result - 1 - h.have) (h.number * 256 + c.args.byte)).
    let k = c.reaches.ensures in
    let yes' : IsTrue c.reaches.result = k.1 (rw (c.spans.ensures, c.from.ensures) r) in
    cc)
    c.why.ensures

pub returns-then-left-gt0-clause-step : goal.returns-then-left-gt0-clause-step
returns-then-left-gt0-clause-step c =
    let h = c.args.self.now in
    let left : c.width.result - 1 - h.have ≡ (field_at h.table h.index).width - 1 - h.have = ap (λ (w : ℕ). w - 1 - h.have) c.width.ensures.width in
    let yes' : IsTrue c.reaches.result = c.if-not-reaches.false in
    let reach : Reaches ((field_at h.table h.index).spans (numbers_of h)) (c.width.result - 1 - h.have) (h.number * 256 + c.from.result) = rw c.spans.ensures at (c.reaches.ensures.0 yes') in
    rw c.from.ensures (step-more h c.args.byte (c.width.result - 1 - h.have) c.requires c.ranges.byte.fits left c.if-left-gt0.true (rw c.from.ensures at reach))

pub returns-then-self-count-clause-step : goal.returns-then-self-count-clause-step
returns-then-self-count-clause-step c =
    let h = c.args.self.now in
    let left : c.width.result - 1 - h.have ≡ (field_at h.table h.index).width - 1 - h.have = ap (λ (w : ℕ). w - 1 - h.have) c.width.ensures.width in
    let yes' : IsTrue c.reaches.result = c.if-not-reaches.false in
    let reach : Reaches ((field_at h.table h.index).spans (numbers_of h)) (c.width.result - 1 - h.have) (h.number * 256 + c.from.result) = rw c.spans.ensures at (c.reaches.ensures.0 yes') in
    rw c.from.ensures (step-field h c.args.byte (c.width.result - 1 - h.have) c.requires c.ranges.byte.fits left c.if-left-gt0.false (rw c.from.ensures at reach) (omega (arith, c.if-self-count.true, c.count.ensures.count)))

pub returns-else-self-count-clause-step : goal.returns-else-self-count-clause-step
returns-else-self-count-clause-step c =
    let h = c.args.self.now in
    let left : c.width.result - 1 - h.have ≡ (field_at h.table h.index).width - 1 - h.have = ap (λ (w : ℕ). w - 1 - h.have) c.width.ensures.width in
    let yes' : IsTrue c.reaches.result = c.if-not-reaches.false in
    let reach : Reaches ((field_at h.table h.index).spans (numbers_of h)) (c.width.result - 1 - h.have) (h.number * 256 + c.from.result) = rw c.spans.ensures at (c.reaches.ensures.0 yes') in
    rw c.from.ensures (step-whole h c.args.byte (c.width.result - 1 - h.have) c.requires c.ranges.byte.fits left c.if-left-gt0.false (rw c.from.ensures at reach) (omega (arith, c.if-self-count.false, c.count.ensures.count)))
