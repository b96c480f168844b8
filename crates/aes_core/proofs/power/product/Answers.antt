use Rattle.std.proofs.Common.{◌≡◌, ℕ, List, bit_xor, length, map, ap, sym, ◌∙◌, add-one, arith}
use Rattle.std.specs.Simd.Lanes.{zip2}
use Rattle.aes_core.specs.Code.Power.{term_of}
use Rattle.aes_core.specs.Field.{times}
use Rattle.std.proofs.lemmas.Simd.{map-map}
use Rattle.aes_core.proofs.Lanes.{map_same}
use Rattle.aes_core.proofs.Powers.{multiple_of, no_terms, products_are, sum_of, term_more}
use Rattle.aes_core.proofs.power.product.Goals as goal

pub bits-init : goal.bits-init
bits-init c = (no_terms 64 c.args.a c.args.b c.fits-a.0 c.fits-b.0, map_same c.args.a)

pub bits-preserved : goal.bits-preserved
bits-preserved c =
    let a = c.args.a in
    let b = c.args.b in
    let k = c.bits.k in
    let same : length c.args.a ≡ length c.args.b = omega (arith, c.fits-a.0, c.fits-b.0) in
    let more = c.term-sum.ensures ∙ ap (zip2 (term_of k) b) c.bits.invariant.1 in (
      ap (λ (t : List ℕ). zip2 bit_xor t c.term-sum.result) c.bits.invariant.0
          ∙ (ap (zip2 bit_xor (zip2 (sum_of k) a b)) more ∙ (term_more k a b same ∙ ap (λ (n : ℕ). zip2 (sum_of n) a b) (sym (add-one k)))),
      c.doubled-multiple.ensures ∙ (ap (map (times 2)) c.bits.invariant.1 ∙ (map-map (times 2) (multiple_of k) a ∙ ap (λ (n : ℕ). map (multiple_of n) a) (sym (add-one k)))),
    )

pub returns : goal.returns
returns c =
    let end : c.bits.k ≡ 8 = omega arith in
    c.bits.invariant.0 ∙ (ap (λ (n : ℕ). zip2 (sum_of n) c.args.a c.args.b) end ∙ products_are c.args.a c.args.b c.fits-a c.fits-b)
