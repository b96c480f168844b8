use Rattle.std.proofs.Common.{◌≡◌, ◌+◌, ℕ, length, take, ap, ◌∙◌, arith, rules}
use Rattle.df_core.specs.Df.{blocks_for}
use Rattle.df_core.proofs.Cutting.{chained_block, cut_block, cut_piece}
use Rattle.df_core.proofs.derive.Df.push_piece.Goals as goal

pub returns-then-fill-lt16 : goal.returns-then-fill-lt16
returns-then-fill-lt16 c = λ keylen want text h.
    let self = c.args.self.now in
    record {
      key = h.key;
      wanted = h.wanted;
      cipher = h.cipher;
      cut = (h.cut.0, cut_piece text (take self.fill self.buf) c.args.piece.now _ h.cut.0 c.put_at.ensures.front h.cut.1, h.cut.2);
    }

pub returns-else-fill-lt16 : goal.returns-else-fill-lt16
returns-else-fill-lt16 c = λ keylen want text h.
    let self = c.args.self.now in
    let buf = c.put_at.new.out in
    let n : c.passes.result ≡ blocks_for (keylen + 16) = c.passes.ensures.passes ∙ ap (λ (k : ℕ). blocks_for (k + 16)) h.key in
    let long : length c.put_at.new.out ≡ 16 = search rules in
    let full : c.args.self.now.fill + length c.args.piece.now ≡ 16 = omega arith in
    let part = cut_piece text (take self.fill self.buf) c.args.piece.now _ h.cut.0 c.put_at.ensures.front h.cut.1 in
    record {
      key = h.key;
      wanted = h.wanted;
      cipher = h.cipher;
      cut = (
        _,
        cut_block _ buf h.cut.0 (self.fill + length c.args.piece.now) long full part,
        chained_block self.aes buf self.chains c.absorbed.new.chains h.cut.0 (blocks_for (keylen + 16)) h.cut.2 (λ i lt. c.absorbed.ensures i (rw n lt)),
      );
    }
