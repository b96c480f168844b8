use Rattle.std.proofs.Common.{[], append-nil, refl, rules}
use Rattle.df_core.specs.KeyLen.{key_bytes}
use Rattle.df_core.proofs.derive.Df.new.Goals as goal

pub returns-clause-held : goal.returns-clause-held
returns-clause-held c =
    let keylen = key_bytes c.args.keylen in
    rw append-nil
    (c.push_header.ensures keylen c.args.want (record {
      key = refl;
      wanted = refl;
      cipher = c.first_cipher-aes.ensures;
      cut = ([], record { whole = search rules; joined = refl }, rw c.passes.ensures.passes at c.first_chains-chains.ensures);
    }))
