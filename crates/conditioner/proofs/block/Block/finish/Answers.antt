use Rattle.std.proofs.Common.{subst, sym}
use Rattle.hmac_core.specs.declared.hash.Hash.TheVariants.{Sha256}
use Rattle.df_core.specs.Holds.{HoldsInput}
use Rattle.conditioner.specs.Conditioned.{mac_key}
use Rattle.conditioner.specs.Holds.{HoldsFirst}
use Rattle.conditioner.proofs.Blocks.{made_by_mac, made_by_df}
use Rattle.conditioner.proofs.block.Block.finish.Goals as goal

pub returns-in-OfMac : goal.returns-in-OfMac
returns-in-OfMac c cond total samples h whole =
    let held = subst (λ k. HoldsFirst k cond total samples) c.in-OfMac.is h.held in
    made_by_mac cond samples c.finish.result c.shortened.result held.0 (c.finish.ensures Sha256 mac_key samples held.1) c.shortened.ensures

pub returns-in-OfDf : goal.returns-in-OfDf
returns-in-OfDf c cond total samples h whole =
    let held = subst (λ k. HoldsFirst k cond total samples) c.in-OfDf.is h.held in
    let input = subst (λ d. HoldsInput d 32 total 16 samples) (sym c.in-OfDf.df-is) held.1 in
    made_by_df cond samples c.finish-in-OfDf.result c.shortened-in-OfDf.result held.0
    (c.finish-in-OfDf.ensures 32 total 16 samples input whole) c.shortened-in-OfDf.ensures
