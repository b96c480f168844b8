-- A DRBG made of the bytes of a state is what the state holds.
use Rattle.std.proofs.Common.{◌≡◌, ℕ, List, length, take, Some, sym, ◌∙◌, ap, arith}
use Rattle.rbg_bytes.specs.declared.kind.Kind.{Kind}
use Rattle.hmac_core.specs.declared.hash.Hash.{Hash}
use Rattle.hmac_core.specs.Hmac.{out_len}
use Rattle.hmac_drbg.specs.declared.state.HmacDrbg.{HmacDrbg}
use Rattle.hmac_drbg.specs.State.{IsWellFormed as hmac_formed}
use Rattle.ctr_drbg.specs.declared.drbg.CtrDrbg.{CtrDrbg}
use Rattle.ctr_drbg.specs.declared.seeds.Mode.TheVariants.{UseDf}
use Rattle.drbg_any.specs.declared.drbg.Drbg.TheVariants.{Hmac, Ctr}
use Rattle.drbg_any.specs.Drbg.{Working, OverHash, OverAes, mechanism}
use Rattle.drbg_any.specs.State.{kind_over, kind_keyed}
use Rattle.rbg.specs.declared.state.RbgDrbg.{RbgDrbg}
use Rattle.rbg.specs.State.{kind_in, key_len, value_len, IsRead}

same_working : (a b c d : List ℕ) → a ≡ c → b ≡ d →
    ◌≡◌ {A = Working} (record { key = a; value = b }) (record { key = c; value = d })
same_working a b c d key value = grind arith

pub read_hmac : (s : RbgDrbg) (d : HmacDrbg) (h : Hash) (k : Kind) → kind_in s ≡ Some k →
    kind_over h ≡ k → mechanism k ≡ OverHash h → key_len k ≡ out_len h → value_len k ≡ out_len h →
    d.hash ≡ h → d.k ≡ take (out_len h) s.key → d.v ≡ take (out_len h) s.value → d.counter ≡ s.counter →
    hmac_formed d → IsRead s (Hmac d)
read_hmac s d h k kind over made keys values hash key value counter formed =
    let of : kind_over d.hash ≡ k = ap (λ x. kind_over x) hash ∙ over in
    let long : key_len (kind_over d.hash) ≡ out_len h = ap (λ x. key_len x) of ∙ keys in
    let wide : value_len (kind_over d.hash) ≡ out_len h = ap (λ x. value_len x) of ∙ values in
    record {
      kind = kind ∙ ap (λ x. Some x) (sym of);
      working = same_working _ _ _ _ (key ∙ ap (λ n. take n s.key) (sym long)) (value ∙ ap (λ n. take n s.value) (sym wide));
      counter = counter;
      formed = (ap (λ x. mechanism x) of ∙ made ∙ ap (λ x. OverHash x) (sym hash), formed);
    }

pub read_ctr : (s : RbgDrbg) (d : CtrDrbg) (n : ℕ) (k : Kind) → kind_in s ≡ Some k →
    kind_keyed n ≡ k → mechanism k ≡ OverAes n → key_len k ≡ n → value_len k ≡ 16 →
    d.key ≡ take n s.key → length d.key ≡ n → d.v ≡ take 16 s.value → d.counter ≡ s.counter →
    d.mode ≡ UseDf → IsRead s (Ctr d)
read_ctr s d n k kind keyed made keys values key exact value counter mode =
    let of : kind_keyed (length d.key) ≡ k = ap (λ x. kind_keyed x) exact ∙ keyed in
    let long : key_len (kind_keyed (length d.key)) ≡ n = ap (λ x. key_len x) of ∙ keys in
    let wide : value_len (kind_keyed (length d.key)) ≡ 16 = ap (λ x. value_len x) of ∙ values in
    record {
      kind = kind ∙ ap (λ x. Some x) (sym of);
      working = same_working _ _ _ _ (key ∙ ap (λ m. take m s.key) (sym long)) (value ∙ ap (λ m. take m s.value) (sym wide));
      counter = counter;
      formed = (ap (λ x. mechanism x) of ∙ made ∙ ap (λ x. OverAes x) (sym exact), mode);
    }
