use Rattle.std.proofs.Common.{◌≡◌, Some, refl, arith}
use Rattle.rbg_bytes.specs.declared.kind.Kind.TheVariants.{HmacSha256, HmacSha384, HmacSha512, CtrAes128, CtrAes192, CtrAes256}
use Rattle.hmac_core.specs.declared.hash.Hash.TheVariants.{Sha256, Sha384, Sha512}
use Rattle.rbg.specs.State.{kind_in}
use Rattle.rbg.proofs.Reading.{read_hmac, read_ctr}
use Rattle.rbg.proofs.state.opened.Goals as goal

pub returns-in-HmacSha256 : goal.returns-in-HmacSha256
returns-in-HmacSha256 c =
    let made = c.hmac_of.ensures in
    let kind : kind_in c.args.state.now ≡ Some HmacSha256 = grind arith in
    read_hmac c.args.state.now c.hmac_of.result Sha256 HmacSha256 kind refl refl refl refl
    made.hash made.key made.value made.counter made.formed

pub returns-in-HmacSha384 : goal.returns-in-HmacSha384
returns-in-HmacSha384 c =
    let made = c.hmac_of-in-HmacSha384.ensures in
    let kind : kind_in c.args.state.now ≡ Some HmacSha384 = grind arith in
    read_hmac c.args.state.now c.hmac_of-in-HmacSha384.result Sha384 HmacSha384 kind refl refl refl refl
    made.hash made.key made.value made.counter made.formed

pub returns-in-HmacSha512 : goal.returns-in-HmacSha512
returns-in-HmacSha512 c =
    let made = c.hmac_of-in-HmacSha512.ensures in
    let kind : kind_in c.args.state.now ≡ Some HmacSha512 = grind arith in
    read_hmac c.args.state.now c.hmac_of-in-HmacSha512.result Sha512 HmacSha512 kind refl refl refl refl
    made.hash made.key made.value made.counter made.formed

pub returns-in-CtrAes128 : goal.returns-in-CtrAes128
returns-in-CtrAes128 c =
    let made = c.ctr_of.ensures in
    let kind : kind_in c.args.state.now ≡ Some CtrAes128 = grind arith in
    read_ctr c.args.state.now c.ctr_of.result 16 CtrAes128 kind refl refl refl refl
    made.key made.long made.value made.counter made.mode

pub returns-in-CtrAes192 : goal.returns-in-CtrAes192
returns-in-CtrAes192 c =
    let made = c.ctr_of-in-CtrAes192.ensures in
    let kind : kind_in c.args.state.now ≡ Some CtrAes192 = grind arith in
    read_ctr c.args.state.now c.ctr_of-in-CtrAes192.result 24 CtrAes192 kind refl refl refl refl
    made.key made.long made.value made.counter made.mode

pub returns-in-CtrAes256 : goal.returns-in-CtrAes256
returns-in-CtrAes256 c =
    let made = c.ctr_of-in-CtrAes256.ensures in
    let kind : kind_in c.args.state.now ≡ Some CtrAes256 = grind arith in
    read_ctr c.args.state.now c.ctr_of-in-CtrAes256.result 32 CtrAes256 kind refl refl refl refl
    made.key made.long made.value made.counter made.mode
