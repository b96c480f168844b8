-- A DRBG's state in the caller's memory: its kind, its Key and V, and how they are written.
-- SP 800-90A Rev. 1, 9 and 10; the numbers of the kinds are this project's own.
use Rattle.std.specs.Prelude.{◌≡◌, ℕ, ◌-◌, ◌||◌, not, ◌==◌, List, ◌++◌, length, take, replicate, if◌then◌else◌, Option, Some, None}
use Rattle.rbg_bytes.specs.declared.kind.Kind.{Kind}
use Rattle.rbg_bytes.specs.declared.kind.Kind.TheVariants.{HmacSha256, HmacSha384, HmacSha512, CtrAes128, CtrAes192, CtrAes256}
use Rattle.drbg_any.specs.declared.drbg.Drbg.{Drbg}
use Rattle.drbg_any.specs.Drbg.{Working}
use Rattle.drbg_any.specs.State.{kind_of, working, counter_of, IsWellFormed}
use Rattle.rbg.specs.declared.state.RbgDrbg.{RbgDrbg}

-- the kind with a number
abbrev pub kind_numbered : ℕ → Option Kind
kind_numbered n =
    if n == 1 then Some HmacSha256
    else if n == 2 then Some HmacSha384
    else if n == 3 then Some HmacSha512
    else if n == 4 then Some CtrAes128
    else if n == 5 then Some CtrAes192
    else if n == 6 then Some CtrAes256
    else None

-- the kind of a state; none where no call leaves such a one
abbrev pub kind_in : RbgDrbg → Option Kind
kind_in s = if s.counter == 0 || not (s.reserved == 0) then None else kind_numbered s.kind

-- the bytes of Key and of V
abbrev pub key_len : Kind → ℕ
key_len HmacSha256 = 32
key_len HmacSha384 = 48
key_len HmacSha512 = 64
key_len CtrAes128 = 16
key_len CtrAes192 = 24
key_len CtrAes256 = 32

abbrev pub value_len : Kind → ℕ
value_len HmacSha256 = 32
value_len HmacSha384 = 48
value_len HmacSha512 = 64
value_len CtrAes128 = 16
value_len CtrAes192 = 16
value_len CtrAes256 = 16

-- Key and V in a state of a kind
abbrev pub held : Kind → RbgDrbg → Working
held k s = record { key = take (key_len k) s.key; value = take (value_len k) s.value }

-- zeros behind the bytes, up to 64
abbrev pub padded : List ℕ → List ℕ
padded bytes = bytes ++ replicate (64 - length bytes) 0

-- the state with the kind of a number, a counter, and Key and V
abbrev pub stored : ℕ → ℕ → Working → RbgDrbg
stored number counter w = record {
  counter = counter;
  kind = number;
  reserved = 0;
  key = padded w.key;
  value = padded w.value;
}

-- a DRBG is what a state holds
pub record IsRead (s : RbgDrbg) (d : Drbg) : Type 0 where
  pub kind : kind_in s ≡ Some (kind_of d)
  pub working : working d ≡ held (kind_of d) s
  pub counter : counter_of d ≡ s.counter
  pub formed : IsWellFormed d
