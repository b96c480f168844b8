-- What each call on a DRBG's state answers: its causes, in the order in which they are looked at.
-- SP 800-90A Rev. 1, 9.1 to 9.3 and tables 2 and 3; the numbers and the order are this project's own.
use Rattle.std.specs.Prelude.{ℕ, ◌^◌, ◌||◌, not, ◌==◌, List, length, nat_lt, is_some, Bool, if◌then◌else◌}
use Rattle.rbg.specs.declared.state.RbgDrbg.{RbgDrbg}
use Rattle.rbg.specs.declared.status.TheConstants.{DONE, RESEED_REQUIRED, BAD_STATE, BAD_KIND, BAD_INTERVAL, LONG_ENTROPY, LONG_NONCE, LONG_STRING, LONG_OUTPUT}
use Rattle.rbg.specs.State.{kind_numbered, kind_in}

-- more bytes than a string or an output may have
abbrev pub is_long : ℕ → Bool
is_long n = nat_lt 65536 n

-- outside the reseed intervals from 1 to 2^48
abbrev pub is_no_interval : ℕ → Bool
is_no_interval n = n == 0 || nat_lt (2 ^ 48) n

-- no call leaves such a state
abbrev pub is_no_state : RbgDrbg → Bool
is_no_state s = not (is_some (kind_in s))

abbrev pub instantiate_status : ℕ → List ℕ → List ℕ → List ℕ → ℕ
instantiate_status kind entropy nonce personalization =
    if not (is_some (kind_numbered kind)) then BAD_KIND
    else if is_long (length entropy) then LONG_ENTROPY
    else if is_long (length nonce) then LONG_NONCE
    else if is_long (length personalization) then LONG_STRING
    else DONE

abbrev pub reseed_status : RbgDrbg → List ℕ → List ℕ → ℕ
reseed_status s entropy additional =
    if is_no_state s then BAD_STATE
    else if is_long (length entropy) then LONG_ENTROPY
    else if is_long (length additional) then LONG_STRING
    else DONE

-- of a generate of n bytes
abbrev pub generate_status : RbgDrbg → List ℕ → ℕ → ℕ → ℕ
generate_status s additional interval n =
    if is_no_state s then BAD_STATE
    else if is_long (length additional) then LONG_STRING
    else if is_no_interval interval then BAD_INTERVAL
    else if is_long n then LONG_OUTPUT
    else if nat_lt interval s.counter then RESEED_REQUIRED
    else DONE

abbrev pub fresh_status : RbgDrbg → List ℕ → List ℕ → ℕ → ℕ
fresh_status s entropy additional n =
    if is_no_state s then BAD_STATE
    else if is_long (length entropy) then LONG_ENTROPY
    else if is_long (length additional) then LONG_STRING
    else if is_long n then LONG_OUTPUT
    else DONE

abbrev pub counter_status : RbgDrbg → ℕ
counter_status s = if is_no_state s then BAD_STATE else DONE

abbrev pub due_status : RbgDrbg → ℕ → ℕ
due_status s interval =
    if is_no_state s then BAD_STATE
    else if is_no_interval interval then BAD_INTERVAL
    else if nat_lt interval s.counter then RESEED_REQUIRED
    else DONE
