-- The line that shows a reply, and the bytes that a reply gives.
-- This project's own; the names are those of the tree's replies.
use Rattle.std.specs.Prelude.{◌≡◌, ◌≤◌, ℕ, List, length, [], ◌∷◌, ◌++◌, codes, decimal, nat_eq, if◌then◌else◌, take, drop, slice_index}
use Rattle.std.specs.Int.{from_be_bytes, w64}
use Rattle.hex.specs.Hex.{encode_lower}
use Rattle.frame_codec.specs.declared.frames.ReplyHead.{ReplyHead}
use Rattle.frame_codec.specs.Frames.{Replied}
use Rattle.rbg_talk.specs.declared.way.Way.{Way}
use Rattle.rbg_talk.specs.declared.way.Way.TheVariants.{Show, Bytes}
use Rattle.rbg_talk.specs.Words.{name_of, operation_numbered}

-- the name of a code, which is one of 0 to 8, 10 to 14 and 255
abbrev pub code_name : ℕ → List ℕ
code_name code =
    if nat_eq code 0 then codes "Done"
    else if nat_eq code 1 then codes "NoSuchNode"
    else if nat_eq code 2 then codes "TooLong"
    else if nat_eq code 3 then codes "AlreadyInstantiated"
    else if nat_eq code 4 then codes "NotInstantiated"
    else if nat_eq code 5 then codes "StrengthTooHigh"
    else if nat_eq code 6 then codes "ReseedRefused"
    else if nat_eq code 7 then codes "PrUnsupported"
    else if nat_eq code 8 then codes "Exhausted"
    else if nat_eq code 10 then codes "SourceSpent"
    else if nat_eq code 11 then codes "SourceInError"
    else if nat_eq code 12 then codes "SourceFault"
    else if nat_eq code 13 then codes "HealthFailed"
    else if nat_eq code 14 then codes "WantOfEntropy"
    else codes "Malformed"

-- a health test: 1 is the repetition count test, 2 the adaptive proportion test
abbrev pub test_name : ℕ → List ℕ
test_name test = if nat_eq test 1 then codes "repetition" else if nat_eq test 2 then codes "proportion" else decimal test

-- the field of a request in which a byte is bad
abbrev pub field_name : ℕ → List ℕ
field_name why =
    if nat_eq why 1 then codes "version"
    else if nat_eq why 2 then codes "op"
    else if nat_eq why 3 then codes "flags"
    else if nat_eq why 4 then codes "count"
    else if nat_eq why 5 then codes "strength"
    else if nat_eq why 6 then codes "length"
    else decimal why

-- whether a node is live
abbrev pub live_name : ℕ → List ℕ
live_name live = if nat_eq live 0 then codes "no" else if nat_eq live 1 then codes "yes" else decimal live

abbrev pub one_detail : List ℕ → ℕ → List ℕ
one_detail label n = label ++ decimal n

abbrev pub two_details : List ℕ → ℕ → List ℕ → ℕ → List ℕ
two_details label n other m = label ++ decimal n ++ other ++ decimal m

-- where a health test alarmed
abbrev pub alarm_text : ℕ → ℕ → List ℕ
alarm_text sample test = codes " sample " ++ decimal sample ++ codes " test " ++ test_name test

-- where a source is in error
abbrev pub error_text : ℕ → ℕ → List ℕ
error_text test sample = if nat_eq test 0 then codes " not started" else alarm_text sample test

-- where a request is malformed
abbrev pub place_text : ℕ → ℕ → List ℕ
place_text offset why = codes " offset " ++ decimal offset ++ codes " field " ++ field_name why

-- what the details a and b of a refusal or of a Malformed reply mean
abbrev pub refusal_details : ℕ → ℕ → ℕ → List ℕ
refusal_details code a b =
    if nat_eq code 1 then two_details (codes " asked ") a (codes " of ") b
    else if nat_eq code 2 then two_details (codes " asked ") a (codes " limit ") b
    else if nat_eq code 3 then one_detail (codes " node ") a
    else if nat_eq code 4 then one_detail (codes " node ") a
    else if nat_eq code 5 then two_details (codes " asked ") a (codes " kept ") b
    else if nat_eq code 6 then one_detail (codes " node ") a
    else if nat_eq code 7 then one_detail (codes " node ") a
    else if nat_eq code 8 then two_details (codes " node ") a (codes " counter ") b
    else if nat_eq code 10 then two_details (codes " taken ") a (codes " need ") b
    else if nat_eq code 11 then error_text a b
    else if nat_eq code 12 then two_details (codes " faults ") a (codes " source ") b
    else if nat_eq code 13 then alarm_text a b
    else if nat_eq code 14 then two_details (codes " missing ") a (codes " source ") b
    else place_text a b

-- the status of a node: a byte, and three numbers of eight bytes
abbrev pub status_text : List ℕ → List ℕ
status_text payload =
    codes " live " ++ live_name (slice_index payload 0) ++ codes " counter " ++ decimal (from_be_bytes w64 (take 8 (drop 1 payload)))
    ++ codes " seeds " ++ decimal (from_be_bytes w64 (take 8 (drop 9 payload))) ++ codes " gives " ++ decimal (from_be_bytes w64 (take 8 (drop 17 payload)))

-- the word before bytes, with a space where there are some
abbrev pub bytes_word : List ℕ → List ℕ
bytes_word [] = codes " bytes"
bytes_word (byte ∷ later) = codes " bytes "

-- what stands behind the name of a reply, up to the digits of its bytes
abbrev pub details : ReplyHead → List ℕ → List ℕ
details h payload =
    if nat_eq h.code 0 then (if nat_eq h.op 2 then bytes_word payload else if nat_eq h.op 6 then status_text payload else [])
    else refusal_details h.code h.a h.b

-- the id, the operation, and the node or source; a Malformed reply is to no call
abbrev pub subject : ReplyHead → List ℕ
subject h =
    if nat_eq h.code 255 then []
    else decimal h.id ++ codes " " ++ name_of (operation_numbered h.op) ++ (if nat_eq h.op 5 then codes " source " else codes " node ") ++ decimal h.node ++ codes " "

-- the bytes that a reply gives: the payload of a Generate, which none but Done has
abbrev pub given : Replied → List ℕ
given p = if nat_eq p.head.op 2 then p.string else []

-- the line that shows a reply; bytes are in lower case hexadecimal
abbrev pub reply_line : Replied → List ℕ
reply_line p = subject p.head ++ code_name p.head.code ++ details p.head p.string ++ encode_lower (given p) ++ 10 ∷ []

-- what is written for a reply
abbrev pub written : Way → Replied → List ℕ
written Show p = reply_line p
written Bytes p = given p

-- a payload is as long as its head says, where lines and bytes look into it
pub record IsPayloadOf (h : ReplyHead) (payload : List ℕ) : Type 0 where
  pub most : length payload ≤ 65536
  pub status : h.code ≡ 0 → h.op ≡ 6 → length payload ≡ 25
