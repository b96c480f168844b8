-- A head that is begun: the fields that are whole, the bytes of the next so far, and what one byte more makes of it.
-- This project's own.
use Rattle.std.specs.Prelude.{◌≡◌, ◌<◌, ◌≤◌, ℕ, ◌-◌, ◌*◌, ◌^◌, List, [], ◌∷◌, ◌++◌, length, take, get_or}
use Rattle.frame_codec.specs.Rows.{Field, Takes, Reaches, digits, spelled, why_at, BeginsNoHead}
use Rattle.frame_codec.specs.Frames.{field, requests, replies}
use Rattle.frame_codec.specs.declared.table.Table.{Table}
use Rattle.frame_codec.specs.declared.table.Table.TheVariants.{Requests, Replies}
use Rattle.frame_codec.specs.declared.head.Head.{Head}
use Rattle.frame_codec.specs.declared.head.HeadStep.{HeadStep}
use Rattle.frame_codec.specs.declared.head.HeadStep.TheVariants.{More, Whole, Bad}

abbrev pub fields_of : Table → List Field
fields_of Requests = requests.fields
fields_of Replies = replies.fields

abbrev pub field_at : Table → ℕ → Field
field_at table index = get_or (fields_of table) index (field 1 0 (λ (before : List ℕ). []))

-- the numbers of the fields that are whole
abbrev pub numbers_of : Head → List ℕ
numbers_of h = take h.index h.numbers

-- the bytes of the head so far
abbrev pub bytes_of : Head → List ℕ
bytes_of h = spelled (take h.index (fields_of h.table)) (numbers_of h) ++ digits h.have h.number

-- the whole fields have numbers that they take
pub record IsHead (h : Head) : Type 0 where
  pub long : length (fields_of h.table) ≤ length h.numbers
  pub taken : Takes (take h.index (fields_of h.table)) [] (numbers_of h)
  pub fits : h.number < 2 ^ (8 * h.have)

-- some byte of the head is still to come, and the next field may have a number that begins so
pub record IsBegun (h : Head) : Type 0 where
  pub head : IsHead h
  pub index : h.index < length (fields_of h.table)
  pub have : h.have < (field_at h.table h.index).width
  pub reaches : Reaches ((field_at h.table h.index).spans (numbers_of h)) ((field_at h.table h.index).width - h.have) h.number

-- the head is whole
pub record IsWhole (h : Head) : Type 0 where
  pub head : IsHead h
  pub index : h.index ≡ length (fields_of h.table)
  pub have : h.have ≡ 0
  pub number : h.number ≡ 0

-- what one byte more makes of a head that is begun
abbrev pub HeadSteps : Head → ℕ → HeadStep → Head → Type 0
HeadSteps old byte More new = IsBegun new × (bytes_of new ≡ bytes_of old ++ byte ∷ [])
HeadSteps old byte Whole new = IsWhole new × (bytes_of new ≡ bytes_of old ++ byte ∷ [])
HeadSteps old byte (Bad why) new =
    BeginsNoHead (fields_of old.table) (bytes_of old ++ byte ∷ []) × (why ≡ why_at (fields_of old.table) (length (bytes_of old))) × (new ≡ old)
