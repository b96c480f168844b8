-- What one byte more makes of a head, in the words of the code.
use Rattle.std.proofs.Common.{◌≡◌, ◌≤◌, ◌<◌, ℕ, suc, ◌+◌, ◌-◌, ◌*◌, ◌/◌, ◌%◌, ◌^◌, ◌∷◌, List, [], ◌++◌, length, take, drop, set, get_or, sym, ap, ◌∙◌, arith, length-append, append_assoc, append-nil, refl, subst, pow_mono, pow-add, lit<, take-append-drop, length-set}
use Rattle.std.specs.List.{AllByRecursion}
use Rattle.std.proofs.lemmas.List.{drop_more, take_more, take_more_set}
use Rattle.std.proofs.lemmas.Nat.{div-mul-add, mod-mul-add, mul-add-lt}
use Rattle.frame_codec.specs.Rows.{Field, Takes, digits, spelled, why_at, Reaches, IsHeadPart, BeginsNoHead}
use Rattle.frame_codec.specs.Frames.{field}
use Rattle.frame_codec.proofs.Rows.{size_of, IsSound, takes-join, spelled-join, length-spelled, why-here, sound-behind, proper-fits}
use Rattle.frame_codec.proofs.Fronts.{byte-part, byte-none, byte-last, sound-reaches}
use Rattle.frame_codec.proofs.Digits.{length-digits}
use Rattle.frame_codec.proofs.Requests.{sound as sound-requests}
use Rattle.frame_codec.proofs.Replies.{sound as sound-replies}
use Rattle.frame_codec.specs.declared.table.Table.{Table}
use Rattle.frame_codec.specs.declared.table.Table.TheVariants.{Requests, Replies}
use Rattle.frame_codec.specs.declared.head.Head.{Head}
use Rattle.frame_codec.specs.declared.head.HeadStep.TheVariants.{More, Whole, Bad}
use Rattle.frame_codec.specs.Heads.{fields_of, field_at, numbers_of, bytes_of, IsBegun, HeadSteps}

nothing : Field
nothing = field 1 0 (λ (before : List ℕ). [])

pub sounds : (table : Table) → AllByRecursion IsSound (fields_of table)
sounds Requests = sound-requests
sounds Replies = sound-replies

-- the fields round one of them
pub round : (table : Table) (i : ℕ) → i < length (fields_of table) → fields_of table ≡ take i (fields_of table) ++ field_at table i ∷ drop (i + 1) (fields_of table)
round table i less =
    sym (take-append-drop i (fields_of table))
    ∙ ap (λ (x : List Field). take i (fields_of table) ++ x) (drop_more (fields_of table) i (field 1 0 (λ (before : List ℕ). [])) less)

front-more : (table : Table) (i : ℕ) → i < length (fields_of table) → take (i + 1) (fields_of table) ≡ take i (fields_of table) ++ field_at table i ∷ []
front-more table i less = take_more (fields_of table) i (field 1 0 (λ (before : List ℕ). [])) less

-- a byte more of a number
pub number-fits : (n have byte : ℕ) → n < 2 ^ (8 * have) → byte < 256 → n * 256 + byte < 2 ^ (8 * (have + 1))
number-fits n have byte fits small =
    let eights : 8 * (have + 1) ≡ 8 + 8 * have = omega arith in
    let power : 2 ^ (8 * (have + 1)) ≡ 256 * 2 ^ (8 * have) = ap (λ (k : ℕ). 2 ^ k) eights ∙ pow-add 2 8 (8 * have) in
    subst (λ (k : ℕ). n * 256 + byte < k) (sym power) (mul-add-lt n 256 byte (2 ^ (8 * have)) fits small)

pub number-range : (n have byte : ℕ) → n < 2 ^ (8 * have) → byte < 256 → have < 8 → n * 256 + byte < 2 ^ 64
number-range n have byte fits small less =
    omega (arith, number-fits n have byte fits small, pow_mono {i = 8 * (have + 1)} {j = 64} (omega (arith, less)))

digits-push : (n have byte : ℕ) → byte < 256 → digits (have + 1) (n * 256 + byte) ≡ digits have n ++ byte ∷ []
digits-push n have byte small =
    let high : (n * 256 + byte) / 256 ≡ n = div-mul-add n 256 byte small in
    let low : (n * 256 + byte) % 256 ≡ byte = mod-mul-add n 256 byte small in
    let one : have + 1 ≡ suc have = omega arith in
    rw one (rw (high, low) refl)

-- the bytes so far and one more
pub bytes-push : (h : Head) (byte : ℕ) → byte < 256 → spelled (take h.index (fields_of h.table)) (numbers_of h) ++ digits (h.have + 1) (h.number * 256 + byte) ≡ bytes_of h ++ byte ∷ []
bytes-push h byte small =
    ap (λ (x : List ℕ). spelled (take h.index (fields_of h.table)) (numbers_of h) ++ x) (digits-push h.number h.have byte small)
    ∙ sym (append_assoc (spelled (take h.index (fields_of h.table)) (numbers_of h)) (digits h.have h.number) (byte ∷ []))

pub step-bad : (h : Head) (byte why left : ℕ) → IsBegun h → byte < 256 → left ≡ (field_at h.table h.index).width - 1 - h.have →
    (Reaches ((field_at h.table h.index).spans (numbers_of h)) left (h.number * 256 + byte) → ⊥) → why ≡ (field_at h.table h.index).why → HeadSteps h byte (Bad why) h
step-bad h byte why left b small is none same =
    let t = h.table in
    let f = field_at h.table h.index in
    let sum : h.have + 1 + left ≡ f.width = omega (arith, is, b.have) in
    let begins = byte-none (fields_of t) (take h.index (fields_of t)) f (drop (h.index + 1) (fields_of t)) (numbers_of h) (h.have + 1) left (h.number * 256 + byte)
    (round t h.index b.index) b.head.taken sum (number-fits h.number h.have byte b.head.fits small) none in
    let size : length (bytes_of h) ≡ size_of (take h.index (fields_of t)) + h.have =
    omega (arith, length-append (spelled (take h.index (fields_of t)) (numbers_of h)) (digits h.have h.number), length-digits h.have h.number, length-spelled (take h.index (fields_of t)) [] (numbers_of h) b.head.taken) in
    let here : why_at (fields_of t) (length (bytes_of h)) ≡ f.why =
    ap (λ (x : List Field). why_at x (length (bytes_of h))) (round t h.index b.index)
    ∙ (ap (why_at (take h.index (fields_of t) ++ f ∷ drop (h.index + 1) (fields_of t))) size ∙ why-here (take h.index (fields_of t)) f (drop (h.index + 1) (fields_of t)) h.have b.have) in
    (subst (BeginsNoHead (fields_of t)) (bytes-push h byte small) begins, same ∙ sym here, refl)

-- what is begun is a part of a head
pub begun-part : (h : Head) → IsBegun h → IsHeadPart (fields_of h.table) (bytes_of h)
begun-part h b =
    let t = h.table in
    byte-part (fields_of t) (take h.index (fields_of t)) (field_at t h.index) (drop (h.index + 1) (fields_of t)) (numbers_of h) h.have ((field_at t h.index).width - h.have) h.number
    (sounds t) (round t h.index b.index) b.head.taken (omega (arith, b.have)) b.reaches (omega (arith, b.have))

-- a field of the table is sound
sound-at : (table : Table) (i : ℕ) → i < length (fields_of table) → IsSound (field_at table i)
sound-at table i less =
    (sound-behind (take i (fields_of table)) (field_at table i ∷ drop (i + 1) (fields_of table)) (subst (AllByRecursion IsSound) (round table i less) (sounds table))).0

-- a byte within a field
pub step-more : (h : Head) (byte left : ℕ) → IsBegun h → byte < 256 → left ≡ (field_at h.table h.index).width - 1 - h.have → 0 < left →
    Reaches ((field_at h.table h.index).spans (numbers_of h)) left (h.number * 256 + byte) →
    HeadSteps h byte More (record { table = h.table; numbers = h.numbers; index = h.index; number = h.number * 256 + byte; have = h.have + 1 })
step-more h byte left b small is more reach =
    let f = field_at h.table h.index in
    let less : left ≡ f.width - (h.have + 1) = omega (arith, is) in (
      record {
        head = record { long = b.head.long; taken = b.head.taken; fits = number-fits h.number h.have byte b.head.fits small };
        index = b.index;
        have = omega (arith, is, more);
        reaches = subst (λ (k : ℕ). Reaches (f.spans (numbers_of h)) k (h.number * 256 + byte)) less reach;
      },
      bytes-push h byte small,
    )

-- the numbers with the field that was just whole
pub field-taken : (h : Head) (byte : ℕ) → IsBegun h → byte < 256 → (field_at h.table h.index).width - 1 - h.have ≡ 0 →
    Reaches ((field_at h.table h.index).spans (numbers_of h)) 0 (h.number * 256 + byte) →
    Takes (take (h.index + 1) (fields_of h.table)) [] (take (h.index + 1) (set h.numbers h.index (h.number * 256 + byte)))
field-taken h byte b small last reach =
    let t = h.table in
    let f = field_at h.table h.index in
    let n = h.number * 256 + byte in
    let width : h.have + 1 ≡ f.width = omega (arith, last, b.have) in
    let fits : n < 2 ^ (8 * f.width) = subst (λ (k : ℕ). n < 2 ^ (8 * k)) width (number-fits h.number h.have byte b.head.fits small) in
    let joined : Takes (take h.index (fields_of t) ++ f ∷ []) [] (numbers_of h ++ n ∷ []) =
    takes-join (take h.index (fields_of t)) (f ∷ []) [] (numbers_of h) (n ∷ []) b.head.taken (fits, byte-last (f.spans (numbers_of h)) n reach, refl) in
    rw (front-more t h.index b.index, take_more_set h.numbers h.index n (omega (arith, b.head.long, b.index))) joined

pub field-bytes : (h : Head) (byte : ℕ) → IsBegun h → byte < 256 → (field_at h.table h.index).width - 1 - h.have ≡ 0 →
    spelled (take (h.index + 1) (fields_of h.table)) (take (h.index + 1) (set h.numbers h.index (h.number * 256 + byte))) ++ [] ≡ bytes_of h ++ byte ∷ []
field-bytes h byte b small last =
    let t = h.table in
    let f = field_at h.table h.index in
    let n = h.number * 256 + byte in
    let width : f.width ≡ h.have + 1 = omega (arith, last, b.have) in
    let done = take h.index (fields_of t) in
    let joined : spelled (done ++ f ∷ []) (numbers_of h ++ n ∷ []) ≡ spelled done (numbers_of h) ++ (digits f.width n ++ []) =
    spelled-join done (f ∷ []) [] (numbers_of h) (n ∷ []) b.head.taken in
    let whole : spelled (take (h.index + 1) (fields_of t)) (take (h.index + 1) (set h.numbers h.index n)) ≡ spelled (done ++ f ∷ []) (numbers_of h ++ n ∷ []) =
    rw (front-more t h.index b.index, take_more_set h.numbers h.index n (omega (arith, b.head.long, b.index))) refl in
    append-nil (spelled (take (h.index + 1) (fields_of t)) (take (h.index + 1) (set h.numbers h.index n)))
    ∙ (whole ∙ (joined ∙ (ap (λ (x : List ℕ). spelled done (numbers_of h) ++ x) (append-nil (digits f.width n) ∙ ap (λ (w : ℕ). digits w n) width) ∙ bytes-push h byte small)))

-- the last byte of a field that is not the last
pub step-field : (h : Head) (byte left : ℕ) → IsBegun h → byte < 256 → left ≡ (field_at h.table h.index).width - 1 - h.have → left ≤ 0 →
    Reaches ((field_at h.table h.index).spans (numbers_of h)) left (h.number * 256 + byte) → h.index + 1 < length (fields_of h.table) →
    HeadSteps h byte More (record { table = h.table; numbers = set h.numbers h.index (h.number * 256 + byte); index = h.index + 1; number = 0; have = 0 })
step-field h byte left b small is none reach less =
    let t = h.table in
    let f = field_at h.table h.index in
    let zero-left : left ≡ 0 = omega (arith, none) in
    let last : f.width - 1 - h.have ≡ 0 = sym is ∙ zero-left in
    let reach' : Reaches (f.spans (numbers_of h)) 0 (h.number * 256 + byte) = subst (λ (k : ℕ). Reaches (f.spans (numbers_of h)) k (h.number * 256 + byte)) zero-left reach in
    let numbers = set h.numbers h.index (h.number * 256 + byte) in
    let sound = sound-at t (h.index + 1) less in (
      record {
        head = record { long = omega (arith, length-set h.numbers h.index (h.number * 256 + byte), b.head.long); taken = field-taken h byte b small last reach'; fits = lit< tt };
        index = less;
        have = sound.wide;
        reaches = sound-reaches (field_at t (h.index + 1)) (take (h.index + 1) numbers) sound;
      },
      field-bytes h byte b small last,
    )

-- the last byte of the head
pub step-whole : (h : Head) (byte left : ℕ) → IsBegun h → byte < 256 → left ≡ (field_at h.table h.index).width - 1 - h.have → left ≤ 0 →
    Reaches ((field_at h.table h.index).spans (numbers_of h)) left (h.number * 256 + byte) → length (fields_of h.table) ≤ h.index + 1 →
    HeadSteps h byte Whole (record { table = h.table; numbers = set h.numbers h.index (h.number * 256 + byte); index = h.index + 1; number = 0; have = 0 })
step-whole h byte left b small is none reach end =
    let t = h.table in
    let f = field_at h.table h.index in
    let zero-left : left ≡ 0 = omega (arith, none) in
    let last : f.width - 1 - h.have ≡ 0 = sym is ∙ zero-left in
    let reach' : Reaches (f.spans (numbers_of h)) 0 (h.number * 256 + byte) = subst (λ (k : ℕ). Reaches (f.spans (numbers_of h)) k (h.number * 256 + byte)) zero-left reach in (
      record {
        head = record { long = omega (arith, length-set h.numbers h.index (h.number * 256 + byte), b.head.long); taken = field-taken h byte b small last reach'; fits = lit< tt };
        index = omega (arith, end, b.index);
        have = refl;
        number = refl;
      },
      field-bytes h byte b small last,
    )

-- one field more of a row of numbers
pub takes-next : (table : Table) (numbers : List ℕ) (i : ℕ) → i < length (fields_of table) → i < length numbers → Takes (take i (fields_of table)) [] (take i numbers) →
    Reaches ((field_at table i).spans (take i numbers)) 0 (get_or numbers i 0) → Takes (take (i + 1) (fields_of table)) [] (take (i + 1) numbers)
takes-next table numbers i less long taken reach =
    let f = field_at table i in
    let n = get_or numbers i 0 in
    let one = byte-last (f.spans (take i numbers)) n reach in
    let fits = proper-fits f.width (f.spans (take i numbers)) n ((sound-at table i less).proper (take i numbers)) one in
    rw (front-more table i less, take_more numbers i 0 long) (takes-join (take i (fields_of table)) (f ∷ []) [] (take i numbers) (n ∷ []) taken (fits, one, refl))
