-- What bytes make of a frame, in the words of the code.
use Rattle.std.proofs.Common.{◌≡◌, ◌≤◌, ◌<◌, ◌⊎◌, inl, inr, ℕ, ◌+◌, ◌-◌, ◌∷◌, List, [], ◌++◌, length, take, drop, set, slice_index, sym, ap, ◌∙◌, arith, append_assoc, append-nil, refl, subst, lt-ltb, le-ltb, if◌then◌else◌, Bool, length-take, length-drop, length-set, take_all, take-take, lit<}
use Rattle.std.proofs.Math.Seq.{take-add}
use Rattle.std.proofs.lemmas.List.{take_more_set}
use Rattle.frame_codec.specs.declared.frames.Request.{Request}
use Rattle.frame_codec.specs.declared.table.Table.TheVariants.{Requests}
use Rattle.frame_codec.specs.declared.head.Head.{Head}
use Rattle.frame_codec.specs.declared.head.HeadStep.TheVariants as heads
use Rattle.frame_codec.specs.declared.decoder.Step.{Step}
use Rattle.frame_codec.specs.declared.decoder.Step.TheVariants.{More, Whole, Bad}
use Rattle.frame_codec.specs.Rows.{Field, Takes, digits, spelled, why_at, IsHeadPart, BeginsNoHead}
use Rattle.frame_codec.specs.Grammar.{Grammar, text_of, IsFramed, IsFramePart, BeginsNoFrame}
use Rattle.frame_codec.specs.Frames.{requests, request_fields, request_numbers, IsScript}
use Rattle.frame_codec.specs.Heads.{fields_of, numbers_of, bytes_of, IsBegun, IsWhole, HeadSteps}
use Rattle.frame_codec.specs.Decoding.{Begun, rest_of, len_of, IsAsking, Finishes, StaysWithin, EndsFrame, LeavesFrames, Steps, Feeds, Reads}
use Rattle.frame_codec.proofs.Grammar.{IsExact, framed-part, framed-string, framed-whole, framed-none}
use Rattle.frame_codec.proofs.Scripts.{script-none}
use Rattle.frame_codec.proofs.Requests.{exact, short-string}
use Rattle.frame_codec.proofs.Heads.{begun-part}

-- what contracts see of a decoder
abbrev pub begun : Head → ℕ → List ℕ → ℕ → Begun
begun h got string offset = record { rest = rest_of h got string; string = take got string; offset = offset }

-- the rest, within a head and behind it
pub rest-head : (h : Head) (got : ℕ) (string : List ℕ) → h.index < length (fields_of h.table) → rest_of h got string ≡ bytes_of h
rest-head h got string less =
    ap (λ (b : Bool). bytes_of h ++ (if b then [] else take got string)) (lt-ltb h.index (length (fields_of h.table)) less) ∙ append-nil (bytes_of h)

pub rest-whole : (h : Head) (got : ℕ) (string : List ℕ) → h.index ≡ length (fields_of h.table) → rest_of h got string ≡ bytes_of h ++ take got string
rest-whole h got string end =
    ap (λ (b : Bool). bytes_of h ++ (if b then [] else take got string)) (le-ltb h.index (length (fields_of h.table)) (omega (arith, end)))

-- a whole head
whole-fields : (h : Head) → IsWhole h → take h.index (fields_of h.table) ≡ fields_of h.table
whole-fields h w = take_all h.index (fields_of h.table) (omega (arith, w.index))

pub whole-takes : (h : Head) → IsWhole h → Takes (fields_of h.table) [] (numbers_of h)
whole-takes h w = subst (λ (x : List Field). Takes x [] (numbers_of h)) (whole-fields h w) w.head.taken

pub whole-bytes : (h : Head) → IsWhole h → bytes_of h ≡ spelled (fields_of h.table) (numbers_of h)
whole-bytes h w =
    let none : digits h.have h.number ≡ [] = rw w.have refl in
    ap (λ (x : List ℕ). spelled (take h.index (fields_of h.table)) (numbers_of h) ++ x) none
    ∙ (append-nil (spelled (take h.index (fields_of h.table)) (numbers_of h)) ∙ ap (λ (x : List Field). spelled x (numbers_of h)) (whole-fields h w))

-- a head that is begun is a part of a frame, and so is a whole one with a front of its string
head-frame : (g : Grammar Request) (h : Head) → IsExact g → fields_of h.table ≡ g.fields → IsBegun h → IsFramePart g (bytes_of h)
head-frame g h exact is b = framed-part g (bytes_of h) exact (subst (λ (f : List Field). IsHeadPart f (bytes_of h)) is (begun-part h b))

whole-text : (g : Grammar Request) (h : Head) → fields_of h.table ≡ g.fields → IsWhole h → bytes_of h ≡ spelled g.fields (numbers_of h)
whole-text g h is w = whole-bytes h w ∙ ap (λ (f : List Field). spelled f (numbers_of h)) is

string-frame : (g : Grammar Request) (h : Head) (front : List ℕ) → IsExact g → fields_of h.table ≡ g.fields → IsWhole h → length front < len_of g h → IsFramePart g (bytes_of h ++ front)
string-frame g h front exact is w less =
    let taken : Takes g.fields [] (numbers_of h) = subst (λ (f : List Field). Takes f [] (numbers_of h)) is (whole-takes h w) in
    subst (λ (x : List ℕ). IsFramePart g (x ++ front)) (sym (whole-text g h is w)) (framed-string g (numbers_of h) front exact taken less)

pub asked-fields : (h : Head) → h.table ≡ Requests → fields_of h.table ≡ requests.fields
asked-fields h table = ap fields_of table

-- what is begun is a part of a frame
rest-part : (h : Head) (got : ℕ) (string : List ℕ) → h.table ≡ Requests → got ≤ length string → IsBegun h ⊎ (IsWhole h × (got < len_of requests h)) → IsFramePart requests (rest_of h got string)
rest-part h got string table room (inl b) =
    subst (IsFramePart requests) (sym (rest-head h got string b.index)) (head-frame requests h exact (asked-fields h table) b)
rest-part h got string table room (inr w) =
    subst (IsFramePart requests) (sym (rest-whole h got string w.0.index))
    (string-frame requests h (take got string) exact (asked-fields h table) w.0 (omega (arith, length-take got string, room, w.1)))

pub asking-part : (h : Head) (got : ℕ) (string : List ℕ) → length string ≡ 4096 → IsAsking h got → IsFramePart requests (rest_of h got string)
asking-part h got string long asking = rest-part h got string asking.table (omega (arith, asking.room, long)) asking.head

-- a head that is not whole is begun, and one that is has a string that is not
pub begun-within : (h : Head) (got : ℕ) → h.index < length (fields_of h.table) → IsBegun h ⊎ (IsWhole h × (got < len_of requests h)) → IsBegun h
begun-within h got less (inl b) = b
begun-within h got less (inr w) = absurd (omega (arith, less, w.0.index))

pub whole-behind : (h : Head) (got : ℕ) → (h.index < length (fields_of h.table) → ⊥) → IsBegun h ⊎ (IsWhole h × (got < len_of requests h)) → IsWhole h × (got < len_of requests h)
whole-behind h got past (inl b) = absurd (past b.index)
whole-behind h got past (inr w) = w

-- no string is longer than there is room for
pub string-room : (h : Head) → h.table ≡ Requests → IsWhole h → len_of requests h ≤ 4096
string-room h table w = short-string (numbers_of h) (subst (λ (f : List Field). Takes f [] (numbers_of h)) (asked-fields h table) (whole-takes h w))

module _ (h new : Head) (got : ℕ) (string : List ℕ) (offset byte : ℕ) (less : h.index < length (fields_of h.table)) where
  -- a byte within a head
  pub decode-more : new.table ≡ Requests → HeadSteps h byte heads.More new → Steps (begun h got string offset) byte More (begun new got string (offset + 1))
  decode-more table step =
      let rest = rest-head h got string less in
      let same : bytes_of new ≡ rest_of h got string ++ byte ∷ [] = step.1 ∙ ap (λ (x : List ℕ). x ++ byte ∷ []) (sym rest) in
      record {
        part = subst (IsFramePart requests) same (head-frame requests new exact (asked-fields new table) step.0);
        rest = rest-head new got string step.0.index ∙ same;
      }

  -- a byte with which no head goes on
  pub decode-bad : (why : ℕ) → h.table ≡ Requests → IsBegun h → HeadSteps h byte (heads.Bad why) new → Steps (begun h got string offset) byte (Bad offset why) (begun new got string (offset + 1))
  decode-bad why table b step =
      let is = asked-fields h table in
      let rest = rest-head h got string less in
      let none = framed-none requests (bytes_of h ++ byte ∷ []) (subst (λ (f : List Field). BeginsNoHead f (bytes_of h ++ byte ∷ [])) is step.0) in (
        refl,
        record {
          part = subst (IsFramePart requests) (sym rest) (head-frame requests h exact is b);
          none = subst (λ (x : List ℕ). BeginsNoFrame requests (x ++ byte ∷ [])) (sym rest) none;
          number = step.1 ∙ (ap (λ (f : List Field). why_at f (length (bytes_of h))) is ∙ ap (λ (x : List ℕ). why_at request_fields (length x)) (sym rest));
          rest = ap (λ (x : Head). rest_of x got string) step.2;
        },
      )

-- what bytes behind a whole head make of it: a part of a frame, or its end
abbrev pub Goes : List ℕ → Step → Begun → Type 0
Goes b More new = StaysWithin requests b new
Goes b (Whole r) new = EndsFrame requests b r new
Goes b (Bad at why) new = ⊥

-- the string so far, and what `finish` makes of it
pub goes-on : (h new : Head) (got : ℕ) (string b : List ℕ) (offset : ℕ) (step : Step) → h.table ≡ Requests → IsWhole h → length (take got string) ≡ got → got ≤ len_of requests h →
    b ≡ bytes_of h ++ take got string → Finishes requests h got step new → Goes b step (begun new got string offset)
goes-on h new got string b offset More table w long most e end = record {
  part = subst (IsFramePart requests) (sym e) (string-frame requests h (take got string) exact (asked-fields h table) w (omega (arith, long, end.0)));
  rest = ap (λ (x : Head). rest_of x got string) end.1 ∙ (rest-whole h got string w.index ∙ sym e);
}
goes-on h new got string b offset (Whole r) table w long most e end =
    let is = asked-fields h table in
    let taken : Takes request_fields [] (numbers_of h) = subst (λ (f : List Field). Takes f [] (numbers_of h)) is (whole-takes h w) in
    let text : b ≡ spelled request_fields (numbers_of h) ++ take got string = e ∙ ap (λ (x : List ℕ). x ++ take got string) (whole-text requests h is w) in
    let whole = framed-whole requests (numbers_of h) (take got string) exact taken (omega (arith, long, most, end.1)) in
    let same : record { head = requests.head (numbers_of h); string = take got string } ≡ record { head = r; string = take got string } =
    ap (λ (q : Request). record { head = q; string = take got string }) (sym end.0) in
    record {
      framed = subst (IsFramed requests) same whole.0;
      bytes = text ∙ (whole.1 ∙ ap (text_of requests) same);
      rest = rest-head new got string end.2.index ∙ end.3;
    }
goes-on h new got string b offset (Bad at why) table w long most e end = absurd end

-- a push, and a feed, of bytes that go on so
pub goes-step : (old new : Begun) (byte : ℕ) (step : Step) → Goes (old.rest ++ byte ∷ []) step new → Steps old byte step new
goes-step old new byte More goes = goes
goes-step old new byte (Whole r) goes = goes
goes-step old new byte (Bad at why) goes = absurd goes

pub goes-feed : (old new : Begun) (bytes : List ℕ) (count : ℕ) (step : Step) → 0 < count → count ≡ length bytes → Goes (old.rest ++ bytes) step new → Feeds old bytes count step new
goes-feed old new bytes count More some is goes = (is, goes)
goes-feed old new bytes count (Whole r) some is goes =
    (some, subst (λ (x : List ℕ). EndsFrame requests (old.rest ++ x) r new) (sym (take_all count bytes (omega (arith, is)))) goes)
goes-feed old new bytes count (Bad at why) some is goes = absurd goes

-- the last byte of a head
pub decode-head : (h mid new : Head) (got : ℕ) (string : List ℕ) (offset byte : ℕ) (step : Step) → h.index < length (fields_of h.table) → mid.table ≡ Requests →
    HeadSteps h byte heads.Whole mid → Finishes requests mid 0 step new → Steps (begun h got string offset) byte step (begun new 0 string (offset + 1))
decode-head h mid new got string offset byte step less table whole end =
    goes-step (begun h got string offset) (begun new 0 string (offset + 1)) byte step
    (goes-on mid new 0 string (rest_of h got string ++ byte ∷ []) (offset + 1) step table whole.0 refl (omega arith)
    (ap (λ (x : List ℕ). x ++ byte ∷ []) (rest-head h got string less) ∙ (sym whole.1 ∙ sym (append-nil (bytes_of mid)))) end)

-- bytes of a string
pub decode-string : (h new : Head) (got count : ℕ) (string string' bytes : List ℕ) (offset : ℕ) (step : Step) → h.table ≡ Requests → IsWhole h → got + count ≤ len_of requests h →
    got + count ≤ length string' → take (got + count) string' ≡ take got string ++ bytes → Finishes requests h (got + count) step new →
    Goes (rest_of h got string ++ bytes) step (begun new (got + count) string' offset)
decode-string h new got count string string' bytes offset step table w most room front end =
    goes-on h new (got + count) string' (rest_of h got string ++ bytes) offset step table w (omega (arith, length-take (got + count) string', room)) most
    (ap (λ (x : List ℕ). x ++ bytes) (rest-whole h got string w.index) ∙ (append_assoc (bytes_of h) (take got string) bytes ∙ ap (λ (x : List ℕ). bytes_of h ++ x) (sym front))) end

pub decode-byte : (h new : Head) (got : ℕ) (string : List ℕ) (offset byte : ℕ) (step : Step) → h.table ≡ Requests → IsWhole h → got < len_of requests h → got < length string →
    Finishes requests h (got + 1) step new → Steps (begun h got string offset) byte step (begun new (got + 1) (set string got byte) (offset + 1))
decode-byte h new got string offset byte step table w less room end =
    goes-step (begun h got string offset) (begun new (got + 1) (set string got byte) (offset + 1)) byte step
    (decode-string h new got 1 string (set string got byte) (byte ∷ []) (offset + 1) step table w (omega (arith, less)) (omega (arith, length-set string got byte, room)) (take_more_set string got byte room) end)

-- bytes of a string, as many as there are or are wanted
pub feed-string : (old : Begun) (h new : Head) (got count : ℕ) (string string' bytes : List ℕ) (offset : ℕ) (step : Step) → rest_of h got string ≡ old.rest → h.table ≡ Requests → IsWhole h →
    0 < count → count ≤ length bytes → got + count ≤ len_of requests h → got + count ≤ length string' → take (got + length (take count bytes)) string' ≡ take got string ++ take count bytes →
    Finishes requests h (got + count) step new → Feeds old (take count bytes) count step (begun new (got + count) string' offset)
feed-string old h new got count string string' bytes offset step rest table w some most fits room front end =
    let len : length (take count bytes) ≡ count = omega (arith, length-take count bytes, most) in
    let front' : take (got + count) string' ≡ take got string ++ take count bytes = ap (λ (n : ℕ). take (got + n) string') (sym len) ∙ front in
    goes-feed old (begun new (got + count) string' offset) (take count bytes) count step some (sym len)
    (subst (λ (x : List ℕ). Goes (x ++ take count bytes) step (begun new (got + count) string' offset)) rest
    (decode-string h new got count string string' (take count bytes) offset step table w fits room front' end))

-- a head of which there is no byte yet
none-begun : (h : Head) → IsBegun h → h.index ≡ 0 → h.have ≡ 0 → bytes_of h ≡ []
none-begun h b index have = rw (index, have) refl

pub rest-none : (h : Head) (got : ℕ) (string : List ℕ) → h.table ≡ Requests → IsBegun h ⊎ (IsWhole h × (got < len_of requests h)) → h.index ≡ 0 → h.have ≡ 0 → IsBegun h × (rest_of h got string ≡ [])
rest-none h got string table (inl b) index have = (b, rest-head h got string b.index ∙ none-begun h b index have)
rest-none h got string table (inr w) index have =
    let eight : length (fields_of h.table) ≡ 8 = ap (λ (f : List Field). length f) (asked-fields h table) in
    absurd (omega (arith, w.0.index, index, eight))

-- a whole head at once, whose string is to come
pub feed-head : (old : Begun) (h : Head) (string bytes : List ℕ) (offset : ℕ) (r : Request) → old.rest ≡ [] → 16 ≤ length bytes → 0 < r.len → h.table ≡ Requests → IsWhole h →
    numbers_of h ≡ request_numbers r → take 16 bytes ≡ spelled request_fields (request_numbers r) → Feeds old (take 16 bytes) 16 More (begun h 0 string offset)
feed-head old h string bytes offset r none long some table w numbers text =
    let is = asked-fields h table in
    let same : take 16 bytes ≡ bytes_of h = text ∙ (ap (λ (ns : List ℕ). spelled request_fields ns) (sym numbers) ∙ sym (whole-text requests h is w)) in
    let asks : len_of requests h ≡ r.len = ap (λ (ns : List ℕ). slice_index ns 7) numbers in
    let rest : rest_of h 0 string ≡ old.rest ++ take 16 bytes = rest-whole h 0 string w.index ∙ (append-nil (bytes_of h) ∙ (sym same ∙ ap (λ (x : List ℕ). x ++ take 16 bytes) (sym none))) in
    let part : IsFramePart requests (rest_of h 0 string) = subst (IsFramePart requests) (sym (rest-whole h 0 string w.index)) (string-frame requests h [] exact is w (omega (arith, asks, some))) in
    goes-feed old (begun h 0 string offset) (take 16 bytes) 16 More (lit< tt) (omega (arith, length-take 16 bytes, long)) (record {
      part = subst (IsFramePart requests) rest part;
      rest = rest;
    })

-- nothing has been read yet
pub fresh-reads : (h : Head) (string : List ℕ) → h.table ≡ Requests → IsBegun h → bytes_of h ≡ [] → Reads [] [] (begun h 0 string 0)
fresh-reads h string table b empty =
    let rest : rest_of h 0 string ≡ [] = rest-head h 0 string b.index ∙ empty in
    let part : IsFramePart requests [] = subst (IsFramePart requests) empty (head-frame requests h exact (asked-fields h table) b) in
    record { script = subst (λ (x : List ℕ). IsScript [] [] x) (sym rest) (script-none (text_of requests) (IsFramed requests) part); offset = refl }

-- what a feed has read of a piece
pub record IsFed (old mid : Begun) (bytes : List ℕ) (i : ℕ) : Type 0 where
  pub part : IsFramePart requests mid.rest
  pub rest : mid.rest ≡ old.rest ++ take i bytes
  pub offset : mid.offset ≡ old.offset + i
  pub within : i ≤ length bytes

pub feed-none : (h : Head) (got : ℕ) (string : List ℕ) (old : Begun) (offset : ℕ) (bytes : List ℕ) → length string ≡ 4096 → IsAsking h got → begun h got string offset ≡ old → IsFed old old bytes 0
feed-none h got string old offset bytes long asking view = record {
  part = subst (λ (d : Begun). IsFramePart requests d.rest) view (asking-part h got string long asking);
  rest = sym (append-nil old.rest);
  offset = omega arith;
  within = omega arith;
}

-- the bytes behind a place, which a feed of some of them took
abbrev pub behind : List ℕ → ℕ → List ℕ
behind bytes i = take (length bytes - i) (drop i bytes)

module _ (old mid new : Begun) (bytes : List ℕ) (i count : ℕ) (fed : IsFed old mid bytes i) (most : count ≤ length (behind bytes i)) where
  whole-behind-is : behind bytes i ≡ drop i bytes
  whole-behind-is = take_all (length bytes - i) (drop i bytes) (omega (arith, length-drop i bytes))

  long : i + count ≤ length bytes
  long = omega (arith, most, fed.within, length-take (length bytes - i) (drop i bytes), length-drop i bytes)

  joined : (n : ℕ) → mid.rest ++ take n (behind bytes i) ≡ old.rest ++ take (i + n) bytes
  joined n =
      ap (λ (x : List ℕ). x ++ take n (behind bytes i)) fed.rest
      ∙ (append_assoc old.rest (take i bytes) (take n (behind bytes i))
      ∙ ap (λ (x : List ℕ). old.rest ++ x) (ap (λ (x : List ℕ). take i bytes ++ take n x) whole-behind-is ∙ sym (take-add i n bytes)))

  some-len : length (take count (behind bytes i)) ≡ count
  some-len = omega (arith, length-take count (behind bytes i), most)

  pub fed-more : new.offset ≡ mid.offset + count → Feeds mid (take count (behind bytes i)) count More new → IsFed old new bytes (i + count)
  fed-more offset feeds = record {
    part = subst (IsFramePart requests) (sym feeds.1.rest) feeds.1.part;
    rest = feeds.1.rest ∙ joined count;
    offset = omega (arith, offset, fed.offset);
    within = long;
  }

  pub fed-end : (step : Step) → (step ≡ More → ⊥) → 0 < count → Feeds mid (take count (behind bytes i)) count step new → Feeds old bytes (i + count) step new
  fed-end More ended some feeds = absurd (ended refl)
  fed-end (Whole r) ended some feeds =
      let all : take count (take count (behind bytes i)) ≡ take count (behind bytes i) = take_all count (take count (behind bytes i)) (omega (arith, some-len)) in (
        omega (arith, some),
        subst (λ (x : List ℕ). EndsFrame requests x r new) (ap (λ (x : List ℕ). mid.rest ++ x) all ∙ joined count) feeds.1,
      )
  fed-end (Bad at why) ended some (last, is, place, leaves) =
      let front : mid.rest ++ take last (take count (behind bytes i)) ≡ old.rest ++ take (i + last) bytes =
      ap (λ (x : List ℕ). mid.rest ++ x) (take-take last count (behind bytes i) (omega (arith, is))) ∙ joined last in
      let all : mid.rest ++ take count (take count (behind bytes i)) ≡ old.rest ++ take (i + count) bytes =
      ap (λ (x : List ℕ). mid.rest ++ x) (take_all count (take count (behind bytes i)) (omega (arith, some-len))) ∙ joined count in (
        i + last,
        omega (arith, is),
        omega (arith, place, fed.offset),
        subst (λ (x : List ℕ). LeavesFrames requests (old.rest ++ take (i + last) bytes) x why new) all
            (subst (λ (x : List ℕ). LeavesFrames requests x (mid.rest ++ take count (take count (behind bytes i))) why new) front leaves),
      )

-- all bytes were taken within a frame
pub fed-all : (old new : Begun) (bytes : List ℕ) (i : ℕ) → IsFed old new bytes i → length bytes ≤ i → Feeds old bytes i More new
fed-all old new bytes i fed end =
    let all : i ≡ length bytes = omega (arith, fed.within, end) in
    let whole : new.rest ≡ old.rest ++ bytes = fed.rest ∙ ap (λ (x : List ℕ). old.rest ++ x) (take_all i bytes end) in
    (all, record { part = subst (IsFramePart requests) whole fed.part; rest = whole })
