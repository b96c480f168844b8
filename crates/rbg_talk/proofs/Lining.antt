-- How `ask` goes on by a line, and how it ends.
use Rattle.std.proofs.Common.{◌≡◌, ◌<◌, ◌≤◌, ℕ, ◌+◌, ◌∷◌, List, [], ◌++◌, length, take, ◌^◌, Bool, true, false, cond, sym, ap, ◌∙◌, arith, length-append, append_assoc, append-nil, add-zero, refl, subst, inl, inr, lt-ltb}
use Rattle.std.specs.declared.option.Option.{Option}
use Rattle.std.specs.Prelude.{Some, None, Result, Ok, Err}
use Rattle.std.specs.List.{All, slice_split, onto_first}
use Rattle.std.specs.Io.KnownBytes.{Appends, Consumes, Keeps, IsAtEnd}
use Rattle.std.proofs.KnownBytes.{Appends-trans, Appends-nil, Consumes-nil, Consumes-trans, Consumes-kept}
use Rattle.std.proofs.lemmas.List.Splits.{slice_split_none, slice_split_at, slice_split-cons_no}
use Rattle.std.proofs.lemmas.List.Elements.{All-nil, All-head, All-tail, All-push}
use Rattle.rbg_bytes.specs.Streams.{AppendsFront}
use Rattle.frame_codec.specs.Frames.{Asked}
use Rattle.rbg_talk.specs.declared.grammar.Fault.{Fault}
use Rattle.rbg_talk.specs.declared.grammar.Fault.TheVariants.{LongLine}
use Rattle.rbg_talk.specs.declared.ask.Asker.{Asker}
use Rattle.rbg_talk.specs.declared.status.Status.{Status}
use Rattle.rbg_talk.specs.declared.status.Status.TheVariants.{Done, Line, ReadFault, WriteFault, Quota}
use Rattle.rbg_talk.specs.Lines.{is_line_feed, lines, words}
use Rattle.rbg_talk.specs.Calls.{line_says, said}
use Rattle.rbg_talk.specs.Asking.{Wrong, then_calls, then_fault, calls, first_fault, frame_behind, frames_behind, frames}
use Rattle.rbg_talk.specs.Ends.{StopsBehindLines, AskEnds, most_bytes}
use Rattle.rbg_talk.specs.Causes.{IsWriteEnd}
use Rattle.rbg_talk.specs.Asker.{line_of, listed, text_behind, LineStops, Passed, WritesSaid, EndsLine, Begins, Stands, StandsAt, Stops, Asks}
use Rattle.rbg_talk.proofs.Pieces.{taken_still}

-- ---- lines one after another

no-fault : (n : ℕ) (s : Result (Option Asked) Fault) (f : Option Wrong) (a b c : List Asked) → then_fault n s f ≡ None → (f ≡ None → a ≡ b ++ c)
    → then_calls s a ≡ then_calls s b ++ c
no-fault n (Ok None) f a b c none same = same none
no-fault n (Ok (Some x)) f a b c none same = ap (λ (cs : List Asked). x ∷ cs) (same none)
no-fault n (Err why) f a b c none same = absurd cc

-- the calls of lines without a fault stand before those of the lines behind
pub calls-append : (n : ℕ) (ls more : List (List ℕ)) → first_fault n ls ≡ None → calls (ls ++ more) ≡ calls ls ++ calls more
calls-append n [] more none = refl
calls-append n (l ∷ ls) more none =
    no-fault n (line_says l) (first_fault (n + 1) ls) (calls (ls ++ more)) (calls ls) (calls more) none (λ later. calls-append (n + 1) ls more later)

later-fault : (n : ℕ) (s : Result (Option Asked) Fault) (f g h : Option Wrong) → then_fault n s f ≡ None → (f ≡ None → g ≡ h) → then_fault n s g ≡ h
later-fault n (Ok said) f g h none same = same none
later-fault n (Err why) f g h none same = absurd cc

-- behind lines without a fault the first fault is that of the lines behind
pub fault-append : (n : ℕ) (ls more : List (List ℕ)) → first_fault n ls ≡ None → first_fault n (ls ++ more) ≡ first_fault (n + length ls) more
fault-append n [] more none = ap (λ (k : ℕ). first_fault k more) (sym (add-zero n))
fault-append n (l ∷ ls) more none =
    let at : (n + 1) + length ls ≡ n + length (l ∷ ls) = omega arith in
    later-fault n (line_says l) (first_fault (n + 1) ls) (first_fault (n + 1) (ls ++ more)) (first_fault (n + length (l ∷ ls)) more) none
    (λ later. fault-append (n + 1) ls more later ∙ ap (λ (k : ℕ). first_fault k more) at)

-- the frames of calls behind others
pub frames-append : (k : ℕ) (cs bs : List Asked) → frames_behind k (cs ++ bs) ≡ frames_behind k cs ++ frames_behind (k + length cs) bs
frames-append k [] bs = ap (λ (n : ℕ). frames_behind n bs) (sym (add-zero k))
frames-append k (a ∷ cs) bs =
    let at : (k + 1) + length cs ≡ k + length (a ∷ cs) = omega arith in
    ap (λ (x : List ℕ). frame_behind k a ++ x) (frames-append (k + 1) cs bs ∙ ap (λ (n : ℕ). frames_behind (k + 1) cs ++ frames_behind n bs) at)
    ∙ sym (append_assoc (frame_behind k a) (frames_behind (k + 1) cs) (frames_behind (k + length (a ∷ cs)) bs))

one-more : (k : ℕ) (said : Option Asked) → frames_behind k (listed said) ≡ text_behind k said
one-more k None = refl
one-more k (Some a) = append-nil (frame_behind k a)

-- one call more, if there is one
frames-listed : (cs : List Asked) (said : Option Asked) → frames (cs ++ listed said) ≡ frames cs ++ text_behind (length cs) said
frames-listed cs said = frames-append 0 cs (listed said) ∙ ap (λ (x : List ℕ). frames cs ++ x) (one-more (0 + length cs) said ∙ ap (λ (k : ℕ). text_behind k said) (omega arith))

-- what a line says alone
said-alone : (l : List ℕ) (said : Option Asked) → line_says l ≡ Ok said → calls (l ∷ []) ≡ listed said
said-alone l None is = ap (λ (s : Result (Option Asked) Fault). then_calls s []) is
said-alone l (Some a) is = ap (λ (s : Result (Option Asked) Fault). then_calls s []) is

-- ---- what stands behind the lines that were taken

module _ (before : Option (List ℕ)) (taken line : List ℕ) (number count bytes : ℕ) (out : Option (List ℕ)) (st : Stands before taken line number count bytes out) where
  -- the line that is begun ends here
  cut_here : (more : List ℕ) → lines (taken ++ 10 ∷ more) ≡ st.ended ++ line ∷ lines more
  cut_here more = st.cut (10 ∷ more) ∙ ap (λ (ls : List (List ℕ)). st.ended ++ ls) (slice_split_at is_line_feed line 10 more st.begun refl)

  -- the line that is begun is the last
  cut_last : lines taken ≡ st.ended ++ line ∷ []
  cut_last =
      ap lines (sym (append-nil taken)) ∙ (st.cut [] ∙ ap (λ (ls : List (List ℕ)). st.ended ++ ls) (ap lines (append-nil line) ∙ slice_split_none is_line_feed line st.begun))

  moved : (c : ℕ) (more : List ℕ) → (taken ++ c ∷ []) ++ more ≡ taken ++ c ∷ more
  moved c more = append_assoc taken (c ∷ []) more

  -- the first fault behind the ended lines
  faulty : (why : Fault) (l : List ℕ) (later : List (List ℕ)) → line_says l ≡ Err why → first_fault 1 (st.ended ++ l ∷ later) ≡ Some (record { number = number; fault = why })
  faulty why l later is =
      let at : 1 + length st.ended ≡ number = omega (arith, st.number) in
      fault-append 1 st.ended (l ∷ later) st.sound
      ∙ (ap (λ (s : Result (Option Asked) Fault). then_fault (1 + length st.ended) s (first_fault (1 + length st.ended + 1) later)) is
      ∙ ap (λ (n : ℕ). Some (record { number = n; fault = why })) at)

  -- its calls are those of the ended lines
  faulty_calls : (why : Fault) (l : List ℕ) (later : List (List ℕ)) → line_says l ≡ Err why → calls (st.ended ++ l ∷ later) ≡ calls st.ended
  faulty_calls why l later is =
      calls-append 1 st.ended (l ∷ later) st.sound
      ∙ (ap (λ (s : Result (Option Asked) Fault). calls st.ended ++ then_calls s (calls later)) is ∙ append-nil (calls st.ended))

  -- a line that says something stands among those that ended
  sound_more : (said : Option Asked) → line_says line ≡ Ok said → first_fault 1 (st.ended ++ line ∷ []) ≡ None
  sound_more said is =
      fault-append 1 st.ended (line ∷ []) st.sound
      ∙ ap (λ (s : Result (Option Asked) Fault). then_fault (1 + length st.ended) s (first_fault (1 + length st.ended + 1) [])) is

  calls_more : (said : Option Asked) → line_says line ≡ Ok said → calls (st.ended ++ line ∷ []) ≡ calls st.ended ++ listed said
  calls_more said is = calls-append 1 st.ended (line ∷ []) st.sound ∙ ap (λ (cs : List Asked). calls st.ended ++ cs) (said-alone line said is)

  text_more : (said : Option Asked) (out' : Option (List ℕ)) → line_says line ≡ Ok said → Appends out out' (text_behind count said)
      → Appends before out' (frames (calls (st.ended ++ line ∷ [])))
  text_more said out' is text =
      let here : text_behind count said ≡ text_behind (length (calls st.ended)) said = ap (λ (k : ℕ). text_behind k said) st.count in
      subst (λ (x : List ℕ). Appends before out' x)
      (ap (λ (x : List ℕ). frames (calls st.ended) ++ x) here ∙ (sym (frames-listed (calls st.ended) said) ∙ ap frames (sym (calls_more said is))))
      (Appends-trans before out out' (frames (calls st.ended)) (text_behind count said) st.text text)

  -- a line feed: the next line is begun
  pub next_line : (said : Option Asked) (out' : Option (List ℕ)) → line_says line ≡ Ok said → Appends out out' (text_behind count said)
      → Stands before (taken ++ 10 ∷ []) [] (number + 1) (count + length (listed said)) (bytes + 1) out'
  next_line said out' is text = record {
    ended = st.ended ++ line ∷ [];
    cut = λ more. ap lines (moved 10 more) ∙ (cut_here more ∙ sym (append_assoc st.ended (line ∷ []) (lines more)));
    begun = All-nil (λ (c : ℕ). is_line_feed c ≡ false);
    sound = sound_more said is;
    number = omega (arith, st.number, length-append st.ended (line ∷ []));
    count = ap (λ (k : ℕ). k + length (listed said)) st.count ∙ (sym (length-append (calls st.ended) (listed said)) ∙ ap length (sym (calls_more said is)));
    bytes = omega (arith, st.bytes, length-append taken (10 ∷ []));
    text = text_more said out' is text;
  }

  -- another byte: the line goes on
  pub next_byte : (c : ℕ) → is_line_feed c ≡ false → Stands before (taken ++ c ∷ []) (line ++ c ∷ []) number count (bytes + 1) out
  next_byte c other = record {
    ended = st.ended;
    cut = λ more. ap lines (moved c more) ∙ (st.cut (c ∷ more) ∙ ap (λ (l : List ℕ). st.ended ++ lines l) (sym (append_assoc line (c ∷ []) more)));
    begun = All-push (λ (x : ℕ). is_line_feed x ≡ false) line c st.begun other;
    sound = st.sound;
    number = st.number;
    count = st.count;
    bytes = omega (arith, st.bytes, length-append taken (c ∷ []));
    text = st.text;
  }

  -- it ends at a faulty line, which begins with the bytes b behind the ended lines, whatever follows
  stops_faulty : (why : Fault) (b : List ℕ)
      → ((more : List ℕ) → (l : List ℕ) × (later : List (List ℕ)) × (lines (b ++ more) ≡ st.ended ++ l ∷ later) × (line_says l ≡ Err why))
      → Stops before b out (Line number why)
  stops_faulty why b faults = (
    frames (calls st.ended),
    st.text,
    λ more left. (
      inr (λ further.
          let f = faults (more ++ further) in
          ap (λ (x : List ℕ). first_fault 1 (lines x)) (append_assoc b more further) ∙ (ap (first_fault 1) f.2 ∙ faulty why f.0 f.1 f.3)),
      (let f = faults more in ap frames (sym (ap calls f.2 ∙ faulty_calls why f.0 f.1 f.3))),
    ),
  )

  -- at a line feed
  pub stops_wrong : (why : Fault) → line_says line ≡ Err why → Stops before (taken ++ 10 ∷ []) out (Line number why)
  stops_wrong why is = stops_faulty why (taken ++ 10 ∷ []) (λ more. (line, lines more, ap lines (moved 10 more) ∙ cut_here more, is))

  -- where the frame of its call could not be written
  pub stops_written : (a : Asked) (out' : Option (List ℕ)) (fails : ℕ) → line_says line ≡ Ok (Some a) → AppendsFront out out' (frame_behind count a)
      → Stops before (taken ++ 10 ∷ []) out' (WriteFault fails)
  stops_written a out' fails is front = (
    frames (calls st.ended) ++ front.0,
    Appends-trans before out out' (frames (calls st.ended)) front.0 st.text front.3,
    λ more left. (
      calls st.ended,
      calls (lines more),
      a,
      ap calls (ap lines (moved 10 more) ∙ cut_here more)
          ∙ (calls-append 1 st.ended (line ∷ lines more) st.sound ∙ ap (λ (s : Result (Option Asked) Fault). calls st.ended ++ then_calls s (calls (lines more))) is),
      (front.0, front.1, ap (λ (k : ℕ). frame_behind k a) (sym st.count) ∙ front.2, refl),
    ),
  )

  -- ---- the end of the input

  pub ends_done : (said : Option Asked) (left out' : Option (List ℕ)) → line_says line ≡ Ok said → Appends out out' (text_behind count said) → IsAtEnd left
      → Asks before taken left out' Done
  ends_done said left out' is text at_end = (
    frames (calls (st.ended ++ line ∷ [])),
    text_more said out' is text,
    (at_end, ap (first_fault 1) cut_last ∙ sound_more said is, ap (λ (ls : List (List ℕ)). frames (calls ls)) (sym cut_last)),
  )

  pub ends_wrong : (why : Fault) (left : Option (List ℕ)) → line_says line ≡ Err why → IsAtEnd left → Asks before taken left out (Line number why)
  ends_wrong why left is at_end = (
    frames (calls st.ended),
    st.text,
    (inl (at_end, ap (first_fault 1) cut_last ∙ faulty why line [] is), ap frames (sym (ap calls cut_last ∙ faulty_calls why line [] is))),
  )

  pub ends_written : (a : Asked) (left out' : Option (List ℕ)) (fails : ℕ) → line_says line ≡ Ok (Some a) → AppendsFront out out' (frame_behind count a)
      → Asks before taken left out' (WriteFault fails)
  ends_written a left out' fails is front = (
    frames (calls st.ended) ++ front.0,
    Appends-trans before out out' (frames (calls st.ended)) front.0 st.text front.3,
    (
      calls st.ended,
      [],
      a,
      ap calls cut_last ∙ calls_more (Some a) is,
      (front.0, front.1, ap (λ (k : ℕ). frame_behind k a) (sym st.count) ∙ front.2, refl),
    ),
  )

  -- a failed read, or too many bytes
  pub ends_behind : StopsBehindLines taken (frames (calls st.ended))
  ends_behind = (st.ended, line, cut_last, st.sound, refl)

-- ---- a line that is too long

by_test : (t : Bool) (c : ℕ) (ls : List (List ℕ)) → (x : List ℕ) × (later : List (List ℕ)) × (ls ≡ x ∷ later)
    → (x : List ℕ) × (later : List (List ℕ)) × (cond t ([] ∷ ls) (onto_first c ls) ≡ x ∷ later)
by_test true c ls first = ([], ls, refl)
by_test false c ls first = (c ∷ first.0, first.1, ap (onto_first c) first.2)

-- there is a first line
some_line : (b : List ℕ) → (x : List ℕ) × (later : List (List ℕ)) × (lines b ≡ x ∷ later)
some_line [] = ([], [], refl)
some_line (c ∷ cs) = by_test (is_line_feed c) c (lines cs) (some_line cs)

-- the first line begins with what is begun
long_first : (w more : List ℕ) → All (λ c. is_line_feed c ≡ false) w → (x : List ℕ) × (later : List (List ℕ)) × (lines (w ++ more) ≡ (w ++ x) ∷ later)
long_first [] more begun = some_line more
long_first (c ∷ w) more begun =
    let rest = long_first w more (All-tail (λ (x : ℕ). is_line_feed x ≡ false) c w begun) in
    (rest.0, rest.1, slice_split-cons_no is_line_feed c (w ++ more) (All-head (λ (x : ℕ). is_line_feed x ≡ false) c w begun) ∙ ap (onto_first c) rest.2)

-- more than 9,000 bytes are a fault
too_long : (l : List ℕ) → 9000 < length l → line_says l ≡ Err LongLine
too_long l more = ap (λ (b : Bool). cond b (Err LongLine) (said (words l))) (lt-ltb 9000 (length l) more)

-- a byte too many for a line
pub stops_long : (before : Option (List ℕ)) (taken line : List ℕ) (number count bytes : ℕ) (out : Option (List ℕ)) (c : ℕ) → Stands before taken line number count bytes out
    → length line ≡ 9000 → is_line_feed c ≡ false → Stops before (taken ++ c ∷ []) out (Line number LongLine)
stops_long before taken line number count bytes out c st full other =
    let next = next_byte before taken line number count bytes out st c other in
    stops_faulty before (taken ++ c ∷ []) (line ++ c ∷ []) number count (bytes + 1) out next LongLine (taken ++ c ∷ [])
    (λ more.
    let first = long_first (line ++ c ∷ []) more next.begun in
    let long : 9000 < length ((line ++ c ∷ []) ++ first.0) = omega (arith, length-append (line ++ c ∷ []) first.0, length-append line (c ∷ []), full) in
    ((line ++ c ∷ []) ++ first.0, first.1, next.cut more ∙ ap (λ (ls : List (List ℕ)). next.ended ++ ls) first.2, too_long ((line ++ c ∷ []) ++ first.0) long))

-- ---- a line that ends, by the status

-- a failed write ends it
pub line_stops : (old : Asker) (before now : Option (List ℕ)) (status : Status) (a : Asked) → IsWriteEnd status → line_says (line_of old) ≡ Ok (Some a)
    → AppendsFront before now (frame_behind old.calls a) → LineStops old before now status
line_stops old before now (WriteFault count) a kind says front = (a, says, front)
line_stops old before now status a kind says front = absurd kind

module _ (before : Option (List ℕ)) (taken : List ℕ) (old : Asker) (out : Option (List ℕ)) (st : StandsAt before taken old out) where
  pub ended_goes : (now : Option (List ℕ)) (status : Status) → LineStops old out now status → Stops before (taken ++ 10 ∷ []) now status
  ended_goes now (Line number fault) (same, says, still) =
      subst (λ (o : Option (List ℕ)). Stops before (taken ++ 10 ∷ []) o (Line number fault)) (sym still)
      (subst (λ (n : ℕ). Stops before (taken ++ 10 ∷ []) out (Line n fault)) (sym same) (stops_wrong before taken (line_of old) old.number old.calls old.taken out st fault says))
  ended_goes now (WriteFault count) (a, says, front) = stops_written before taken (line_of old) old.number old.calls old.taken out st a now count says front
  ended_goes now status never = absurd never

  pub ended_asks : (left now : Option (List ℕ)) (status : Status) → LineStops old out now status → IsAtEnd left → Asks before taken left now status
  ended_asks left now (Line number fault) (same, says, still) at_end =
      subst (λ (o : Option (List ℕ)). Asks before taken left o (Line number fault)) (sym still)
      (subst (λ (n : ℕ). Asks before taken left out (Line n fault)) (sym same) (ends_wrong before taken (line_of old) old.number old.calls old.taken out st fault left says at_end))
  ended_asks left now (WriteFault count) (a, says, front) at_end = ends_written before taken (line_of old) old.number old.calls old.taken out st a left now count says front
  ended_asks left now status never at_end = absurd never

  -- the next line is begun
  pub passed_goes : (new : Asker) (now : Option (List ℕ)) → Passed old new out now → Stands before (taken ++ 10 ∷ []) (line_of new) new.number new.calls (old.taken + 1) now
  passed_goes new now p =
      let next = next_line before taken (line_of old) old.number old.calls old.taken out st p.said now p.says p.wrote.text in
      subst (λ (n : ℕ). Stands before (taken ++ 10 ∷ []) (line_of new) n new.calls (old.taken + 1) now) (sym p.wrote.number)
      (subst (λ (n : ℕ). Stands before (taken ++ 10 ∷ []) (line_of new) (old.number + 1) n (old.taken + 1) now) (sym p.wrote.calls)
      (subst (λ (n : ℕ). Stands before (taken ++ 10 ∷ []) (take n new.line.items) (old.number + 1) (old.calls + length (listed p.said)) (old.taken + 1) now) (sym p.wrote.len) next))

-- whatever follows a piece
pub stops_more : (before : Option (List ℕ)) (b more : List ℕ) (out : Option (List ℕ)) (status : Status) → Stops before b out status → Stops before (b ++ more) out status
stops_more before b more out status (text, appends, ends) =
    (text, appends, λ further left. subst (λ (x : List ℕ). AskEnds status x left text) (sym (append_assoc b more further)) (ends (more ++ further) left))

-- what was taken so far
pub record HasTaken (before left_before left_now : Option (List ℕ)) (a : Asker) (out : Option (List ℕ)) : Type 0 where
  pub taken : List ℕ
  pub stands : StandsAt before taken a out
  pub consumed : Consumes left_before left_now taken

-- nothing was taken yet
pub taken_none : (a : Asker) (left out : Option (List ℕ)) → Begins a → HasTaken out left left a out
taken_none a left out b = record {
  taken = [];
  stands = record {
    ended = [];
    cut = λ more. ap (λ (n : ℕ). lines (take n a.line.items ++ more)) (sym b.len);
    begun = subst (λ (n : ℕ). All (λ (c : ℕ). is_line_feed c ≡ false) (take n a.line.items)) (sym b.len) (All-nil (λ (c : ℕ). is_line_feed c ≡ false));
    sound = refl;
    number = b.number;
    count = b.calls;
    bytes = b.taken;
    text = Appends-nil out;
  };
  consumed = Consumes-nil left;
}

module _ (before left_before left_mid : Option (List ℕ)) (a : Asker) (out : Option (List ℕ)) (h : HasTaken before left_before left_mid a out) where
  -- a piece more
  pub taken_more : (left_now : Option (List ℕ)) (piece : List ℕ) (new : Asker) (out' : Option (List ℕ)) → Consumes left_mid left_now piece → StandsAt before (h.taken ++ piece) new out'
      → HasTaken before left_before left_now new out'
  taken_more left_now piece new out' more st = record { taken = h.taken ++ piece; stands = st; consumed = Consumes-trans left_before left_mid left_now h.taken piece h.consumed more }

  abbrev Asked-so : Option (List ℕ) → Option (List ℕ) → Status → Type 0
  Asked-so left_now out' status =
      (taken text : List ℕ) × Consumes left_before left_now taken × Appends before out' text × AskEnds status taken left_now text

  -- a read failed
  pub asked_failed : (left_now : Option (List ℕ)) (count : ℕ) → Keeps left_mid left_now → Asked-so left_now out (ReadFault count)
  asked_failed left_now count kept =
      (h.taken, frames (calls h.stands.ended), Consumes-kept left_before left_mid left_now h.taken h.consumed kept, h.stands.text, ends_behind before h.taken (line_of a) a.number a.calls a.taken out h.stands)

  -- the input ended
  pub asked_ended : (left_now out' : Option (List ℕ)) (piece : List ℕ) (status : Status) → Consumes left_mid left_now piece → piece ≡ [] → Asks before h.taken left_now out' status
      → Asked-so left_now out' status
  asked_ended left_now out' piece status more none (text, appends, ends) =
      (h.taken, text, taken_still left_before left_mid left_now h.taken piece h.consumed more none, appends, ends)

  -- it ended within a piece
  pub asked_stopped : (left_now out' : Option (List ℕ)) (piece : List ℕ) (status : Status) → Consumes left_mid left_now piece → Stops before (h.taken ++ piece) out' status
      → Asked-so left_now out' status
  asked_stopped left_now out' piece status more (text, appends, ends) = (
    h.taken ++ piece,
    text,
    Consumes-trans left_before left_mid left_now h.taken piece h.consumed more,
    appends,
    subst (λ (x : List ℕ). AskEnds status x left_now text) (append-nil (h.taken ++ piece)) (ends [] left_now),
  )

  -- too many bytes
  pub asked_quota : (bytes : ℕ) → most_bytes < a.taken → bytes ≡ 2 ^ 62 → Asked-so left_mid out (Quota bytes)
  asked_quota bytes many is = (
    h.taken,
    frames (calls h.stands.ended),
    h.consumed,
    h.stands.text,
    (ends_behind before h.taken (line_of a) a.number a.calls a.taken out h.stands, omega (arith, many, h.stands.bytes), is),
  )

-- a line says one call at most
pub listed_short : (said : Option Asked) → length (listed said) ≤ 1
listed_short None = omega arith
listed_short (Some a) = omega arith

-- what a line said was written
pub passes_line : {T : Type 0} (old new : Asker) (said : Option Asked) (before now : Option (List ℕ)) (result : Result T Status) → line_says (line_of old) ≡ Ok said
    → WritesSaid said old.calls old.number new before now result → EndsLine old new before now result
passes_line old new said before now (Ok done) says wrote = record { said = said; says = says; wrote = wrote }
passes_line old new said before now (Err status) says (a, is, kind, front) =
    line_stops old before now status a kind (says ∙ ap (λ (s : Option Asked). let r : Result (Option Asked) Fault = Ok s in r) is) front
