-- That a replay ends with its work done where nothing stands in its way.
use Rattle.std.proofs.Common.{◌≡◌, ◌≤◌, ◌<◌, ◌⊎◌, ℕ, ◌+◌, ◌-◌, ◌∷◌, List, [], ◌++◌, length, take, length-append, length-take, Bool, true, false, cond, refl, sym, ap, ◌∙◌, inl, inr, subst, arith}
use Rattle.std.specs.Prelude.{Option, Some, None, Result, Ok, Err, codes, nat_eq}
use Rattle.vector_text.specs.declared.case.Family.{Family}
use Rattle.vector_text.specs.declared.case.Family.TheVariants.{Hmac, Ctr}
use Rattle.vector_text.specs.declared.reader.TextRefusal as texts
use Rattle.vector_text.specs.Feeding.{Window, given, most_bytes}
use Rattle.vector_text.specs.Reading.{left_of}
use Rattle.vector_replay.specs.declared.totals.Totals.{Totals}
use Rattle.vector_replay.specs.declared.totals.ReplayRefusal as replays
use Rattle.vector_replay.specs.declared.totals.ReplayRefusal.{ReplayRefusal}
use Rattle.vector_replay.specs.Report.{Counted, End, Report, report_of}
use Rattle.vector_replay.specs.Replaying.{Ends, EndsBehind, GoesOn, HasWriteCause, ReadsNothing, Replayer, StandsBehind, Starts, replayed, room_behind}
use Rattle.vector_replay.proofs.Pieced.{goes_first}
use Rattle.rbgtree.specs.Files.{Entries, BeginsFile, IsWholeFile, ReadsFile}
use Rattle.rbgtree.specs.Check.{HasCheckCause, status_without}
use Rattle.rbgtree.specs.Commands.{IsReplayCommand, family_word}
use Rattle.rbgtree.specs.Replay.{Replays, status_by}
use Rattle.rbgtree.specs.Run.{Outside, RanReplay, HasStatusCause}
use Rattle.rbgtree.specs.Complete.{IsToldFile, NoneRose, ReplayCanPass}
use Rattle.rbgtree.specs.declared.check.NotOpened.{NotOpened}
use Rattle.rbgtree.specs.declared.check.NotOpened.TheVariants.{Fault, OutOfMemory}
use Rattle.rbgtree.specs.declared.status.Status.{Status}
use Rattle.rbgtree.specs.declared.status.Status.TheVariants.{Done, Memory, Differs, OpenFault}
use Rattle.rbgtree.proofs.FileFronts.{is_file-unique}
use Rattle.rbgtree.proofs.Texts.{Followed, front_followed, text_followed, text_more}
use Rattle.std.proofs.lemmas.List.{take_all}
use Rattle.std.proofs.lemmas.Bool.{cases_lt}

-- the bytes of a file that is told
pub one_file : (files : Option Entries) (name a b : List ℕ) → IsToldFile files name a → IsWholeFile files name b → a ≡ b
one_file None name a b told whole = absurd told
one_file (Some entries) name a b told whole = is_file-unique entries name a b told whole

-- ---- the same words are the same replay

word_same : (a b : Family) → family_word a ≡ family_word b → a ≡ b
word_same Hmac Hmac e = refl
word_same Hmac Ctr e = absurd cc
word_same Ctr Hmac e = absurd cc
word_same Ctr Ctr e = refl

pub replay_same : (words : List (List ℕ)) (family : Family) (name : List ℕ) (family' : Family) (name' : List ℕ) (before now : Outside) (status : Status)
    → IsReplayCommand words family name → IsReplayCommand words family' name' → RanReplay family name before now status → RanReplay family' name' before now status
replay_same words family name family' name' before now status one other ran =
    let e : codes "replay" ∷ family_word family ∷ name ∷ [] ≡ codes "replay" ∷ family_word family' ∷ name' ∷ [] = sym one ∙ other in
    let word : family_word family ≡ family_word family' = cc in
    let file : name ≡ name' = cc in
    subst (λ (n : List ℕ). RanReplay family' n before now status) file (subst (λ (f : Family). RanReplay f name before now status) (word_same family family' word) ran)

-- ---- a text of which all cases pass

counted_same : (end : End) (t u : Totals) → end ≡ Counted t → end ≡ Counted u → t ≡ u
counted_same end t u p q = let e : Counted t ≡ Counted u = sym p ∙ q in cc

-- how the replay of such a text ended
text_done : (r : Report) (totals : Totals) (before now : Outside) (status : Status) (ended : Result Totals ReplayRefusal) → r.end ≡ Counted totals → totals.differed ≡ 0
    → status ≡ status_by ended → Ends r before.out now.out ended → HasStatusCause before now status → NoneRose before now → (status ≡ Done) ⊎ (status ≡ Memory)
text_done r totals before now status (Ok t) counts none is ends cause calm =
    let same = counted_same r.end t totals ends.0 counts in
    let zero : t.differed ≡ 0 = ap (λ (u : Totals). u.differed) same ∙ none in
    inl (is ∙ ap (λ (n : ℕ). cond (nat_eq n 0) Done (Differs n)) zero)
text_done r totals before now status (Err (replays.TheVariants.Text (texts.TheVariants.Fault line why))) counts none is ends cause calm =
    absurd (let e = sym counts ∙ ends.0 in cc)
text_done r totals before now status (Err (replays.TheVariants.Text (texts.TheVariants.ReadFault count))) counts none is ends cause calm =
    absurd (calm.world (subst (λ (s : Status). HasStatusCause before now s) is cause).0)
text_done r totals before now status (Err (replays.TheVariants.WriteFault count)) counts none is ends cause calm =
    absurd (calm.output (subst (λ (s : Status). HasStatusCause before now s) is cause).0)
text_done r totals before now status (Err replays.TheVariants.OutOfMemory) counts none is ends cause calm = inr is

without_text : (before now : Outside) (status : Status) (why : NotOpened) (world : ℕ) → status ≡ status_without why world → HasStatusCause before now status → NoneRose before now
    → (status ≡ Done) ⊎ (status ≡ Memory)
without_text before now status Fault world is cause calm = absurd (calm.world (subst (λ (s : Status). HasStatusCause before now s) is cause).0)
without_text before now status OutOfMemory world is cause calm = inr is

pub replay_done : (words : List (List ℕ)) (before now : Outside) (status : Status) (can : ReplayCanPass words before) → RanReplay can.family can.name before now status
    → HasStatusCause before now status → NoneRose before now → (status ≡ Done) ⊎ (status ≡ Memory)
replay_done words before now status can (left, recordings, inl (why, is, same)) cause calm = without_text before now status why now.world is cause calm
replay_done words before now status can (left, recordings, inr (bytes, whole, (ended, is, ends))) cause calm =
    let same : can.text ≡ bytes = one_file before.files can.name can.text bytes can.file whole in
    let passes = subst (λ (b : List ℕ). (replayed can.family (take most_bytes b)).end ≡ Counted can.totals) same can.passes in
    text_done (replayed can.family (take most_bytes bytes)) can.totals before now status ended passes can.none is ends cause calm

-- ---- what is told of a replay in pieces

-- the counts
pub cause_fed : (world out out' : ℕ) (ended : Result Totals ReplayRefusal) → ReadsNothing ended → HasWriteCause out out' ended → HasCheckCause world world out out' (status_by ended)
cause_fed world out out' (Ok t) read write = by (nat_eq t.differed 0) where
  by : (b : Bool) → HasCheckCause world world out out' (cond b Done (Differs t.differed))
  by true = (refl, write)
  by false = (refl, write)
cause_fed world out out' (Err (replays.TheVariants.Text (texts.TheVariants.Fault line why))) read write = (refl, write)
cause_fed world out out' (Err (replays.TheVariants.Text (texts.TheVariants.ReadFault count))) read write = absurd read
cause_fed world out out' (Err (replays.TheVariants.WriteFault count)) read write = (write.0, write.1, refl)
cause_fed world out out' (Err replays.TheVariants.OutOfMemory) read write = absurd read

-- a text that has ended
text_replayed : (files : Option Entries) (family : Family) (name text : List ℕ) (room world : ℕ) (before now : Option (List ℕ)) (ended : Result Totals ReplayRefusal)
    → Followed files name text room → EndsBehind family text room before now ended → Replays files family name world before now (status_by ended)
text_replayed files family name text room world before now ended (bytes, whole, (more, short, is)) ends =
    inr (bytes, whole, (ended, refl, subst (λ (t : List ℕ). Ends (replayed family t) before now ended) is (ends more short)))

-- a text that could not be read further
text_stopped : (files : Option Entries) (family : Family) (name text : List ℕ) (count world : ℕ) (before now : Option (List ℕ)) (p : Replayer)
    → Followed files name text p.reader.window.room → StandsBehind family text before p now → Replays files family name world before now (OpenFault count)
text_stopped files family name text count world before now p (bytes, whole, (more, short, is)) stands =
    let ended : Result Totals ReplayRefusal = Err (replays.TheVariants.Text (texts.TheVariants.ReadFault count)) in
    inr (
      bytes,
      whole,
      (
        ended,
        refl,
        subst (λ (t : List ℕ). Ends (replayed family t) before now ended) is
            (stands.said, (report_of p.totals (left_of p.reader more)).lines, ap (λ (r : Report). r.lines) (stands.leads more short), stands.written),
      ),
    )

-- a piece behind which there is room was taken in whole
fits_room : (piece : List ℕ) (w : Window) (room : ℕ) → room ≡ (given piece w).room → 0 < room → (length piece + room ≡ w.room) × (take w.room piece ≡ piece) × (0 < length piece)
fits_room [] w room is some = absurd (omega (arith, is, some))
fits_room (c ∷ piece) w room is some = (omega (arith, is, some), take_all w.room (c ∷ piece) (omega (arith, is, some)), omega arith)

-- How a replay stands between two reads: so many bytes of the file were read, and nothing is written before the first.
pub record Between (files : Option Entries) (family : Family) (name : List ℕ) (before : Option (List ℕ)) (place : ℕ) (p : Replayer) (now : Option (List ℕ)) : Type 0 where
  pub text : List ℕ
  pub long : length text ≡ place
  pub whole : length text + p.reader.window.room ≡ most_bytes
  pub begun : 0 < length text → BeginsFile files name text
  pub goes : GoesOn family text before p now
  pub first : length text ≡ 0 → now ≡ before

starts_room : {room : ℕ} → room ≡ most_bytes → 0 + room ≡ most_bytes
starts_room is = omega (arith, is)

pub between_first : (files : Option Entries) (family : Family) (name : List ℕ) (out : Option (List ℕ)) (p : Replayer) → Starts family p → Between files family name out 0 p out
between_first files family name out p starts = record {
  text = [];
  long = refl;
  whole = starts_room (ap (λ (w : Window). w.room) starts.begins.window);
  begun = λ some. absurd (omega (arith, some));
  goes = goes_first family out p starts;
  first = λ none. refl;
}

module _ (E : Type 0) (files : Option Entries) (family : Family) (name : List ℕ) (before now now' : Option (List ℕ)) (place n : ℕ) (buf : List ℕ) (p p' : Replayer)
    (b : Between files family name before place p now) (read : ReadsFile {E = E} files name place (Ok n) buf) (within : n ≤ length buf)
    (room : p'.reader.window.room ≡ room_behind (take n buf) p) where
  read_at : ReadsFile {E = E} files name (length b.text) (Ok n) buf
  read_at = subst (λ (at : ℕ). ReadsFile {E = E} files name at (Ok n) buf) (sym b.long) read

  -- behind one more piece
  pub between_next : GoesOn family (b.text ++ take p.reader.window.room (take n buf)) before p' now' → Between files family name before (place + n) p' now'
  between_next goes =
      let more = fits_room (take n buf) p.reader.window p'.reader.window.room room goes.more in
      let long : length (take n buf) ≡ n = omega (arith, length-take n buf, within) in
      record {
        text = b.text ++ take n buf;
        long = omega (arith, length-append b.text (take n buf), long, b.long);
        whole = omega (arith, length-append b.text (take n buf), b.whole, more.0);
        begun = λ some. text_more E files name b.text buf n read_at b.begun within;
        goes = subst (λ (x : List ℕ). GoesOn family (b.text ++ x) before p' now') more.1 goes;
        first = λ none. absurd (omega (arith, none, length-append b.text (take n buf), more.2));
      }

  pub between_less : GoesOn family (b.text ++ take p.reader.window.room (take n buf)) before p' now' → most_bytes - (place + n) < most_bytes - place
  between_less goes =
      let more = fits_room (take n buf) p.reader.window p'.reader.window.room room goes.more in
      let long : length (take n buf) ≡ n = omega (arith, length-take n buf, within) in
      omega (arith, long, more.0, more.2, b.whole, b.long, goes.more)

  -- at the end
  pub between_ends : (world : ℕ) (ended : Result Totals ReplayRefusal) → EndsBehind family (b.text ++ take p.reader.window.room (take n buf)) p'.reader.window.room before now' ended
      → Replays files family name world before now' (status_by ended)
  between_ends world ended ends =
      text_replayed files family name (b.text ++ take p.reader.window.room (take n buf)) (room_behind (take n buf) p) world before now' ended
      (text_followed E files name b.text buf n p.reader.window read_at b.begun within b.whole)
      (subst (λ (k : ℕ). EndsBehind family (b.text ++ take p.reader.window.room (take n buf)) k before now' ended) room ends)

-- where a read fails
pub between_stops : (files : Option Entries) (family : Family) (name : List ℕ) (before now : Option (List ℕ)) (place count world : ℕ) (p : Replayer)
    → Between files family name before place p now → count ≡ world → Replays files family name world before now (OpenFault count)
between_stops files family name before now place count world p b is = elim (cases_lt 0 (length b.text)) [
  | inl some ↦ text_stopped files family name b.text count world before now p (front_followed files name b.text p.reader.window.room (b.begun some) b.whole) b.goes.stands
  | inr none ↦ inl (Fault, ap OpenFault is, b.first (omega (arith, none)))
]
