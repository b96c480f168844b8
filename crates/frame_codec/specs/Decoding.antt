-- What the decoder of requests has read, and what a byte or a piece of bytes makes of it.
-- This project's own.
use Rattle.std.specs.Prelude.{◌≡◌, ◌<◌, ◌≤◌, ◌⊎◌, ℕ, ◌+◌, List, [], ◌∷◌, ◌++◌, length, take, if◌then◌else◌, nat_lt}
use Rattle.frame_codec.specs.declared.frames.Request.{Request}
use Rattle.frame_codec.specs.declared.table.Table.TheVariants.{Requests}
use Rattle.frame_codec.specs.declared.head.Head.{Head}
use Rattle.frame_codec.specs.declared.decoder.Step.{Step}
use Rattle.frame_codec.specs.declared.decoder.Step.TheVariants.{More, Whole, Bad}
use Rattle.frame_codec.specs.Rows.{why_at}
use Rattle.frame_codec.specs.Grammar.{Grammar, text_of, IsFramed, IsFramePart, BeginsNoFrame}
use Rattle.frame_codec.specs.Frames.{requests, Asked, IsScript, IsBadAt}
use Rattle.frame_codec.specs.Heads.{fields_of, numbers_of, bytes_of, IsBegun, IsWhole}

-- the bytes of the frame that is begun, the string of the frame that was whole last, and the number of bytes pushed
pub record Begun : Type 0 where
  pub rest : List ℕ
  pub string : List ℕ
  pub offset : ℕ

-- the bytes of a head, and of the string so far where the head is whole
abbrev pub rest_of : Head → ℕ → List ℕ → List ℕ
rest_of h got string = bytes_of h ++ (if nat_lt h.index (length (fields_of h.table)) then [] else take got string)

-- how long a whole head says that its string is
abbrev pub len_of : Grammar Request → Head → ℕ
len_of g h = g.len (g.head (numbers_of h))

-- a head of a request that is begun, or a whole one whose string is not whole
pub record IsAsking (h : Head) (got : ℕ) : Type 0 where
  pub table : h.table ≡ Requests
  pub head : IsBegun h ⊎ (IsWhole h × (got < len_of requests h))
  pub room : got ≤ 4096

-- whether the string of a whole head is whole too, with so many bytes of it
abbrev pub Finishes : Grammar Request → Head → ℕ → Step → Head → Type 0
Finishes g old got More new = (got < len_of g old) × (new ≡ old)
Finishes g old got (Whole r) new =
    (r ≡ g.head (numbers_of old)) × (len_of g old ≤ got) × IsBegun new × (bytes_of new ≡ []) × (new.table ≡ old.table)
Finishes g old got (Bad at why) new = ⊥

-- the bytes b are a part of a frame
pub record StaysWithin (g : Grammar Request) (b : List ℕ) (new : Begun) : Type 0 where
  pub part : IsFramePart g b
  pub rest : new.rest ≡ b

-- the bytes b are the frame of the request r with the string
pub record EndsFrame (g : Grammar Request) (b : List ℕ) (r : Request) (new : Begun) : Type 0 where
  pub framed : IsFramed g (record { head = r; string = new.string })
  pub bytes : b ≡ text_of g (record { head = r; string = new.string })
  pub rest : new.rest ≡ []

-- the bytes b are a part of a frame, and no frame begins with them and the byte after them, which is not kept
pub record LeavesFrames (g : Grammar Request) (b longer : List ℕ) (why : ℕ) (new : Begun) : Type 0 where
  pub part : IsFramePart g b
  pub none : BeginsNoFrame g longer
  pub number : why ≡ why_at g.fields (length b)
  pub rest : new.rest ≡ b

-- what one byte makes of the frame that is begun
abbrev pub StepsOf : Grammar Request → Begun → ℕ → Step → Begun → Type 0
StepsOf g old byte More new = StaysWithin g (old.rest ++ byte ∷ []) new
StepsOf g old byte (Whole r) new = EndsFrame g (old.rest ++ byte ∷ []) r new
StepsOf g old byte (Bad at why) new = (at ≡ old.offset) × LeavesFrames g old.rest (old.rest ++ byte ∷ []) why new

abbrev pub Steps : Begun → ℕ → Step → Begun → Type 0
Steps old byte step new = StepsOf requests old byte step new

-- The first bytes were taken: all of them, within a frame; or up to the one that ends a frame, or with which no frame goes on.
abbrev pub FeedsOf : Grammar Request → Begun → List ℕ → ℕ → Step → Begun → Type 0
FeedsOf g old bytes taken More new = (taken ≡ length bytes) × StaysWithin g (old.rest ++ bytes) new
FeedsOf g old bytes taken (Whole r) new = (0 < taken) × EndsFrame g (old.rest ++ take taken bytes) r new
FeedsOf g old bytes taken (Bad at why) new =
    (last : ℕ) × (taken ≡ last + 1) × (at ≡ old.offset + last) × LeavesFrames g (old.rest ++ take last bytes) (old.rest ++ take taken bytes) why new

abbrev pub Feeds : Begun → List ℕ → ℕ → Step → Begun → Type 0
Feeds old bytes taken step new = FeedsOf requests old bytes taken step new

-- the bytes b, all that were pushed, are the frames of the requests and what the decoder has of the next
pub record Reads (b : List ℕ) (rs : List Asked) (d : Begun) : Type 0 where
  pub script : IsScript b rs d.rest
  pub offset : d.offset ≡ length b

-- what a decoder that has read b has read after a feed
abbrev pub ReadsOn : List ℕ → List Asked → List ℕ → ℕ → Step → Begun → Type 0
ReadsOn b rs bytes taken More new = Reads (b ++ bytes) rs new
ReadsOn b rs bytes taken (Whole r) new =
    Reads (b ++ take taken bytes) (rs ++ record { head = r; string = new.string } ∷ []) new × (new.rest ≡ [])
ReadsOn b rs bytes taken (Bad at why) new = IsBadAt (b ++ bytes) rs at why
