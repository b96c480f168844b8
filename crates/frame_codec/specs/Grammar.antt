-- A grammar of frames as data: a head of fields in a row, and a string whose length the head gives.
-- This project's own.
use Rattle.std.specs.Prelude.{◌≡◌, ℕ, List, [], ◌++◌, length}
use Rattle.frame_codec.specs.Rows.{Field, Takes, spelled}
use Rattle.frame_codec.specs.Scripts.{IsPartOf, BeginsNoneOf, Splits}

-- the fields of a head R, its numbers in their order, the head with such numbers, and the length of the string behind it
pub record Grammar (R : Type 0) : Type 0 where
  pub fields : List Field
  pub numbers : R → List ℕ
  pub head : List ℕ → R
  pub len : R → ℕ

-- a head with its string
pub record Framed (R : Type 0) : Type 0 where
  pub head : R
  pub string : List ℕ

-- the one frame of a head with its string
abbrev pub text_of : {R : Type 0} → Grammar R → Framed R → List ℕ
text_of g a = spelled g.fields (g.numbers a.head) ++ a.string

-- what has a frame: the fields take its numbers, there is nothing more in the head, and the string is as long as it says
pub record IsFramed {R : Type 0} (g : Grammar R) (a : Framed R) : Type 0 where
  pub taken : Takes g.fields [] (g.numbers a.head)
  pub same : g.head (g.numbers a.head) ≡ a.head
  pub string : length a.string ≡ g.len a.head

-- b is the frame of a
pub record IsFrameOf {R : Type 0} (g : Grammar R) (b : List ℕ) (a : Framed R) : Type 0 where
  pub framed : IsFramed g a
  pub bytes : b ≡ text_of g a

-- b is a proper prefix of some frame, perhaps empty
abbrev pub IsFramePart : {R : Type 0} → Grammar R → List ℕ → Type 0
IsFramePart g b = IsPartOf (text_of g) (IsFramed g) b

-- no frame begins with b
abbrev pub BeginsNoFrame : {R : Type 0} → Grammar R → List ℕ → Type 0
BeginsNoFrame g b = BeginsNoneOf (text_of g) (IsFramed g) b

-- b is the frames of these in a row and then a part of a frame
abbrev pub IsScriptOf : {R : Type 0} → Grammar R → List ℕ → List (Framed R) → List ℕ → Type 0
IsScriptOf g b xs rest = Splits (text_of g) (IsFramed g) b xs rest
