-- The text of a file, read piece by piece.
use Rattle.std.proofs.Common.{◌≡◌, ◌≤◌, ◌<◌, ℕ, ◌+◌, ◌-◌, ◌∷◌, List, [], ◌++◌, length, take, drop, refl, sym, ap, ◌∙◌, subst, arith, append-nil, length-append, length-take, inl, inr}
use Rattle.std.proofs.Math.Seq.{take-length, take-nil, take-add, take-append-add}
use Rattle.std.proofs.lemmas.List.{append_assoc, take_all, take-append-le, take-append-drop}
use Rattle.std.proofs.lemmas.Bool.{cases_lt}
use Rattle.std.specs.Prelude.{Option, Some, None, Ok}
use Rattle.vector_text.specs.Feeding.{Window, given, most_bytes}
use Rattle.rbgtree.specs.Files.{Entries, IsFile, ReadsFile, BeginsFile, IsWholeFile}
use Rattle.rbgtree.proofs.FileFronts.{is_file-unique, seed_more}

module _ (E : Type 0) (files : Option Entries) (name text buf : List ℕ) (n : ℕ) (read : ReadsFile {E = E} files name (length text) (Ok n) buf)
    (begun : 0 < length text → BeginsFile files name text) where
  begun_whole : 0 < length text → BeginsFile files name (take (length text) text)
  begun_whole some = subst (λ (x : List ℕ). BeginsFile files name x) (sym (take-length text)) (begun some)

  pub text_more : n ≤ length buf → BeginsFile files name (text ++ take n buf)
  text_more within =
      subst (λ (x : List ℕ). BeginsFile files name (x ++ take n buf)) (take-length text) (seed_more E files name text buf (length text) n read begun_whole (omega arith) within)

-- ---- a text that ends in a piece

-- what was read is a front of the file
front_is : (entries : Entries) (name text bytes : List ℕ) → (0 < length text → BeginsFile (Some entries) name text) → IsFile entries name bytes → take (length text) bytes ≡ text
front_is entries name [] bytes begun is = refl
front_is entries name (c ∷ text) bytes begun is =
    let prior = begun (omega arith) in
    subst (λ (b : List ℕ). take (length (c ∷ text)) b ≡ c ∷ text) (is_file-unique entries name prior.0 bytes prior.1 is) prior.2

-- the first bytes of two lists
take_parts : (room : ℕ) (p q : List ℕ) → take room (p ++ q) ≡ take room p ++ take (room - length p) q
take_parts room p q = elim (cases_lt room (length p)) [
  | inl less ↦
      let none : room - length p ≡ 0 = omega (arith, less) in
      take-append-le room p q (omega (arith, less)) ∙ (sym (append-nil (take room p)) ∙ ap (λ (k : ℕ). take room p ++ take k q) (sym none))
  | inr fits ↦
      let parts : length p + (room - length p) ≡ room = omega (arith, fits) in
      ap (λ (k : ℕ). take k (p ++ q)) (sym parts) ∙ (take-append-add p q (room - length p) ∙ ap (λ (x : List ℕ). x ++ take (room - length p) q) (sym (take_all room p fits)))
]

-- the text of a file is what was read, a piece and what follows it
parts_of : (bytes text piece : List ℕ) (w : Window) → take (length text) bytes ≡ text → piece ≡ take (length piece) (drop (length text) bytes)
    → (length piece ≡ 0 → length bytes ≤ length text) → length text + w.room ≡ most_bytes
    → text ++ take w.room piece ++ take (given piece w).room (drop (length piece) (drop (length text) bytes)) ≡ take most_bytes bytes
parts_of bytes text [] w front read ended whole =
    let all : length bytes ≤ length text = ended refl in
    append-nil (text ++ take w.room []) ∙ (ap (λ (x : List ℕ). text ++ x) (take-nil w.room) ∙ (append-nil text ∙ (sym front
    ∙ (take_all (length text) bytes all ∙ sym (take_all most_bytes bytes (omega (arith, all, whole)))))))
parts_of bytes text (c ∷ piece) w front read ended whole =
    let rest = drop (length text) bytes in
    let p = c ∷ piece in
    let behind = drop (length p) rest in
    let split : rest ≡ p ++ behind = sym (take-append-drop (length p) rest) ∙ ap (λ (x : List ℕ). x ++ behind) (sym read) in
    append_assoc text (take w.room p) (take (w.room - length p) behind)
    ∙ (ap (λ (x : List ℕ). text ++ x) (sym (take_parts w.room p behind) ∙ ap (take w.room) (sym split))
    ∙ (ap (λ (x : List ℕ). x ++ take w.room rest) (sym front) ∙ (sym (take-add (length text) w.room bytes) ∙ ap (λ (k : ℕ). take k bytes) whole)))

-- what may follow a piece
abbrev pub Followed : Option Entries → List ℕ → List ℕ → ℕ → Type 0
Followed files name text room =
    (bytes : List ℕ) × IsWholeFile files name bytes × ((more : List ℕ) × (length more ≤ room) × (text ++ more ≡ take most_bytes bytes))

pub text_followed : (E : Type 0) (files : Option Entries) (name text buf : List ℕ) (n : ℕ) (w : Window) → ReadsFile {E = E} files name (length text) (Ok n) buf
    → (0 < length text → BeginsFile files name text) → n ≤ length buf → length text + w.room ≡ most_bytes
    → Followed files name (text ++ take w.room (take n buf)) (given (take n buf) w).room
text_followed E None name text buf n w read begun within whole =
    let got = text ++ take w.room (take n buf) in
    let short : length got ≤ most_bytes = omega (arith, whole, length-append text (take w.room (take n buf)), length-take w.room (take n buf)) in
    (got, tt, ([], omega arith, append-nil got ∙ sym (take_all most_bytes got short)))
text_followed E (Some entries) name text buf n w (bytes, is, same, le, end) begun within whole =
    let piece = take n buf in
    let long : length piece ≡ n = omega (arith, length-take n buf, within) in
    let rest = drop (length text) bytes in
    let read : piece ≡ take (length piece) rest = sym same ∙ ap (λ (k : ℕ). take k rest) (sym long) in
    let room = (given piece w).room in
    let more = take room (drop (length piece) rest) in (
      bytes,
      is,
      (
        more,
        omega (arith, length-take room (drop (length piece) rest)),
        parts_of bytes text piece w (front_is entries name text bytes begun is) read (λ none. end (sym long ∙ none)) whole,
      ),
    )

-- what was read, and what may follow it
pub front_followed : (files : Option Entries) (name text : List ℕ) (room : ℕ) → BeginsFile files name text → length text + room ≡ most_bytes → Followed files name text room
front_followed None name text room begun whole = (text, tt, ([], omega arith, append-nil text ∙ sym (take_all most_bytes text (omega (arith, whole)))))
front_followed (Some entries) name text room (bytes, is, front) whole = (
  bytes,
  is,
  (
    take room (drop (length text) bytes),
    omega (arith, length-take room (drop (length text) bytes)),
    ap (λ (x : List ℕ). x ++ take room (drop (length text) bytes)) (sym front) ∙ (sym (take-add (length text) room bytes) ∙ ap (λ (k : ℕ). take k bytes) whole),
  ),
)
