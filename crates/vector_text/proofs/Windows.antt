-- Reads, and what may follow.
use Rattle.std.proofs.Common.{zero, suc, ◌≡◌, ◌<◌, ◌≤◌, ℕ, ◌+◌, ◌-◌, List, [], ◌∷◌, ◌++◌, length, take, drop, cond, Bool, false, refl, sym, ap, ◌∙◌, subst, arith, append-nil, length-append, length-take, Option, Some, None, min, inl, inr}
use Rattle.std.specs.List.{All}
use Rattle.std.specs.Str.Lines.{lines}
use Rattle.std.specs.Io.KnownBytes.{Consumes, Keeps, IsAtEnd}
use Rattle.std.proofs.Math.Seq.{take-append-add, take-add, take-length, take-nil, drop-length}
use Rattle.std.proofs.lemmas.List.{drop-drop, drop-take, drop-append-le, take_all}
use Rattle.std.proofs.lemmas.Bool.{cases_lt}
use Rattle.vector_text.specs.Feeding.{Window, Follows, given, is_line_feed, Grows, HasLine, Finds, last_found}
use Rattle.vector_text.specs.declared.feed.Found.{Found}
use Rattle.vector_text.specs.declared.feed.Found.TheVariants.{End, Line, Long}
use Rattle.vector_text.proofs.Lining.{lines_last, lines_long, nonempty}

not_told : (ys : List ℕ) → Some ys ≡ None → ⊥
not_told ys e = absurd cc

-- one read
follows_read : (left left' : Option (List ℕ)) (room : ℕ) (got more : List ℕ) → Consumes left left' got → (left ≡ None → left' ≡ None) → length got ≤ room
    → Follows left' (room - length got) more → Follows left room (got ++ more)
follows_read None None room got more taken untold fits f = omega (arith, f, fits, length-append got more)
follows_read None (Some ys) room got more taken untold fits f = absurd (not_told ys (untold refl))
follows_read (Some xs) None room got more taken untold fits f = absurd taken
follows_read (Some xs) (Some ys) room got more taken untold fits f =
    let at : length got + (room - length got) ≡ room = omega (arith, fits) in
    sym (ap (take room) taken ∙ (ap (λ (n : ℕ). take n (got ++ ys)) (sym at) ∙ (take-append-add got ys (room - length got) ∙ ap (λ (x : List ℕ). got ++ x) (sym f))))

-- a read that found the end
follows_end : (left left' : Option (List ℕ)) (room : ℕ) (more : List ℕ) → Consumes left left' [] → (left ≡ None → left' ≡ None) → IsAtEnd left'
    → Follows left' 0 more → Follows left room more
follows_end None None room more taken untold ended f = omega (arith, f)
follows_end None (Some ys) room more taken untold ended f = absurd (not_told ys (untold refl))
follows_end (Some xs) None room more taken untold ended f = absurd taken
follows_end (Some xs) (Some ys) room more taken untold ended f =
    f ∙ (ap (take 0) ended ∙ sym (ap (take room) (taken ∙ ended) ∙ take-nil room))

-- nothing follows where nothing more may be read
pub none_follows : (left : Option (List ℕ)) (more : List ℕ) → Follows left 0 more → more ≡ []
none_follows None [] f = refl
none_follows None (c ∷ more) f = absurd (omega (arith, f))
none_follows (Some xs) more f = f

-- the last bytes
last_line : (left : Option (List ℕ)) (c : ℕ) (ahead : List ℕ) → All (λ c. is_line_feed c ≡ false) (c ∷ ahead)
    → HasLine left (record { ahead = c ∷ ahead; room = 0 }) (length (c ∷ ahead)) (length (c ∷ ahead))
last_line left c ahead all = record {
  short = omega arith;
  some = omega arith;
  within = omega arith;
  line = λ more f.
      let none = none_follows left more f in
      let whole = take-length (c ∷ ahead) in
      let behind = drop-length (c ∷ ahead) in
      ap (λ (x : List ℕ). lines ((c ∷ ahead) ++ x)) none ∙ (ap lines (append-nil (c ∷ ahead)) ∙ (lines_last c ahead all
      ∙ (ap (λ (l : List ℕ). l ∷ []) (sym whole)
      ∙ sym (ap (λ (x : List ℕ). take (length (c ∷ ahead)) (c ∷ ahead) ∷ lines (x ++ more)) behind ∙ ap (λ (x : List ℕ). take (length (c ∷ ahead)) (c ∷ ahead) ∷ lines x) none))));
}

last_at : (left : Option (List ℕ)) (ahead : List ℕ) → All (λ c. is_line_feed c ≡ false) ahead
    → Finds (last_found (length ahead)) left (record { ahead = ahead; room = 0 })
last_at left [] all = λ more f. none_follows left more f
last_at left (c ∷ ahead) all =
    let n = length (c ∷ ahead) in
    subst (λ (found : Found). Finds found left (record { ahead = c ∷ ahead; room = 0 })) (sym (ap (λ (b : Bool). cond b End (Line n n)) (nonempty c ahead))) (last_line left c ahead all)

pub found_last : (left : Option (List ℕ)) (w : Window) (found : Found) → w.room ≡ 0 → All (λ c. is_line_feed c ≡ false) w.ahead → found ≡ last_found (length w.ahead) → Finds found left w
found_last left w found none all is =
    subst (λ (x : Found). Finds x left w) (sym is)
    (subst (λ (r : ℕ). Finds (last_found (length w.ahead)) left (record { ahead = w.ahead; room = r })) (sym none) (last_at left w.ahead all))

-- too many bytes without a line feed
pub found_long : (left : Option (List ℕ)) (w : Window) → All (λ c. is_line_feed c ≡ false) w.ahead → 16386 ≤ length w.ahead → Finds Long left w
found_long left w all h = λ more f. lines_long w.ahead more all h

-- ---- what stands in a buffer

-- the bytes from a place up to another, and some more
stood : (b : List ℕ) (at end n : ℕ) → at ≤ end → take (end + n - at) (drop at b) ≡ take (end - at) (drop at b) ++ take n (drop end b)
stood b at end n order =
    let parts : end + n - at ≡ (end - at) + n = omega (arith, order) in
    let from : at + (end - at) ≡ end = omega (arith, order) in
    ap (λ (k : ℕ). take k (drop at b)) parts ∙ (take-add (end - at) n (drop at b) ∙ ap (λ (x : List ℕ). take (end - at) (drop at b) ++ take n x) (drop-drop (end - at) at b ∙ ap (λ (k : ℕ). drop k b) from))

-- what stands before a place is what stood there
kept : (b b' : List ℕ) (at end : ℕ) → at ≤ end → take end b' ≡ take end b → take (end - at) (drop at b') ≡ take (end - at) (drop at b)
kept b b' at end order same =
    let whole : at + (end - at) ≡ end = omega (arith, order) in
    let same' : take (at + (end - at)) b' ≡ take (at + (end - at)) b = rw whole same in
    sym (drop-take at (end - at) b') ∙ (ap (drop at) same' ∙ drop-take at (end - at) b)

-- a read into a buffer behind the bytes that stand there
pub read_into : (left left' : Option (List ℕ)) (b b' : List ℕ) (at end n room room' : ℕ) (ahead ahead' : List ℕ) → at ≤ end → take end b' ≡ take end b
    → ahead ≡ take (end - at) (drop at b) → ahead' ≡ take (end + n - at) (drop at b') → n ≤ length (drop end b') → n ≤ room
    → Consumes left left' (take n (drop end b')) → (n ≡ 0 → IsAtEnd left') → (left ≡ None → left' ≡ None)
    → (n ≡ 0 → room' ≡ 0) → (0 < n → room' ≡ room - n)
    → Grows left (record { ahead = ahead; room = room }) left' (record { ahead = ahead'; room = room' })
read_into left left' b b' at end zero room room' ahead ahead' order same was now within fits taken ended untold none some = record {
  got = [];
  ahead = now ∙ (stood b' at end 0 order ∙ (ap (λ (x : List ℕ). x ++ []) (kept b b' at end order same ∙ sym was)));
  follows = λ more f. follows_end left left' room more taken untold (ended refl) (subst (λ (k : ℕ). Follows left' k more) (none refl) f);
  size = omega (arith, none refl);
}
read_into left left' b b' at end (suc n) room room' ahead ahead' order same was now within fits taken ended untold none some =
    let got = take (suc n) (drop end b') in
    let long : length got ≡ suc n = omega (arith, length-take (suc n) (drop end b'), within) in
    let rest : room' ≡ room - suc n = some (omega arith) in
    let rest' : room' ≡ room - length got = rest ∙ ap (λ (k : ℕ). room - k) (sym long) in
    record {
      got = got;
      ahead = now ∙ (stood b' at end (suc n) order ∙ (ap (λ (x : List ℕ). x ++ got) (kept b b' at end order same ∙ sym was)));
      follows = λ more f. follows_read left left' room got more taken untold (omega (arith, long, fits)) (subst (λ (k : ℕ). Follows left' k more) rest' f);
      size = omega (arith, long, rest, fits);
    }

-- bytes are taken from the front
pub taken_front : (b : List ℕ) (at end n : ℕ) → n ≤ length (take (end - at) (drop at b)) → take (end - (at + n)) (drop (at + n) b) ≡ drop n (take (end - at) (drop at b))
taken_front b at end n within =
    let fits : n ≤ end - at = omega (arith, within, length-take (end - at) (drop at b)) in
    let parts : n + (end - (at + n)) ≡ end - at = omega (arith, fits) in
    sym (ap (λ (k : ℕ). drop n (take k (drop at b))) (sym parts) ∙ (drop-take n (end - (at + n)) (drop at b)
    ∙ ap (take (end - (at + n))) (drop-drop n at b)))

-- a read that failed
follows_kept : (left left' : Option (List ℕ)) (room : ℕ) (more : List ℕ) → Keeps left left' → (left ≡ None → left' ≡ None) → Follows left' room more → Follows left room more
follows_kept None None room more keeps untold f = f
follows_kept None (Some ys) room more keeps untold f = absurd (not_told ys (untold refl))
follows_kept (Some xs) None room more keeps untold f = absurd keeps
follows_kept (Some xs) (Some ys) room more keeps untold f = f ∙ ap (take room) keeps

pub read_failed : (left left' : Option (List ℕ)) (b b' : List ℕ) (at end room : ℕ) (ahead ahead' : List ℕ) → at ≤ end → take end b' ≡ take end b
    → ahead ≡ take (end - at) (drop at b) → ahead' ≡ take (end - at) (drop at b') → Keeps left left' → (left ≡ None → left' ≡ None)
    → Grows left (record { ahead = ahead; room = room }) left' (record { ahead = ahead'; room = room })
read_failed left left' b b' at end room ahead ahead' order same was now keeps untold = record {
  got = [];
  ahead = now ∙ (kept b b' at end order same ∙ (sym was ∙ sym (append-nil ahead)));
  follows = λ more f. follows_kept left left' room more keeps untold f;
  size = omega arith;
}

-- ---- a piece is taken in

abbrev window : List ℕ → ℕ → Window
window ahead room = record { ahead = ahead; room = room }

window_same : (a b : List ℕ) (m n : ℕ) → a ≡ b → m ≡ n → window a m ≡ window b n
window_same a b m n e f = ap (λ (x : List ℕ). window x m) e ∙ ap (window b) f

-- as many bytes as there are, or as there is room for
taken_within : (n room : ℕ) (piece : List ℕ) → n ≡ min (length piece) room → take n piece ≡ take room piece
taken_within n room piece e = elim (cases_lt room (length piece)) [
  | inl less ↦ ap (λ (k : ℕ). take k piece) (e ∙ omega (arith, less))
  | inr fits ↦ ap (λ (k : ℕ). take k piece) (e ∙ omega (arith, fits)) ∙ (take-length piece ∙ sym (take_all room piece fits))
]

-- what stands in a buffer behind which so many bytes of a piece were put
given_ahead : (b b' piece : List ℕ) (at end n : ℕ) → at ≤ end → end ≤ length b → take (end + n) b' ≡ take end b ++ take n piece
    → take (end + n - at) (drop at b') ≡ take (end - at) (drop at b) ++ take n piece
given_ahead b b' piece at end n order fits same =
    let whole : at + (end + n - at) ≡ end + n = omega (arith, order) in
    let parts : at + (end - at) ≡ end = omega (arith, order) in
    let front : take (end - at) (drop at b) ≡ drop at (take end b) = sym (drop-take at (end - at) b) ∙ ap (λ (k : ℕ). drop at (take k b)) parts in
    sym (drop-take at (end + n - at) b') ∙ (ap (λ (k : ℕ). drop at (take k b')) whole ∙ (ap (drop at) same
    ∙ (drop-append-le at (take end b) (take n piece) (omega (arith, order, fits, length-take end b)) ∙ ap (λ (x : List ℕ). x ++ take n piece) (sym front))))

rest_behind : (n len room room' : ℕ) → n ≡ min (suc len) room → (n ≡ 0 → room' ≡ 0) → (0 < n → room' ≡ room - n) → room' ≡ room - suc len
rest_behind zero len room room' count none some = omega (arith, count, none refl)
rest_behind (suc n) len room room' count none some = omega (arith, count, some (omega arith))

pub given_into : (b b' piece : List ℕ) (at end n room room' : ℕ) (ahead ahead' : List ℕ) → at ≤ end → end ≤ length b → take (end + n) b' ≡ take end b ++ take n piece
    → n ≡ min (length piece) room → ahead ≡ take (end - at) (drop at b) → ahead' ≡ take (end + n - at) (drop at b') → (n ≡ 0 → room' ≡ 0) → (0 < n → room' ≡ room - n)
    → ◌≡◌ {A = Window} (record { ahead = ahead'; room = room' }) (given piece (record { ahead = ahead; room = room }))
given_into b b' [] at end n room room' ahead ahead' order fits same count was now none some =
    let zero : n ≡ 0 = omega (arith, count) in
    let stood = now ∙ (given_ahead b b' [] at end n order fits same ∙ (ap (λ (k : ℕ). take (end - at) (drop at b) ++ take k []) zero ∙ (append-nil (take (end - at) (drop at b)) ∙ sym was))) in
    window_same _ _ room' 0 stood (none zero)
given_into b b' (byte ∷ piece) at end n room room' ahead ahead' order fits same count was now none some =
    let stood = now ∙ (given_ahead b b' (byte ∷ piece) at end n order fits same
    ∙ (ap (λ (x : List ℕ). take (end - at) (drop at b) ++ x) (taken_within n room (byte ∷ piece) count) ∙ ap (λ (x : List ℕ). x ++ take room (byte ∷ piece)) (sym was))) in
    window_same _ _ room' (room - length (byte ∷ piece)) stood (rest_behind n (length piece) room room' count none some)
