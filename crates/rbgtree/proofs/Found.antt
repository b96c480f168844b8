-- A search among named entries, and what it finds of files and of samples.
use Rattle.std.proofs.Common.{◌≡◌, ◌≢◌, ◌≤◌, ◌<◌, ℕ, ◌+◌, ◌∷◌, ◌++◌, [], List, length, take, drop, get_or, zero, suc, refl, sym, ap, subst, inl, inr, add-one, arith, zero-add}
use Rattle.std.proofs.Math.Seq.{drop-cons}
use Rattle.std.proofs.lemmas.List.{drop_all}
use Rattle.std.specs.Prelude.{string_bytes, Vec, String, Option}
use Rattle.std.specs.declared.alloc.Global.{Global}
use Rattle.rbgtree.specs.Files.{Entries, IsFile, IsMissing}
use Rattle.rbgtree.specs.Recordings.{TakesOut, recording_of}
use Rattle.rbgtree.specs.MemoryFiles.{named, labelled, recorded, names, IsFirstAt, IsNoName, AreMissing}

-- what the later names have of this name, all have so many places further on; and what they lack, all lack
pub record IsAsLater (all later : List (List ℕ)) (name : List ℕ) (i : ℕ) : Type 0 where
  pub found : (k : ℕ) → IsFirstAt later name k → IsFirstAt all name (i + k)
  pub missing : IsNoName later name → IsNoName all name

pub as_itself : {T : Type 0} (es : List (String Global × T)) (name : List ℕ) → IsAsLater (names es) (names (drop 0 es)) name 0
as_itself es name = record {
  found = λ (k : ℕ) (h : IsFirstAt (names es) name k). subst (λ (n : ℕ). IsFirstAt (names es) name n) (sym (zero-add k)) h;
  missing = λ (h : IsNoName (names es) name). h;
}

from_here : {T : Type 0} (es : List (String Global × T)) (i : ℕ) (e : String Global × T) → i < length es → e ≡ get_or es i e →
    names (drop i es) ≡ string_bytes e.0 ∷ names (drop (i + 1) es)
from_here {T} es i e lt is =
    let front : drop i es ≡ e ∷ drop (i + 1) es = rw (add-one, drop-cons es i e) (ap (λ (x : String Global × T). x ∷ drop (suc i) es) (sym is)) in
    ap names front

pub found_here : {T : Type 0} (es : List (String Global × T)) (i : ℕ) (e : String Global × T) (name : List ℕ) → i < length es → e ≡ get_or es i e →
    string_bytes e.0 ≡ name → IsAsLater (names es) (names (drop i es)) name i → IsFirstAt (names es) name i
found_here es i e name lt is same all =
    let place : i + 0 ≡ i = omega arith in
    subst (λ (n : ℕ). IsFirstAt (names es) name n) place (all.found 0 (subst (λ (ns : List (List ℕ)). IsFirstAt ns name 0) (sym (from_here es i e lt is)) same))

pub found_later : {T : Type 0} (es : List (String Global × T)) (i : ℕ) (e : String Global × T) (name : List ℕ) → i < length es → e ≡ get_or es i e →
    string_bytes e.0 ≢ name → IsAsLater (names es) (names (drop i es)) name i → IsAsLater (names es) (names (drop (i + 1) es)) name (i + 1)
found_later es i e name lt is other all = record {
  found = λ (k : ℕ) (later : IsFirstAt (names (drop (i + 1) es)) name k).
      let here : IsFirstAt (names (drop i es)) name (suc k) =
      subst (λ (ns : List (List ℕ)). IsFirstAt ns name (suc k)) (sym (from_here es i e lt is)) (other, later) in
      let place : i + suc k ≡ i + 1 + k = omega arith in
      subst (λ (n : ℕ). IsFirstAt (names es) name n) place (all.found (suc k) here);
  missing = λ (later : IsNoName (names (drop (i + 1) es)) name).
      all.missing (subst (λ (ns : List (List ℕ)). IsNoName ns name) (sym (from_here es i e lt is)) (other, later));
}

pub found_nowhere : {T : Type 0} (es : List (String Global × T)) (i : ℕ) (name : List ℕ) → length es ≤ i →
    IsAsLater (names es) (names (drop i es)) name i → IsNoName (names es) name
found_nowhere {T} es i name past all =
    let none : names (drop i es) ≡ [] = ap names (drop_all i es past) in
    all.missing (subst (λ (ns : List (List ℕ)). IsNoName ns name) (sym none) tt)

-- a place among the names is one among the entries
pub is_within : {T : Type 0} (es : List (String Global × T)) (i : ℕ) (name : List ℕ) → IsFirstAt (names es) name i → i < length es
is_within [] i name h = absurd h
is_within (e ∷ es) zero name h = omega arith
is_within (e ∷ es) (suc i) name (other, h) = let less : i < length es = is_within es i name h in omega (arith, less)

-- the file at the place of the first of that name
pub file_at : (files : List (String Global × Vec ℕ Global)) (i : ℕ) (d : String Global × Vec ℕ Global) (name : List ℕ) → IsFirstAt (names files) name i →
    IsFile (named files) name (get_or files i d).1.items
file_at [] i d name h = absurd h
file_at (f ∷ files) zero d name h = inl (h, refl)
file_at (f ∷ files) (suc i) d name (other, h) = inr (other, file_at files i d name h)

pub no_file : (files : List (String Global × Vec ℕ Global)) (name : List ℕ) → IsNoName (names files) name → IsMissing (named files) name
no_file [] name h = tt
no_file (f ∷ files) name (other, h) = (other, no_file files name h)

-- a file that is there is not missing
pub file-not-missing : (files : Entries) (name bytes : List ℕ) → IsFile files name bytes → IsMissing files name → ⊥
file-not-missing [] name bytes there missing = absurd there
file-not-missing (e ∷ files) name bytes (inl p) missing = missing.0 p.0
file-not-missing (e ∷ files) name bytes (inr p) missing = file-not-missing files name bytes p.1 missing.1

-- the samples at the place of the first of that name are taken out
pub taken_at : {S : Type 0} (es : List (String Global × S)) (i : ℕ) (d : String Global × S) (name : List ℕ) → IsFirstAt (names es) name i →
    TakesOut (labelled es) name (get_or es i d).1 (labelled (take i es ++ drop (i + 1) es))
taken_at [] i d name h = absurd h
taken_at (e ∷ es) zero d name h = inl (h, refl, refl)
taken_at {S} (e ∷ es) (suc i) d name (other, h) =
    let next : suc i + 1 ≡ suc (i + 1) = omega arith in
    let left : labelled (take (suc i) (e ∷ es) ++ drop (suc i + 1) (e ∷ es)) ≡ (string_bytes e.0, e.1) ∷ labelled (take i es ++ drop (i + 1) es) =
    ap (λ (n : ℕ). labelled (take (suc i) (e ∷ es) ++ drop n (e ∷ es))) next in
    inr (other, (labelled (take i es ++ drop (i + 1) es), left, taken_at es i d name h))

-- where samples are taken out, their recording is
pub told_out : {S : Type 0} (told : S → Option (List ℕ)) (faults : S → ℕ) (es : List (List ℕ × S)) (name : List ℕ) (s : S) (rest : List (List ℕ × S)) → TakesOut es name s rest →
    TakesOut (recorded told faults es) name (recording_of told faults s) (recorded told faults rest)
told_out told faults [] name s rest h = absurd h
told_out told faults (e ∷ es) name s rest (inl (same, is, left)) = inl (same, ap (recording_of told faults) is, ap (recorded told faults) left)
told_out told faults (e ∷ es) name s rest (inr (other, (later, left, h))) =
    inr (other, (recorded told faults later, ap (recorded told faults) left, told_out told faults es name s later h))

-- samples that are there are not missing
pub samples-not-missing : {S : Type 0} (es : List (List ℕ × S)) (name : List ℕ) (s : S) (rest : List (List ℕ × S)) → TakesOut es name s rest → AreMissing es name → ⊥
samples-not-missing [] name s rest there missing = absurd there
samples-not-missing (e ∷ es) name s rest (inl p) missing = missing.0 p.0
samples-not-missing (e ∷ es) name s rest (inr (other, (later, left, h))) missing = samples-not-missing es name s later h missing.1

pub no_samples : {S : Type 0} (es : List (String Global × S)) (name : List ℕ) → IsNoName (names es) name → AreMissing (labelled es) name
no_samples [] name h = tt
no_samples (e ∷ es) name (other, h) = (other, no_samples es name h)
