-- Reading one table after the other.
use Rattle.std.proofs.Common.{◌≡◌, ℕ, ◌+◌, ◌<◌, List, [], ◌∷◌, ◌++◌, length, get_or, drop, Result, Ok, Err, refl, sym, ap, ◌∙◌, append_assoc}
use Rattle.std.proofs.lemmas.List.{drop_more}
use Rattle.toml.specs.declared.value.Value.{Value}
use Rattle.toml.specs.View.{view}
use Rattle.toml.specs.Data.{Members}
use Rattle.tree_config.specs.declared.fault.Field.{Field}
use Rattle.tree_config.specs.declared.fault.Place.{Place}
use Rattle.tree_config.specs.declared.fault.ConfigFault.{ConfigFault}
use Rattle.tree_config.specs.declared.fault.ConfigFault.TheVariants.{BadField}
use Rattle.tree_config.specs.Top.{members_in, members_of_each}
use Rattle.tree_config.specs.Rows.{each_at}
use Rattle.tree_config.specs.Fields.{◌>>=◌}

-- what was read before, at the front
abbrev pub with_front : {A : Type 0} → List A → Result (List A) ConfigFault → Result (List A) ConfigFault
with_front front (Ok more) = Ok (front ++ more)
with_front front (Err f) = Err f

front_moves : {A : Type 0} (front : List A) (x : A) (r : Result (List A) ConfigFault) → with_front (front ++ x ∷ []) r ≡ with_front front (with_front (x ∷ []) r)
front_moves front x (Ok more) = ap Ok (append_assoc front (x ∷ []) more)
front_moves front x (Err f) = refl

joined : {A : Type 0} (x : A) (r : Result (List A) ConfigFault) → (r >>= (λ more. Ok (x ∷ more))) ≡ with_front (x ∷ []) r
joined x (Ok more) = refl
joined x (Err f) = refl

module _ {A : Type 0} (place : ℕ → Place) (read : Members → Result A Field) where
  one_read : (i : ℕ) (ms : Members) (rest : List Members) (x : A) → read ms ≡ Ok x → each_at place read i (ms ∷ rest) ≡ with_front (x ∷ []) (each_at place read (i + 1) rest)
  one_read i ms rest x h = rw h (joined x (each_at place read (i + 1) rest))

  -- one table more was read
  pub each_more : (vs : List Value) (v : Value) (i : ℕ) (front : List A) (x : A) → i < length vs → read (members_in (view (get_or vs i v))) ≡ Ok x
      → with_front (front ++ x ∷ []) (each_at place read (i + 1) (members_of_each (drop (i + 1) vs)))
      ≡ with_front front (each_at place read i (members_of_each (drop i vs)))
  each_more vs v i front x lt h =
      rw (drop_more vs i v lt) (front_moves front x _ ∙ ap (with_front front) (sym (one_read i _ _ x h)))

  -- the first table at fault
  pub each_fault : (vs : List Value) (v : Value) (i : ℕ) (front : List A) (f : Field) → i < length vs → read (members_in (view (get_or vs i v))) ≡ Err f
      → with_front front (each_at place read i (members_of_each (drop i vs))) ≡ Err (BadField (place i) f)
  each_fault vs v i front f lt h = rw (drop_more vs i v lt, h)
