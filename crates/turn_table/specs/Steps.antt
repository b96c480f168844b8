-- What each step on the table tells the pass that makes it.
-- This project's own.
use Rattle.std.specs.Prelude.{◌≡◌, ◌≢◌, ℕ, suc, ◌+◌, ◌*◌, ◌<◌, ◌≤◌, List, [], ◌∷◌, ◌++◌, map, length, true, false}
use Rattle.std.specs.declared.option.Option.{Option}
use Rattle.std.specs.declared.option.Option.TheVariants.{None, Some}
use Rattle.atomic_table.specs.Table.{Me, Step}
use Rattle.turn_table.specs.declared.view.View.{View}
use Rattle.turn_table.specs.Meaning.{Meaning}
use Rattle.turn_table.specs.History.{Entry, state_of}
use Rattle.turn_table.specs.Views.{turn_word, opener, with_seen, with_leases, with_taken, met_at, lease, marked, without, numbered}
use Rattle.turn_table.specs.Calls.{Finds, Commits}

-- a view, and the slots that are out with it
abbrev pub Sat : Type 0 → Type 0
Sat V = Me (Option V) View

-- the table was opened, by an opening that passes the test and is legal
abbrev pub opened : {V : Type 0} → Meaning V → (List ℕ → Type 0) → Step (Option V) → Sat V → ℕ → Sat V → Type 0
opened M test st m n m' = (o : List ℕ) × test o × M.legal o × (m' ≡ (opener o m.0.callers, m.1))

-- a number was drawn
abbrev pub drew : {V : Type 0} → Step (Option V) → Sat V → ℕ → Sat V → Type 0
drew st m n m' = (suc n ≤ m.0.callers) × (m'.0 ≡ numbered (suc n) m.0) × (m'.1 ≡ m.1)

module _ {V : Type 0} (M : Meaning V) where
  -- the history was seen, and word 0 is its length
  abbrev pub looked : Step (Option V) → Sat V → ℕ → Sat V → Type 0
  looked st m n m' = (h : List Entry) × Finds M m.0 h × (n ≡ length h) × (m' ≡ (with_seen h m.0, m.1))

  -- the history was seen at another word
  abbrev pub glanced : Step (Option V) → Sat V → ℕ → Sat V → Type 0
  glanced st m n m' = (h : List Entry) × Finds M m.0 h × (m' ≡ (with_seen h m.0, m.1))

  abbrev pub committed : (Entry → Type 0) → Step (Option V) → Sat V → ℕ → Sat V → Type 0
  committed test st m n m' = Commits M test m.0 m'.0 × (m'.1 ≡ m.1)

  -- the turn was free, and was taken with the slot's value
  pub record Wins (st : Step (Option V)) (m : Sat V) (h : List Entry) (m' : Sat V) : Type 0 where
    pub value : V
    pub slot : ℕ
    pub target : ℕ
    pub at : st.word ≡ 8 + 8 * slot
    pub wrote : st.second ≡ turn_word target m.0.number
    pub target_in : target < 65536
    pub stands : M.stands value (state_of M m.0.opening h slot)
    pub after : m' ≡ (with_seen h (with_taken (record { slot = slot; target = target }) (with_leases (m.0.leases ++ lease slot target (state_of M m.0.opening h slot) true ∷ []) m.0)), (slot, Some value) ∷ m.1)

  -- the turn was held by another caller
  pub record Loses (st : Step (Option V)) (m : Sat V) (h : List Entry) (n : ℕ) (m' : Sat V) : Type 0 where
    pub slot : ℕ
    pub target : ℕ
    pub holder : ℕ
    pub at : st.word ≡ 8 + 8 * slot
    pub found : n ≡ turn_word target holder
    pub target_in : target < 65536
    pub drawn : (0 < holder) × (holder ≤ m.0.callers)
    pub small : holder ≤ 64
    pub another : holder ≢ m.0.number
    pub on_path : M.path m.0.opening slot target
    pub after : m' ≡ (met_at h slot n m.0, m.1)

  abbrev pub taken : Step (Option V) → Sat V → ℕ → Sat V → Type 0
  taken st m n m' = (h : List Entry) × Finds M m.0 h × (n ≡ 0 → Wins st m h m') × (n ≢ 0 → Loses st m h n m')

-- the slot is back in its place
abbrev pub rested : {V : Type 0} → Step (Option V) → Sat V → ℕ → Sat V → Type 0
rested st m n m' = (k : ℕ) × (st.word ≡ 8 + 8 * k) × (m' ≡ (with_leases (map (marked k false) m.0.leases) m.0, []))

-- the slot is out of its place
abbrev pub fetched : {V : Type 0} → Step (Option V) → Sat V → ℕ → Sat V → Type 0
fetched st m n m' = (k : ℕ) × (st.word ≡ 8 + 8 * k) × (m' ≡ (with_leases (map (marked k true) m.0.leases) m.0, (k, None) ∷ []))

-- the turn was given back
abbrev pub released : {V : Type 0} → Step (Option V) → Sat V → ℕ → Sat V → Type 0
released st m n m' = (k : ℕ) × (st.word ≡ 8 + 8 * k) × (m' ≡ (with_leases (without k m.0.leases) m.0, []))
