-- Two words or three, and what they don't ask for.
use Rattle.std.proofs.Common.{◌≡◌, ◌≤◌, ◌<◌, ℕ, List, [], ◌∷◌, length, map, get_or, Some, None, ap, subst, sym, ◌∙◌, arith}
use Rattle.std.specs.Prelude.{String, string_bytes, Bool, Option, IfNone}
use Rattle.std.specs.declared.alloc.Global.{Global}
use Rattle.rbg_bench.specs.declared.job.Mechanism.{Mechanism}
use Rattle.rbg_bench.specs.declared.job.Primitive.{Primitive}
use Rattle.rbg_bench.specs.declared.job.Form.{Form}
use Rattle.rbg_bench.specs.declared.job.Job.{Job}
use Rattle.rbg_bench.specs.declared.job.Job.TheVariants.{Generates, Reseeds, Repeats, Tests}
use Rattle.rbg_bench.specs.declared.tree_job.TreeJob.{TreeJob}
use Rattle.rbg_bench.specs.declared.tree_job.TreeJob.TheVariants.{Calls, Draws}
use Rattle.rbg_bench.specs.Jobs.{AsksFor, IsInRange}
use Rattle.rbg_bench.specs.TreeJobs.{AsksTree, IsServed}

-- the words of a list of two, by its items
pub two : (words : List (String Global)) (a b : String Global) → 2 ≤ length words → length words < 3
    → a ≡ get_or words 0 a → b ≡ get_or words 1 b → map string_bytes words ≡ string_bytes a ∷ string_bytes b ∷ []
two [] a b low high p q = absurd (omega arith)
two (x ∷ []) a b low high p q = absurd (omega arith)
two (x ∷ y ∷ []) a b low high p q = ap (λ v. string_bytes v ∷ string_bytes y ∷ []) (sym p) ∙ ap (λ v. string_bytes a ∷ string_bytes v ∷ []) (sym q)
two (x ∷ y ∷ z ∷ more) a b low high p q = absurd (omega arith)

-- and of three
pub three : (words : List (String Global)) (a b c : String Global) → 3 ≤ length words → length words < 4
    → a ≡ get_or words 0 a → b ≡ get_or words 1 b → c ≡ get_or words 2 c
    → map string_bytes words ≡ string_bytes a ∷ string_bytes b ∷ string_bytes c ∷ []
three [] a b c low high p q r = absurd (omega arith)
three (x ∷ []) a b c low high p q r = absurd (omega arith)
three (x ∷ y ∷ []) a b c low high p q r = absurd (omega arith)
three (x ∷ y ∷ z ∷ []) a b c low high p q r =
    ap (λ v. string_bytes v ∷ string_bytes y ∷ string_bytes z ∷ []) (sym p)
    ∙ (ap (λ v. string_bytes a ∷ string_bytes v ∷ string_bytes z ∷ []) (sym q)
    ∙ ap (λ v. string_bytes a ∷ string_bytes b ∷ string_bytes v ∷ []) (sym r))
three (x ∷ y ∷ z ∷ w ∷ more) a b c low high p q r = absurd (omega arith)

-- and of four
pub four : (words : List (String Global)) (a b c d : String Global) → 4 ≤ length words → length words < 5
    → a ≡ get_or words 0 a → b ≡ get_or words 1 b → c ≡ get_or words 2 c → d ≡ get_or words 3 d
    → map string_bytes words ≡ string_bytes a ∷ string_bytes b ∷ string_bytes c ∷ string_bytes d ∷ []
four [] a b c d low high p q r s = absurd (omega arith)
four (x ∷ []) a b c d low high p q r s = absurd (omega arith)
four (x ∷ y ∷ []) a b c d low high p q r s = absurd (omega arith)
four (x ∷ y ∷ z ∷ []) a b c d low high p q r s = absurd (omega arith)
four (x ∷ y ∷ z ∷ w ∷ []) a b c d low high p q r s =
    ap (λ v. string_bytes v ∷ string_bytes y ∷ string_bytes z ∷ string_bytes w ∷ []) (sym p)
    ∙ (ap (λ v. string_bytes a ∷ string_bytes v ∷ string_bytes z ∷ string_bytes w ∷ []) (sym q)
    ∙ (ap (λ v. string_bytes a ∷ string_bytes b ∷ string_bytes v ∷ string_bytes w ∷ []) (sym r)
    ∙ ap (λ v. string_bytes a ∷ string_bytes b ∷ string_bytes c ∷ string_bytes v ∷ []) (sym s)))
four (x ∷ y ∷ z ∷ w ∷ u ∷ more) a b c d low high p q r s = absurd (omega arith)

-- four words, each by the text that it is
pub as_strs : (a b c d p q r s : List ℕ) → a ≡ p → b ≡ q → c ≡ r → d ≡ s → a ∷ b ∷ c ∷ d ∷ [] ≡ p ∷ q ∷ r ∷ s ∷ []
as_strs a b c d p q r s e f g h =
    ap (λ v. v ∷ b ∷ c ∷ d ∷ []) e ∙ (ap (λ v. p ∷ v ∷ c ∷ d ∷ []) f ∙ (ap (λ v. p ∷ q ∷ v ∷ d ∷ []) g ∙ ap (λ v. p ∷ q ∷ r ∷ v ∷ []) h))

-- two words that ask for no repeats ask for nothing
pub two_refused : (words : List (List ℕ)) (a b : List ℕ) (r : Option Job) → words ≡ a ∷ b ∷ []
    → IfNone r ((p : Primitive) (t : ℕ) → AsksFor (a ∷ b ∷ []) (Repeats p t) → IsInRange (Repeats p t) → ⊥)
    → IfNone r ((job : Job) → AsksFor words job → IsInRange job → ⊥)
two_refused words a b (Some job) e h = tt
two_refused words a b None e h = by where
  by : (job : Job) → AsksFor words job → IsInRange job → ⊥
  by (Generates m s t) asks range = subst (λ w. AsksFor w (Generates m s t)) e asks
  by (Reseeds m s t) asks range = absurd (subst (λ w. AsksFor w (Reseeds m s t)) e asks).1
  by (Repeats p t) asks range = h p t (subst (λ w. AsksFor w (Repeats p t)) e asks) range
  by (Tests f s t) asks range = subst (λ w. AsksFor w (Tests f s t)) e asks

-- three words that ask for no generates and no tests ask for nothing
pub three_refused : (words : List (List ℕ)) (a b c : List ℕ) (r : Option Job) → words ≡ a ∷ b ∷ c ∷ []
    → ((m : Mechanism) (s t : ℕ) → AsksFor (a ∷ b ∷ c ∷ []) (Generates m s t) → IsInRange (Generates m s t) → ⊥)
    → IfNone r ((f : Form) (s t : ℕ) → AsksFor (a ∷ b ∷ c ∷ []) (Tests f s t) → IsInRange (Tests f s t) → ⊥)
    → IfNone r ((job : Job) → AsksFor words job → IsInRange job → ⊥)
three_refused words a b c (Some job) e g h = tt
three_refused words a b c None e g h = by where
  by : (job : Job) → AsksFor words job → IsInRange job → ⊥
  by (Generates m s t) asks range = g m s t (subst (λ w. AsksFor w (Generates m s t)) e asks) range
  by (Reseeds m s t) asks range = absurd (subst (λ w. AsksFor w (Reseeds m s t)) e asks).1
  by (Repeats p t) asks range = subst (λ w. AsksFor w (Repeats p t)) e asks
  by (Tests f s t) asks range = h f s t (subst (λ w. AsksFor w (Tests f s t)) e asks) range

-- and four words that ask for no generates after reseeds
pub four_refused : (words : List (List ℕ)) (a b c d : List ℕ) (r : Option Job) → words ≡ a ∷ b ∷ c ∷ d ∷ []
    → IfNone r ((m : Mechanism) (s t : ℕ) → AsksFor (a ∷ b ∷ c ∷ d ∷ []) (Reseeds m s t) → IsInRange (Reseeds m s t) → ⊥)
    → IfNone r ((job : Job) → AsksFor words job → IsInRange job → ⊥)
four_refused words a b c d (Some job) e h = tt
four_refused words a b c d None e h = by where
  by : (job : Job) → AsksFor words job → IsInRange job → ⊥
  by (Generates m s t) asks range = subst (λ w. AsksFor w (Generates m s t)) e asks
  by (Reseeds m s t) asks range = h m s t (subst (λ w. AsksFor w (Reseeds m s t)) e asks) range
  by (Repeats p t) asks range = subst (λ w. AsksFor w (Repeats p t)) e asks
  by (Tests f s t) asks range = subst (λ w. AsksFor w (Tests f s t)) e asks

-- three words that ask for no draws ask for nothing of a tree
pub three_draws : (words : List (List ℕ)) (a b c : List ℕ) (r : Option TreeJob) → words ≡ a ∷ b ∷ c ∷ []
    → IfNone r ((n t : ℕ) → AsksTree (a ∷ b ∷ c ∷ []) (Draws n t) → IsServed (Draws n t) → ⊥)
    → IfNone r ((job : TreeJob) → AsksTree words job → IsServed job → ⊥)
three_draws words a b c (Some job) e h = tt
three_draws words a b c None e h = by where
  by : (job : TreeJob) → AsksTree words job → IsServed job → ⊥
  by (Calls n b pr t) asks range = subst (λ w. AsksTree w (Calls n b pr t)) e asks
  by (Draws n t) asks range = h n t (subst (λ w. AsksTree w (Draws n t)) e asks) range

-- and four words that ask for no calls
pub four_calls : (words : List (List ℕ)) (a b c d : List ℕ) (r : Option TreeJob) → words ≡ a ∷ b ∷ c ∷ d ∷ []
    → IfNone r ((n m : ℕ) (pr : Bool) (t : ℕ) → AsksTree (a ∷ b ∷ c ∷ d ∷ []) (Calls n m pr t) → IsServed (Calls n m pr t) → ⊥)
    → IfNone r ((job : TreeJob) → AsksTree words job → IsServed job → ⊥)
four_calls words a b c d (Some job) e h = tt
four_calls words a b c d None e h = by where
  by : (job : TreeJob) → AsksTree words job → IsServed job → ⊥
  by (Calls n m pr t) asks range = h n m pr t (subst (λ w. AsksTree w (Calls n m pr t)) e asks) range
  by (Draws n t) asks range = subst (λ w. AsksTree w (Draws n t)) e asks
