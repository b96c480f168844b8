-- Options one after another.
use Rattle.std.proofs.Common.{◌<◌, ◌≡◌, ℕ, List, [], ◌∷◌, Bool, true, false, cond, length, refl, sym, ap, ◌∙◌, arith, eqb-true}
use Rattle.std.specs.Prelude.{Result, Ok, Err, codes, ◌==◌}
use Rattle.std.specs.Str.{bytes_eq}
use Rattle.rbg_talk.specs.declared.grammar.Operation.{Operation}
use Rattle.rbg_talk.specs.declared.grammar.Fault.{Fault}
use Rattle.rbg_talk.specs.declared.grammar.Fault.TheVariants.{NoOption}
use Rattle.rbg_talk.specs.Lines.{word_before}
use Rattle.rbg_talk.specs.Calls.{Options, ◌>>=◌, with_pr, with_strength, with_string, with_option, with_options}

-- without a word behind an option the others are none
last_option : (op : Operation) (more : Options) (alone : Bool) → Ok more ≡ with_options op more (cond alone [] [])
last_option op more true = refl
last_option op more false = refl

-- behind an option with a value the others follow
next_option : (op : Operation) (more : Options) (alone : Bool) (value : List ℕ) (later : List (List ℕ)) →
    cond alone (with_options op more (value ∷ later)) (with_options op more later) ≡ with_options op more (cond alone (value ∷ later) later)
next_option op more true value later = refl
next_option op more false value later = refl

-- one option is read, and the others follow
pub option_then : (op : Operation) (o more : Options) (word value : List ℕ) (behind later : List (List ℕ)) → behind ≡ word_before value later → (value ≡ [] → later ≡ [])
    → with_option op o word value ≡ Ok more
    → with_options op o (word ∷ behind) ≡ with_options op more (cond (bytes_eq word (codes "pr")) behind later)
option_then op o more word [] behind later is none read =
    ap (λ (b : List (List ℕ)). with_options op o (word ∷ b)) is
    ∙ (read ∙ (last_option op more (bytes_eq word (codes "pr"))
    ∙ sym (ap (λ (b : List (List ℕ)). with_options op more (cond (bytes_eq word (codes "pr")) b later)) is
    ∙ ap (λ (b : List (List ℕ)). with_options op more (cond (bytes_eq word (codes "pr")) [] b)) (none refl))))
option_then op o more word (c ∷ value) behind later is none read =
    ap (λ (b : List (List ℕ)). with_options op o (word ∷ b)) is
    ∙ (ap (λ (r : Result Options Fault). r >>= (λ (m : Options). cond (bytes_eq word (codes "pr")) (with_options op m ((c ∷ value) ∷ later)) (with_options op m later))) read
    ∙ (next_option op more (bytes_eq word (codes "pr")) (c ∷ value) later
    ∙ sym (ap (λ (b : List (List ℕ)). with_options op more (cond (bytes_eq word (codes "pr")) b later)) is)))

-- an option that can't be read ends them
pub option_fails : (op : Operation) (o : Options) (word value : List ℕ) (behind later : List (List ℕ)) (why : Fault) → behind ≡ word_before value later
    → with_option op o word value ≡ Err why → with_options op o (word ∷ behind) ≡ Err why
option_fails op o word [] behind later why is fails = ap (λ (b : List (List ℕ)). with_options op o (word ∷ b)) is ∙ fails
option_fails op o word (c ∷ value) behind later why is fails =
    ap (λ (b : List (List ℕ)). with_options op o (word ∷ b)) is
    ∙ ap (λ (r : Result Options Fault). r >>= (λ (m : Options). cond (bytes_eq word (codes "pr")) (with_options op m ((c ∷ value) ∷ later)) (with_options op m later))) fails

-- an empty word is none
pub no_word : (w : List ℕ) (later : List (List ℕ)) → (length w == 0) ≡ true → word_before w later ≡ []
no_word [] later empty = refl
no_word (c ∷ w) later empty = absurd (omega (arith, eqb-true (length (c ∷ w)) 0 empty))

pub some_word : (w : List ℕ) (later : List (List ℕ)) → (length w == 0) ≡ false → word_before w later ≡ w ∷ later
some_word [] later some = absurd cc
some_word (c ∷ w) later some = refl

-- the options of words go on behind one that was read
pub option_goes : (op : Operation) (o more : Options) (word value : List ℕ) (ws behind later : List (List ℕ)) (all : Result Options Fault) (alone : Bool) → ws ≡ word_before word behind
    → (length word == 0) ≡ false → behind ≡ word_before value later → (value ≡ [] → later ≡ []) → with_option op o word value ≡ Ok more
    → bytes_eq word (codes "pr") ≡ alone → with_options op o ws ≡ all → with_options op more (cond alone behind later) ≡ all
option_goes op o more word value ws behind later all alone is some next none read test same =
    sym (ap (λ (b : Bool). with_options op more (cond b behind later)) test)
    ∙ (sym (option_then op o more word value behind later next none read)
    ∙ (sym (ap (with_options op o) (is ∙ some_word word behind some)) ∙ same))

-- or end at one that can't be read
pub option_stops : (op : Operation) (o : Options) (word value : List ℕ) (ws behind later : List (List ℕ)) (all : Result Options Fault) (why : Fault) → ws ≡ word_before word behind
    → (length word == 0) ≡ false → behind ≡ word_before value later → with_option op o word value ≡ Err why → with_options op o ws ≡ all → all ≡ Err why
option_stops op o word value ws behind later all why is some next fails same =
    sym same ∙ (ap (with_options op o) (is ∙ some_word word behind some) ∙ option_fails op o word value behind later why next fails)

-- or there is none
pub options_end : (op : Operation) (o : Options) (word : List ℕ) (ws behind : List (List ℕ)) (all : Result Options Fault) → ws ≡ word_before word behind → (length word == 0) ≡ true
    → with_options op o ws ≡ all → all ≡ Ok o
options_end op o word ws behind all is empty same = sym same ∙ ap (with_options op o) (is ∙ no_word word behind empty)

-- a word has bytes
pub some_length : (w : List ℕ) → (length w == 0) ≡ false → 0 < length w
some_length [] some = absurd cc
some_length (c ∷ w) some = omega arith

-- what the words ask for
pub takes_pr : (op : Operation) (o : Options) (word value : List ℕ) → bytes_eq word (codes "pr") ≡ true → with_option op o word value ≡ with_pr op o
takes_pr op o word value is =
    ap (λ (b : Bool). cond b (with_pr op o) (cond (bytes_eq word (codes "strength")) (with_strength op o value) (cond (bytes_eq word (codes "string")) (with_string op o value) (Err NoOption)))) is

pub takes_strength : (op : Operation) (o : Options) (word value : List ℕ) → bytes_eq word (codes "pr") ≡ false → bytes_eq word (codes "strength") ≡ true
    → with_option op o word value ≡ with_strength op o value
takes_strength op o word value other is =
    ap (λ (b : Bool). cond b (with_pr op o) (cond (bytes_eq word (codes "strength")) (with_strength op o value) (cond (bytes_eq word (codes "string")) (with_string op o value) (Err NoOption)))) other
    ∙ ap (λ (b : Bool). cond b (with_strength op o value) (cond (bytes_eq word (codes "string")) (with_string op o value) (Err NoOption))) is
