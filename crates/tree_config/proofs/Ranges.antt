-- What is read of each table is in range.
use Rattle.std.proofs.Common.{◌≡◌, ℕ, suc, ◌+◌, ◌-◌, ◌*◌, ◌^◌, ◌<◌, ◌≤◌, Bool, true, false, not, ◌&&◌, ◌||◌, nat_le, ◌==◌, IsTrue, zero, if◌then◌else◌, List, length, IfSome, Option, Some, None, Result, Ok, Err, refl, sym, ap, ◌∙◌, arith, subst, mul-le-mul, codes, pos}
use Rattle.std.specs.Int.{div_ceil}
use Rattle.std.proofs.lemmas.Grind.{div_ceil_times}
use Rattle.std.proofs.lemmas.Option.{same_Some}
use Rattle.std.proofs.Math.Nat.{div-le_self}
use Rattle.rbg_bytes.specs.declared.cond.Cond.TheVariants as cond
use Rattle.toml.specs.Data.{Data, string, integer, boolean, Members, get_member, as_bool}
use Rattle.tree_config.specs.declared.fault.Field.{Field}
use Rattle.tree_config.specs.declared.fault.Field.TheVariants as field
use Rattle.tree_config.specs.declared.plan.NodeKind.{NodeKind}
use Rattle.tree_config.specs.declared.plan.NodeKind.TheVariants.{Rbg1, Child}
use Rattle.tree_config.specs.declared.plan.SourcePlan.{SourcePlan}
use Rattle.tree_config.specs.declared.row.RowOrigin.{RowOrigin}
use Rattle.tree_config.specs.declared.row.RowOrigin.TheVariants as origin
use Rattle.tree_config.specs.declared.row.NodeRow.{NodeRow}
use Rattle.tree_config.specs.Fields.{◌>>=◌, or_fault, required, or_default, absent, where_true, number_within, text_within, one_of}
use Rattle.tree_config.specs.Names.{cond_names, node_kind_names, drbg_names}
use Rattle.tree_config.specs.Keys.{has_only, node_keys, source_keys}
use Rattle.tree_config.specs.Source.{source_at, is_true, den_fits, rct_of, window_of}
use Rattle.tree_config.specs.Node.{node_at, origin_of, drawn, source_within}
use Rattle.tree_config.specs.Tree.{node_of_row, origin_of_row, parent_in}
use Rattle.tree_config.specs.Planned.{IsSource, IsNode, Fits}

-- both of two readers read something
pub both : {A B E : Type 0} (r : Result A E) (f : A → Result B E) (y : B) → (r >>= f) ≡ Ok y → (x : A) × (r ≡ Ok x) × (f x ≡ Ok y)
both (Ok x) f y h = (x, refl, h)
both (Err e) f y h = cc

pub same_Ok : {A E : Type 0} (r : Result A E) (x y : A) → r ≡ Ok x → r ≡ Ok y → x ≡ y
same_Ok r x y g h = cc

false_isnt : false ≡ true → ⊥
false_isnt h = cc

le_from : (a b : ℕ) → nat_le a b ≡ true → a ≤ b
le_from a b h = grind arith

found : {A E : Type 0} (e : E) (o : Option A) (x : A) → or_fault e o ≡ Ok x → o ≡ Some x
found e None x h = cc
found e (Some y) x h = ap Some (same_Ok _ y x refl h)

pub present : {A : Type 0} (f : Field) (read : Data → Option A) (o : Option Data) (x : A) → required f read o ≡ Ok x → (d : Data) × (read d ≡ Some x)
present f read None x h = cc
present f read (Some d) x h = (d, found f (read d) x h)

-- a test of two bounds
between : {A : Type 0} (least most n : ℕ) (x y : A) (low high : Bool) → nat_le least n ≡ low → nat_le n most ≡ high
    → (if low && high then Some x else None) ≡ Some y → (x ≡ y) × (least ≤ n) × (n ≤ most)
between least most n x y true true a b h = (same_Some x y h, grind arith, grind arith)
between least most n x y low high a b h = cc

in_range : (least most : ℕ) (d : Data) (n : ℕ) → number_within least most d ≡ Some n → (least ≤ n) × (n ≤ most)
in_range least most (integer (pos m)) n h = let at = between least most m m n (nat_le least m) (nat_le m most) refl refl h in rw (← at.0) (at.1, at.2)
in_range least most d n h = cc

number_in : (f : Field) (least most : ℕ) (o : Option Data) (n : ℕ) → required f (number_within least most) o ≡ Ok n → (least ≤ n) × (n ≤ most)
number_in f least most o n h = let at = present f (number_within least most) o n h in in_range least most at.0 n at.1

number_or_in : (default least most : ℕ) (f : Field) (o : Option Data) (n : ℕ) → least ≤ default → default ≤ most
    → or_default default f (number_within least most) o ≡ Ok n → (least ≤ n) × (n ≤ most)
number_or_in default least most f None n low high h = rw (← same_Ok _ default n refl h) (low, high)
number_or_in default least most f (Some d) n low high h = in_range least most d n (found f (number_within least most d) n h)

text_in_range : (least most : ℕ) (d : Data) (t : List ℕ) → text_within least most d ≡ Some t → (least ≤ length t) × (length t ≤ most)
text_in_range least most (string s) t h =
    let at = between least most (length s) s t (nat_le least (length s)) (nat_le (length s) most) refl refl h in rw (← at.0) (at.1, at.2)
text_in_range least most d t h = cc

text_in : (f : Field) (least most : ℕ) (o : Option Data) (t : List ℕ) → required f (text_within least most) o ≡ Ok t → (least ≤ length t) × (length t ≤ most)
text_in f least most o t h = let at = present f (text_within least most) o t h in text_in_range least most at.0 t at.1

-- the number of a source
some_source : (count : ℕ) (b : Bool) (d : Data) (n : ℕ) → nat_le 1 count ≡ b → (if b then number_within 0 (count - 1) d else None) ≡ Some n → n < count
some_source count true d n is h = let at = in_range 0 (count - 1) d n h in grind arith
some_source count false d n is h = cc

source_in : (count : ℕ) (o : Option Data) (n : ℕ) → required field.Source (source_within count) o ≡ Ok n → n < count
source_in count o n h = let at = present field.Source (source_within count) o n h in some_source count (nat_le 1 count) at.0 n refl at.1

drawn_source : (count : ℕ) (source parent seed : Option Data) (o : RowOrigin) → drawn count source parent seed ≡ Ok o → (n : ℕ) × (n < count) × (origin.Source n ≡ o)
drawn_source count source parent seed o h =
    let a = both (required field.Source (source_within count) source) _ o h in
    let b = both (absent field.Parent parent) _ o a.2 in
    let c = both (absent field.Seed seed) _ o b.2 in
    (a.0, source_in count source a.0 a.1, same_Ok _ (origin.Source a.0) o refl c.2)

origin_fits : (kind : NodeKind) (count nodes : ℕ) (source parent seed : Option Data) (o : RowOrigin) → origin_of kind count source parent seed ≡ Ok o
    → IfSome (parent_in (origin_of_row o)) (λ p. p < nodes) → Fits 1 count nodes kind (origin_of_row o)
origin_fits Rbg1 count nodes source parent seed o h within =
    let a = both (absent field.Source source) _ o h in
    let b = both (absent field.Parent parent) _ o a.2 in
    let c = both (required field.Seed (text_within 1 255) seed) _ o b.2 in
    rw (← same_Ok _ (origin.SeedFile c.0) o refl c.2) (text_in field.Seed 1 255 seed c.0 c.1)
origin_fits Child count nodes source parent seed o h within =
    let a = both (absent field.Source source) _ o h in
    let b = both (required field.Parent (number_within 0 (2 ^ 63 - 1)) parent) _ o a.2 in
    let c = both (absent field.Seed seed) _ o b.2 in
    let e : origin.Parent b.0 ≡ o = same_Ok _ (origin.Parent b.0) o refl c.2 in
    rw (← e) (subst (λ (o : RowOrigin). IfSome (parent_in (origin_of_row o)) (λ p. p < nodes)) (sym e) within)
origin_fits kind count nodes source parent seed o h within = let a = drawn_source count source parent seed o h in rw (← a.2) a.1

-- what is read of a node's table is in range, where its parent is among the nodes
pub node_in : (version count nodes : ℕ) (ms : Members) (r : NodeRow) → node_at version count ms ≡ Ok r → IfSome (parent_in (node_of_row r).origin) (λ p. p < nodes)
    → IsNode 1 count nodes (node_of_row r)
unfolding node_at
node_in version count nodes ms r h within =
    let a = both (required field.NodeKind (one_of node_kind_names) (get_member (codes "kind") ms)) _ r h in
    let b = both (required field.Drbg (one_of drbg_names) (get_member (codes "drbg") ms)) _ r a.2 in
    let c = both (or_default 65536 field.Interval (number_within 1 281474976710656) (get_member (codes "interval") ms)) _ r b.2 in
    let d = both (origin_of a.0 count (get_member (codes "source") ms) (get_member (codes "parent") ms) (get_member (codes "seed") ms)) _ r c.2 in
    let e = both (where_true field.Unknown (has_only (node_keys version) ms)) _ r d.2 in
    let row : NodeRow = record { kind = a.0; drbg = b.0; interval = c.0; origin = d.0 } in
    let is : row ≡ r = same_Ok _ row r refl e.2 in
    let here = subst (λ (r : NodeRow). IfSome (parent_in (node_of_row r).origin) (λ p. p < nodes)) (sym is) within in
    let interval = number_or_in 65536 1 281474976710656 field.Interval (get_member (codes "interval") ms) c.0 (omega arith) (omega arith) c.1 in
    rw (← is) (record { interval_low = interval.0; interval_high = interval.1; origin = origin_fits a.0 count nodes _ _ _ d.0 d.1 here })

-- a condition that let the reading go on holds
holds : (f : Field) (b : Bool) (u : Unit {0}) → where_true f b ≡ Ok u → b ≡ true
holds f true u h = refl
holds f false u h = cc

all_three : (a t b : Bool) → (a && (not t || b)) ≡ true → (a ≡ true) × (t ≡ true → b ≡ true)
all_three true true true h = (refl, λ e. refl)
all_three true true false h = cc
all_three true false b h = (refl, λ e. absurd (false_isnt e))
all_three false t b h = cc

den_in : (num den : ℕ) (binary : Option Data) (u : Unit {0}) → den_fits num den binary ≡ Ok u
    → (num ≤ 8 * den) × (is_true binary ≡ true → num ≤ den)
den_in num den binary u h =
    let at = all_three (nat_le num (8 * den)) (is_true binary) (nat_le num den) (holds field.Den _ u h) in
    (le_from num (8 * den) at.0, λ e. le_from num den (at.1 e))

-- a source whose samples are binary says so
binary_in : (o : Option Data) (b : Bool) → or_default false field.Binary as_bool o ≡ Ok b → b ≡ true → is_true o ≡ true
binary_in None b h e = absurd (false_isnt (same_Ok _ false b refl h ∙ e))
binary_in (Some (boolean true)) b h e = refl
binary_in (Some (boolean false)) b h e = absurd (false_isnt (same_Ok _ false b refl h ∙ e))
binary_in (Some d) b h e = cc

some_times : (x b q : ℕ) → x ≤ q * b → 1 ≤ x → 1 ≤ q
some_times x b zero h some = absurd (omega (arith, h))
some_times x b (suc q) h some = omega arith

-- the computed cutoff of the repetition count test
cutoff_in : (a num den : ℕ) → 1 ≤ a → a ≤ 64 → 1 ≤ num → 1 ≤ den → den ≤ 1000 → (2 ≤ 1 + div_ceil (a * den) num) × (1 + div_ceil (a * den) num < 2 ^ 32)
cutoff_in a num den a_low a_high num_low den_low den_high =
    let x : ℕ = a * den in
    let low : 1 ≤ x = mul-le-mul a_low den_low in
    let high : x ≤ 64 * 1000 = mul-le-mul a_high den_high in
    let some = some_times x num (div_ceil x num) (div_ceil_times x num num_low).0 low in
    let most = div-le_self x num in
    (omega (arith, some), omega (arith, most, high))

rct_in : (num den : ℕ) (rct rct_a : Option Data) (n : ℕ) → 1 ≤ num → 1 ≤ den → den ≤ 1000 → rct_of num den rct rct_a ≡ Ok n → (2 ≤ n) × (n < 2 ^ 32)
rct_in num den (Some d) None n num_low den_low den_high h =
    let at = in_range 2 4294967295 d n (found field.Rct (number_within 2 4294967295 d) n h) in
    (at.0, omega (arith, at.1))
rct_in num den None (Some d) n num_low den_low den_high h =
    let a = both (or_fault field.RctA (number_within 1 64 d)) _ n h in
    let at = in_range 1 64 d a.0 (found field.RctA (number_within 1 64 d) a.0 a.1) in
    rw (← same_Ok _ (1 + div_ceil (a.0 * den) num) n refl a.2) (cutoff_in a.0 num den at.0 at.1 num_low den_low den_high)
rct_in num den None None n num_low den_low den_high h = cc
rct_in num den (Some d) (Some e) n num_low den_low den_high h = cc

window_in : (binary : Bool) → IsTrue (window_of binary == 512 || window_of binary == 1024)
unfolding window_of
window_in true = refl
window_in false = refl

wide : (binary : Bool) → window_of binary ≡ 1024 → binary ≡ true
unfolding window_of
wide true h = refl
wide false h = absurd (omega (arith, h))

startup_in : (o : Option Data) (n : ℕ) → or_default 1024 field.Startup (number_within 1024 65536) o ≡ Ok n → (1024 ≤ n) × (n ≤ 65536)
startup_in o n h = number_or_in 1024 1024 65536 field.Startup o n (omega arith) (omega arith) h

-- what is read of a source's table is in range
pub source_in_range : (version : ℕ) (ms : Members) (s : SourcePlan) → source_at version ms ≡ Ok s → IsSource s
unfolding source_at
source_in_range version ms s h =
    let a = both (required field.Samples (text_within 1 255) (get_member (codes "samples") ms)) _ s h in
    let b = both (required field.Num (number_within 1 8000) (get_member (codes "num") ms)) _ s a.2 in
    let c = both (required field.Den (number_within 1 1000) (get_member (codes "den") ms)) _ s b.2 in
    let d = both (den_fits b.0 c.0 (get_member (codes "binary") ms)) _ s c.2 in
    let e = both (or_default false field.Binary as_bool (get_member (codes "binary") ms)) _ s d.2 in
    let f = both (rct_of b.0 c.0 (get_member (codes "rct") ms) (get_member (codes "rct_a") ms)) _ s e.2 in
    let g = both (required field.Apt (number_within 2 (window_of e.0)) (get_member (codes "apt") ms)) _ s f.2 in
    let i = both (or_default 1024 field.Startup (number_within 1024 65536) (get_member (codes "startup") ms)) _ s g.2 in
    let j = both (or_default cond.HmacSha256 field.Conditioner (one_of (cond_names version)) (get_member (codes "conditioner") ms)) _ s i.2 in
    let k = both (where_true field.Unknown (has_only (source_keys version) ms)) _ s j.2 in
    let source : SourcePlan = record {
      samples = a.0;
      num = b.0;
      den = c.0;
      cutoffs = record { rct = f.0; window = window_of e.0; apt = g.0 };
      startup = i.0;
      cond = j.0;
    } in
    let name = text_in field.Samples 1 255 (get_member (codes "samples") ms) a.0 a.1 in
    let num = number_in field.Num 1 8000 (get_member (codes "num") ms) b.0 b.1 in
    let den = number_in field.Den 1 1000 (get_member (codes "den") ms) c.0 c.1 in
    let fits = den_in b.0 c.0 (get_member (codes "binary") ms) d.0 d.1 in
    let rct = rct_in b.0 c.0 (get_member (codes "rct") ms) (get_member (codes "rct_a") ms) f.0 num.0 den.0 den.1 f.1 in
    let apt = number_in field.Apt 2 (window_of e.0) (get_member (codes "apt") ms) g.0 g.1 in
    let startup = startup_in (get_member (codes "startup") ms) i.0 i.1 in
    rw (← same_Ok _ source s refl k.2) (record {
      name_low = name.0;
      name_high = name.1;
      num_low = num.0;
      num_high = num.1;
      den_low = den.0;
      den_high = den.1;
      byte = fits.0;
      binary = λ w. fits.1 (binary_in (get_member (codes "binary") ms) e.0 e.1 (wide e.0 w));
      cutoffs = record { rct = rct.0; fits = rct.1; window = window_in e.0; apt = apt.0; within = apt.1 };
      startup_low = startup.0;
      startup_high = startup.1;
    })
