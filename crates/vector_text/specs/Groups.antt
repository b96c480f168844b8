-- A group: the values under its COUNT line by name, how many there may be, and the case that they make.
-- This project's own, after the layout of NIST's DRBGVS response files.
use Rattle.std.specs.Prelude.{ℕ, ◌&&◌, ◌||◌, Bool, not, List, [], ◌∷◌, ◌++◌, length, nat_eq, nat_lt}
use Rattle.vector_text.specs.declared.case.Case.{Case}
use Rattle.vector_text.specs.declared.case.Mech.{Mech}
use Rattle.vector_text.specs.declared.shape.Field.{Field}
use Rattle.vector_text.specs.declared.shape.Field.TheVariants.{EntropyInput, Nonce, PersonalizationString, EntropyInputReseed, AdditionalInputReseed, AdditionalInput, EntropyInputPr, ReturnedBits}

-- the line of its COUNT and its value, the mechanism and PredictionResistance that it stands under, and for each name the
-- values so far, in the order of their lines
pub record Group : Type 0 where
  pub line : ℕ
  pub count : ℕ
  pub mech : Mech
  pub pr : Bool
  pub entropy : List (List ℕ)
  pub nonce : List (List ℕ)
  pub pers : List (List ℕ)
  pub reseed : List (List ℕ)
  pub add_reseed : List (List ℕ)
  pub add : List (List ℕ)
  pub entropy_pr : List (List ℕ)
  pub returned : List (List ℕ)

-- a group as it begins
abbrev pub begun : ℕ → ℕ → Mech → Bool → Group
begun line count mech pr = record {
  line = line;
  count = count;
  mech = mech;
  pr = pr;
  entropy = [];
  nonce = [];
  pers = [];
  reseed = [];
  add_reseed = [];
  add = [];
  entropy_pr = [];
  returned = [];
}

-- the values under a name
abbrev pub values : Field → Group → List (List ℕ)
values EntropyInput g = g.entropy
values Nonce g = g.nonce
values PersonalizationString g = g.pers
values EntropyInputReseed g = g.reseed
values AdditionalInputReseed g = g.add_reseed
values AdditionalInput g = g.add
values EntropyInputPr g = g.entropy_pr
values ReturnedBits g = g.returned

-- how many there may be
abbrev pub most : Field → ℕ
most EntropyInput = 1
most Nonce = 1
most PersonalizationString = 1
most EntropyInputReseed = 1
most AdditionalInputReseed = 1
most AdditionalInput = 2
most EntropyInputPr = 2
most ReturnedBits = 1

-- one value more under a name
abbrev pub with_value : Field → List ℕ → Group → Group
with_value EntropyInput v g = record g { entropy = g.entropy ++ v ∷ [] }
with_value Nonce v g = record g { nonce = g.nonce ++ v ∷ [] }
with_value PersonalizationString v g = record g { pers = g.pers ++ v ∷ [] }
with_value EntropyInputReseed v g = record g { reseed = g.reseed ++ v ∷ [] }
with_value AdditionalInputReseed v g = record g { add_reseed = g.add_reseed ++ v ∷ [] }
with_value AdditionalInput v g = record g { add = g.add ++ v ∷ [] }
with_value EntropyInputPr v g = record g { entropy_pr = g.entropy_pr ++ v ∷ [] }
with_value ReturnedBits v g = record g { returned = g.returned ++ v ∷ [] }

-- whether there may be one more
abbrev pub has_place : Field → Group → Bool
has_place f g = nat_lt (length (values f g)) (most f)

-- the entropy and the returned bits stand, and two values of EntropyInputPR under prediction resistance
abbrev pub is_whole : Group → Bool
is_whole g = nat_eq (length g.entropy) 1 && nat_eq (length g.returned) 1 && (not g.pr || nat_eq (length g.entropy_pr) 2)

-- the first value, empty where there is none
abbrev pub first : List (List ℕ) → List ℕ
first [] = []
first (v ∷ later) = v

-- the second value, empty where there is none
abbrev pub second : List (List ℕ) → List ℕ
second [] = []
second (v ∷ later) = first later

-- the case of a group
abbrev pub case_of : Group → Case
case_of g = record {
  line = g.line;
  count = g.count;
  mech = g.mech;
  pr = g.pr;
  entropy = first g.entropy;
  nonce = first g.nonce;
  pers = first g.pers;
  has_reseed = nat_eq (length g.reseed) 1;
  reseed = first g.reseed;
  add_reseed = first g.add_reseed;
  add1 = first g.add;
  add2 = second g.add;
  pr1 = first g.entropy_pr;
  pr2 = second g.entropy_pr;
  returned = first g.returned;
}
