-- The group that is gathered so far.
-- This project's own.
use Rattle.std.specs.Prelude.{ℕ, Bool, true, false, List, [], ◌∷◌, ◌++◌, nat_eq, if◌then◌else◌}
use Rattle.vector_text.specs.declared.group.Gathered.{Gathered}
use Rattle.vector_text.specs.Groups.{Group}

-- the values of a line that may stand once, which has stood or not
abbrev pub once : Bool → List ℕ → List (List ℕ)
once false v = []
once true v = v ∷ []

-- the values of a line that may stand twice, which has stood so often
abbrev pub twice : ℕ → List ℕ → List ℕ → List (List ℕ)
twice n a b = if nat_eq n 0 then [] else if nat_eq n 1 then a ∷ [] else a ∷ b ∷ []

-- one value more, where it may stand
abbrev pub grown : Bool → List ℕ → List (List ℕ) → List (List ℕ)
grown false v vs = vs
grown true v vs = vs ++ v ∷ []

abbrev pub group_of : Gathered → Group
group_of g = record {
  line = g.case.line;
  count = g.case.count;
  mech = g.case.mech;
  pr = g.case.pr;
  entropy = once g.stood.entropy g.case.entropy;
  nonce = once g.stood.nonce g.case.nonce;
  pers = once g.stood.pers g.case.pers;
  reseed = once g.stood.reseed g.case.reseed;
  add_reseed = once g.stood.add_reseed g.case.add_reseed;
  add = twice g.stood.add g.case.add1 g.case.add2;
  entropy_pr = twice g.stood.entropy_pr g.case.pr1 g.case.pr2;
  returned = once g.stood.returned g.case.returned;
}
