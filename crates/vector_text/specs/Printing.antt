-- A case as a text.
-- This project's own, after the layout of NIST's DRBGVS response files.
use Rattle.std.specs.Prelude.{◌≡◌, ◌≤◌, ◌<◌, ℕ, ◌^◌, Bool, true, false, List, [], ◌∷◌, ◌++◌, length, codes, decimal, nat_eq, if◌then◌else◌}
use Rattle.hex.specs.Hex.{IsBytes, encode_lower}
use Rattle.hmac_core.specs.declared.hash.Hash.{Hash}
use Rattle.hmac_core.specs.declared.hash.Hash.TheVariants.{Sha224, Sha256, Sha384, Sha512, Sha512_224, Sha512_256}
use Rattle.df_core.specs.declared.key_len.KeyLen.{KeyLen}
use Rattle.df_core.specs.declared.key_len.KeyLen.TheVariants.{K16, K24, K32}
use Rattle.ctr_drbg.specs.declared.seeds.Mode.{Mode}
use Rattle.ctr_drbg.specs.declared.seeds.Mode.TheVariants.{UseDf, NoDf}
use Rattle.vector_text.specs.declared.case.Family as families
use Rattle.vector_text.specs.declared.case.Mech as mechs
use Rattle.vector_text.specs.declared.case.Mech.{Mech}
use Rattle.vector_text.specs.declared.case.Case.{Case}
use Rattle.vector_text.specs.Text.{ACase, TheEnd, entries}

-- the name of a hash function of HMAC_DRBG
abbrev pub hash_name : Hash → List ℕ
hash_name Sha224 = codes "SHA-224"
hash_name Sha256 = codes "SHA-256"
hash_name Sha384 = codes "SHA-384"
hash_name Sha512 = codes "SHA-512"
hash_name Sha512_224 = codes "SHA-512/224"
hash_name Sha512_256 = codes "SHA-512/256"

-- the name of a key length and a mode of CTR_DRBG
abbrev pub cipher_name : KeyLen → Mode → List ℕ
cipher_name K16 UseDf = codes "AES-128 use df"
cipher_name K24 UseDf = codes "AES-192 use df"
cipher_name K32 UseDf = codes "AES-256 use df"
cipher_name K16 NoDf = codes "AES-128 no df"
cipher_name K24 NoDf = codes "AES-192 no df"
cipher_name K32 NoDf = codes "AES-256 no df"

abbrev pub mechanism_name : Mech → List ℕ
mechanism_name (mechs.TheVariants.Hmac h) = hash_name h
mechanism_name (mechs.TheVariants.Ctr keylen mode) = cipher_name keylen mode

-- the family that a text of a mechanism is read for
abbrev pub family_of : Mech → families.Family
family_of (mechs.TheVariants.Hmac h) = families.TheVariants.Hmac
family_of (mechs.TheVariants.Ctr keylen mode) = families.TheVariants.Ctr

abbrev pub mechanism_line : Mech → List ℕ
mechanism_line m = codes "[" ++ mechanism_name m ++ codes "]"

abbrev pub resistance_line : Bool → List ℕ
resistance_line true = codes "[PredictionResistance = True]"
resistance_line false = codes "[PredictionResistance = False]"

abbrev pub count_line : ℕ → List ℕ
count_line n = codes "COUNT = " ++ decimal n

-- a value behind its `=`
abbrev pub value_text : List ℕ → List ℕ
value_text v = if nat_eq (length v) 0 then [] else codes " " ++ encode_lower v

abbrev pub field_line : List ℕ → List ℕ → List ℕ
field_line name v = name ++ codes " =" ++ value_text v

-- the lines before the fields
abbrev pub head_lines : Case → List (List ℕ)
head_lines c = mechanism_line c.mech ∷ resistance_line c.pr ∷ count_line c.count ∷ []

-- the strings of the instantiation
abbrev pub string_lines : Case → List (List ℕ)
string_lines c =
    field_line (codes "EntropyInput") c.entropy ∷ field_line (codes "Nonce") c.nonce ∷ field_line (codes "PersonalizationString") c.pers ∷ []

-- those of the reseed, where there is one
abbrev pub reseed_lines : Bool → List ℕ → List ℕ → List (List ℕ)
reseed_lines false entropy add = []
reseed_lines true entropy add = field_line (codes "EntropyInputReseed") entropy ∷ field_line (codes "AdditionalInputReseed") add ∷ []

-- those of a generate
abbrev pub generate_lines : Bool → List ℕ → List ℕ → List (List ℕ)
generate_lines false add entropy = field_line (codes "AdditionalInput") add ∷ []
generate_lines true add entropy = field_line (codes "AdditionalInput") add ∷ field_line (codes "EntropyInputPR") entropy ∷ []

-- the lines of a case
abbrev pub case_lines : Case → List (List ℕ)
case_lines c =
    head_lines c ++ (string_lines c ++ (reseed_lines c.has_reseed c.reseed c.add_reseed ++ (generate_lines c.pr c.add1 c.pr1
    ++ (generate_lines c.pr c.add2 c.pr2 ++ field_line (codes "ReturnedBits") c.returned ∷ []))))

-- lines with their ends
abbrev pub text_of : List (List ℕ) → List ℕ
text_of [] = []
text_of (line ∷ later) = line ++ 10 ∷ text_of later

abbrev pub case_text : Case → List ℕ
case_text c = text_of (case_lines c)

-- bytes, at most 4,096
pub record IsValue (v : List ℕ) : Type 0 where
  pub bytes : IsBytes v
  pub short : length v ≤ 4096

-- empty where it is not printed
abbrev pub EmptyUnless : Bool → List ℕ → Type 0
EmptyUnless true v = Unit {0}
EmptyUnless false v = v ≡ []

-- a case whose strings are bytes, and empty where they are not printed
pub record IsPrintable (c : Case) : Type 0 where
  pub count : c.count < 2 ^ 64
  pub entropy : IsValue c.entropy
  pub nonce : IsValue c.nonce
  pub pers : IsValue c.pers
  pub reseed : IsValue c.reseed
  pub add_reseed : IsValue c.add_reseed
  pub add1 : IsValue c.add1
  pub add2 : IsValue c.add2
  pub pr1 : IsValue c.pr1
  pub pr2 : IsValue c.pr2
  pub returned : IsValue c.returned
  pub no_reseed : EmptyUnless c.has_reseed c.reseed
  pub no_add_reseed : EmptyUnless c.has_reseed c.add_reseed
  pub no_pr1 : EmptyUnless c.pr c.pr1
  pub no_pr2 : EmptyUnless c.pr c.pr2

-- what stands in the text of a case: that case, at its third line, and the end
abbrev pub ReadsAgain : Case → Type 0
ReadsAgain c = entries (family_of c.mech) (case_text c) ≡ ACase (record c { line = 3 }) ∷ TheEnd ∷ []
