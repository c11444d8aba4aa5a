-- The records that are whole in the fragments of a session of which some are lost.
use Rattle.std.specs.Prelude.{◌≡◌, ℕ, List, [], ◌∷◌, ◌++◌, map}
use Rattle.sd_base.specs.Record.{Record, IsRecord}
use Rattle.sd_record.specs.Fragment.{Fragment, Fragments}
use Rattle.sd_label.specs.Cutting.{Standing, IsSession}

-- a place of a volume
pub record Place : Type 0 where
  pub volume : List ℕ
  pub at : ℕ

-- what is there of a session, in order: a fragment, or a gap in which any may be lost
pub data Token : Type 0 where
  Part : Fragment → Token
  Gap : Token

-- these fragments, one right after another
abbrev pub parts_of : List Fragment → List Token
parts_of fs = map Part fs

-- no record is there whole from the front on: all its fragments, one right after another
abbrev pub NoneBegins : List Token → Type 0
NoneBegins tokens = (r : Record) (first : List Fragment) (rest : List Token) → IsRecord r → Fragments r first → tokens ≡ parts_of first ++ rest → ⊥

-- one step over tokens: over all fragments of a record that is given, or over a token that is passed
pub data Step : Type 0 where
  Given : Record → List Fragment → Step
  Passed : Token → Step

-- The steps go over all tokens, from the first to the last. Where a record is whole, it is given; so no other is passed.
abbrev pub Stands : List Step → List Token → Type 0
Stands [] tokens = tokens ≡ []
Stands (Given r first ∷ steps) tokens =
    IsRecord r × Fragments r first × ((rest : List Token) × (tokens ≡ parts_of first ++ rest) × Stands steps rest)
Stands (Passed t ∷ steps) tokens = NoneBegins tokens × ((rest : List Token) × (tokens ≡ t ∷ rest) × Stands steps rest)

-- the records that are given
abbrev pub given : List Step → List Record
given [] = []
given (Given r first ∷ steps) = r ∷ given steps
given (Passed t ∷ steps) = given steps

-- These are the records that are whole there, in order. Each lies in fragments that come right after one another and are its
-- own, so none is given twice and none over a gap; and none that is whole is left out.
abbrev pub AreWholeIn : List Token → List Record → Type 0
AreWholeIn tokens records = (steps : List Step) × Stands steps tokens × (records ≡ given steps)

-- Laws.

-- there is one list of them
abbrev pub WholeAreOneList : Type 0
WholeAreOneList = (tokens : List Token) (records others : List Record) → AreWholeIn tokens records → AreWholeIn tokens others → records ≡ others

-- where nothing is lost, they are the records of the session
abbrev pub SessionIsWhole : Type 0
SessionIsWhole = (fs : List Fragment) (records : List Record) (standing : Standing) → IsSession fs records standing → AreWholeIn (parts_of fs) records
