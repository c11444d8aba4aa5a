-- How the records of a session lie in block bodies, and which of them some bodies hold whole.
use Rattle.std.specs.Prelude.{◌≡◌, ◌≢◌, ◌⊎◌, ℕ, ◌+◌, ◌<◌, ◌≤◌, Bool, true, false, Some, None, List, [], ◌∷◌, ◌++◌, length, map, sum_by}
use Rattle.std.specs.List.{flat_map, AllByRecursion}
use Rattle.sd_base.specs.Record.{Record, IsRecord}
use Rattle.sd_record.specs.Fragment.{Fragment, fragment_bytes, fragments_bytes, GoesOn, FitTogether, Fragments, FragmentsOfAll}
use Rattle.sd_label.specs.declared.label.SessionLabel.{SessionLabel}
use Rattle.sd_label.specs.Label.{IsSessionLabel, session_label_fragment}

-- the data bytes of all the records
abbrev pub total_bytes : List Record → ℕ
total_bytes records = sum_by (λ r. length r.bytes) records

-- a start label: it has no totals
pub record IsStart (label : SessionLabel) : Type 0 where
  pub label_is : IsSessionLabel label
  pub no_totals : label.totals ≡ None

-- an end label with the totals of these records
pub record IsEnd (label : SessionLabel) (records : List Record) : Type 0 where
  pub label_is : IsSessionLabel label
  pub totals_are : label.totals
      ≡ Some (record { records = length records; bytes = total_bytes records })

-- where a session stands: between two records, within one, or after its end label
pub data Standing : Type 0 where
  Between : Standing
  Within : Standing
  AtEnd : Standing

-- the first fragments of a record, but not all of them
pub record Unfinished (fs : List Fragment) : Type 0 where
  pub unfinished : Record
  pub remaining : List Fragment
  pub record_is : IsRecord unfinished
  pub some_there : fs ≢ []
  pub some_remain : remaining ≢ []
  pub fragments_are : Fragments unfinished (fs ++ remaining)

-- what follows the whole records: nothing, the front of one more, or the end label with their totals and nothing else
abbrev pub Behind : List Record → Standing → List Fragment → Type 0
Behind records Between fs = fs ≡ []
Behind records Within fs = Unfinished fs
Behind records AtEnd fs =
    (label : SessionLabel) × IsEnd label records × (fs ≡ session_label_fragment label ∷ [])

-- a session's fragments: a start label, those of its records in order, and what follows them
pub record IsSession (fs : List Fragment) (records : List Record) (standing : Standing)
    : Type 0 where
  pub start : SessionLabel
  pub parts : List Fragment
  pub behind : List Fragment
  pub order : fs ≡ session_label_fragment start ∷ (parts ++ behind)
  pub start_is : IsStart start
  pub records_are : AllByRecursion IsRecord records
  pub parts_are : FragmentsOfAll records parts
  pub behind_is : Behind records standing behind

-- the fragments of each body: no body is empty, and in each only the last fragment goes on
abbrev pub AreBodies : List (List Fragment) → Type 0
AreBodies [] = Unit {0}
AreBodies (fs ∷ rest) = (fs ≢ []) × FitTogether fs × AreBodies rest

-- all the fragments, in order
abbrev pub joined : List (List Fragment) → List Fragment
joined fragments = flat_map (λ fs. fs) fragments

-- the bodies are the bytes of these fragments, listed by body, which joined are a session with these records whole
pub record HoldsBy (fragments : List (List Fragment)) (bodies : List (List ℕ)) (records : List Record)
    (standing : Standing) : Type 0 where
  pub bytes_are : bodies ≡ map fragments_bytes fragments
  pub bodies_are : AreBodies fragments
  pub session_is : IsSession (joined fragments) records standing

-- the bodies hold a session so far
pub record Holds (bodies : List (List ℕ)) (records : List Record) (standing : Standing)
    : Type 0 where
  -- the fragments of each body
  pub fragments : List (List Fragment)
  pub holds_by : HoldsBy fragments bodies records standing

-- a cutting of a list of records into bodies, with its end label or without
abbrev pub Cuts : List (List ℕ) → List Record → Bool → Type 0
Cuts bodies records false = Holds bodies records Between
Cuts bodies records true = Holds bodies records AtEnd

-- the bodies begin a cutting, and their start label is among them
pub record BeginsCutting (bodies : List (List ℕ)) : Type 0 where
  pub more : List (List ℕ)
  pub records : List Record
  pub ended : Bool
  pub some_there : bodies ≢ []
  pub cuts : Cuts (bodies ++ more) records ended

-- the bodies hold a beginning of these records
pub record HoldsFront (bodies : List (List ℕ)) (records : List Record) : Type 0 where
  pub whole : List Record
  pub others : List Record
  pub standing : Standing
  pub records_split : records ≡ whole ++ others
  pub holds : Holds bodies whole standing

-- whether the end label came
abbrev pub is_ended : Standing → Bool
is_ended AtEnd = true
is_ended standing = false

-- the records all of whose data are in the bodies, in order, and whether the end label is there
abbrev pub WholeOf : List (List ℕ) → List Record → Bool → Type 0
WholeOf bodies records ended =
    (standing : Standing) × Holds bodies records standing × (ended ≡ is_ended standing)

-- the last fragment goes on in the next body
abbrev pub LastGoesOn : List Fragment → Type 0
LastGoesOn [] = ⊥
LastGoesOn (f ∷ []) = GoesOn f
LastGoesOn (f ∷ g ∷ fs) = LastGoesOn (g ∷ fs)

-- a label begins these fragments that is longer than `room` less what is taken
abbrev pub BeginsWithLongLabel : ℕ → ℕ → List Fragment → Type 0
BeginsWithLongLabel room taken [] = ⊥
BeginsWithLongLabel room taken (f ∷ fs) =
    (label : SessionLabel) × (f ≡ session_label_fragment label)
    × (room < taken + length (fragment_bytes f))

-- a body of at most `room` bytes that others follow: full if its last record goes on; else it has
-- fewer than twelve bytes free, or a label follows that is longer than what is free
pub record IsFilled (room : ℕ) (fs next : List Fragment) : Type 0 where
  pub going_on : LastGoesOn fs → length (fragments_bytes fs) ≡ room
  pub else_closed : (LastGoesOn fs → ⊥)
      → (room < length (fragments_bytes fs) + 12)
      ⊎ BeginsWithLongLabel room (length (fragments_bytes fs)) next

-- each body fits into `room` bytes, and each with one after it is filled
abbrev pub AreTight : ℕ → List (List Fragment) → Type 0
AreTight room [] = Unit {0}
AreTight room (fs ∷ []) = length (fragments_bytes fs) ≤ room
AreTight room (fs ∷ gs ∷ rest) =
    (length (fragments_bytes fs) ≤ room) × IsFilled room fs gs × AreTight room (gs ∷ rest)

-- the bodies hold a session so far, tightly in bodies of at most `room` bytes
pub record HoldsTightly (room : ℕ) (bodies : List (List ℕ)) (records : List Record)
    (standing : Standing) : Type 0 where
  -- the fragments of each body
  pub fragments : List (List Fragment)
  pub holds_by : HoldsBy fragments bodies records standing
  pub tight : AreTight room fragments

-- Laws.

-- bodies hold one list of whole records and have one standing; so a cutting has one list and one end
abbrev pub HoldOneList : Type 0
HoldOneList = (bodies : List (List ℕ)) (records others : List Record)
    (standing standing' : Standing)
    → Holds bodies records standing → Holds bodies others standing'
    → (records ≡ others) × (standing ≡ standing')

-- what the front of bodies holds whole begins the list of them all
abbrev pub FrontHoldsFront : Type 0
FrontHoldsFront = (xs ys : List (List ℕ)) (records : List Record) (standing : Standing)
    → xs ≢ [] → Holds (xs ++ ys) records standing → HoldsFront xs records

-- to hold a session is to begin a cutting
abbrev pub HoldingBeginsACutting : Type 0
HoldingBeginsACutting = (bodies : List (List ℕ)) (records : List Record) (standing : Standing)
    → Holds bodies records standing → BeginsCutting bodies

-- what bodies that begin a cutting hold whole begins the list of that cutting
abbrev pub BeginningHolds : Type 0
BeginningHolds =
    (bodies : List (List ℕ)) → (begins : BeginsCutting bodies) → HoldsFront bodies begins.records
