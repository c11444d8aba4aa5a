-- What a collector has made of the tokens that it was given.
use Rattle.std.specs.Prelude.{◌≡◌, ◌≢◌, Bool, true, false, ℕ, pos, ◌≤ℤ◌, ◌≤◌, Option, Some, None, List, [], ◌∷◌, ◌++◌}
use Rattle.sd_base.specs.Limits.{most_data}
use Rattle.sd_base.specs.Record.{Record, IsRecord}
use Rattle.sd_record.specs.Fragment.{Fragment, Fragments, fragments_bytes, FitTogether}
use Rattle.sd_unpack.specs.Damage.{AreWhole, BeginsWithNone}
use Rattle.sd_unpack.specs.Stage.{CouldBeRecord, Opens}
use Rattle.sd_unpack.specs.declared.stage.Due.{Due}
use Rattle.sd_collect.specs.declared.due.Due.{Due as OwnDue}
use Rattle.sd_collect.specs.Whole.{Token, Gap, Step, Stands, given, parts_of}

-- A collector: what is due of a record whose first fragments came last, if there is one, and its data so far.
pub record Collecting : Type 0 where
  pub due : Option Due
  pub so_far : List ℕ

-- what is due, as an unpacker has it
abbrev pub due_in : OwnDue → Due
due_in d = record { index = d.index; stream = d.stream; left = d.left }

-- the fragment could be the first of a record
pub record Begins (f : Fragment) : Type 0 where
  pub index_least : pos 1 ≤ℤ f.index
  pub stream_least : pos 1 ≤ℤ f.stream
  pub size_most : f.size ≤ most_data

-- what is due, and the data so far, are those of a record with these first fragments
abbrev pub PendsBy : Option Due → List ℕ → List Fragment → Type 0
PendsBy None so_far behind = behind ≡ []
PendsBy (Some due) so_far behind = Opens behind due so_far

-- what is due is in range, with the data so far
abbrev pub IsInRange : Option Due → List ℕ → Type 0
IsInRange None so_far = Unit {0}
IsInRange (Some due) so_far = CouldBeRecord due so_far

-- the collector waits for the rest of a record that has these first fragments; if there are none, it waits for no rest
abbrev pub Pends : Collecting → List Fragment → Type 0
Pends c behind = PendsBy c.due c.so_far behind

-- with these fragments a record is whole, and nothing is pending; or the collector waits for its rest
abbrev pub Takes : List Fragment → Collecting → Option Record → Type 0
Takes fs new None = Pends new fs
Takes fs new (Some r) = IsRecord r × Fragments r fs × (new.due ≡ None)

-- the record that was given, if one was
abbrev pub records_in : Option Record → List Record
records_in None = []
records_in (Some r) = r ∷ []

-- From one state to another the collector took these tokens and gave these records. Whatever comes later: what is whole in
-- the tokens from the pending fragments on are these records, and then what is whole in what is pending and comes later.
abbrev pub GoesOn : Collecting → Collecting → List Token → List Record → Type 0
GoesOn old new tokens records =
    (behind : List Fragment) → Pends old behind → (behind' : List Fragment) × Pends new behind'
    × ((steps : List Step) (rest : List Token) → Stands steps (parts_of behind' ++ rest)
    → (all : List Step) × Stands all (parts_of behind ++ (tokens ++ rest)) × (given all ≡ records ++ given steps))

-- The tokens of a body: its fragments; or, if what follows some of them is no fragment, these and a gap.
abbrev pub AreTokensOf : List ℕ → Bool → List Token → Type 0
AreTokensOf body true tokens = (fs : List Fragment) × (body ≡ fragments_bytes fs) × FitTogether fs × (tokens ≡ parts_of fs)
AreTokensOf body false tokens =
    (fs : List Fragment) × (rest : List ℕ) × (body ≡ fragments_bytes fs ++ rest) × AreWhole fs × (rest ≢ []) × BeginsWithNone rest
    × (tokens ≡ parts_of fs ++ Gap ∷ [])
