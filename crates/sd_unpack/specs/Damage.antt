-- Why a body is refused.
use Rattle.std.specs.Prelude.{◌≡◌, ◌≢◌, ◌⊎◌, ℕ, pos, neg_ℤ, ◌<ℤ◌, ◌≤ℤ◌, ◌<◌, Some, Result, Ok, Err, List, [], ◌∷◌, ◌++◌, length, map}
use Rattle.sd_base.specs.Record.{Record}
use Rattle.sd_base.specs.Limits.{most_data}
use Rattle.sd_record.specs.Fragment.{Fragment, fragment_bytes, fragments_bytes, IsFragment, GoesOn}
use Rattle.sd_label.specs.declared.label.SessionLabel.{SessionLabel}
use Rattle.sd_label.specs.Label.{start_label_index, end_label_index, IsSessionLabel, session_label_fragment}
use Rattle.sd_label.specs.Cutting.{AreBodies, joined, total_bytes}
use Rattle.sd_unpack.specs.declared.damage.Damage.{Damage}
use Rattle.sd_unpack.specs.declared.damage.Damage.TheVariants.{NoStart, LabelAgain, BadIndex, BadFragment, BadContinuation, BadTotals, AfterEnd}
use Rattle.sd_unpack.specs.declared.damage.AddFault.{AddFault}
use Rattle.sd_unpack.specs.declared.damage.AddFault.TheVariants.{Damaged, Memory}
use Rattle.sd_unpack.specs.declared.stage.Due.{Due}
use Rattle.sd_unpack.specs.declared.stage.Stage.{Stage}
use Rattle.sd_unpack.specs.declared.stage.Stage.TheVariants.{Fresh, Whole, Partway, Closed}
use Rattle.sd_unpack.specs.Stage.{Reaches}

-- the fragment is no whole session label
abbrev pub IsNoLabel : Fragment → Type 0
IsNoLabel f = (label : SessionLabel) → IsSessionLabel label → f ≡ session_label_fragment label → ⊥

-- the fragment is a label with totals that aren't those of the records
abbrev pub HasOtherTotals : List Record → Fragment → Type 0
HasOtherTotals records f =
    (label : SessionLabel) × IsSessionLabel label × (f ≡ session_label_fragment label)
    × (label.totals ≢ Some (record { records = length records; bytes = total_bytes records }))

-- the fragment goes on with the record that is due, by a byte or more
pub record Continues (due : Due) (f : Fragment) : Type 0 where
  pub index_is : f.index ≡ pos due.index
  pub stream_is : f.stream ≡ neg_ℤ (pos due.stream)
  pub size_is : f.size ≡ due.left
  pub some_there : f.part ≢ []

-- which damage it is if this fragment comes next, at this stage and after these records: none if it may
-- come there
abbrev pub CantFollow : Damage → Stage → List Record → Fragment → Type 0
CantFollow NoStart Fresh records f = f.index ≢ start_label_index
CantFollow BadFragment Fresh records f = (f.index ≡ start_label_index) × IsNoLabel f
CantFollow LabelAgain Whole records f = f.index ≡ start_label_index
CantFollow BadTotals Whole records f = (f.index ≡ end_label_index) × HasOtherTotals records f
CantFollow BadIndex Whole records f =
    (f.index ≢ start_label_index) × (f.index ≢ end_label_index) × (f.index <ℤ pos 1)
CantFollow BadContinuation Whole records f = (pos 1 ≤ℤ f.index) × (f.stream <ℤ pos 0)
CantFollow BadFragment Whole records f =
    ((f.index ≡ end_label_index) × IsNoLabel f)
    ⊎ ((pos 1 ≤ℤ f.index) × (pos 0 <ℤ f.stream) × (most_data < f.size))
CantFollow BadContinuation (Partway due) records f = Continues due f → ⊥
CantFollow AfterEnd Closed records f = Unit {0}
CantFollow damage stage records f = ⊥

-- this fragment is the first of these bytes: if it goes on, it is all of them
pub record BeginsBytes (f : Fragment) (bytes after : List ℕ) : Type 0 where
  pub fragment_is : IsFragment f
  pub bytes_are : bytes ≡ fragment_bytes f ++ after
  pub last : GoesOn f → after ≡ []

-- no fragment is the first of these bytes
abbrev pub BeginsWithNone : List ℕ → Type 0
BeginsWithNone bytes = (f : Fragment) (after : List ℕ) → BeginsBytes f bytes after → ⊥

-- these bytes can't come next: they begin with no fragment, or with one that can't
abbrev pub CantStand : Damage → Stage → List Record → List ℕ → Type 0
CantStand damage stage records bytes =
    ((damage ≡ BadFragment) × BeginsWithNone bytes)
    ⊎ ((f : Fragment) × (after : List ℕ) × BeginsBytes f bytes after
    × CantFollow damage stage records f)

-- each of them is a fragment with all its data
abbrev pub AreWhole : List Fragment → Type 0
AreWhole [] = Unit {0}
AreWhole (f ∷ fs) = IsFragment f × (GoesOn f → ⊥) × AreWhole fs

-- After these fragments, the first of the bytes go on with the session, and what follows them can't.
pub record StopsAt (fs : List Fragment) (bytes : List ℕ) (damage : Damage) : Type 0 where
  pub front : List Fragment
  pub rest : List ℕ
  pub stage : Stage
  pub records : List Record
  pub so_far : List ℕ
  pub bytes_are : bytes ≡ fragments_bytes front ++ rest
  pub front_is : AreWhole front
  pub reaches : Reaches stage (fs ++ front) records so_far
  pub rest_left : rest ≢ []
  pub stops : CantStand damage stage records rest

-- after these bodies, the body is damaged so: there is nothing in it, or its fragments stop
pub record IsDamaged (bodies : List (List ℕ)) (body : List ℕ) (damage : Damage) : Type 0 where
  pub fragments : List (List Fragment)
  pub bytes_are : bodies ≡ map fragments_bytes fragments
  pub bodies_are : AreBodies fragments
  pub stops : ((body ≡ []) × (damage ≡ BadFragment)) ⊎ StopsAt (joined fragments) body damage

-- the damage, if that is the answer
abbrev pub IfDamaged : {X : Type 0} → Result X AddFault → (Damage → Type 0) → Type 0
IfDamaged (Ok x) P = Unit {0}
IfDamaged (Err (Damaged damage)) P = P damage
IfDamaged (Err Memory) P = Unit {0}
