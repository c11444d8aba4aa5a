-- What an unpacker has made of the bodies that it was given.
use Rattle.std.specs.Prelude.{◌≡◌, ℕ, false, true, Option, Some, List, ◌++◌, map}
use Rattle.sd_base.specs.Record.{Record}
use Rattle.sd_record.specs.Fragment.{Fragment, fragments_bytes}
use Rattle.sd_label.specs.declared.label.Totals.{Totals}
use Rattle.sd_label.specs.Cutting.{Standing, AreBodies, joined, Holds, Cuts}
use Rattle.sd_unpack.specs.declared.damage.Damage.{Damage}
use Rattle.sd_unpack.specs.declared.stage.Stage.{Stage}
use Rattle.sd_unpack.specs.declared.stage.Stage.TheVariants.{Closed}
use Rattle.sd_unpack.specs.Stage.{Reaches, AreTotalsOf, standing_at}

-- An unpacker: the records that wait to be taken, the totals of all records so far, how far the
-- session has come, the data of an unfinished record, and the damage if one was found.
pub record Unpacking : Type 0 where
  pub ready : List Record
  pub totals : Option Totals
  pub stage : Stage
  pub so_far : List ℕ
  pub damage : Option Damage

-- the unpacker took these bodies, and handed out these records of them
pub record Unpacks (bodies : List (List ℕ)) (taken : List Record) (view : Unpacking) : Type 0 where
  -- the fragments of each body
  pub fragments : List (List Fragment)
  pub bytes_are : bodies ≡ map fragments_bytes fragments
  pub bodies_are : AreBodies fragments
  pub reaches : Reaches view.stage (joined fragments) (taken ++ view.ready) view.so_far
  pub totals_are : AreTotalsOf view.totals (taken ++ view.ready)

-- Laws.

-- the records taken and those that wait are the whole records of the bodies, whose standing is as
-- the stage says
abbrev pub UnpackedAreWhole : Type 0
UnpackedAreWhole = (bodies : List (List ℕ)) (taken : List Record) (view : Unpacking)
    (standing : Standing)
    → Unpacks bodies taken view → standing_at view.stage ≡ Some standing
    → Holds bodies (taken ++ view.ready) standing

-- who unpacked the bodies of a cutting has its list, and knows its end
abbrev pub CuttingIsUnpacked : Type 0
CuttingIsUnpacked = (bodies : List (List ℕ)) (records taken : List Record) (view : Unpacking)
    → Unpacks bodies taken view → (Cuts bodies records false → records ≡ taken ++ view.ready)
    × (Cuts bodies records true → (records ≡ taken ++ view.ready) × (view.stage ≡ Closed))
