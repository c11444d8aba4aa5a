-- How a listing ends: what is printed of it, and its status.
use Rattle.std.specs.Prelude.{◌≡◌, ℕ, Bool, true, false, List, [], ◌++◌, Result, Ok, Err, IsErrOf}
use Rattle.sd_base.specs.Refusal.{refusal_text}
use Rattle.sd_driver.specs.Meaning.{Meaning, IsHonest}
use Rattle.sd_text.specs.Says.{SaidView, Says}
use Rattle.sd_volume.specs.Device.{OnlyReads}
use Rattle.sd_text.specs.Lines.{line}
use Rattle.sd_files.specs.Listing.{HasForm, Lists, list_refusal}
use Rattle.sd_files.specs.declared.listing.ListFault.{ListFault}
use Rattle.sd_files.specs.declared.listing.ListFault.TheVariants.{Device}

-- what is printed after a listing: the line of what it was given up for
abbrev pub fault_lines : Result (Unit {0}) ListFault → List ℕ
fault_lines (Ok done) = []
fault_lines (Err fault) = line (refusal_text (list_refusal fault))

-- the status: 0 if all was listed and all of it could be written
abbrev pub status_of : Result (Unit {0}) ListFault → Bool → ℕ
status_of (Ok done) false = 0
status_of (Ok done) true = 1
status_of (Err fault) failed = 1

-- A volume was listed with this end: no volume was changed, and a fault of the device is answered only if the device
-- counted one. What is listed has the form of a listing, and on an honest device it is what is there. All that is due
-- was printed, or, if the writer failed, a front of it.
pub record PrintsListing (name : List ℕ) (old new : Meaning) (said says : SaidView) (status : ℕ) : Type 0 where
  pub result : Result (Unit {0}) ListFault
  pub due : List ℕ
  pub device : OnlyReads (IsErrOf result Device) old new
  pub form : HasForm name result due
  pub lists : IsHonest old → Lists name (old.shelf.volume name) result due
  pub prints : Says said says (due ++ fault_lines result)
  pub status_is : status ≡ status_of result says.failed
