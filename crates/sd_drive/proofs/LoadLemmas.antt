-- What a load finds, and which answer of a device a refusal tells.
use Rattle.std.proofs.Common.{◌≡◌, ◌≢◌, ℕ, List, Option, Some, None, refl, ap, sym, ◌∙◌, subst, slice_get}
use Rattle.std.specs.List.{AllByRecursion}
use Rattle.sd_base.specs.declared.refusal.Refusal.TheVariants.{VolumeNotOnShelf, DeviceFault}
use Rattle.sd_driver.specs.declared.driver.DriverFault.{DriverFault}
use Rattle.sd_driver.specs.declared.driver.DriverFault.TheVariants.{NotThere, Exists, NoRoom, Device, Memory}
use Rattle.sd_driver.specs.Meaning.{Meaning}
use Rattle.sd_driver.specs.Shelf.{Shelf}
use Rattle.sd_journal.specs.Journal.{Entry}
use Rattle.sd_journal.specs.declared.mark.Mark.TheVariants.{Unsynced}
use Rattle.sd_volume.specs.declared.fault.AdoptFault.{AdoptFault}
use Rattle.sd_volume.specs.declared.fault.AdoptFault.TheVariants as adopt
use Rattle.sd_volume.specs.Fault.{adopt_refusal}
use Rattle.sd_volume.specs.Volume.{VolumeView}
use Rattle.sd_drive.specs.View.{name_loaded}
use Rattle.sd_drive.specs.Shelf.{Kept}
use Rattle.sd_drive.specs.Moves.{load_refusal}
use Rattle.sd_drive.proofs.Places.{name_at}
use Rattle.sd_drive.proofs.Stays.{AllStand}
use Rattle.sd_drive.proofs.SyncLemmas.{none_loaded}

-- with nothing loaded, nothing is unsynced
pub none_when : (device : Meaning) (vs : List VolumeView) (l : Option ℕ) (js : List Entry) → l ≡ None → Kept device vs l js → AllByRecursion (λ e. e.mark ≢ Unsynced) js
none_when device vs l js none k =
    let P : Option ℕ → Type 0 = λ o. Kept device vs o js in
    none_loaded device vs js (subst P none k)

-- the loaded volume is the one at that place
pub loaded_there : (vs : List VolumeView) (at : ℕ) (name : List ℕ) (loaded : Option (List ℕ)) → (v : VolumeView) × (slice_get vs at ≡ Some v) × (v.name ≡ name) → loaded ≡ Some name → loaded ≡ name_loaded vs (Some at)
loaded_there vs at name loaded there is = is ∙ ap (λ n. Some n) (sym there.2) ∙ sym (name_at vs at there.0 there.1)

-- only one answer of the device is that refusal
pub is_not_there : (fault : DriverFault) → load_refusal fault ≡ VolumeNotOnShelf → fault ≡ NotThere
is_not_there NotThere e = refl
is_not_there Exists e = cc
is_not_there NoRoom e = cc
is_not_there Device e = cc
is_not_there Memory e = cc

-- a volume of the drive is on the shelf
pub on_shelf : (shelf : Shelf) (vs : List VolumeView) (at : ℕ) (name : List ℕ) → AllStand shelf vs → (v : VolumeView) × (slice_get vs at ≡ Some v) × (v.name ≡ name) → shelf.volume name ≢ None
on_shelf shelf vs at name stand there none =
    let s = stand at there.0 there.1 in
    let is = s.stands.there in
    let same = ap shelf.volume there.2 in
    absurd (cc (sym is ∙ same ∙ none))

-- of an adoption's faults the device's alone is that refusal
pub is_device : (fault : AdoptFault) → adopt_refusal fault ≡ DeviceFault → fault ≡ adopt.Device
is_device adopt.NotOnShelf e = cc
is_device adopt.NotOurVolume e = cc
is_device adopt.OtherMedia e = cc
is_device adopt.BlocksOfThisRun e = cc
is_device adopt.Device e = refl
is_device adopt.Memory e = cc
