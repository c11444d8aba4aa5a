-- What a call of a drive leaves of its device, and of what is around it.
use Rattle.std.proofs.Common.{◌≡◌, None, Some, Ok, Err, refl, ap}
use Rattle.std.specs.Prelude.{IsErrOf}
use Rattle.sd_base.specs.declared.refusal.Refusal.{Refusal}
use Rattle.sd_base.specs.declared.refusal.Refusal.TheVariants.{DeviceFault}
use Rattle.sd_desk.specs.Desk.{DeskView}
use Rattle.sd_driver.specs.Meaning.{Meaning}
use Rattle.sd_driver.specs.Shelf.{StillLasts}
use Rattle.sd_drive.specs.Moves.{FailsToSync}
use Rattle.sd_drive.specs.Shelf.{KeepsPieces}
use Rattle.sd_drive.specs.View.{DriveIs}
use Rattle.sd_lane.specs.Queue.{LanesView}
use Rattle.sd_volume.proofs.DeviceLemmas.{Counted-as}
use Rattle.sd_volume.specs.Device.{Counted}
use Rattle.sd_world.specs.Stations.{Outcome, Calls, LosesBlocks}

-- what a call leaves, of its parts
pub calls_are : {D : Type 0} (meaning : D → Meaning) (fault no_room : Type 0) (d after : DriveIs D)
    → Counted fault no_room (meaning d.device) (meaning after.device)
    → KeepsPieces (meaning d.device) (meaning after.device) d.journal after.journal d.hand after.hand
    → StillLasts (meaning d.device).shelf (meaning after.device).shelf
    → Calls meaning fault no_room d after
calls_are meaning fault no_room d after counted keeps later = record { counted = counted; keeps = keeps; later = later }

-- a device that answers no fault
pub counted_well : {T : Type 0} (m m' : Meaning) (done : T) → Counted (IsErrOf {T = T} {E = Refusal} (Ok done) DeviceFault) ⊥ m m' → Counted ⊥ ⊥ m m'
counted_well m m' done c = Counted-as _ _ _ _ m m' (λ x. cc x) (λ x. absurd x) (λ x. x) (λ x. x) c

-- a device that is answered why
pub counted_refused : {T : Type 0} (m m' : Meaning) (why : Refusal) → Counted (IsErrOf {T = T} {E = Refusal} (Err why) DeviceFault) ⊥ m m' → Counted (why ≡ DeviceFault) ⊥ m m'
counted_refused m m' why c = Counted-as _ _ _ _ m m' (λ x. cc x) (λ x. ap Err x) (λ x. x) (λ x. x) c

-- a drive that is as it was, beside what is
pub drive_rests : {D : Type 0} (d after : DriveIs D) (queue : LanesView) (desk : DeskView) → after ≡ d
    → ◌≡◌ {A = Outcome D} (record { drive = after; queue = queue; desk = desk; lost = None }) (record { drive = d; queue = queue; desk = desk; lost = None })
drive_rests {D} d after queue desk same = ap (λ (x : DriveIs D). record { drive = x; queue = queue; desk = desk; lost = None }) same

-- a sync of a drive failed
pub device_fails : {D T : Type 0} (meaning : D → Meaning) (d after : DriveIs D) (queue : LanesView) (desk : DeskView) (why : Refusal)
    → (failed : FailsToSync d after) → why ≡ DeviceFault
    → Counted (IsErrOf {T = T} {E = Refusal} (Err why) DeviceFault) ⊥ (meaning d.device) (meaning after.device)
    → KeepsPieces (meaning d.device) (meaning after.device) d.journal after.journal d.hand after.hand
    → StillLasts (meaning d.device).shelf (meaning after.device).shelf
    → LosesBlocks meaning (record { drive = d; queue = queue; desk = desk })
    (record { drive = after; queue = queue; desk = desk; lost = Some failed.volume.name })
device_fails {D} {T} meaning d after queue desk why failed is counted keeps later = record {
  fails = failed;
  calls = record { counted = Counted-as _ _ _ _ _ _ (λ x. tt) (λ x. ap Err is) (λ x. x) (λ x. x) counted; keeps = keeps; later = later };
  is = refl;
}
