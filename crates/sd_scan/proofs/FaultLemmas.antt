-- What a fault of the device is to one who scans.
use Rattle.std.proofs.Common.{◌≡◌, ◌≢◌, refl, ap}
use Rattle.std.specs.Prelude.{IsErrOf, Result, Err}
use Rattle.sd_driver.specs.Meaning.{Meaning}
use Rattle.sd_driver.specs.declared.driver.DriverFault.{DriverFault}
use Rattle.sd_driver.specs.declared.driver.DriverFault.TheVariants as driver
use Rattle.sd_volume.specs.Device.{OnlyReads}
use Rattle.sd_volume.proofs.DeviceLemmas.{OnlyReads-as}
use Rattle.sd_scan.specs.Fault.{scan_fault_of}
use Rattle.sd_scan.specs.declared.fault.ScanFault.{ScanFault}
use Rattle.sd_scan.specs.declared.fault.ScanFault.TheVariants as fault

-- a fault of the device is the device's
pub OnlyReads-scan : {T U : Type 0} (e : DriverFault) (old new : Meaning) → (e ≢ driver.Exists) × (e ≢ driver.NoRoom) → OnlyReads (IsErrOf {T = T} (Err e) driver.Device) old new
    → OnlyReads (IsErrOf {T = U} (Err (scan_fault_of e)) fault.Device) old new
OnlyReads-scan driver.NotThere old new never reads = OnlyReads-as _ _ _ _ (λ f. cc) (λ f. cc) reads
OnlyReads-scan driver.Exists old new never reads = absurd (never.0 refl)
OnlyReads-scan driver.NoRoom old new never reads = absurd (never.1 refl)
OnlyReads-scan driver.Device old new never reads = OnlyReads-as _ _ _ _ (λ f. refl) (λ f. refl) reads
OnlyReads-scan driver.Memory old new never reads = OnlyReads-as _ _ _ _ (λ f. cc) (λ f. cc) reads

err_same : {T : Type 0} {a b : ScanFault} → ◌≡◌ {A = Result T ScanFault} (Err a) (Err b) → a ≡ b
err_same e = cc

-- a fault that is passed on is the device's if it was
pub OnlyReads-again : {T U : Type 0} (e : ScanFault) (old new : Meaning) → OnlyReads (IsErrOf {T = T} (Err e) fault.Device) old new
    → OnlyReads (IsErrOf {T = U} (Err e) fault.Device) old new
OnlyReads-again e old new reads = OnlyReads-as _ _ _ _ (λ f. ap Err (err_same f)) (λ f. ap Err (err_same f)) reads
