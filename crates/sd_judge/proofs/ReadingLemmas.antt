-- A reader that stays at its volume.
use Rattle.std.proofs.Common.{◌≡◌, ap, sym, ◌∙◌, subst, Result, Err}
use Rattle.std.specs.Prelude.{IsTrue, IsErrOf}
use Rattle.sd_driver.specs.Meaning.{Meaning}
use Rattle.sd_driver.specs.Shelf.{Held}
use Rattle.sd_driver.specs.declared.driver.DriverFault.{DriverFault}
use Rattle.sd_driver.specs.declared.driver.DriverFault.TheVariants as driver
use Rattle.sd_volume.specs.Device.{OnlyReads}
use Rattle.sd_volume.specs.Reader.{ReaderView, Shows}
use Rattle.sd_volume.proofs.DeviceLemmas.{OnlyReads-as}
use Rattle.sd_judge.specs.Reading.{IsAt}

-- after a call that only reads it is there still
pub stays : (fault : Type 0) (held : Held) (reader after : ReaderView) (old new : Meaning) → IsAt held reader old → OnlyReads fault old new → after.name ≡ reader.name
    → Shows after new.shelf → IsAt held after new
stays fault held reader after old new at reads named shows = record {
  honest = subst IsTrue (sym reads.counted.honest) at.honest;
  shows = shows;
  there = ap new.shelf.volume named ∙ (reads.same at.honest _ ∙ at.there);
}

err_same : {T : Type 0} {a b : DriverFault} → ◌≡◌ {A = Result T DriverFault} (Err a) (Err b) → a ≡ b
err_same e = cc

-- a fault that is passed on is the device's if it was
pub OnlyReads-again : {T U : Type 0} (e : DriverFault) (old new : Meaning) → OnlyReads (IsErrOf {T = T} (Err e) driver.Device) old new
    → OnlyReads (IsErrOf {T = U} (Err e) driver.Device) old new
OnlyReads-again e old new reads = OnlyReads-as _ _ _ _ (λ f. ap Err (err_same f)) (λ f. ap Err (err_same f)) reads
