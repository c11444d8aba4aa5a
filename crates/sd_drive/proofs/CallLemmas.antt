-- How often a drive calls its device.
use Rattle.std.proofs.Common.{◌≡◌, ◌+◌, Bool, true, false, if◌then◌else◌, arith}
use Rattle.sd_driver.specs.Meaning.{Meaning}
use Rattle.sd_driver.specs.Shelf.{Passes}
use Rattle.sd_volume.specs.Device.{CallsAtMost}
use Rattle.sd_volume.proofs.DeviceLemmas.{one_call}

-- a sync, if a block awaits it
pub sync_call : (awaits : Bool) (old new : Meaning) → awaits ≡ true → Passes old.shelf new.shelf → CallsAtMost (if awaits then 1 else 0) old new
sync_call true old new is passes = one_call old new passes
sync_call false old new is passes = absurd cc

-- one that failed, and the unload after it
pub failed_sync_calls : (awaits : Bool) (old mid new : Meaning) → awaits ≡ true → Passes old.shelf mid.shelf → Passes mid.shelf new.shelf → CallsAtMost ((if awaits then 1 else 0) + 1) old new
failed_sync_calls true old mid new is passes passes' = omega (arith, one_call old mid passes, one_call mid new passes')
failed_sync_calls false old mid new is passes passes' = absurd cc
