-- The refusals of a reservation.
use Rattle.sd_base.specs.declared.refusal.Refusal as base
use Rattle.sd_base.specs.declared.refusal.Refusal.TheVariants as refusals
use Rattle.sd_reserve.specs.declared.drive.ReserveFault.{ReserveFault}
use Rattle.sd_reserve.specs.declared.drive.ReserveFault.TheVariants.{NoDriveOfMedia, DriveOffline, NoFreeLane}

-- the refusal that each fault is
abbrev pub refusal_of_reserve : ReserveFault → base.Refusal
refusal_of_reserve NoDriveOfMedia = refusals.NoDriveOfMedia
refusal_of_reserve DriveOffline = refusals.DriveOffline
refusal_of_reserve NoFreeLane = refusals.NoFreeLane
