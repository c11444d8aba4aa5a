-- Why a volume was not labelled or adopted, and which refusal that is.
use Rattle.sd_base.specs.declared.refusal.Refusal.{Refusal}
use Rattle.sd_base.specs.declared.refusal.Refusal.TheVariants as refusal
use Rattle.sd_driver.specs.declared.driver.DriverFault.{DriverFault}
use Rattle.sd_driver.specs.declared.driver.DriverFault.TheVariants as driver
use Rattle.sd_volume.specs.declared.fault.LabelFault.{LabelFault}
use Rattle.sd_volume.specs.declared.fault.LabelFault.TheVariants as label
use Rattle.sd_volume.specs.declared.fault.AdoptFault.{AdoptFault}
use Rattle.sd_volume.specs.declared.fault.AdoptFault.TheVariants as adopt

-- the refusal that each fault of labelling is
abbrev pub label_refusal : LabelFault → Refusal
label_refusal label.AlreadyLabelled = refusal.AlreadyLabelled
label_refusal label.NoRoom = refusal.NoRoom
label_refusal label.Device = refusal.DeviceFault
label_refusal label.Memory = refusal.Memory

-- the refusal that each fault of an adoption is
abbrev pub adopt_refusal : AdoptFault → Refusal
adopt_refusal adopt.NotOnShelf = refusal.VolumeNotOnShelf
adopt_refusal adopt.NotOurVolume = refusal.NotOurVolume
adopt_refusal adopt.OtherMedia = refusal.OtherPoolOrMedia
adopt_refusal adopt.BlocksOfThisRun = refusal.BlocksOfThisRun
adopt_refusal adopt.Device = refusal.DeviceFault
adopt_refusal adopt.Memory = refusal.Memory

-- what a device's answer is to one who labels; no call of his is answered that the name is missing
abbrev pub label_fault_of : DriverFault → LabelFault
label_fault_of driver.NotThere = label.Device
label_fault_of driver.Exists = label.AlreadyLabelled
label_fault_of driver.NoRoom = label.NoRoom
label_fault_of driver.Device = label.Device
label_fault_of driver.Memory = label.Memory

-- and to one who adopts; no call of his is answered that the name is taken, or that there is no room
abbrev pub adopt_fault_of : DriverFault → AdoptFault
adopt_fault_of driver.NotThere = adopt.NotOnShelf
adopt_fault_of driver.Exists = adopt.Device
adopt_fault_of driver.NoRoom = adopt.Device
adopt_fault_of driver.Device = adopt.Device
adopt_fault_of driver.Memory = adopt.Memory
