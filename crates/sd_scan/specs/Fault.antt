-- Why a scan is given up, and which refusal that is.
use Rattle.sd_base.specs.declared.refusal.Refusal.{Refusal}
use Rattle.sd_base.specs.declared.refusal.Refusal.TheVariants as refusal
use Rattle.sd_driver.specs.declared.driver.DriverFault.{DriverFault}
use Rattle.sd_driver.specs.declared.driver.DriverFault.TheVariants as driver
use Rattle.sd_scan.specs.declared.fault.ScanFault.{ScanFault}
use Rattle.sd_scan.specs.declared.fault.ScanFault.TheVariants.{NotOnShelf, Device, Memory}

-- what is printed for a fault
abbrev pub scan_refusal : ScanFault → Refusal
scan_refusal NotOnShelf = refusal.VolumeNotOnShelf
scan_refusal Device = refusal.DeviceFault
scan_refusal Memory = refusal.Memory

-- what a device's answer is to one who scans; no call of his is answered that a name is taken, or that there is no room
abbrev pub scan_fault_of : DriverFault → ScanFault
scan_fault_of driver.NotThere = NotOnShelf
scan_fault_of driver.Exists = Device
scan_fault_of driver.NoRoom = Device
scan_fault_of driver.Device = Device
scan_fault_of driver.Memory = Memory
