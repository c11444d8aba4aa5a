use Rattle.std.proofs.Common.{vec_len}
use Rattle.sd_core.proofs.drivers.+take_devices.Given as goal

abbrev pub decreases-take_devices : goal.decreases-take_devices
decreases-take_devices g l = vec_len l.bays.now
