use Rattle.std.proofs.Common.{length}
use Rattle.sd_daemon.proofs.conf_file.+print_unsettled.Given as goal

abbrev pub decreases-print_unsettled : goal.decreases-print_unsettled
decreases-print_unsettled g l = length l.unsettled.now
