use Rattle.sd_daemon.proofs.hub.+lanes_of.Given as goal

abbrev pub decreases-lanes_of : goal.decreases-lanes_of
decreases-lanes_of l = l.lanes
