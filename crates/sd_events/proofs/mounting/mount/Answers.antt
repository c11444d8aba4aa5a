use Rattle.sd_events.proofs.mounting.mount.Goals as goal

pub returns-in-Ok : goal.returns-in-Ok
returns-in-Ok g c = λ queue. let m = c.in-Ok.ensures queue in (m.0, (c.copy.ensures, m.1))

pub returns-in-Err : goal.returns-in-Err
returns-in-Err g c = λ queue. c.in-Err.ensures queue
