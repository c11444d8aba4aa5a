use Rattle.sd_ruled.specs.Seats.{AreSeats}
use Rattle.sd_bench.proofs.queues.seat_jobs.Given as goal

-- the seats that are left are the queue's
abbrev pub invariant-loop : goal.invariant-loop
invariant-loop g l = AreSeats l.queue.table l.seats.items
