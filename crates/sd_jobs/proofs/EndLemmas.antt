-- What a job comes to, by its part and by what stopped it.
use Rattle.std.proofs.Common.{◌≡◌, ℕ, ◌≤◌, refl, Option, None, Some, take, length}
use Rattle.sd_drive.specs.Receipt.{ReceiptIs}
use Rattle.sd_jobs.specs.Jobs.{JobIs, JobEndIs, StopsBy, EndsJob}
use Rattle.sd_line.specs.Goes.{GoesOn, IsReceiptOf, StopsShort, IsGivenUp}
use Rattle.sd_line.specs.declared.stop.Stop.{Stop}
use Rattle.sd_line.specs.declared.stop.Stop.TheVariants.{Done, OutOfTurns, Refused, NoThread}
use Rattle.sd_line.specs.Parts.{PartIs, end_of}

-- what a job comes to that leaves this part
abbrev pub left_with : PartIs → ℕ → Option ReceiptIs → Stop → JobEndIs
left_with p taken receipt stop = record { lane_end = end_of p; taken = taken; receipt = receipt; stop = stop }

short : (stop : Stop) (job : JobIs) (taken : ℕ) (p : PartIs) → StopsShort stop p.session → StopsBy stop job (left_with p taken None stop) p
short Done job taken p h = absurd h
short OutOfTurns job taken p h = refl
short (Refused why) job taken p h = (refl, h)
short NoThread job taken p h = absurd h

-- it stopped before it was done
pub stopped : (job : JobIs) (taken : ℕ) (p : PartIs) (stop : Stop) → taken ≤ length job.recs → GoesOn job.part (take taken job.recs) p → StopsShort stop p.session
    → EndsJob job (left_with p taken None stop)
stopped job taken p stop most goes h = record { most = most; part = p; goes_on = goes; leaves = refl; stops = short stop job taken p h }

-- it is done
pub done : (job : JobIs) (taken : ℕ) (p : PartIs) (r : ReceiptIs) → taken ≤ length job.recs → GoesOn job.part (take taken job.recs) p → taken ≡ length job.recs
    → IsReceiptOf p.session r → EndsJob job (left_with p taken (Some r) Done)
done job taken p r most goes all h = record { most = most; part = p; goes_on = goes; leaves = refl; stops = (all, r, refl, h) }

-- there was no thread for it
pub given_up : (job : JobIs) (p : PartIs) → 0 ≤ length job.recs → GoesOn job.part (take 0 job.recs) p → IsGivenUp job.part p → EndsJob job (left_with p 0 None NoThread)
given_up job p most goes h = record { most = most; part = p; goes_on = goes; leaves = refl; stops = (refl, refl, h) }
