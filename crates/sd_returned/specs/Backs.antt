-- What is asked of jobs that ended, and what comes back of them.
use Rattle.std.specs.Prelude.{◌≡◌, ◌++◌, true, List, [], Option, None, Some}
use Rattle.std.specs.Option.{option_map}
use Rattle.std.specs.List.{AllZip}
use Rattle.sd_base.specs.Record.{Record}
use Rattle.sd_drive.specs.Receipt.{ReceiptIs}
use Rattle.sd_jobs.specs.Jobs.{JobIs, JobEndIs, EndsJob}
use Rattle.sd_line.specs.Ends.{RestsOn, lane_store}
use Rattle.sd_line.specs.declared.stop.Stop.TheVariants.{Done}
use Rattle.sd_memdrive.specs.Drive.{meaning_of}
use Rattle.sd_memdrive.specs.declared.drive.MemDrive.{MemDrive}
use Rattle.sd_theorem.specs.Gives.{GivesAll}
use Rattle.sd_world.specs.Honest.{StoreIsTrue}
use Rattle.sd_world.specs.World.{WorldView}
use Rattle.sd_returned.specs.Listed.{HasList, last_spools}
use Rattle.sd_returned.specs.declared.asked.Asked.{Asked}
use Rattle.sd_returned.specs.declared.asked.Wanted.{Wanted}
use Rattle.sd_returned.specs.declared.back.JobBack.{JobBack}
use Rattle.sd_returned.specs.declared.back.ReadBack.{ReadBack}

-- What is asked.

-- what is read by a receipt
abbrev pub wanted_by : ReceiptIs → Wanted
wanted_by r = record { key = r.key; spans = r.spans }

-- what is asked of a job that came to this
abbrev pub asked_of : JobEndIs → Asked
asked_of e = record { stop = e.stop; taken = e.taken; spools = last_spools e.lane_end.sessions; of = option_map wanted_by e.receipt }

-- What is answered.

-- the session of this key was read in a world over devices in memory: if it has a list there, to that
pub record ReadsWanted (w : WorldView MemDrive) (wanted : Wanted) (read : ReadBack) : Type 0 where
  pub key_is : read.key ≡ wanted.key
  pub gives : (records : List Record) → HasList (λ d. meaning_of d) w wanted.key wanted.spans records
      → GivesAll records true [] read.recs.items read.end

-- it was read if that was asked
abbrev pub ReadsAsked : WorldView MemDrive → Option Wanted → Option ReadBack → Type 0
ReadsAsked w None None = Unit {0}
ReadsAsked w None (Some read) = ⊥
ReadsAsked w (Some wanted) None = ⊥
ReadsAsked w (Some wanted) (Some read) = ReadsWanted w wanted read

-- what came back of a job is what was asked
pub record Answers (w : WorldView MemDrive) (asked : Asked) (back : JobBack) : Type 0 where
  pub stop_is : back.stop ≡ asked.stop
  pub taken_is : back.taken ≡ asked.taken
  pub spools_is : back.spools ≡ asked.spools
  pub read : ReadsAsked w asked.of back.read

-- What comes back.

-- The job came to this. If it is done, its session was read, to exactly the records that its part was told to have taken
-- before, and then all of its own, once each and in order, with the session's end; or the read was refused, as the device
-- failed or it was out of memory, and then it gave the first of them. So it is if the session doesn't spool, or its lane's
-- store is honest. If the job isn't done, nothing was read.
pub record ComesBack (job : JobIs) (back : JobBack) : Type 0 where
  pub end : JobEndIs
  pub ends : EndsJob job end
  pub stop_is : back.stop ≡ end.stop
  pub taken_is : back.taken ≡ end.taken
  pub spools_is : back.spools ≡ last_spools end.lane_end.sessions
  pub done : back.stop ≡ Done → (read : ReadBack) × (back.read ≡ Some read) × (read.key ≡ job.part.session.key)
      × (RestsOn back.spools (StoreIsTrue (lane_store end.lane_end)) → GivesAll (job.part.told ++ job.recs) true [] read.recs.items read.end)
  pub else_none : (back.stop ≡ Done → ⊥) → back.read ≡ None

-- so each of the jobs does, in order
abbrev pub ComeBack : List JobIs → List JobBack → Type 0
ComeBack jobs backs = AllZip ComesBack jobs backs
