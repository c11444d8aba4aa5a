-- What becomes of a session whose bodies are sent on, and why a record or a close of it is refused.
use Rattle.std.specs.Prelude.{◌≡◌, ◌≢◌, ◌⊎◌, ℕ, [], Some}
use Rattle.sd_base.specs.Record.{Record}
use Rattle.sd_base.specs.declared.refusal.Refusal.{Refusal}
use Rattle.sd_base.specs.declared.refusal.Refusal.TheVariants.{BadFileIndex, SessionFailed, NotYet, Busy, Memory}
use Rattle.sd_session.specs.Session.{SessionView, DropsParts, IsRunning, MayTake, TakesRecord, parts_of, status_refusal}
use Rattle.sd_session.specs.Spooling.{FailsBySpool}
use Rattle.sd_session.specs.declared.status.Status.TheVariants.{Active, Ended, Closed, Failed}
use Rattle.sd_spool.specs.Job.{JobView}

-- Closed bodies of a session that goes on went into its spool or to the drive's queue, or stay where they were. All else of it
-- stays.
pub record SendsOn (old new : SessionView) : Type 0 where
  pub running : IsRunning old.status
  pub is : new ≡ record old { sent = new.sent; ready = new.ready; spool = new.spool; despooling = new.despooling; packer = new.packer }
  pub room_is : new.packer.room ≡ old.packer.room
  pub open_is : new.packer.open_body ≡ old.packer.open_body

-- the session has failed, since its spool counted a failure while bodies of it were sent on
pub record FailsInSpool (old new : SessionView) : Type 0 where
  pub before : SessionView
  pub sends : SendsOn old before
  pub job : JobView
  pub spool_is : before.spool ≡ Some job
  pub fails : FailsBySpool before job new

-- the session has failed after bodies of it were sent on, since its drive lost one of them
pub record FailsAtDrive (old new : SessionView) : Type 0 where
  pub before : SessionView
  pub sends : SendsOn old before
  pub fails : DropsParts before Failed new

-- why bodies aren't sent on: out of memory; or a fault of the spool, told as this, by which the session has failed
abbrev pub SendRefused : Refusal → SessionView → Refusal → SessionView → Type 0
SendRefused told old why new = (SendsOn old new × (why ≡ Memory)) ⊎ (FailsInSpool old new × (why ≡ told))

-- why not all of them are sent on: one waits for a volume, told as this; or as above
abbrev pub RestRefused : Refusal → Refusal → SessionView → Refusal → SessionView → Type 0
RestRefused waits told old why new = SendRefused told old why new ⊎ (SendsOn old new × (why ≡ waits))

-- the record is added, after closed bodies that waited were sent on
pub record Adds (old : SessionView) (r : Record) (count : ℕ) (new : SessionView) : Type 0 where
  pub before : SessionView
  pub sends : SendsOn old before
  pub takes : TakesRecord before r count new

-- Why a record isn't added. For the status, the index, or a count that runs out, nothing is done at all. Else bodies were sent on
-- first, and one still waits, or there was no memory; or the spool failed at that, and the session with it.
abbrev pub AddRefused : SessionView → Record → Refusal → SessionView → Type 0
AddRefused old r why new =
    ((old.status ≢ Active) × (why ≡ status_refusal old.status) × (new ≡ old))
    ⊎ ((old.status ≡ Active) × (MayTake old.count old.bytes old.last r → ⊥) × (why ≡ BadFileIndex) × (new ≡ old))
    ⊎ ((old.status ≡ Active) × MayTake old.count old.bytes old.last r × SendsOn old new
    × (((new.packer.waiting ≢ []) × (why ≡ Busy)) ⊎ (why ≡ Memory)))
    ⊎ ((old.status ≡ Active) × MayTake old.count old.bytes old.last r × FailsInSpool old new × (why ≡ SessionFailed))

-- the session is closed, which had its end label, once all its bodies were sent
pub record IsShut (old new : SessionView) : Type 0 where
  pub before : SessionView
  pub sends : SendsOn old before
  pub ended : before.status ≡ Ended
  pub none_left : parts_of before ≡ []
  pub is : new ≡ record before { status = Closed }

-- Why a session isn't closed. For its status nothing is done at all. Else bodies were sent on first, and it is not yet to be closed, or
-- there was no memory; or it has failed, by its spool or since the drive lost a block of it.
abbrev pub ShutRefused : SessionView → Refusal → SessionView → Type 0
ShutRefused old why new =
    ((old.status ≢ Ended) × (why ≡ status_refusal old.status) × (new ≡ old))
    ⊎ ((old.status ≡ Ended) × SendsOn old new × ((why ≡ NotYet) ⊎ (why ≡ Memory)))
    ⊎ ((old.status ≡ Ended) × (FailsInSpool old new ⊎ FailsAtDrive old new) × (why ≡ SessionFailed))

-- The same of a session of which nothing more is to be sent: why no receipt of its drive is due, but that something of it is
-- on its way.
abbrev pub DueRefused : SessionView → Refusal → SessionView → Type 0
DueRefused old why new =
    ((old.status ≢ Ended) × (why ≡ status_refusal old.status) × (new ≡ old))
    ⊎ ((old.status ≡ Ended) × (why ≡ SessionFailed) × DropsParts old Failed new)
    ⊎ ((old.status ≡ Ended) × (why ≡ Memory) × (new ≡ old))

-- The session is closed now, which had its end label and no body left.
pub record ClosesNow (old new : SessionView) : Type 0 where
  pub ended : old.status ≡ Ended
  pub none_left : parts_of old ≡ []
  pub is : new ≡ record old { status = Closed }

-- why it isn't: as above, or something of it is on its way
abbrev pub NowRefused : SessionView → Refusal → SessionView → Type 0
NowRefused old why new = DueRefused old why new ⊎ ((old.status ≡ Ended) × (why ≡ NotYet) × (new ≡ old))
