-- What one step of sending does to a session and to the queue before its drive.
use Rattle.std.specs.Prelude.{◌≡◌, ◌≢◌, ◌⊎◌, ℕ, ◌+◌, ◌<◌, ◌≤◌, Bool, true, false, Option, Some, None, List, [], ◌∷◌, ◌++◌, length}
use Rattle.sd_base.specs.declared.refusal.Refusal.{Refusal}
use Rattle.sd_base.specs.declared.refusal.Refusal.TheVariants.{SpoolFault, Memory}
use Rattle.sd_lane.specs.declared.piece.Piece.{Piece}
use Rattle.sd_lane.specs.declared.piece.Queued.{Queued}
use Rattle.sd_lane.specs.Queue.{queued, Sends, SendsNone}
use Rattle.sd_pack.specs.Body.{PackedBody}
use Rattle.sd_pack.specs.Packing.{PackerView}
use Rattle.sd_spool.specs.Job.{JobView, BodyShape, Takes}
use Rattle.sd_spool.specs.declared.store.SpoolStoreFault.{SpoolStoreFault}
use Rattle.sd_spool.specs.declared.store.SpoolStoreFault.TheVariants.{Device, Memory as OutOfMemory}
use Rattle.sd_session.specs.declared.answer.Despooled.{Despooled}
use Rattle.sd_session.specs.declared.answer.Despooled.TheVariants.{Sent, LaneFull, Nothing, NotDue}
use Rattle.sd_session.specs.declared.status.Status.TheVariants.{Ended}
use Rattle.sd_session.specs.Session.{SessionView, SpoolIsHonest, IsRunning, NotRunning, parts_of}
use Rattle.sd_session.specs.Spooling.{FailsBySpool, HasFailed}

-- what is known of the queue: what each lane sent; and, to an owner who is alone, what is in it and its room
pub record QueueView : Type 0 where
  pub sent : ℕ → List Piece
  pub alone : Bool
  pub held : List Queued
  pub capacity : ℕ

-- these of a queue
abbrev pub queue_view : (ℕ → List Piece) → Bool → List Queued → ℕ → QueueView
queue_view sent alone held capacity = record { sent = sent; alone = alone; held = held; capacity = capacity }

-- the piece went in after the others; there was room for it
pub record PutsIn (old : QueueView) (q : Queued) (new : QueueView) : Type 0 where
  pub sends : Sends old.sent new.sent q
  pub room : old.alone ≡ true → length old.held < old.capacity
  pub held : old.alone ≡ true → new.held ≡ old.held ++ q ∷ []

-- The queue was full, at some moment of the step (`WasFull`) if it is shared, and no lane sent anything.
pub record IsFull (old new : QueueView) : Type 0 where
  pub none_sent : SendsNone old.sent new.sent
  pub full : old.alone ≡ true → old.capacity ≤ length old.held
  pub held : old.alone ≡ true → new.held ≡ old.held

-- where the bodies are that a session has itself
pub record Stations : Type 0 where
  pub ready : Option PackedBody
  pub spool : Option JobView
  pub packer : PackerView

-- these three
abbrev pub stations : Option PackedBody → Option JobView → PackerView → Stations
stations ready spool packer = record { ready = ready; spool = spool; packer = packer }

-- these of a session
abbrev pub stations_of : SessionView → Stations
stations_of s = stations s.ready s.spool s.packer

-- the body is out of the spool, of which it was the oldest
pub record LeavesSpool (body : PackedBody) (old new : Stations) : Type 0 where
  pub job : JobView
  pub job' : JobView
  pub spool_is : old.spool ≡ Some job
  pub takes : Takes body job job'
  pub store_is : job'.store ≡ job.store
  pub is : new ≡ record old { spool = Some job' }

-- the body waits no longer, of those that did longest
pub record StopsWaiting (body : PackedBody) (old new : Stations) : Type 0 where
  pub waiting : old.packer.waiting ≡ body ∷ new.packer.waiting
  pub open_is : new.packer.open_body ≡ old.packer.open_body
  pub room_is : new.packer.room ≡ old.packer.room
  pub is : new ≡ record old { packer = new.packer }

-- the body to be sent next leaves: the ready one; else the oldest in the spool; without one, that which waited longest
abbrev pub TakesNext : PackedBody → Stations → Stations → Type 0
TakesNext body old new =
    ((old.ready ≡ Some body) × (new ≡ record old { ready = None }))
    ⊎ ((old.ready ≡ None) × LeavesSpool body old new)
    ⊎ ((old.ready ≡ None) × (old.spool ≡ None) × StopsWaiting body old new)

-- none is in the spool; or, if there is no spool, none waits
abbrev pub NoneIn : Option JobView → PackerView → Type 0
NoneIn None packer = packer.waiting ≡ []
NoneIn (Some job) packer = job.shapes ≡ []

-- nothing can be sent: no body is ready, and none comes out of the spool or, if there is no spool, waits
abbrev pub HasNoNext : Stations → Type 0
HasNoNext at = (at.ready ≡ None) × NoneIn at.spool at.packer

-- a session that spools is due to send while it despools, and once ended with none waiting; one without a spool always is
abbrev pub IsDueToSend : SessionView → Type 0
IsDueToSend s = (s.spool ≡ None) ⊎ (s.despooling ≡ true) ⊎ ((s.status ≡ Ended) × (s.packer.waiting ≡ []))

-- despooling goes on with these bodies in the spool, and not with none
abbrev pub goes_on_with : List BodyShape → Bool → Bool
goes_on_with [] despooling = false
goes_on_with (s ∷ ss) despooling = despooling

-- despooling with no ready piece goes on while bodies are in the spool
abbrev pub goes_on : Option JobView → Bool → Bool
goes_on None despooling = false
goes_on (Some job) despooling = goes_on_with job.shapes despooling

-- The next body goes to the end of the queue as a piece, with the next number. Despooling is over if
-- nothing is left in the spool. With an honest store, that body was the first of the session's.
pub record SendsBody (old : SessionView) (queue : QueueView) (new : SessionView) (queue' : QueueView) : Type 0 where
  pub running : IsRunning old.status
  pub due : IsDueToSend old
  pub body : PackedBody
  pub between : Stations
  pub takes : TakesNext body (stations_of old) between
  pub puts_in : PutsIn queue (queued old.lane (record { key = old.key; seq = old.sent + 1; body = body })) queue'
  pub is : new ≡ record old { sent = old.sent + 1; ready = None; spool = between.spool; despooling = goes_on between.spool old.despooling; packer = between.packer }
  pub bodies : SpoolIsHonest old.spool → parts_of old ≡ body ∷ parts_of new

-- The queue is full: the next body is ready now. With an honest store the session has the bodies that it had.
pub record FindsLaneFull (old : SessionView) (queue : QueueView) (new : SessionView) (queue' : QueueView) : Type 0 where
  pub running : IsRunning old.status
  pub due : IsDueToSend old
  pub body : PackedBody
  pub between : Stations
  pub takes : TakesNext body (stations_of old) between
  pub is_full : IsFull queue queue'
  pub is : new ≡ record old { ready = Some body; spool = between.spool; packer = between.packer }
  pub bodies : SpoolIsHonest old.spool → parts_of new ≡ parts_of old

-- what a step of sending did: a body was sent; the queue is full; the session is due to send, but has nothing; it isn't due
abbrev pub Despools : Despooled → SessionView → QueueView → SessionView → QueueView → Type 0
Despools Sent old queue new queue' = SendsBody old queue new queue'
Despools LaneFull old queue new queue' = FindsLaneFull old queue new queue'
Despools Nothing old queue new queue' = IsRunning old.status × IsDueToSend old × HasNoNext (stations_of old) × (new ≡ old)
Despools NotDue old queue new queue' = IsRunning old.status × (IsDueToSend old → ⊥) × (new ≡ old)

-- a body is to come out of the spool now
pub record ReadsSpool (s : SessionView) : Type 0 where
  pub running : IsRunning s.status
  pub due : IsDueToSend s
  pub none_ready : s.ready ≡ None
  pub job : JobView
  pub spool_is : s.spool ≡ Some job
  pub some_there : job.shapes ≢ []

-- Why nothing is sent: the status; else, if the spool is due to give a body, its fault, which fails the session, or memory.
abbrev pub DespoolRefused : SessionView → Refusal → SessionView → Type 0
DespoolRefused old why new =
    (NotRunning old why × (new ≡ old))
    ⊎ ((reads : ReadsSpool old) × (why ≡ SpoolFault) × FailsBySpool old reads.job new)
    ⊎ (ReadsSpool old × (why ≡ Memory) × (new ≡ old))

-- a body is to come out of the spool, and does not: the store failed, or it was out of memory
pub record FailsToTakeNext (fault : SpoolStoreFault) (old new : Stations) : Type 0 where
  pub none_ready : old.ready ≡ None
  pub job : JobView
  pub spool_is : old.spool ≡ Some job
  pub some_there : job.shapes ≢ []
  pub job' : JobView
  pub is : new ≡ record old { spool = Some job' }
  pub memory : fault ≡ OutOfMemory → job' ≡ job
  pub device : fault ≡ Device → HasFailed job.store job'.store
