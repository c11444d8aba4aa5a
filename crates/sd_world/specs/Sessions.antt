-- What an event does to one session of a world.
use Rattle.std.specs.Prelude.{◌≡◌, ◌≢◌, ◌⊎◌, ℕ, ◌+◌, ◌≤◌, ◌<◌, ℤ, true, IsTrue, Some, None, List, [], ◌∷◌, ◌++◌, slice_get, slice_set}
use Rattle.sd_base.specs.Choice.{FirstOf, NoneOf}
use Rattle.sd_base.specs.Limits.{block_header, most_number}
use Rattle.std.specs.Prelude.{◌-◌}
use Rattle.sd_base.specs.declared.number.SessionKey.{SessionKey}
use Rattle.sd_base.specs.declared.refusal.Refusal.{Refusal}
use Rattle.sd_base.specs.declared.refusal.Refusal.TheVariants.{SessionNotOpen, NoSessionNumberLeft, NoDriveOfMedia, DriveOffline, NoFreeLane, SpoolFault, Memory}
use Rattle.sd_drive.specs.View.{DriveIs}
use Rattle.sd_journal.specs.Journal.{placements, progress_of, with_key}
use Rattle.sd_lane.specs.Queue.{LanesView}
use Rattle.sd_lane.specs.declared.piece.Piece.{Piece}
use Rattle.sd_reserve.specs.Reserve.{TakesMedia, IsOnline as IsOnlineFor, IsCandidate, Precedes}
use Rattle.sd_session.specs.Session.{SessionView, StartsSession, GivesBack, ClosesSession, CloseRefused, status_refusal}
use Rattle.sd_session.specs.Sending.{queue_view, Despools}
use Rattle.sd_session.specs.Spooling.{HasFailed}
use Rattle.sd_session.specs.declared.answer.Despooled.{Despooled}
use Rattle.sd_session.specs.declared.answer.Despooled.TheVariants.{Sent}
use Rattle.sd_session.specs.declared.opening.Opening.{Opening}
use Rattle.sd_session.specs.declared.status.Status.TheVariants.{Ended as IsEnded}
use Rattle.sd_span.specs.Spans.{spans_of}
use Rattle.sd_span.specs.declared.span.Span.{Span}
use Rattle.sd_spool.specs.Job.{StoreState}
use Rattle.sd_world.specs.World.{WorldView, WorldSession, BayView, LaneView, IsOnline, HasTicket, session_at, with_session, free_lanes, drives_for}

-- the ticket is unknown, or its session is there and the event is refused for one of these causes
abbrev pub TicketRefused : {D : Type 0} → WorldView D → ℕ → Refusal → (WorldSession → Type 0) → Type 0
TicketRefused w ticket why causes =
    ((session_at ticket w.sessions ≡ None) × (why ≡ SessionNotOpen)) ⊎ ((e : WorldSession) × HasTicket w ticket e × causes e)

-- one session changes so, and nothing else
abbrev pub ChangesSession : {D : Type 0} → WorldView D → ℕ → WorldView D → (SessionView → SessionView → Type 0) → Type 0
ChangesSession old ticket new change =
    (e : WorldSession) × (s : SessionView) × HasTicket old ticket e × change e.session s
    × (new ≡ record old { sessions = with_session (record e { session = s }) old.sessions })

-- the ticket is unknown, and nothing changes; or the event is refused for a cause that may change the session
abbrev pub RefusedWith : {D : Type 0} → WorldView D → ℕ → Refusal → WorldView D → (SessionView → SessionView → Type 0) → Type 0
RefusedWith old ticket why new change =
    ((session_at ticket old.sessions ≡ None) × (why ≡ SessionNotOpen) × (new ≡ old)) ⊎ ChangesSession old ticket new change

-- Opening.

-- a lane's store comes from where it lies: in the lane, or at the session that used the lane last, which goes on no more
abbrev pub TakesStore : LaneView → List WorldSession → StoreState → List WorldSession → Type 0
TakesStore lane old store new =
    ((lane.store ≡ Some store) × (new ≡ old))
    ⊎ ((lane.store ≡ None) × (ticket : ℕ) × (e : WorldSession) × (s : SessionView)
    × (lane.holder ≡ Some ticket) × (session_at ticket old ≡ Some e) × GivesBack e.session store s
    × (new ≡ with_session (record e { session = s }) old))

-- The drive and the lane that a new session gets: the first drive that may take it, and the lowest lane that is free there.
pub record Reserves {D : Type 0} (w : WorldView D) (pool media : List ℕ)
    (drive at place : ℕ) (bay : BayView D) (d : DriveIs D) (lane : LaneView) : Type 0 where
  pub online : IsOnline w drive at bay d
  pub chosen : FirstOf (IsCandidate pool media) (Precedes pool) (drives_for w) at
  pub lowest : FirstOf IsTrue (λ _ _. ⊥) (free_lanes w.sessions d.journal bay.lanes) place
  pub lane_there : slice_get bay.lanes place ≡ Some lane

-- the key of the session that has the world's next number
abbrev pub next_key : {D : Type 0} → WorldView D → SessionKey
next_key w = record { time = w.limits.time; id = w.next }

-- what that session begins with
abbrev pub opening_for : {D : Type 0} → WorldView D → ℕ → ℕ → List ℕ → List ℕ → ℤ → Opening
opening_for w place job pool media moment = record {
  key = next_key w;
  lane = place + 1;
  job = job;
  pool = pool;
  media = media;
  moment = moment;
}

-- A session is opened: it has the next number and its lane's store; the drive has its pool now, and room for a placement of it.
pub record OpensSession {D : Type 0} (old : WorldView D) (job : ℕ) (pool media : List ℕ) (moment : ℤ)
    (ticket drive : ℕ) (new : WorldView D) : Type 0 where
  pub number_left : old.next ≤ most_number
  pub ticket_is : ticket ≡ old.next
  pub at : ℕ
  pub place : ℕ
  pub bay : BayView D
  pub d : DriveIs D
  pub lane : LaneView
  pub reserves : Reserves old pool media drive at place bay d lane
  pub store : StoreState
  pub sessions : List WorldSession
  pub takes : TakesStore lane old.sessions store sessions
  pub session : SessionView
  pub starts : StartsSession (opening_for old place job pool media moment) (old.limits.block - block_header) old.limits.spool store session
  pub new_is : new ≡ record old {
    next = old.next + 1;
    sessions = sessions ++ record { session = session; drive = drive } ∷ [];
    bays = slice_set old.bays at (record bay {
      drive = Some (record d { pool = Some pool; ready = with_key (next_key old) d.ready });
      lanes = slice_set bay.lanes place (record { holder = Some ticket; store = None });
    });
  }

-- no drive takes the session, by the first test that leaves none
abbrev pub NoneReserved : {D : Type 0} → WorldView D → List ℕ → List ℕ → Refusal → Type 0
NoneReserved w pool media why =
    (NoneOf (TakesMedia media) (drives_for w) × (why ≡ NoDriveOfMedia))
    ⊎ ((NoneOf (TakesMedia media) (drives_for w) → ⊥) × NoneOf (IsOnlineFor media) (drives_for w) × (why ≡ DriveOffline))
    ⊎ ((NoneOf (IsOnlineFor media) (drives_for w) → ⊥) × NoneOf (IsCandidate pool media) (drives_for w) × (why ≡ NoFreeLane))

-- A drive and a lane were found, and the session isn't opened: it was out of memory, or the lane's store could not be
-- cleared. The store lies in the lane now, and nothing else changes but the room that was made for a first placement.
pub record OpensNot {D : Type 0} (old : WorldView D) (pool media : List ℕ) (why : Refusal) (new : WorldView D) : Type 0 where
  pub drive : ℕ
  pub at : ℕ
  pub place : ℕ
  pub bay : BayView D
  pub d : DriveIs D
  pub lane : LaneView
  pub reserves : Reserves old pool media drive at place bay d lane
  pub before : StoreState
  pub after : StoreState
  pub cause : ((why ≡ Memory) × (after ≡ before)) ⊎ ((old.limits.spool ≢ 0) × (why ≡ SpoolFault) × HasFailed before after)
  pub sessions : List WorldSession
  pub takes : TakesStore lane old.sessions before sessions
  pub new_is : new ≡ record old {
    sessions = sessions;
    bays = slice_set old.bays at (record bay {
      drive = Some (record d { ready = with_key (next_key old) d.ready });
      lanes = slice_set bay.lanes place (record lane { store = Some after });
    });
  }

-- Why no session is opened, in this order: no number is left; no drive takes it; out of memory; the spool can't be
-- cleared.
abbrev pub OpenRefused : {D : Type 0} → WorldView D → List ℕ → List ℕ → Refusal → WorldView D → Type 0
OpenRefused {D} old pool media why new =
    ((most_number < old.next) × (why ≡ NoSessionNumberLeft) × (new ≡ old))
    ⊎ ((old.next ≤ most_number) × NoneReserved old pool media why × (new ≡ old))
    ⊎ ((old.next ≤ most_number) × OpensNot old pool media why new)
    ⊎ ((old.next ≤ most_number) × (why ≡ Memory) × (at : ℕ) × FirstOf (IsCandidate pool media) (Precedes pool) (drives_for old) at × (new ≡ old))

-- Sending.

-- what one step of sending does to a session and to the queue before its drive: only a body that is sent changes the queue
pub record SendsStep (answer : Despooled) (old : SessionView) (queue : LanesView) (new : SessionView) (queue' : LanesView) : Type 0 where
  pub sent : ℕ → List Piece
  pub sent' : ℕ → List Piece
  pub step : Despools answer old (queue_view sent true queue.held queue.capacity) new (queue_view sent' true queue'.held queue'.capacity)
  pub lanes : queue'.lanes ≡ queue.lanes
  pub capacity : queue'.capacity ≡ queue.capacity
  pub else_same : answer ≢ Sent → queue' ≡ queue

-- one session takes a step of sending
pub record DespoolsSession {D : Type 0} (answer : Despooled) (old : WorldView D) (ticket : ℕ) (new : WorldView D) : Type 0 where
  pub e : WorldSession
  pub has : HasTicket old ticket e
  pub at : ℕ
  pub bay : BayView D
  pub d : DriveIs D
  pub online : IsOnline old e.drive at bay d
  pub session : SessionView
  pub queue : LanesView
  pub step : SendsStep answer e.session bay.queue session queue
  pub new_is : new ≡ record old {
    sessions = with_session (record e { session = session }) old.sessions;
    bays = slice_set old.bays at (record bay { queue = queue });
  }

-- Closing, and asking for spans.

-- a session is closed, exactly if nothing of it is outstanding; the reply has its key and its spans
pub record ClosesAt {D : Type 0} (old : WorldView D) (ticket : ℕ) (key : SessionKey) (spans : List Span) (new : WorldView D) : Type 0 where
  pub e : WorldSession
  pub has : HasTicket old ticket e
  pub at : ℕ
  pub bay : BayView D
  pub d : DriveIs D
  pub online : IsOnline old e.drive at bay d
  pub session : SessionView
  pub closes : ClosesSession e.session (progress_of e.session.key d.journal) session
  pub key_is : key ≡ e.session.key
  pub spans_are : spans ≡ spans_of key (placements d.journal)
  pub new_is : new ≡ record old { sessions = with_session (record e { session = session }) old.sessions }

-- why a session isn't closed: the status; its volume failed; something is outstanding; out of memory
abbrev pub CloseCauses : {D : Type 0} → WorldView D → Refusal → WorldSession → Type 0
CloseCauses {D} w why e =
    ((e.session.status ≢ IsEnded) × (why ≡ status_refusal e.session.status))
    ⊎ ((e.session.status ≡ IsEnded) × (at : ℕ) × (bay : BayView D) × (d : DriveIs D) × IsOnline w e.drive at bay d
    × (CloseRefused e.session (progress_of e.session.key d.journal) why
    ⊎ (((session : SessionView) × ClosesSession e.session (progress_of e.session.key d.journal) session) × (why ≡ Memory))))

-- the session's spans, as far as it was placed
abbrev pub SpansAt : {D : Type 0} → WorldView D → WorldSession → List Span → Type 0
SpansAt {D} w e spans = (at : ℕ) × (bay : BayView D) × (d : DriveIs D) × IsOnline w e.drive at bay d
    × (spans ≡ spans_of e.session.key (placements d.journal))

-- why no spans are told: the session's drive is offline for good; out of memory
abbrev pub MediaCauses : {D : Type 0} → WorldView D → Refusal → WorldSession → Type 0
MediaCauses {D} w why e =
    ((at : ℕ) × (bay : BayView D) × (e.drive ≡ at + 1) × (slice_get w.bays at ≡ Some bay) × (bay.drive ≡ None) × (why ≡ DriveOffline))
    ⊎ ((at : ℕ) × (bay : BayView D) × (d : DriveIs D) × IsOnline w e.drive at bay d × (why ≡ Memory))
