-- What contracts see of a session's part, what it keeps, and what its calls do.
use Rattle.std.specs.Prelude.{◌≡◌, ◌≢◌, ◌⊎◌, ℕ, ◌+◌, ◌-◌, ℤ, List, [], ◌∷◌, ◌++◌, ◌==◌, not, Bool, if◌then◌else◌, Some, None, IsSome, IsTrue, false}
use Rattle.std.specs.List.{AllByRecursion}
use Rattle.sd_base.specs.Limits.{block_header}
use Rattle.sd_base.specs.Record.{Record}
use Rattle.sd_base.specs.declared.refusal.Refusal.{Refusal}
use Rattle.sd_base.specs.declared.refusal.Refusal.TheVariants.{SpoolFault, Memory}
use Rattle.sd_lane.specs.declared.piece.Piece.{Piece}
use Rattle.sd_lane.specs.declared.piece.Queued.{Queued}
use Rattle.sd_lane.specs.Queue.{queued}
use Rattle.sd_line.specs.Side.{LineIs, SideIs, SeatIs, MayReady, sends_one}
use Rattle.sd_pack.specs.Body.{PackedBody, empty_body}
use Rattle.sd_line.specs.Ends.{ToldSession, EndIs, IsOfLane, IsOver, TellsAll, SentBy, BringsStore, RestsOn, pieces_from}
use Rattle.sd_drive.specs.declared.limits.Limits.{Limits}
use Rattle.sd_session.specs.Session.{SessionView, StartsSession, store_of}
use Rattle.sd_session.specs.Sending.{QueueView, queue_view, SendsBody, Despools}
use Rattle.sd_session.specs.declared.answer.Despooled.{Despooled}
use Rattle.sd_session.specs.declared.answer.Despooled.TheVariants.{Sent, LaneFull, Nothing, NotDue}
use Rattle.sd_session.specs.declared.opening.Opening.{Opening}
use Rattle.sd_spool.specs.Job.{StoreState}
use Rattle.sd_world.specs.Honest.{StoreIsTrue}
use Rattle.sd_session.specs.Spooling.{HasFailed}

-- A session's part: the seat of its lane, the sessions that used the lane before, the session, the records that it took, whether
-- it spools, and whether the sessions before are all that used the lane.
pub record PartIs : Type 0 where
  pub seat : SeatIs
  pub before : List ToldSession
  pub session : SessionView
  pub told : List Record
  pub spools : Bool
  pub whole : Bool

-- the session of a part, and what it took
abbrev pub told_of : PartIs → ToldSession
told_of p = record { session = p.session; told = p.told; spools = p.spools }

-- the lane's end that a part leaves
abbrev pub end_of : PartIs → EndIs
end_of p = record { seat = p.seat; store = None; sessions = p.before ++ told_of p ∷ []; whole = p.whole }

-- the part with another session in the place of its own, which took the same records
abbrev pub with_session : PartIs → SessionView → PartIs
with_session p s = record p { session = s }

-- What a part keeps. The seat sent other pieces first, which are those of the sessions before if these are all that used the lane,
-- and after them these bodies of the part's own session. What that session took is the whole of those bodies and of what it still
-- has; if it spools, while the lane's store is honest.
pub record KeepsPart (time : ℕ → ℕ) (p : PartIs) : Type 0 where
  pub of_lane : IsOfLane (time p.seat.no) p.seat.seat.lane (told_of p)
  pub before_of_lane : AllByRecursion (IsOfLane (time p.seat.no) p.seat.seat.lane) p.before
  pub before_over : AllByRecursion IsOver p.before
  pub sent_before : List Piece
  pub sent : List PackedBody
  pub sent_are : p.seat.seat.sent ≡ sent_before ++ pieces_from p.session.key 1 sent
  pub before_tell : IsTrue p.whole → SentBy (StoreIsTrue (store_of p.session)) p.before sent_before
  pub tells : TellsAll (RestsOn p.spools (StoreIsTrue (store_of p.session))) (told_of p) sent
  pub unspooled : p.spools ≡ false → p.session.spool ≡ None
  pub stored : IsSome (store_of p.session)

-- Opening.

-- what a session begins with that is opened at this end of a lane of this line
abbrev pub opening_at : LineIs → ℕ → ℕ → ℕ → List ℕ → ℤ → Opening
opening_at line lane id job pool moment = record {
  key = record { time = line.limits.time; id = id };
  lane = lane;
  job = job;
  pool = pool;
  media = line.media;
  moment = moment;
}

-- with a limit of 0 a session doesn't spool
abbrev pub spools_at : Limits → Bool
spools_at limits = not (limits.spool == 0)

-- A session begins so at the end of a lane, on the store that lies there. It took no record yet.
pub record OpensAt (limits : Limits) (opening : Opening) (e : EndIs) (p : PartIs) : Type 0 where
  pub store : StoreState
  pub store_is : e.store ≡ Some store
  pub starts : StartsSession opening (limits.block - block_header) limits.spool store p.session
  pub is : p ≡ record { seat = e.seat; before = e.sessions; session = p.session; told = []; spools = spools_at limits; whole = e.whole }

-- none begins: it was out of memory, or the store could not be cleared, which lies in the end still
pub record OpensNotAt (limits : Limits) (e : EndIs) (why : Refusal) (e' : EndIs) : Type 0 where
  pub store : StoreState
  pub store' : StoreState
  pub store_is : e.store ≡ Some store
  pub is : e' ≡ record e { store = Some store' }
  pub cause : ((why ≡ Memory) × (store' ≡ store)) ⊎ ((limits.spool ≢ 0) × (why ≡ SpoolFault) × HasFailed store store')

-- A session that is prepared: the limits that it is for, what it begins with, and the end of its lane, in which the store
-- lies until it begins.
pub record PreparedIs : Type 0 where
  pub limits : Limits
  pub opening : Opening
  pub end : EndIs

-- A session of this number is prepared at the end of a lane of this line. The lane's store lies in that end, wherever it
-- lay before.
pub record Prepares (line : LineIs) (id job : ℕ) (pool : List ℕ) (moment : ℤ) (e : EndIs) (p : PreparedIs) : Type 0 where
  pub brings : BringsStore e p.end
  pub limits_are : p.limits ≡ line.limits
  pub opening_is : p.opening ≡ opening_at line e.seat.seat.lane id job pool moment

-- The drive notes a session that begins: its pool is the drive's, and nothing else is another, but for what it may have made
-- room for.
pub record Notes {D : Type 0} (opening : Opening) (old new : SideIs D) : Type 0 where
  pub is : new ≡ record old { drive = record old.drive { pool = Some opening.pool; ready = new.drive.ready } }
  pub room : MayReady opening.key old.drive.ready new.drive.ready

-- a session of this number begins at the end of a lane of this line, on the lane's store, wherever that lay
pub record OpensPart (line : LineIs) (id job : ℕ) (pool : List ℕ) (moment : ℤ) (e : EndIs) (p : PartIs) : Type 0 where
  pub between : EndIs
  pub brings : BringsStore e between
  pub opens : OpensAt line.limits (opening_at line e.seat.seat.lane id job pool moment) between p

-- none begins; the end comes back, and the lane's store lies in it
pub record OpensNoPart (line : LineIs) (e : EndIs) (why : Refusal) (e' : EndIs) : Type 0 where
  pub between : EndIs
  pub brings : BringsStore e between
  pub opens_not : OpensNotAt line.limits between why e'

-- Sending.

-- what the lane of a seat sent; of the other lanes nothing is known
abbrev pub sent_by_seat : SeatIs → ℕ → List Piece
sent_by_seat s lane = if s.seat.lane == lane then s.seat.sent else []

-- the queue of so many pieces as a seat knows it that others push beside
abbrev pub queue_at : ℕ → SeatIs → QueueView
queue_at capacity s = queue_view (sent_by_seat s) false [] capacity

-- the next body of the session, as a piece
abbrev pub next_piece : SessionView → PackedBody → Piece
next_piece s body = record { key = s.key; seq = s.sent + 1; body = body }

-- What one step of sending did to the session and to the seat of its lane. If a body was sent, the seat sent that one
-- piece more; else it sent nothing.
abbrev pub SendsBy : Despooled → ℕ → SeatIs → SessionView → SeatIs → SessionView → Type 0
SendsBy Sent capacity seat s seat' s' =
    (sends : SendsBody s (queue_at capacity seat) s' (queue_at capacity seat'))
    × (seat' ≡ sends_one (next_piece s sends.body) seat)
SendsBy LaneFull capacity seat s seat' s' =
    Despools LaneFull s (queue_at capacity seat) s' (queue_at capacity seat') × (seat' ≡ seat)
SendsBy Nothing capacity seat s seat' s' =
    Despools Nothing s (queue_at capacity seat) s' (queue_at capacity seat') × (seat' ≡ seat)
SendsBy NotDue capacity seat s seat' s' =
    Despools NotDue s (queue_at capacity seat) s' (queue_at capacity seat') × (seat' ≡ seat)

-- a list that tells this number: what keeps the list keeps the number
abbrev pub number_kept : ℕ → List Queued
number_kept n = queued n (record { key = record { time = 0; id = 0 }; seq = 0; body = empty_body }) ∷ []
