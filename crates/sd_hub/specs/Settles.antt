-- What is settled of a line, and what keeps it from being settled.
use Rattle.std.specs.Prelude.{◌≡◌, ◌≢◌, ◌⊎◌, ℕ, zero, suc, ◌<◌, ◌≤◌, Bool, true, ◌==◌, ◌&&◌, if◌then◌else◌, List, [], ◌∷◌, ◌++◌, length, Option, Some, None, IsSome, slice_get}
use Rattle.std.specs.List.{count_by}
use Rattle.atomic_table.specs.Seated.{TableId}
use Rattle.sd_base.specs.Key.{is_key}
use Rattle.sd_base.specs.declared.number.SessionKey.{SessionKey}
use Rattle.sd_driver.specs.Meaning.{Meaning}
use Rattle.sd_drive.specs.declared.limits.Limits.{Limits}
use Rattle.sd_drive.specs.Receipt.{ReceiptIs}
use Rattle.sd_drive.specs.View.{DriveIs}
use Rattle.sd_journal.specs.Journal.{Entry, placements, placed_of, synced_of}
use Rattle.sd_lane.specs.Queue.{pieces_of, AreOfLanes}
use Rattle.sd_line.specs.Side.{LineIs, SideIs, KeepsSide}
use Rattle.sd_line.specs.Ends.{EndIs, ToldSession, KeepsEnd}
use Rattle.sd_ruled.specs.Seats.{LaneSeatIs, QueueIs, RuledView}
use Rattle.sd_session.specs.declared.status.Status.TheVariants.{Closed}
use Rattle.sd_hub.specs.declared.fault.SettleFault.{SettleFault}
use Rattle.sd_hub.specs.declared.fault.SettleFault.TheVariants.{MissingLane, DoubleKey, Unsynced, Foreign, Memory}
use Rattle.sd_span.specs.Spans.{spans_of}
use Rattle.sd_span.specs.declared.span.Span.{Span}
use Rattle.sd_spool.specs.Job.{StoreState}

-- a lane that is settled: its store, unless the session has it that used the lane last; and the sessions that used it
pub record SettledLaneIs : Type 0 where
  pub store : Option StoreState
  pub sessions : List ToldSession

-- the lane that has this end
abbrev pub lane_of : EndIs → SettledLaneIs
lane_of e = record { store = e.store; sessions = e.sessions }

-- a line that is settled: its drive, its queue, and the lanes 1, 2 and on
pub record SettledIs (D : Type 0) : Type 0 where
  pub drive : DriveIs D
  pub queue : RuledView
  pub lanes : List SettledLaneIs

-- The ends of the lanes.

-- whether the end is of this drive and of this lane, and has all sessions that used the lane
abbrev pub is_end : ℕ → ℕ → EndIs → Bool
is_end own lane e = ((e.seat.no == own) && (e.seat.seat.lane == lane)) && e.whole

-- the first of these ends that is such
abbrev pub end_at : ℕ → ℕ → List EndIs → Option EndIs
end_at own lane [] = None
end_at own lane (e ∷ es) = if is_end own lane e then Some e else end_at own lane es

-- it is at this place
pub record StandsAt (own lane : ℕ) (ends : List EndIs) (at : ℕ) : Type 0 where
  pub end : EndIs
  pub there : slice_get ends at ≡ Some end
  pub is : is_end own lane end ≡ true
  pub first : end_at own lane ends ≡ Some end

-- the sessions of an end, if there is one
abbrev pub sessions_in : Option EndIs → List ToldSession
sessions_in None = []
sessions_in (Some e) = e.sessions

-- those that used this lane
abbrev pub sessions_at : ℕ → ℕ → List EndIs → List ToldSession
sessions_at own lane ends = sessions_in (end_at own lane ends)

-- those that used the lanes from 1 to this one, lane after lane
abbrev pub sessions_to : ℕ → ℕ → List EndIs → List ToldSession
sessions_to own zero ends = []
sessions_to own (suc lane) ends = sessions_to own lane ends ++ sessions_at own (suc lane) ends

-- the end of each lane is there
abbrev pub AllThere : ℕ → ℕ → List EndIs → Type 0
AllThere own lanes ends = (lane : ℕ) → 1 ≤ lane → lane ≤ lanes → IsSome (end_at own lane ends)

-- the end of this lane is not there, and those of all lanes before it are
pub record IsMissing (own lanes : ℕ) (ends : List EndIs) (lane : ℕ) : Type 0 where
  pub least : 1 ≤ lane
  pub most : lane ≤ lanes
  pub missing : end_at own lane ends ≡ None
  pub before : (other : ℕ) → 1 ≤ other → other < lane → IsSome (end_at own other ends)

-- Their sessions.

-- how many of these sessions have the key
abbrev pub times_of : SessionKey → List ToldSession → ℕ
times_of key sessions = count_by (λ (s : ToldSession). is_key s.session.key key) sessions

-- no two of them have one key
abbrev pub AreDistinct : List ToldSession → Type 0
AreDistinct sessions = (at : ℕ) (s : ToldSession) → slice_get sessions at ≡ Some s → times_of s.session.key sessions ≤ 1

-- the session is closed, and the drive placed another number of blocks of it than it sent, or synced another
abbrev pub IsUnsettled : List Entry → ToldSession → Type 0
IsUnsettled journal s = (s.session.status ≡ Closed)
    × ((placed_of s.session.key journal ≢ s.session.sent) ⊎ (synced_of s.session.key journal ≢ s.session.sent))

-- a session of this key is, among these
abbrev pub HasUnsettled : List Entry → List ToldSession → SessionKey → Type 0
HasUnsettled journal sessions key = (at : ℕ) × (s : ToldSession) × (slice_get sessions at ≡ Some s) × (s.session.key ≡ key) × IsUnsettled journal s

-- none of these is
abbrev pub AreSettled : List Entry → List ToldSession → Type 0
AreSettled journal sessions = (at : ℕ) (s : ToldSession) → slice_get sessions at ≡ Some s → IsUnsettled journal s → ⊥

-- Receipts.

-- The drive gives this receipt: as many blocks of the session as it says are placed and synced, at those spans.
pub record IsGiven (journal : List Entry) (r : ReceiptIs) : Type 0 where
  pub placed : placed_of r.key journal ≡ r.blocks
  pub synced : synced_of r.key journal ≡ r.blocks
  pub spans_are : r.spans ≡ spans_of r.key (placements journal)

-- the spans have the same fields
abbrev pub SameFields : Span → Span → Type 0
SameFields a b = (a.volume ≡ b.volume) × (a.vol_index ≡ b.vol_index) × (a.first ≡ b.first) × (a.last ≡ b.last) × (a.start ≡ b.start) × (a.end ≡ b.end)

-- Settling.

-- a line that is checked: the line and what is under its lock, the ends that were handed in, and the receipts
pub record CheckedIs (D : Type 0) : Type 0 where
  pub line : LineIs
  pub side : SideIs D
  pub ends : List EndIs
  pub receipts : List ReceiptIs

-- the line of these
abbrev pub line_of : ℕ → List ℕ → Limits → QueueIs → LineIs
line_of own media limits queue = record { no = own; media = media; limits = limits; queue = queue }

-- the line that is checked with these
abbrev pub checked_of : {D : Type 0} → LineIs → SideIs D → List EndIs → List ReceiptIs → CheckedIs D
checked_of line side ends receipts = record { line = line; side = side; ends = ends; receipts = receipts }

-- the sessions of its lanes
abbrev pub sessions_of : {D : Type 0} → CheckedIs D → List ToldSession
sessions_of c = sessions_to c.line.no c.side.seat.lanes c.ends

-- What is found of a line, one after the other.

-- what is under its lock has its number, and the end of each lane is there
pub record HasLanes {D : Type 0} (c : CheckedIs D) : Type 0 where
  pub no_is : c.side.no ≡ c.line.no
  pub there : AllThere c.line.no c.side.seat.lanes c.ends

-- and no two sessions have one key
pub record HasKeys {D : Type 0} (c : CheckedIs D) : Type 0 where
  pub lanes : HasLanes c
  pub distinct : AreDistinct (sessions_of c)

-- and no session that is closed has another number placed or synced than it sent
pub record HasSynced {D : Type 0} (c : CheckedIs D) : Type 0 where
  pub keys : HasKeys c
  pub settled : AreSettled c.side.drive.journal (sessions_of c)

-- and the drive gives each receipt
pub record Passes {D : Type 0} (c : CheckedIs D) : Type 0 where
  pub synced : HasSynced c
  pub given : (at : ℕ) (r : ReceiptIs) → slice_get c.receipts at ≡ Some r → IsGiven c.side.drive.journal r

-- a receipt is out of these, and the others are left
abbrev pub IsOutOf : ReceiptIs → List ReceiptIs → List ReceiptIs → Type 0
IsOutOf r all left = (before : List ReceiptIs) × (behind : List ReceiptIs) × (all ≡ before ++ r ∷ behind) × (left ≡ before ++ behind)

-- The fault of a line, and which receipts are left beside it: the first one that is found. A lock of another number can't come about;
-- there no lane counts as there.
abbrev pub FaultOf : {D : Type 0} → CheckedIs D → SettleFault → List ReceiptIs → Type 0
FaultOf c (MissingLane lane) left = (left ≡ c.receipts)
    × (((c.side.no ≡ c.line.no) × IsMissing c.line.no c.side.seat.lanes c.ends lane) ⊎ ((c.side.no ≢ c.line.no) × (lane ≡ 1)))
FaultOf c (DoubleKey key) left = (left ≡ c.receipts) × HasLanes c × (1 < times_of key (sessions_of c))
FaultOf c (Unsynced key) left = (left ≡ c.receipts) × HasKeys c × HasUnsettled c.side.drive.journal (sessions_of c) key
FaultOf c (Foreign r) left = HasSynced c × (IsGiven c.side.drive.journal r → ⊥) × IsOutOf r c.receipts left
FaultOf c Memory left = (left ≡ c.receipts) × HasSynced c

-- Why a line is not settled: of what its lock has, which keeps what each lock's value keeps, and of what was handed in this fault is
-- found.
abbrev pub SettlesNot : {D : Type 0} → (D → Meaning) → (ℕ → TableId) → (ℕ → ℕ) → LineIs → SideIs D → List EndIs → List ReceiptIs → SettleFault → List ReceiptIs → Type 0
SettlesNot meaning table time line side ends receipts fault left = KeepsSide meaning table time side
    × FaultOf (checked_of line side ends receipts) fault left

-- The seat and the lane at one place are those of the lane's end among these. The seat is of the queue that is named for the drive.
pub record IsTaken (table : ℕ → TableId) (time : ℕ → ℕ) (own : ℕ) (ends : List EndIs) (seats : List LaneSeatIs) (lanes : List SettledLaneIs) (at : ℕ) : Type 0 where
  pub end : EndIs
  pub end_is : end_at own (suc at) ends ≡ Some end
  pub here : end.seat.seat.table ≡ table own
  pub keeps : KeepsEnd time end
  pub seat_is : slice_get seats at ≡ Some end.seat.seat
  pub lane_is : slice_get lanes at ≡ Some (lane_of end)

-- those of so many lanes
pub record AreTaken (table : ℕ → TableId) (time : ℕ → ℕ) (own count : ℕ) (ends : List EndIs) (seats : List LaneSeatIs) (lanes : List SettledLaneIs) : Type 0 where
  pub seats_are : length seats ≡ count
  pub lanes_are : length lanes ≡ count
  pub each : (at : ℕ) → at < count → IsTaken table time own ends seats lanes at

-- A lane of a line that is settled. It is that of its end; and of what the lane's seat sent, the drive took a first part, in order,
-- and the queue holds the rest.
pub record LaneSettles (time : ℕ → ℕ) (own : ℕ) (ends : List EndIs) (queue : RuledView) (at : ℕ) (lane : SettledLaneIs) : Type 0 where
  pub end : EndIs
  pub end_is : end_at own (suc at) ends ≡ Some end
  pub keeps : KeepsEnd time end
  pub lane_is : lane ≡ lane_of end
  pub follows : pieces_of (suc at) (queue.taken ++ queue.held) ≡ end.seat.seat.sent

-- What holds once a line is settled. The drive is as its lock had it; so its journal and its hand follow what the queue
-- says was taken. Each lane is that of its end.
pub record Settles {D : Type 0} (meaning : D → Meaning) (table : ℕ → TableId) (time : ℕ → ℕ) (c : CheckedIs D) (settled : SettledIs D) : Type 0 where
  pub passes : Passes c
  pub keeps : KeepsSide meaning table time c.side
  pub drive_is : settled.drive ≡ c.side.drive
  pub taken_is : settled.queue.taken ≡ c.side.seat.taken
  pub queue_is : (settled.queue.table ≡ c.line.queue.table) × (settled.queue.capacity ≡ c.line.queue.capacity)
  pub count_is : (settled.queue.lanes ≡ c.side.seat.lanes) × (length settled.lanes ≡ c.side.seat.lanes)
  pub of_lanes : AreOfLanes settled.queue.lanes (settled.queue.taken ++ settled.queue.held)
  pub lanes_are : (at : ℕ) (lane : SettledLaneIs) → slice_get settled.lanes at ≡ Some lane → LaneSettles time c.line.no c.ends settled.queue at lane
