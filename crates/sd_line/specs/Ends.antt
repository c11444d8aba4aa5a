-- What contracts see of a lane's end, and what it keeps: that its sessions were told what its seat sent.
use Rattle.std.specs.Prelude.{◌≡◌, ◌≢◌, ◌⊎◌, ℕ, ◌+◌, ◌≤◌, Bool, false, IsTrue, List, [], ◌∷◌, ◌++◌, length, Option, Some, None, IsSome}
use Rattle.std.specs.List.{AllByRecursion}
use Rattle.std.specs.Option.{option_or}
use Rattle.sd_base.specs.Limits.{most_number}
use Rattle.sd_base.specs.Record.{Record}
use Rattle.sd_base.specs.declared.number.SessionKey.{SessionKey}
use Rattle.sd_label.specs.Cutting.{total_bytes}
use Rattle.sd_lane.specs.declared.piece.Piece.{Piece}
use Rattle.sd_line.specs.Side.{SeatIs}
use Rattle.sd_machine.specs.Machine.{last_index}
use Rattle.sd_pack.specs.Body.{PackedBody}
use Rattle.sd_session.specs.Session.{SessionView, IsRunning, GivesBack, parts_of, store_of}
use Rattle.sd_session.specs.declared.status.Status.TheVariants.{Closed, Purged}
use Rattle.sd_spool.specs.Job.{StoreState}
use Rattle.sd_world.specs.Honest.{StoreIsTrue}
use Rattle.sd_world.specs.Matches.{HasBodies}

-- a session that used a lane, the records that it took, in order, and whether it spools
pub record ToldSession : Type 0 where
  pub session : SessionView
  pub told : List Record
  pub spools : Bool

-- A lane's end: its seat; the store of its spools, unless the session that used the lane last has it; the sessions that used the
-- lane, in order; and whether these are all of them, since an end may forget those before the last one.
pub record EndIs : Type 0 where
  pub seat : SeatIs
  pub store : Option StoreState
  pub sessions : List ToldSession
  pub whole : Bool

-- the store that the last of these sessions has
abbrev pub last_store : List ToldSession → Option StoreState
last_store [] = None
last_store (s ∷ []) = store_of s.session
last_store (s ∷ t ∷ ss) = last_store (t ∷ ss)

-- the lane's store, wherever it lies
abbrev pub lane_store : EndIs → Option StoreState
lane_store e = option_or e.store (last_store e.sessions)

-- the last of these sessions gives the store back
pub record LastGivesBack (old : List ToldSession) (store : StoreState) (new : List ToldSession) : Type 0 where
  pub earlier : List ToldSession
  pub last : ToldSession
  pub session : SessionView
  pub old_is : old ≡ earlier ++ last ∷ []
  pub gives_back : GivesBack last.session store session
  pub new_is : new ≡ earlier ++ record last { session = session } ∷ []

-- the lane's store comes from where it lies: in the end, or at the session that used the lane last
abbrev pub TakesStore : EndIs → StoreState → List ToldSession → Type 0
TakesStore e store sessions =
    ((e.store ≡ Some store) × (sessions ≡ e.sessions)) ⊎ ((e.store ≡ None) × LastGivesBack e.sessions store sessions)

-- the last of these sessions, if there is one
abbrev pub last_alone : List ToldSession → List ToldSession
last_alone [] = []
last_alone (s ∷ []) = s ∷ []
last_alone (s ∷ t ∷ ss) = last_alone (t ∷ ss)

-- the end once it forgot the sessions before the last one
abbrev pub forgot : EndIs → EndIs
forgot e = record e { sessions = last_alone e.sessions; whole = false }

-- the lane's store lies in the end now, and nothing else changes
pub record BringsStore (old new : EndIs) : Type 0 where
  pub store : StoreState
  pub sessions : List ToldSession
  pub takes : TakesStore old store sessions
  pub is : new ≡ record old { store = Some store; sessions = sessions }

-- the session goes on no more
abbrev pub IsOver : ToldSession → Type 0
IsOver s = IsRunning s.session.status → ⊥

-- the last of these sessions, if there is one, goes on no more
abbrev pub LastIsOver : List ToldSession → Type 0
LastIsOver [] = Unit {0}
LastIsOver (s ∷ []) = IsOver s
LastIsOver (s ∷ t ∷ ss) = LastIsOver (t ∷ ss)

-- all of these but the last go on no more
abbrev pub EarlierAreOver : List ToldSession → Type 0
EarlierAreOver [] = Unit {0}
EarlierAreOver (s ∷ []) = Unit {0}
EarlierAreOver (s ∷ t ∷ ss) = IsOver s × EarlierAreOver (t ∷ ss)

-- these bodies of a session as pieces, numbered from `seq` on
abbrev pub pieces_from : SessionKey → ℕ → List PackedBody → List Piece
pieces_from key seq [] = []
pieces_from key seq (b ∷ bs) = record { key = key; seq = seq; body = b } ∷ pieces_from key (seq + 1) bs

-- the session is of the run of this time, and sends by this lane
pub record IsOfLane (time lane : ℕ) (s : ToldSession) : Type 0 where
  pub time_is : s.session.key.time ≡ time
  pub id_least : 1 ≤ s.session.key.id
  pub id_most : s.session.key.id ≤ most_number
  pub lane_is : s.session.lane ≡ lane

-- A session took just these records, and these bodies of it were sent. If what it rests on is honest, then those bodies
-- and after them the ones that the session still has are a packed cutting of the records, with their end label or
-- without; and of a session that was cancelled those that were sent begin one. A closed session has sent all.
pub record TellsAll (honest : Type 0) (s : ToldSession) (sent : List PackedBody) : Type 0 where
  pub count_is : length s.told ≡ s.session.count
  pub bytes_are : total_bytes s.told ≡ s.session.bytes
  pub last_is : last_index s.told ≡ s.session.last
  pub sent_is : length sent ≡ s.session.sent
  pub bodies_are : honest
      → HasBodies s.session.packer.room sent (sent ++ parts_of s.session) s.session.status s.told
  pub closed : s.session.status ≡ Closed → (parts_of s.session ≡ []) × (1 ≤ s.session.sent)
  pub not_purged : s.session.status ≢ Purged

-- a session that doesn't spool rests on no store; one that does rests on the lane's
abbrev pub RestsOn : Bool → Type 0 → Type 0
RestsOn spools honest = IsTrue spools → honest

-- These pieces are what the sessions sent, one session after the other, each piece with its session's key and its place
-- in it; and what was sent of each goes with the records that it took.
abbrev pub SentBy : Type 0 → List ToldSession → List Piece → Type 0
SentBy honest [] sent = sent ≡ []
SentBy honest (s ∷ ss) sent = (bodies : List PackedBody) × (rest : List Piece)
    × (sent ≡ pieces_from s.session.key 1 bodies ++ rest) × TellsAll (RestsOn s.spools honest) s bodies × SentBy honest ss rest

-- What a lane's end keeps. Its sessions are of its drive's run and of its lane; if they are all that used the lane, what its seat
-- sent is what they sent, one after the other; only the last of them may still go on; and the lane's store is there.
pub record KeepsEnd (time : ℕ → ℕ) (e : EndIs) : Type 0 where
  pub of_lane : AllByRecursion (IsOfLane (time e.seat.no) e.seat.seat.lane) e.sessions
  pub sent_are : IsTrue e.whole → SentBy (StoreIsTrue (lane_store e)) e.sessions e.seat.seat.sent
  pub earlier : EarlierAreOver e.sessions
  pub stored : IsSome (lane_store e)
