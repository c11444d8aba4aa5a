-- When a world matches a list machine: its sessions' bodies, wherever they are, are cuttings of the machine's lists.
use Rattle.std.specs.Prelude.{◌≡◌, ◌≢◌, ◌⊎◌, ℕ, ◌+◌, not, ◌&&◌, if◌then◌else◌, IsTrue, Option, Some, None, List, [], ◌∷◌, ◌++◌, length, map, slice_get}
use Rattle.std.specs.List.{list_any, AllZip}
use Rattle.std.specs.Option.{option_to_list}
use Rattle.sd_base.specs.Key.{is_key}
use Rattle.sd_base.specs.Record.{Record}
use Rattle.sd_base.specs.declared.number.SessionKey.{SessionKey}
use Rattle.sd_driver.specs.Meaning.{Meaning, IsHonest}
use Rattle.sd_driver.specs.Shelf.{Shelf}
use Rattle.sd_drive.specs.Shelf.{blocks}
use Rattle.sd_drive.specs.View.{DriveIs, items}
use Rattle.sd_journal.specs.Journal.{Entry, Item, is_synced}
use Rattle.sd_label.specs.Cutting.{Between, AtEnd, total_bytes}
use Rattle.sd_lane.specs.Queue.{LanesView}
use Rattle.sd_lane.specs.declared.piece.Piece.{Piece}
use Rattle.sd_lane.specs.declared.piece.Queued.{Queued}
use Rattle.sd_machine.specs.Machine.{Machine, MachineSession, last_index}
use Rattle.sd_pack.specs.Body.{PackedBody}
use Rattle.sd_pack.specs.Packing.{Packs}
use Rattle.sd_session.specs.Session.{SessionView, parts_of, store_of}
use Rattle.sd_session.specs.declared.status.Status.{Status}
use Rattle.sd_session.specs.declared.status.Status.TheVariants.{Active, Ended, Closed, Cancelled}
use Rattle.sd_volume.specs.Image.{Block}
use Rattle.sd_world.specs.Honest.{StoreIsTrue}
use Rattle.sd_world.specs.World.{WorldView, WorldSession, BayView, LaneView, IsOnline, session_at}

-- Where the bodies of sessions are.

-- a body that was sent of a session
pub record SentBody : Type 0 where
  pub key : SessionKey
  pub body : PackedBody

-- the body of which a journal or a hand has this, and whose block is this
abbrev pub sent_body : Item → Block → SentBody
sent_body i b = record { key = i.key; body = record { bytes = b.body; first = i.first; last = i.last } }

-- the bodies of these, one by one; those whose blocks are gone are left out
abbrev pub sent_bodies : List Item → List (Option Block) → List SentBody
sent_bodies (i ∷ is) (Some b ∷ bs) = sent_body i b ∷ sent_bodies is bs
sent_bodies (i ∷ is) (None ∷ bs) = sent_bodies is bs
sent_bodies is bs = []

-- the bodies given to a drive, in order: those placed, unless gone, by the bytes on its shelf, then the one in its hand
abbrev pub given_to : {D : Type 0} → Shelf → DriveIs D → List SentBody
given_to shelf d = sent_bodies (items d.journal d.hand) (blocks shelf d.journal d.hand)

-- a piece as a body that was sent
abbrev pub body_of_piece : Piece → SentBody
body_of_piece p = record { key = p.key; body = p.body }

-- the bodies in the queue before a drive
abbrev pub queued_bodies : LanesView → List SentBody
queued_bodies queue = map (λ (q : Queued). body_of_piece q.piece) queue.held

-- all bodies that were sent to a drive: those given to it, then those before it
abbrev pub sent_to : {D : Type 0} → Shelf → DriveIs D → LanesView → List SentBody
sent_to shelf d queue = given_to shelf d ++ queued_bodies queue

-- the bodies of one session among those sent, in order
abbrev pub bodies_with : SessionKey → List SentBody → List PackedBody
bodies_with key [] = []
bodies_with key (b ∷ bs) = if is_key key b.key then b.body ∷ bodies_with key bs else bodies_with key bs

-- All bodies of a session, in their order: those placed, in the hand, in the queue, ready, spooled, waiting, and the
-- open one. This is the one place that lists the stations of a body.
abbrev pub bodies_in : {D : Type 0} → Shelf → DriveIs D → LanesView → SessionView → List PackedBody
bodies_in shelf d queue s = bodies_with s.key (sent_to shelf d queue) ++ parts_of s

-- What a session has outstanding.

-- a body of the session is in the drive's hand or in the queue before it
abbrev pub IsOnTheWay : {D : Type 0} → DriveIs D → LanesView → SessionKey → Type 0
IsOnTheWay d queue key = bodies_with key (map body_of_piece (option_to_list d.hand) ++ queued_bodies queue) ≢ []

-- a block of the session isn't synced
abbrev pub IsUnsynced : List Entry → SessionKey → Type 0
IsUnsynced journal key = IsTrue (list_any (λ (e : Entry). is_key key e.placement.key && not (is_synced e.mark)) journal)

-- something is outstanding: a body that the session has itself; or, at its online drive, one on the way or an unsynced block
abbrev pub IsOutstanding : {D : Type 0} → WorldView D → WorldSession → Type 0
IsOutstanding {D} w e =
    (parts_of e.session ≢ [])
    ⊎ ((at : ℕ) × (bay : BayView D) × (d : DriveIs D) × IsOnline w e.drive at bay d
    × (IsOnTheWay d bay.queue e.session.key ⊎ IsUnsynced d.journal e.session.key))

-- Honesty.

-- the device of the drive is honest, and so is the spool of each of its lanes, in the lane or at a session
pub record IsHonestAt {D : Type 0} (meaning : D → Meaning) (w : WorldView D) (at : ℕ) (bay : BayView D) (d : DriveIs D) : Type 0 where
  pub device : IsHonest (meaning d.device)
  pub lanes : (place : ℕ) (lane : LaneView) → slice_get bay.lanes place ≡ Some lane → StoreIsTrue lane.store
  pub sessions : (ticket : ℕ) (e : WorldSession) → session_at ticket w.sessions ≡ Some e
      → e.drive ≡ at + 1 → StoreIsTrue (store_of e.session)

-- Matching.

-- the bodies begin a packed cutting of the list, with its end label or without: those after them were dropped
pub record BeginsPacked (room : ℕ) (bodies : List PackedBody) (records : List Record) : Type 0 where
  pub dropped : List PackedBody
  pub packs : Packs room (bodies ++ dropped) records Between ⊎ Packs room (bodies ++ dropped) records AtEnd

-- How a session's bodies are to its list: an active one's are a cutting of it, an ended or closed one's with its end label; what a
-- cancelled one sent begins a cutting of it; of a failed or purged one nothing is said.
abbrev pub HasBodies : ℕ → List PackedBody → List PackedBody → Status → List Record → Type 0
HasBodies room sent all Active records = Packs room all records Between
HasBodies room sent all Ended records = Packs room all records AtEnd
HasBodies room sent all Closed records = Packs room all records AtEnd
HasBodies room sent all Cancelled records = BeginsPacked room sent records
HasBodies room sent all status records = Unit {0}

-- The session is that of the machine: its key, its status, its counts. If its drive is online, and the drive's device
-- and spools are honest, its bodies are those of the machine's list. Once it is closed, nothing of it is outstanding.
pub record SessionMatches {D : Type 0} (meaning : D → Meaning) (w : WorldView D) (e : WorldSession) (s : MachineSession) : Type 0 where
  pub key_is : s.key ≡ e.session.key
  pub status_is : s.status ≡ e.session.status
  pub count_is : length s.records ≡ e.session.count
  pub bytes_are : total_bytes s.records ≡ e.session.bytes
  pub last_is : last_index s.records ≡ e.session.last
  pub bodies_are : (at : ℕ) (bay : BayView D) (d : DriveIs D) → IsOnline w e.drive at bay d → IsHonestAt meaning w at bay d
      → HasBodies e.session.packer.room (bodies_with e.session.key (sent_to (meaning d.device).shelf d bay.queue))
      (bodies_in (meaning d.device).shelf d bay.queue e.session) s.status s.records
  pub closed : s.status ≡ Closed → IsOutstanding w e → ⊥

-- the sessions of world and machine match one by one, in the same order
abbrev pub SessionsMatch : {D : Type 0} → (D → Meaning) → WorldView D → List WorldSession → List MachineSession → Type 0
SessionsMatch meaning w es ss = AllZip (SessionMatches meaning w) es ss

-- the world matches the machine
pub record Matches {D : Type 0} (meaning : D → Meaning) (w : WorldView D) (m : Machine) : Type 0 where
  pub time_is : m.time ≡ w.limits.time
  pub next_is : m.next ≡ w.next
  pub sessions : SessionsMatch meaning w w.sessions m.sessions
