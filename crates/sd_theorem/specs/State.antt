-- What the world of a settled line is: its state, the pieces of its lanes, and its receipts.
use Rattle.std.specs.Prelude.{◌≡◌, ℕ, List, [], ◌∷◌, ◌++◌, length, Some, slice_get, IsPermutation}
use Rattle.std.specs.List.Sorted.{IsNonDecreasingBy}
use Rattle.sd_driver.specs.Meaning.{Meaning, IsHonest}
use Rattle.sd_drive.specs.Receipt.{ReceiptIs}
use Rattle.sd_drive.specs.Shelf.{blocks}
use Rattle.sd_drive.specs.View.{items}
use Rattle.sd_lane.specs.Queue.{AreOfLanes}
use Rattle.sd_line.specs.Side.{LineIs, blocks_taken, items_taken}
use Rattle.sd_line.specs.Ends.{EndIs, ToldSession}
use Rattle.sd_session.specs.declared.status.Status.TheVariants.{Closed}
use Rattle.sd_hub.specs.Settles.{AreDistinct, IsGiven, LaneSettles, SettledIs, SettledLaneIs, sessions_to}
use Rattle.sd_hub.specs.Worlds.{bay_of, machine_of}
use Rattle.sd_world.specs.Matches.{IsOutstanding, Matches}
use Rattle.sd_world.specs.World.{WorldSession, WorldView, session_at}

-- The state. The sessions that were told are those of the ends of the lanes 1, 2 and on, each once, in ascending order
-- of number. The world is of the line's run, and matches the list machine that has each of them with its key, with
-- exactly the records that its part took, in order, and with its status; it is failed if it went on while the drive
-- lost a block of it.
pub record HasState {D : Type 0} (meaning : D → Meaning) (time : ℕ → ℕ) (line : LineIs) (ends : List EndIs) (settled : SettledIs D)
    (told : List ToldSession) (w : WorldView D) : Type 0 where
  pub all : IsPermutation (sessions_to line.no (length settled.lanes) ends) told
  pub rise : IsNonDecreasingBy (λ (s : ToldSession). s.session.key.id) told
  pub distinct : AreDistinct told
  pub run_is : w.limits.time ≡ time line.no
  pub matches : Matches meaning w (machine_of settled told)

-- The pieces. The world has one bay, with the drive and what its queue still holds. The drive took some pieces from the
-- queue: its journal and then its hand have, in order, the key, the indexes and the length of each of them; and while
-- its device is honest, the block at each placement has that piece's key and body. Each piece came by one of the lanes.
-- The end of each lane is among those that were handed in, and what the drive took of that lane, followed by what the
-- queue holds of it, is exactly what the lane's seat sent, in order, each piece once (`follows`). What the seat sent is
-- what the sessions of the end sent, each its own; and if the lane's store is honest, what was sent of each and what
-- its part still holds are a cutting of the records that it took, or begin one if it was cancelled (`keeps`).
pub record HasPieces {D : Type 0} (meaning : D → Meaning) (time : ℕ → ℕ) (line : LineIs) (ends : List EndIs) (settled : SettledIs D)
    (w : WorldView D) : Type 0 where
  pub bays_are : w.bays ≡ bay_of settled ∷ []
  pub follows : items settled.drive.journal settled.drive.hand ≡ items_taken settled.queue.taken
  pub holds : IsHonest (meaning settled.drive.device)
      → blocks (meaning settled.drive.device).shelf settled.drive.journal settled.drive.hand ≡ blocks_taken settled.queue.taken
  pub of_lanes : AreOfLanes (length settled.lanes) (settled.queue.taken ++ settled.queue.held)
  pub lanes : (at : ℕ) (lane : SettledLaneIs) → slice_get settled.lanes at ≡ Some lane
      → LaneSettles time line.no ends settled.queue at lane

-- The receipts. Each that was handed in is what the journal gives: its spans are those of its key, and as many blocks as it says
-- are both placed and synced. And nothing of a closed session is outstanding: its part holds no body, none is in the queue or in
-- the hand, and each of its blocks is synced.
pub record GivesReceipts {D : Type 0} (settled : SettledIs D) (receipts : List ReceiptIs) (w : WorldView D) : Type 0 where
  pub given : (at : ℕ) (r : ReceiptIs) → slice_get receipts at ≡ Some r → IsGiven settled.drive.journal r
  pub none_out : (ticket : ℕ) (e : WorldSession) → session_at ticket w.sessions ≡ Some e → e.session.status ≡ Closed → IsOutstanding w e → ⊥
