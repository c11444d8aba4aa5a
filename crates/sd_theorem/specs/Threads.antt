-- The theorem of running threads: a settled line is a state of the core, from which on the session theorem holds.
use Rattle.std.specs.Prelude.{ℕ, List}
use Rattle.atomic_table.specs.Seated.{TableId}
use Rattle.sd_driver.specs.Meaning.{Meaning}
use Rattle.sd_drive.specs.Receipt.{ReceiptIs}
use Rattle.sd_line.specs.Side.{LineIs}
use Rattle.sd_line.specs.Ends.{EndIs}
use Rattle.sd_hub.specs.Worlds.{IsSettledFrom, machine_of}
use Rattle.sd_theorem.specs.Since.{IsOfListsSince}
use Rattle.sd_theorem.specs.State.{GivesReceipts, HasPieces, HasState}
use Rattle.sd_world.specs.Deeds.{Deed, LeadsTo}
use Rattle.sd_world.specs.Steps.{IsSound}
use Rattle.sd_world.specs.World.{WorldView}

-- The world of a settled line is as the session theorem would have it. Its state is that of the list machine of what its parts
-- were told; nothing was lost, doubled or put out of order between a lane's seat and the drive; each receipt is what the journal
-- gives; and whatever events it answers from there on, and whatever it reads back, in any order, its replies and its sessions are
-- those of the list machine, and what is closed, before or since, is read back.
pub record StandsSettled {D : Type 0} (meaning : D → Meaning) (table : ℕ → TableId) (time : ℕ → ℕ) (line : LineIs) (ends : List EndIs) (receipts : List ReceiptIs)
    (w : WorldView D) (from : IsSettledFrom meaning table time line ends receipts w) : Type 0 where
  pub state : HasState meaning time line ends from.settled from.told w
  pub pieces : HasPieces meaning time line ends from.settled w
  pub given : GivesReceipts from.settled receipts w
  pub goes_on : (deeds : List Deed) (now : WorldView D) → LeadsTo meaning w deeds now
      → IsOfListsSince meaning w (machine_of from.settled from.told) receipts deeds now

-- Law.

-- so it is of every line that was settled, whatever its threads did
abbrev pub ThreadTheorem : Type 0 → Type 0
ThreadTheorem D = (meaning : D → Meaning) (table : ℕ → TableId) (time : ℕ → ℕ) (line : LineIs) (ends : List EndIs) (receipts : List ReceiptIs) (w : WorldView D)
    (from : IsSettledFrom meaning table time line ends receipts w)
    → IsSound meaning w
    → StandsSettled meaning table time line ends receipts w from
