-- How the journals of a world's drives grow.
use Rattle.std.specs.Prelude.{◌≡◌, ℕ, List, ◌++◌}
use Rattle.sd_driver.specs.Meaning.{Meaning}
use Rattle.sd_drive.specs.View.{DriveIs}
use Rattle.sd_journal.specs.Journal.{Entry, placements}
use Rattle.sd_machine.specs.declared.event.Event.{Event}
use Rattle.sd_machine.specs.declared.reply.Reply.{Reply}
use Rattle.sd_span.specs.declared.placement.Placement.{Placement}
use Rattle.sd_world.specs.World.{WorldView, BayView, IsOnline}
use Rattle.sd_world.specs.Moves.{Moves}

-- each drive that is online was online, in the same bay, and this holds of what it was and what it is
abbrev pub EachDrive : {D : Type 0} → (DriveIs D → DriveIs D → Type 0) → WorldView D → WorldView D → Type 0
EachDrive {D} holds old new = (drive at : ℕ) (bay' : BayView D) (d' : DriveIs D) → IsOnline new drive at bay' d'
    → (bay : BayView D) × (d : DriveIs D) × IsOnline old drive at bay d × holds d d'

-- the journal has the placements that it had, and then perhaps others
abbrev pub Grows : List Entry → List Entry → Type 0
Grows old new = (more : List Placement) × (placements new ≡ placements old ++ more)

-- each drive that is online was online, in the same bay, and its journal grew
abbrev pub AllGrow : {D : Type 0} → WorldView D → WorldView D → Type 0
AllGrow old new = EachDrive (λ d d'. Grows d.journal d'.journal) old new

-- Laws.

-- A move takes no placement out of a journal, nor changes one: it may put more after them; and no drive comes online.
abbrev pub JournalsGrow : Type 0 → Type 0
JournalsGrow D = (meaning : D → Meaning) (old new : WorldView D) (event : Event) (reply : Reply)
    → Moves meaning old event reply new → AllGrow old new

-- So do moves one after another: the placements that gave spans at one moment are at every later one the first of the
-- journal.
abbrev pub GrowthsJoin : Type 0 → Type 0
GrowthsJoin D = (old middle new : WorldView D) → AllGrow old middle → AllGrow middle new → AllGrow old new
