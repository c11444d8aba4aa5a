-- That a settled line is a state of the core, with the lists that its parts were told.
use Rattle.std.specs.Prelude.{ℕ, List}
use Rattle.atomic_table.specs.Seated.{TableId}
use Rattle.sd_driver.specs.Meaning.{Meaning}
use Rattle.sd_drive.specs.Shelf.{Kept}
use Rattle.sd_line.specs.Ends.{ToldSession}
use Rattle.sd_hub.specs.Settles.{CheckedIs, SettledIs, Settles}
use Rattle.sd_hub.specs.Worlds.{BecomesWorld, machine_of}
use Rattle.sd_world.specs.Matches.{Matches}
use Rattle.sd_world.specs.Steps.{IsSound}
use Rattle.sd_world.specs.World.{WorldView}

-- The world of a line that is settled keeps what every world keeps, and matches the machine of its sessions, whose lists are those
-- that the parts were told.
abbrev pub SettledWorld : Type 0 → Type 0
SettledWorld D = (meaning : D → Meaning) (table : ℕ → TableId) (time : ℕ → ℕ) (c : CheckedIs D) (settled : SettledIs D) (told : List ToldSession) (w : WorldView D)
    → Settles meaning table time c settled
    → Kept (meaning settled.drive.device) settled.drive.volumes settled.drive.loaded settled.drive.journal
    → BecomesWorld settled told w
    → IsSound meaning w × Matches meaning w (machine_of settled told)
