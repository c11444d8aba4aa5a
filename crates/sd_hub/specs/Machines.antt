-- The list machine of a line that was settled.
use Rattle.std.specs.Prelude.{ℕ, List}
use Rattle.atomic_table.specs.Seated.{TableId}
use Rattle.sd_drive.specs.Receipt.{ReceiptIs}
use Rattle.sd_driver.specs.Meaning.{Meaning}
use Rattle.sd_line.specs.Side.{LineIs}
use Rattle.sd_line.specs.Ends.{EndIs}
use Rattle.sd_hub.specs.Worlds.{IsSettledFrom, machine_of}
use Rattle.sd_world.specs.Matches.{Matches}
use Rattle.sd_world.specs.World.{WorldView}

-- the world of a settled line matches the list machine of its sessions, whose lists are those that the parts were told
abbrev pub MatchesTold : {D : Type 0} → (D → Meaning) → (ℕ → TableId) → (ℕ → ℕ) → LineIs → List EndIs → List ReceiptIs → WorldView D → Type 0
MatchesTold meaning table time line ends receipts w =
    (from : IsSettledFrom meaning table time line ends receipts w) × Matches meaning w (machine_of from.settled from.told)
