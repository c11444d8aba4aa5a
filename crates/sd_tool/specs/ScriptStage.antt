-- The world of a script, and what is known of its drives.
use Rattle.std.specs.Prelude.{◌≡◌, Bool, true, false, None, replicate}
use Rattle.sd_driver.specs.Meaning.{Meaning}
use Rattle.sd_machine.specs.declared.event.Event.{Event}
use Rattle.sd_machine.specs.declared.reply.Reply.{Reply}
use Rattle.sd_machine.specs.declared.reply.Reply.TheVariants.{Retired}
use Rattle.sd_world.specs.World.{WorldView}
use Rattle.sd_world.specs.Steps.{IsStep}
use Rattle.sd_core.specs.Rounds.{online_flags}
use Rattle.sd_tool.specs.Settings.{ValuesView, drive_count, misfit_of}

-- a world, the settings that it was made of, and whether a drive of it was retired
pub record StageView (D : Type 0) : Type 0 where
  pub world : WorldView D
  pub values : ValuesView
  pub retired : Bool

-- The settings go together; and if no drive was retired, theirs are there, and online.
pub record IsStage {D : Type 0} (s : StageView D) : Type 0 where
  pub fits : misfit_of s.values ≡ None
  pub online : s.retired ≡ false → online_flags s.world ≡ replicate (drive_count s.values) true

-- whether a drive was retired, after this reply
abbrev pub retired_after : Reply → Bool → Bool
retired_after Retired before = true
retired_after reply before = before

-- the world answers the event with this reply; the settings stay, and that a drive is retired is kept
abbrev pub StageMoves : {D : Type 0} → (D → Meaning) → Event → Reply → StageView D → StageView D → Type 0
StageMoves meaning event reply old new =
    IsStep meaning old.world event reply new.world
    × (new.values ≡ old.values) × (new.retired ≡ retired_after reply old.retired)

-- beside the world all stays
abbrev pub KeepsStage : {D : Type 0} → StageView D → StageView D → Type 0
KeepsStage old new = (new.values ≡ old.values) × (new.retired ≡ old.retired)
