-- Runs of the daemon, one after another, with a stop after each.
use Rattle.std.specs.Prelude.{◌≡◌, ℕ, ◌+◌, All, Some, List, [], ◌∷◌, slice_get}
use Rattle.sd_driver.specs.Meaning.{IsHonest}
use Rattle.sd_driver.specs.Shelf.{Shelf, AfterStop}
use Rattle.sd_drive.specs.View.{DriveIs}
use Rattle.sd_world.specs.World.{WorldView, BayView, IsOnline}
use Rattle.sd_span.specs.declared.span.Span.{Span}
use Rattle.sd_world.specs.Deeds.{Deed, LeadsTo, NonePurges}
use Rattle.sd_theorem.specs.Start.{Meanings, Start, IsMadeOf}

-- A run of the daemon on a shelf, as it was found, has come to this world: an honest device with that shelf was given
-- to a new world, which did these deeds; the drive with the device is still online.
pub record RunsOn {D Q S : Type 0} (Z : Type 0) (is : Meanings D Q S) (found : Shelf) (w : WorldView D) : Type 0 where
  pub start : Start D Q S Z
  pub first : WorldView D
  pub begins : IsMadeOf is start first
  pub at : ℕ
  pub device : D
  pub given : slice_get start.devices at ≡ Some device
  pub shelf_is : (is.device device).shelf ≡ found
  pub honest : IsHonest (is.device device)
  pub deeds : List Deed
  pub leads : LeadsTo is.device first deeds w
  pub bay : BayView D
  pub d : DriveIs D
  pub online : IsOnline w (at + 1) at bay d

-- no deed purged the volume of one of the spans
abbrev pub NonePurgesOf : List Span → List Deed → Type 0
NonePurgesOf spans deeds = All (λ (s : Span). NonePurges deeds s.volume) spans

-- the run, which purged no volume of these spans, stopped at some time, also inside a call, and left that
pub record RunStops {D Q S : Type 0} (Z : Type 0) (is : Meanings D Q S) (spans : List Span) (found left : Shelf) : Type 0 where
  pub w : WorldView D
  pub runs : RunsOn Z is found w
  pub unpurged : NonePurgesOf spans runs.deeds
  pub stop : AfterStop found.moment (is.device runs.d.device).shelf left

-- run after run stopped, and these are the shelves that they left
abbrev pub RunsStop : {D Q S : Type 0} → (Z : Type 0) → Meanings D Q S → List Span → Shelf → List Shelf → Shelf → Type 0
RunsStop Z is spans found [] left = left ≡ found
RunsStop Z is spans found (next ∷ others) left = RunStops Z is spans found next × RunsStop Z is spans next others left
