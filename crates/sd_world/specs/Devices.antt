-- What becomes of the devices of a world's drives.
use Rattle.std.specs.Prelude.{◌≡◌, ◌≤◌, ℕ, Bool, IsTrue, List}
use Rattle.sd_driver.specs.Meaning.{Meaning, IsHonest}
use Rattle.sd_machine.specs.declared.event.Event.{Event}
use Rattle.sd_machine.specs.declared.reply.Reply.{Reply}
use Rattle.sd_world.specs.Lasting.{BlocksStillLast}
use Rattle.sd_world.specs.World.{WorldView}
use Rattle.sd_world.specs.Kept.{PurgesName}
use Rattle.sd_world.specs.Moves.{Moves}
use Rattle.sd_world.specs.Grows.{EachDrive}

-- The device is as honest as it was, and its moment doesn't fall. While it is honest, whole blocks that lasted still last, on
-- each volume of a name that keeps its blocks.
pub record GoesOn (keeps : List ℕ → Type 0) (old new : Meaning) : Type 0 where
  pub honest : new.honest ≡ old.honest
  pub moment : old.shelf.moment ≤ new.shelf.moment
  pub blocks : IsHonest old → BlocksStillLast keeps old.shelf new.shelf

-- each drive that is online was online, in the same bay, and its device goes on
abbrev pub DevicesGoOn : {D : Type 0} → (D → Meaning) → (List ℕ → Type 0) → WorldView D → WorldView D → Type 0
DevicesGoOn meaning keeps old new = EachDrive (λ d d'. GoesOn keeps (meaning d.device) (meaning d'.device)) old new

-- Laws.

-- whatever an event is answered, the devices go on, and the volumes keep their blocks, but for one that it purged
abbrev pub MovesGoOn : Type 0 → Type 0
MovesGoOn D = (meaning : D → Meaning) (old new : WorldView D) (event : Event) (reply : Reply)
    → Moves meaning old event reply new → DevicesGoOn meaning (λ name. PurgesName event reply name → ⊥) old new

-- what goes on by one event and by the next goes on by both, and so do the blocks that both keep
abbrev pub GoingOnJoins : Type 0 → Type 0
GoingOnJoins D = (meaning : D → Meaning) (first then : List ℕ → Bool) (old middle new : WorldView D)
    → DevicesGoOn meaning (λ name. IsTrue (first name)) old middle → DevicesGoOn meaning (λ name. IsTrue (then name)) middle new
    → DevicesGoOn meaning (λ name. IsTrue (first name) × IsTrue (then name)) old new
