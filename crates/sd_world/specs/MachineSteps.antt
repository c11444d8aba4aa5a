-- A move of a world is a step of each list machine that it matches.
use Rattle.std.specs.Prelude.{◌≡◌, ◌↔◌, ℕ, ◌&&◌, not, if◌then◌else◌, Bool, true, false, List, [], ◌∷◌, ◌++◌}
use Rattle.sd_base.specs.declared.refusal.Refusal.TheVariants.{NotYet}
use Rattle.sd_driver.specs.Meaning.{Meaning}
use Rattle.sd_drive.specs.Shelf.{KeepsPieces}
use Rattle.sd_drive.specs.View.{DriveIs}
use Rattle.sd_machine.specs.Machine.{Machine, Strike, empty_machine}
use Rattle.sd_machine.specs.Step.{Step}
use Rattle.sd_machine.specs.declared.event.Event.{Event}
use Rattle.sd_machine.specs.declared.event.Event.TheVariants.{Close}
use Rattle.sd_machine.specs.declared.reply.Reply.{Reply}
use Rattle.sd_machine.specs.declared.reply.Reply.TheVariants.{Refused}
use Rattle.sd_session.specs.declared.status.Status.{Status}
use Rattle.sd_session.specs.declared.status.Status.TheVariants.{Ended, Failed, Purged}
use Rattle.sd_world.specs.World.{WorldView, WorldSession, BayView, IsOnline, HasTicket, with_drive}
use Rattle.sd_world.specs.Drives.{is_running, was_purged}
use Rattle.sd_world.specs.Moves.{Moves}
use Rattle.sd_world.specs.Rules.{IsWorld}
use Rattle.sd_world.specs.Matches.{Matches, IsOutstanding}

-- the session has failed
abbrev pub is_failed : Status → Bool
is_failed Failed = true
is_failed status = false

-- the session of this ticket fails
abbrev pub failure : ℕ → Strike
failure ticket = record { ticket = ticket; status = Failed }

-- the session of this ticket is purged
abbrev pub purging : ℕ → Strike
purging ticket = record { ticket = ticket; status = Purged }

-- how a session was struck that had the first status, and has the second: with Failed, with Purged, or not
abbrev pub strikes_of : ℕ → Status → Status → List Strike
strikes_of ticket old new =
    if is_running old && is_failed new then failure ticket ∷ []
    else if not (was_purged old) && was_purged new then purging ticket ∷ [] else []

-- How the sessions of the one list were struck that are those of the other now: who went on and has failed, with Failed; and who
-- is purged now, with Purged.
abbrev pub newly_struck : List WorldSession → List WorldSession → List Strike
newly_struck [] es' = []
newly_struck (e ∷ es) [] = []
newly_struck (e ∷ es) (e' ∷ es') = strikes_of e.session.key.id e.session.status e'.session.status ++ newly_struck es es'

-- from this machine the event and the reply lead, with just those sessions struck that are in the world, to one that the
-- new world matches
abbrev pub StepsTo : {D : Type 0} → (D → Meaning) → Machine → WorldView D → Event → Reply → WorldView D → Type 0
StepsTo meaning m old event reply new = (m' : Machine)
    × Step (newly_struck old.sessions new.sessions) m event reply m' × Matches meaning new m'

-- Laws.

-- a move is a step of each machine that the world matches
abbrev pub MovesAreSteps : Type 0 → Type 0
MovesAreSteps D = (meaning : D → Meaning) (old new : WorldView D) (event : Event) (reply : Reply) (m : Machine)
    → IsWorld old → Moves meaning old event reply new → Matches meaning old m → StepsTo meaning m old event reply new

-- The close of a session that is ended is answered 'not yet' exactly if something of it is outstanding.
abbrev pub NotYetIsOutstanding : Type 0 → Type 0
NotYetIsOutstanding D = (meaning : D → Meaning) (old new : WorldView D) (ticket : ℕ) (reply : Reply) (e : WorldSession)
    → IsWorld old → Moves meaning old (Close ticket) reply new → HasTicket old ticket e → e.session.status ≡ Ended
    → (reply ≡ Refused NotYet) ↔ IsOutstanding old e

-- a world without sessions matches the empty machine of its run
abbrev pub FreshMatches : Type 0 → Type 0
FreshMatches D = (meaning : D → Meaning) (w : WorldView D) → w.sessions ≡ [] → w.next ≡ 1
    → Matches meaning w (empty_machine w.limits.time)

-- a world matches what it did once a device was read, which keeps the pieces given to its drive
abbrev pub ReadingKeepsMatches : Type 0 → Type 0
ReadingKeepsMatches D = (meaning : D → Meaning) (old : WorldView D) (drive at : ℕ) (bay : BayView D) (d after : DriveIs D) (m : Machine)
    → IsOnline old drive at bay d → after ≡ record d { device = after.device }
    → KeepsPieces (meaning d.device) (meaning after.device) d.journal after.journal d.hand after.hand
    → Matches meaning old m → Matches meaning (with_drive at bay after old) m
