-- Whether a drive may have lost blocks, and which sessions lose one there: told from the reply, and from the lanes and the
-- journal of that drive alone.
use Rattle.std.specs.Prelude.{ℕ, Bool, true, false, ◌==◌, ◌&&◌, Option, Some, None, List}
use Rattle.std.specs.List.{list_any}
use Rattle.sd_base.specs.declared.refusal.Refusal.TheVariants.{DeviceFault}
use Rattle.sd_journal.specs.Journal.{Entry, fails}
use Rattle.sd_machine.specs.declared.reply.Reply.{Reply}
use Rattle.sd_machine.specs.declared.reply.Reply.TheVariants.{Refused}
use Rattle.sd_world.specs.Drives.{is_running}
use Rattle.sd_world.specs.World.{WorldSession, LaneView}

-- the event was refused with a fault of the device
abbrev pub is_device_fault : Reply → Bool
is_device_fault (Refused DeviceFault) = true
is_device_fault reply = false

-- the session has this ticket, if there is one
abbrev pub is_holder : Option ℕ → WorldSession → Bool
is_holder None e = false
is_holder (Some ticket) e = e.session.key.id == ticket

-- the session used one of these lanes last
abbrev pub holds_lane : List LaneView → WorldSession → Bool
holds_lane lanes e = list_any (λ l. is_holder l.holder e) lanes

-- the session goes on, and a block of it is lost
abbrev pub has_lost : List Entry → WorldSession → Bool
has_lost journal e = is_running e.session.status && fails e.session.key journal
