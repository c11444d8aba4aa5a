-- What holds of events that are given again, and of all that a port did.
use Rattle.std.specs.Prelude.{ℕ, List}
use Rattle.sd_driver.specs.Meaning.{Meaning}
use Rattle.sd_machine.specs.declared.event.Event.{Event}
use Rattle.sd_machine.specs.declared.event.Event.TheVariants.{Cancel}
use Rattle.sd_machine.specs.declared.reply.Reply.{Reply}
use Rattle.sd_world.specs.World.{HasTicket, WorldSession, WorldView}
use Rattle.sd_world.specs.Deeds.{LeadsTo, answered}
use Rattle.sd_session.specs.Session.{IsRunning}
use Rattle.sd_port.specs.Port.{PortDeed, PortLeadsTo, world_deeds_in}
use Rattle.sd_core.specs.Tries.{Answers}

-- However often an event is given, the world's deeds for it are that all its events are answered so: those of rounds among
-- them.
abbrev pub AnswersLead : Type 0 → Type 0
AnswersLead D = (meaning : D → Meaning) (rounds : ℕ) (old new : WorldView D) (event : Event) (reply : Reply) (events : List Event) (replies : List Reply)
    → Answers meaning rounds old event reply events replies new
    → LeadsTo meaning old (answered events replies) new

-- However often a cancel is given, its session doesn't go on in the world after it.
abbrev pub GivenUp : Type 0 → Type 0
GivenUp D = (meaning : D → Meaning) (rounds : ℕ) (old new : WorldView D) (ticket : ℕ) (reply : Reply) (events : List Event) (replies : List Reply)
    → Answers meaning rounds old (Cancel ticket) reply events replies new
    → (e : WorldSession) → HasTicket new ticket e → IsRunning e.session.status → ⊥

-- Whatever a port did, its world's deeds lead from the one world to the other: the events of rounds and of a console's
-- lines among them, and each session that is read back.
abbrev pub PortLeads : Type 0 → Type 0
PortLeads D = (meaning : D → Meaning) (rounds : ℕ) (old new : WorldView D) (deeds : List PortDeed)
    → PortLeadsTo meaning rounds old deeds new
    → LeadsTo meaning old (world_deeds_in deeds) new
