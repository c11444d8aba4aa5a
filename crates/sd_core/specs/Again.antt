-- An event that may be given again.
use Rattle.sd_machine.specs.declared.event.Event.{Event}
use Rattle.sd_machine.specs.declared.event.Event.TheVariants as event
use Rattle.sd_core.specs.declared.tries.Again.{Again}
use Rattle.sd_core.specs.declared.tries.Again.TheVariants.{Append, Close}

-- the event
abbrev pub event_again : Again → Event
event_again (Append ticket rec) = event.Append ticket rec
event_again (Close ticket) = event.Close ticket
