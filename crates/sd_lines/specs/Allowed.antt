-- That a talk's session is answered as a step of the list machine may be.
use Rattle.std.specs.Prelude.{ℕ, ℤ}
use Rattle.sd_base.specs.Record.{Record}
use Rattle.sd_line.specs.Parts.{PartIs, KeepsPart}
use Rattle.sd_lines.specs.Held.{Appends, Cancels, Ends, Shuts}
use Rattle.sd_machine.specs.Machine.{Machine, MachineSession, changed}
use Rattle.sd_machine.specs.Step.{HasSession, MayRefuse, Turns}
use Rattle.sd_machine.specs.declared.event.Event.{Event}
use Rattle.sd_machine.specs.declared.event.Event.TheVariants.{Append, End, Close, Cancel}
use Rattle.sd_machine.specs.declared.reply.Reply.{Reply}
use Rattle.sd_machine.specs.declared.reply.Reply.TheVariants.{Refused}

-- the session of a part, as a list machine has it
abbrev pub listed : PartIs → MachineSession
listed p = record { key = p.session.key; records = p.told; status = p.session.status }

-- The reply is one that the list machine may give, in which the session is as its part is; and what the machine does then is done to the
-- part. A refusal is one of the session as it is by then: bodies of it may have been sent on before, and it may have failed by that.
abbrev pub IsAllowed : ℕ → Event → Reply → PartIs → PartIs → Type 0
IsAllowed ticket event (Refused why) p q = (m : Machine) → HasSession m ticket (listed q) → MayRefuse m event why
IsAllowed ticket event reply p q = (m : Machine) → HasSession m ticket (listed p) → Turns m event reply (changed m (listed q))

-- So is each reply to an event of the session, by what the part keeps.
pub record RepliesAllowed : Type 0 where
  pub appends : (time : ℕ → ℕ) (ticket : ℕ) (r : Record) (reply : Reply) (p q : PartIs) → KeepsPart time p
      → Appends r reply p q → IsAllowed ticket (Append ticket r) reply p q
  pub ends : (ticket : ℕ) (moment : ℤ) (reply : Reply) (p q : PartIs)
      → Ends moment reply p q → IsAllowed ticket (End ticket moment) reply p q
  pub closes : (ticket : ℕ) (reply : Reply) (p q : PartIs)
      → Shuts reply p q → IsAllowed ticket (Close ticket) reply p q
  pub cancels : (ticket : ℕ) (reply : Reply) (p q : PartIs)
      → Cancels reply p q → IsAllowed ticket (Cancel ticket) reply p q
