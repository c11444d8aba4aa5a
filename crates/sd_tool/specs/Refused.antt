-- Why a line about a session is refused if the world's own reply doesn't say it.
use Rattle.std.specs.Prelude.{Option, Some, None}
use Rattle.sd_base.specs.declared.refusal.Refusal.{Refusal}
use Rattle.sd_base.specs.declared.refusal.Refusal.TheVariants as refusal
use Rattle.sd_session.specs.Session.{status_refusal}
use Rattle.sd_session.specs.declared.status.Status.{Status}
use Rattle.sd_session.specs.declared.status.Status.TheVariants as status

-- why a session can't be read back, if its status says so
abbrev pub unread_refusal : Option Status → Option Refusal
unread_refusal None = Some refusal.SessionNotOpen
unread_refusal (Some status.Active) = Some refusal.NotYet
unread_refusal (Some status.Ended) = Some refusal.NotYet
unread_refusal (Some status.Failed) = Some refusal.SessionFailed
unread_refusal (Some other) = None

-- Why a record is refused for whose bytes there is no memory: the session's status comes first.
abbrev pub unheld_refusal : Option Status → Refusal
unheld_refusal None = refusal.SessionNotOpen
unheld_refusal (Some status.Active) = refusal.Memory
unheld_refusal (Some other) = status_refusal other
