-- Where a talk stands: the session that it opened last, and what is due next.
use Rattle.std.specs.Prelude.{ℕ, ◌==◌, ◌||◌, ℤ, pos, negsuc, Bool, true, false, if◌then◌else◌, Option, Some, None, Result, Ok, Err}
use Rattle.sd_base.specs.declared.refusal.Refusal.{Refusal}
use Rattle.sd_base.specs.declared.refusal.Refusal.TheVariants as refusals
use Rattle.sd_machine.specs.declared.reply.Reply.{Reply}
use Rattle.sd_machine.specs.declared.reply.Reply.TheVariants as replies
use Rattle.sd_append.specs.declared.stage.Own.{Own}
use Rattle.sd_append.specs.declared.stage.TalkStage.{TalkStage}
use Rattle.sd_append.specs.declared.stage.TalkStage.TheVariants.{Command, Header, Records, Refused, Dropped, Spans, BadSpans, Over}
use Rattle.sd_append.specs.declared.signal.Meaning.{Meaning}
use Rattle.sd_append.specs.declared.signal.Meaning.TheVariants.{EndOfData, Terminate, Poll, Other}

-- what a signal means: -1 is the end of data, -4 ends the talk, -5 and -6 ask for an answer
abbrev pub meaning_of : ℤ → Meaning
meaning_of (pos n) = Other
meaning_of (negsuc n) = if n == 0 then EndOfData else (if n == 3 then Terminate else (if n == 4 || n == 5 then Poll else Other))

-- the session that the talk opened last
abbrev pub own_of : TalkStage → Option Own
own_of (Command own) = own
own_of (Header own) = Some own
own_of (Records own header) = Some own
own_of (Refused own refusal) = Some own
own_of (Dropped own refusal) = Some own
own_of (Spans own text) = own
own_of (BadSpans own refusal) = own
own_of (Over own) = own

-- the refusal that a reply is; a reply that the event isn't there for counts as a bad command
abbrev pub refusal_in : Reply → Refusal
refusal_in (replies.Refused refusal) = refusal
refusal_in reply = refusals.BadCommand

-- whether a session goes on of which an event was refused so
abbrev pub goes_on : Refusal → Bool
goes_on refusals.SessionFailed = false
goes_on refusals.SessionCancelled = false
goes_on refusal = true

-- the session that goes on no more
abbrev pub stopped : Own → Own
stopped own = record { ticket = own.ticket; runs = false }

-- what is known of the session by one more reply to an event of its own
abbrev pub by_reply : Own → Reply → Own
by_reply own (replies.Closed key spans) = stopped own
by_reply own replies.Cancelled = stopped own
by_reply own (replies.Refused refusal) = if goes_on refusal then own else stopped own
by_reply own reply = own

-- the session that the talk opened last, by the reply to an open
abbrev pub by_open : Option Own → Reply → Option Own
by_open own (replies.Opened ticket drive) = Some (record { ticket = ticket; runs = true })
by_open own reply = own

-- whether the session goes on, by the replies so far
abbrev pub is_running : Option Own → Bool
is_running None = false
is_running (Some own) = own.runs

-- the session that the talk opened last, if this is its ticket; or whichever it opened last
abbrev pub own_with : Option Own → Option ℕ → Result Own (Option Own)
own_with None ticket = Err None
own_with (Some own) None = Err (Some own)
own_with (Some own) (Some ticket) = if own.ticket == ticket then Ok own else Err (Some own)

-- a record was taken
abbrev pub is_taken : Reply → Bool
is_taken (replies.Taken count) = true
is_taken reply = false
