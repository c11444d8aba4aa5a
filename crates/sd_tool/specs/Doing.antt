-- What a line of a script does, and what is printed of it.
use Rattle.std.specs.Prelude.{◌≡◌, ◌⊎◌, ℕ, ℤ, Option, Some, None, List, [], ◌∷◌, ◌++◌, replicate, Result}
use Rattle.sd_base.specs.Record.{IsRecord, Record}
use Rattle.sd_base.specs.declared.number.SessionKey.{SessionKey}
use Rattle.sd_base.specs.declared.refusal.Refusal.{Refusal}
use Rattle.sd_base.specs.declared.refusal.Refusal.TheVariants as refusal
use Rattle.sd_console.specs.Replies.{reply_line}
use Rattle.sd_world.specs.Deeds.{IsRead}
use Rattle.sd_core.specs.View.{status_at, view_of}
use Rattle.sd_driver.specs.Meaning.{Meaning}
use Rattle.sd_machine.specs.declared.event.Event.{Event}
use Rattle.sd_machine.specs.declared.event.Event.TheVariants as event
use Rattle.sd_machine.specs.declared.reply.Reply.{Reply}
use Rattle.sd_machine.specs.declared.reply.Reply.TheVariants as reply
use Rattle.sd_text.specs.Says.{SaidView, Says}
use Rattle.sd_readback.specs.declared.read.ReadEnd.{ReadEnd}
use Rattle.sd_core.specs.Rounds.{Drains, PlaysMoving}
use Rattle.sd_script.specs.declared.console.ConsoleCmd.{ConsoleCmd}
use Rattle.sd_script.specs.declared.console.ConsoleCmd.TheVariants as console
use Rattle.sd_script.specs.declared.line.ScriptLine.{ScriptLine}
use Rattle.sd_script.specs.declared.line.ScriptLine.TheVariants as line
use Rattle.sd_span.specs.declared.span.Span.{Span}
use Rattle.sd_tool.specs.ReplyLines.{closed_words, media_words, mounted_words, read_text, records_lines, refused_line, requests_text, status_text}
use Rattle.sd_text.specs.Lines.{line as as_line}
use Rattle.sd_tool.specs.Printed.{last_printed}
use Rattle.sd_tool.specs.Refused.{unheld_refusal, unread_refusal}
use Rattle.sd_tool.specs.Script.{KeepsRest, Prints, ScriptView}
use Rattle.sd_tool.specs.ScriptStage.{KeepsStage, StageMoves, StageView}
use Rattle.sd_tool.specs.Told.{drained_text}
use Rattle.sd_tool.specs.declared.printed.Closed.{Closed}

-- Events.

-- the event of a console's line whose reply is printed as it is, at this moment
abbrev pub console_event : ConsoleCmd → ℤ → Option Event
console_event (console.Label drive volume pool media) moment = Some (event.Label drive volume pool media moment)
console_event (console.Adopt drive volume) moment = Some (event.Adopt drive volume)
console_event (console.Unmount drive) moment = Some (event.Unmount drive)
console_event (console.Retire drive) moment = Some (event.Retire drive)
console_event (console.Purge drive volume) moment = Some (event.Purge drive volume)
console_event (console.Cancel ticket) moment = Some (event.Cancel ticket)
console_event command moment = None

-- the event of a line that no console has and whose reply is printed as it is
abbrev pub step_event : ScriptLine → ℤ → Option Event
step_event (line.Open job pool media) moment = Some (event.Open job pool media moment)
step_event (line.End ticket) moment = Some (event.End ticket moment)
step_event (line.Spool ticket) moment = Some (event.Spool ticket)
step_event (line.Despool ticket) moment = Some (event.Despool ticket)
step_event (line.Seek drive) moment = Some (event.Seek drive)
step_event (line.Take drive) moment = Some (event.Take drive)
step_event (line.Place drive) moment = Some (event.Place drive)
step_event (line.Sync drive) moment = Some (event.Sync drive)
step_event other moment = None

-- the line of a reply
abbrev pub plain_words : Reply → List ℕ
plain_words reply = as_line (reply_line reply)

-- the world answers the event, and these words of the reply are printed
abbrev pub Gives : {D : Type 0} → (D → Meaning) → Event → (Reply → List ℕ) → ScriptView D → ScriptView D → Type 0
Gives meaning e words old new =
    (reply : Reply) × StageMoves meaning e reply old.stage new.stage × KeepsRest old new
    × Says old.said new.said (words reply)

-- it answers the event, if there is one, with the reply's line; and else nothing happens
abbrev pub GivesSome : {D : Type 0} → (D → Meaning) → Option Event → ScriptView D → ScriptView D → Type 0
GivesSome meaning None old new = Prints old new []
GivesSome meaning (Some e) old new = Gives meaning e plain_words old new

-- A record is given to a session. If there was no memory for its bytes, it is refused for that, after what the
-- session's status says; and what is no record is none.
abbrev pub GivesRecord : {D : Type 0} → (D → Meaning) → ℕ → Record → ScriptView D → ScriptView D → Type 0
GivesRecord meaning ticket rec old new =
    Gives meaning (event.Append ticket rec) plain_words old new
    ⊎ Prints old new (refused_line (unheld_refusal (status_at ticket old.stage.world.sessions)))
    ⊎ ((IsRecord rec → ⊥) × Prints old new (refused_line refusal.BadCommand))

-- Closing.

-- the session that the reply says is closed, and its spans
abbrev pub closed_in : Reply → Option Closed
closed_in (reply.Closed key spans) = Some (record { key = key; spans = spans })
closed_in other = None

-- one more, if there is one
abbrev pub closed_with : Option Closed → List Closed → List Closed
closed_with None before = before
closed_with (Some closed) before = before ++ closed ∷ []

-- A session is closed, and its JobMedia text is printed and kept. If there is no memory to keep it, nothing is closed.
abbrev pub Closes : {D : Type 0} → (D → Meaning) → ℕ → ScriptView D → ScriptView D → Type 0
Closes meaning ticket old new =
    ((reply : Reply) × StageMoves meaning (event.Close ticket) reply old.stage new.stage
    × (new.moment ≡ old.moment) × (new.closed ≡ closed_with (closed_in reply) old.closed)
    × Says old.said new.said (closed_words reply))
    ⊎ Prints old new (refused_line refusal.Memory)

-- Reading back.

-- the session of a ticket in the run of this time
abbrev pub key_at : {D : Type 0} → StageView D → ℕ → SessionKey
key_at s ticket = record { time = s.world.limits.time; id = ticket }

-- The world reads the session back by these spans to this: the lines of its records were printed.
abbrev pub ReadsOut : {D : Type 0} → (D → Meaning) → SessionKey → List Span → StageView D → StageView D → Result ReadEnd Refusal → SaidView → SaidView → Type 0
ReadsOut meaning key spans old new result before after =
    (records : List Record) × IsRead meaning key spans [] records result old.world new.world × KeepsStage old new
    × Says before after (records_lines records)

-- it does, and how that ended is printed after them
abbrev pub ReadsOn : {D : Type 0} → (D → Meaning) → SessionKey → List Span → StageView D → StageView D → SaidView → SaidView → Type 0
ReadsOn meaning key spans old new before after =
    (result : Result ReadEnd Refusal) × (between : SaidView) × ReadsOut meaning key spans old new result before between
    × Says between after (as_line (read_text result))

-- the session is read back by these spans: the lines of its records are printed, and how that ended
abbrev pub ReadsBack : {D : Type 0} → (D → Meaning) → SessionKey → List Span → ScriptView D → ScriptView D → Type 0
ReadsBack meaning key spans old new = ReadsOn meaning key spans old.stage new.stage old.said new.said × KeepsRest old new

-- by the spans of this reply, if it has some; and else the reply is printed
abbrev pub ReadsReply : {D : Type 0} → (D → Meaning) → SessionKey → Reply → ScriptView D → ScriptView D → Type 0
ReadsReply meaning key (reply.Media spans) old new = ReadsBack meaning key spans old new
ReadsReply meaning key other old new = Prints old new (plain_words other)

-- it is refused if this says why; and else its spans are asked for, and by them it is read back
abbrev pub ReadsUnless : {D : Type 0} → (D → Meaning) → ℕ → Option Refusal → ScriptView D → ScriptView D → Type 0
ReadsUnless meaning ticket (Some why) old new = Prints old new (refused_line why)
ReadsUnless {D} meaning ticket None old new =
    (r : Reply) × (between : StageView D) × StageMoves meaning (event.Media ticket) r old.stage between
    × ReadsReply meaning (key_at old.stage ticket) r (record old { stage = between }) new

-- by what was printed of it last, if something was; and else it is refused
abbrev pub ReadsPrintedOn : {D : Type 0} → (D → Meaning) → SessionKey → Option Closed → StageView D → StageView D → SaidView → SaidView → Type 0
ReadsPrintedOn meaning key None old new before after = (new ≡ old) × Says before after (refused_line refusal.SessionNotOpen)
ReadsPrintedOn meaning key (Some closed) old new before after = ReadsOn meaning key closed.spans old new before after

-- the session is read back by what its close printed
abbrev pub ReadsPrinted : {D : Type 0} → (D → Meaning) → SessionKey → ScriptView D → ScriptView D → Type 0
ReadsPrinted meaning key old new =
    ReadsPrintedOn meaning key (last_printed key None old.closed) old.stage new.stage old.said new.said × KeepsRest old new

-- Draining.

-- rounds are played until nothing moves, and how many blocks were placed is printed; or memory ran out on the way
abbrev pub DrainsAll : {D : Type 0} → (D → Meaning) → ScriptView D → ScriptView D → Type 0
DrainsAll meaning old new =
    KeepsStage old.stage new.stage × KeepsRest old new
    × (((placed : ℕ) × Drains meaning old.stage.world placed new.stage.world
    × Says old.said new.said (as_line (drained_text placed)))
    ⊎ (PlaysMoving meaning old.stage.world new.stage.world × Says old.said new.said (refused_line refusal.Memory)))

-- Lines.

-- this is printed, or there was no memory for it
abbrev pub PrintsText : {D : Type 0} → ScriptView D → ScriptView D → List ℕ → Type 0
PrintsText old new text = Prints old new text ⊎ Prints old new (refused_line refusal.Memory)

-- what a console's line does
abbrev pub ConsoleDoes : {D : Type 0} → (D → Meaning) → ConsoleCmd → ScriptView D → ScriptView D → Type 0
ConsoleDoes meaning (console.Mount drive volume) old new = Gives meaning (event.Mount drive volume) mounted_words old new
ConsoleDoes meaning (console.JobMedia ticket) old new =
    Gives meaning (event.Media ticket) (media_words (key_at old.stage ticket)) old new
ConsoleDoes meaning console.Status old new = PrintsText old new (status_text (view_of old.stage.world))
ConsoleDoes meaning console.Requests old new = PrintsText old new (requests_text old.stage.world.desk.requests)
ConsoleDoes meaning command old new = GivesSome meaning (console_event command old.moment) old new

-- what a line does that reads nothing back and makes no new world; one that does is none of these
abbrev pub Acts : {D : Type 0} → (D → Meaning) → ScriptLine → ScriptView D → ScriptView D → Type 0
Acts meaning (line.Set setting) old new = Prints old new (refused_line refusal.BadCommand)
Acts meaning (line.At moment) old new =
    (new.stage ≡ old.stage) × (new.moment ≡ moment) × (new.closed ≡ old.closed) × Says old.said new.said []
Acts meaning (line.Console command) old new = ConsoleDoes meaning command old new
Acts meaning (line.Rec ticket index stream text) old new =
    GivesRecord meaning ticket (record { index = index; stream = stream; bytes = text }) old new
Acts meaning (line.Fill ticket index stream count) old new =
    GivesRecord meaning ticket (record { index = index; stream = stream; bytes = replicate count 120 }) old new
Acts meaning (line.Close ticket) old new = Closes meaning ticket old new
Acts meaning line.Drain old new = DrainsAll meaning old new
Acts meaning other old new = GivesSome meaning (step_event other old.moment) old new

-- What a line does that isn't `restart`.
abbrev pub LineDoes : {D : Type 0} → (D → Meaning) → ScriptLine → ScriptView D → ScriptView D → Type 0
LineDoes meaning (line.Read ticket) old new =
    ReadsUnless meaning ticket (unread_refusal (status_at ticket old.stage.world.sessions)) old new
LineDoes meaning (line.Again key) old new = ReadsPrinted meaning key old new
LineDoes meaning other old new = Acts meaning other old new
