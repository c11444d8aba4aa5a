-- A talk: what each packet of a client comes to, and how a talk ends.
use Rattle.std.specs.Prelude.{◌≡◌, ◌⊎◌, ℕ, ◌==◌, nat_lt, ◌&&◌, not, ℤ, negsuc, Bool, true, false, List, [], ◌∷◌, ◌++◌, map, Option, Some, Result, Ok, Err}
use Rattle.std.specs.List.{flat_map, list_all}
use Rattle.sd_base.specs.Record.{Record}
use Rattle.sd_base.specs.declared.refusal.Refusal.{Refusal}
use Rattle.sd_base.specs.declared.refusal.Refusal.TheVariants.{BadCommand, BadFileIndex, BadName, BadSpan, Memory, SessionNotOpen}
use Rattle.sd_base.specs.declared.number.SessionKey.{SessionKey}
use Rattle.sd_text.specs.Lines.{line}
use Rattle.sd_bnet.specs.declared.packet.Packet.{Packet}
use Rattle.sd_bnet.specs.declared.packet.Packet.TheVariants.{Bytes, Signal}
use Rattle.sd_span.specs.JobMedia.{IsJobMedia, SpanFits, session_text, span_text}
use Rattle.sd_span.specs.declared.span.Span.{Span}
use Rattle.sd_machine.specs.declared.event.Event.TheVariants as events
use Rattle.sd_machine.specs.declared.reply.Reply.{Reply}
use Rattle.sd_machine.specs.declared.reply.Reply.TheVariants as replies
use Rattle.sd_readback.specs.declared.read.ReadEnd.{ReadEnd}
use Rattle.sd_append.specs.declared.command.Command.{Command as Asked}
use Rattle.sd_append.specs.declared.command.Command.TheVariants as commands
use Rattle.sd_append.specs.declared.line.ReplyLine.{ReplyLine}
use Rattle.sd_append.specs.declared.line.ReplyLine.TheVariants as lines
use Rattle.sd_append.specs.declared.signal.Meaning.{Meaning}
use Rattle.sd_append.specs.declared.signal.Meaning.TheVariants.{EndOfData, Terminate, Poll, Other}
use Rattle.sd_append.specs.declared.stage.Own.{Own}
use Rattle.sd_append.specs.declared.stage.TalkStage.{TalkStage}
use Rattle.sd_append.specs.declared.stage.TalkStage.TheVariants.{Command, Header, Records, Refused, Dropped, Spans, BadSpans, Over}
use Rattle.sd_append.specs.Command.{AreNames, SpellsCommand, HasShape}
use Rattle.sd_append.specs.Header.{HasHeaderForm, HeaderParts}
use Rattle.sd_append.specs.ReplyLine.{line_text}
use Rattle.sd_append.specs.Port.{Exchange, Stepped, WasRead, Said}
use Rattle.sd_append.specs.TalkStage.{meaning_of, own_of, refusal_in, by_reply, by_open, is_running, is_taken, own_with}
use Rattle.sd_append.specs.Text.{trimmed}

-- What goes out.

-- the end of data
abbrev pub end_of_data : Packet
end_of_data = Signal (negsuc 0)

-- the answer to a poll or a heartbeat
abbrev pub heartbeat_response : Packet
heartbeat_response = Signal (negsuc 6)

-- the packet of a line, which a newline ends
abbrev pub said : ReplyLine → Packet
said text = Bytes (line (line_text text))

-- the packet of a refusal
abbrev pub refused : Refusal → Packet
refused refusal = said (lines.Refused refusal)

-- the packet of a span's line
abbrev pub span_said : Span → Packet
span_said span = Bytes (line (span_text span))

-- the reply to an open
abbrev pub open_said : Reply → List Packet
open_said (replies.Opened ticket drive) = said (lines.Opened ticket) ∷ []
open_said reply = refused (refusal_in reply) ∷ []

-- the reply to an end
abbrev pub end_said : Reply → List Packet
end_said replies.Ended = said lines.Ended ∷ []
end_said reply = refused (refusal_in reply) ∷ []

-- the reply to a close: if it is closed, the session and its spans too
abbrev pub close_said : Reply → List Packet
close_said (replies.Closed key spans) = said lines.Closed ∷ said (lines.Session key) ∷ (map span_said spans ++ end_of_data ∷ [])
close_said reply = refused (refusal_in reply) ∷ []

-- a console's answer: a packet a line and the end of data, or a refusal alone
abbrev pub console_said : Result (List (List ℕ)) Refusal → List Packet
console_said (Ok texts) = map Bytes texts ++ end_of_data ∷ []
console_said (Err refusal) = refused refusal ∷ []

-- the packets of a record that is read back
abbrev pub record_said : Record → List Packet
record_said r =
    Bytes (line_text (lines.Header (record { index = r.index; stream = r.stream }))) ∷ Bytes r.bytes ∷ end_of_data ∷ []

-- the end of a read
abbrev pub read_end_said : Result ReadEnd Refusal → Packet
read_end_said (Ok end) = said (lines.Read end)
read_end_said (Err refusal) = refused refusal

-- the port is asked nothing, this goes out, and the talk is then at this stage
abbrev pub Only : List Packet → TalkStage → List Exchange → List Packet → TalkStage → Type 0
Only says next asked out new = (asked ≡ []) × (out ≡ says) × (new ≡ next)

-- The session is given up, if it goes on: with these exchanges, and this is then known of it.
abbrev pub GivesUpIf : Bool → Own → List Exchange → Own → Type 0
GivesUpIf true own asked new =
    (reply : Reply) × (asked ≡ Stepped (events.Cancel own.ticket) reply ∷ []) × (new ≡ by_reply own reply)
GivesUpIf false own asked new = (asked ≡ []) × (new ≡ own)

-- The session is given up, if by the replies so far it goes on: with these exchanges, and this is then known of it.
abbrev pub GivesUp : Own → List Exchange → Own → Type 0
GivesUp own asked new = GivesUpIf own.runs own asked new

-- Commands.

-- an open: refused while the talk's session goes on, or given with this moment
abbrev pub ObeysOpen : ℤ → Bool → Option Own → ℕ → List ℕ → List ℕ → List Exchange → List Packet → TalkStage → Type 0
ObeysOpen moment true own job pool media asked out new = Only (refused BadCommand ∷ []) (Command own) asked out new
ObeysOpen moment false own job pool media asked out new =
    (reply : Reply) × (asked ≡ Stepped (events.Open job pool media moment) reply ∷ [])
    × (out ≡ open_said reply) × (new ≡ Command (by_open own reply))

-- a data phase, of the session that the ticket names
abbrev pub ObeysData : Result Own (Option Own) → List Exchange → List Packet → TalkStage → Type 0
ObeysData (Err own) asked out new = Only (refused SessionNotOpen ∷ []) (Command own) asked out new
ObeysData (Ok it) asked out new = Only (said lines.Data ∷ []) (Header it) asked out new

-- the end of the session that the ticket names, given with this moment
abbrev pub ObeysEnd : ℤ → Result Own (Option Own) → List Exchange → List Packet → TalkStage → Type 0
ObeysEnd moment (Err own) asked out new = Only (refused SessionNotOpen ∷ []) (Command own) asked out new
ObeysEnd moment (Ok it) asked out new =
    (reply : Reply) × (asked ≡ Stepped (events.End it.ticket moment) reply ∷ [])
    × (out ≡ end_said reply) × (new ≡ Command (Some (by_reply it reply)))

-- the close of the session that the ticket names
abbrev pub ObeysClose : Result Own (Option Own) → List Exchange → List Packet → TalkStage → Type 0
ObeysClose (Err own) asked out new = Only (refused SessionNotOpen ∷ []) (Command own) asked out new
ObeysClose (Ok it) asked out new =
    (reply : Reply) × (asked ≡ Stepped (events.Close it.ticket) reply ∷ [])
    × (out ≡ close_said reply) × (new ≡ Command (Some (by_reply it reply)))

-- a console's line, said at this moment
abbrev pub ObeysConsole : ℤ → Option Own → List ℕ → List Exchange → List Packet → TalkStage → Type 0
ObeysConsole moment own text asked out new =
    (answer : Result (List (List ℕ)) Refusal) × (asked ≡ Said moment text answer ∷ [])
    × (out ≡ console_said answer) × (new ≡ Command own)

-- what a command comes to at this moment: an open, an end and a console's line bear it
abbrev pub Obeys : ℤ → Option Own → Asked → List Exchange → List Packet → TalkStage → Type 0
Obeys moment own (commands.Open job pool media) asked out new = ObeysOpen moment (is_running own) own job pool media asked out new
Obeys moment own (commands.Data ticket) asked out new = ObeysData (own_with own ticket) asked out new
Obeys moment own (commands.End ticket) asked out new = ObeysEnd moment (own_with own ticket) asked out new
Obeys moment own (commands.Close ticket) asked out new = ObeysClose (own_with own ticket) asked out new
Obeys moment own (commands.Read key) asked out new = Only [] (Spans own (line (session_text key))) asked out new
Obeys moment own (commands.Console text) asked out new = ObeysConsole moment own text asked out new

-- what a packet comes to at this moment where a command is due: a command; or one but for its names; or none
abbrev pub TakesCommand : ℤ → Option Own → List ℕ → List Exchange → List Packet → TalkStage → Type 0
TakesCommand moment own bytes asked out new =
    ((command : Asked) × SpellsCommand bytes command × Obeys moment own command asked out new)
    ⊎ ((command : Asked) × HasShape bytes command × (AreNames command → ⊥) × Only (refused BadName ∷ []) (Command own) asked out new)
    ⊎ (((command : Asked) → HasShape bytes command → ⊥) × Only (refused BadCommand ∷ []) (Command own) asked out new)

-- Data phases.

-- The rest of the phase is dropped for this refusal, and the session is given up.
pub record Drops (own : Own) (refusal : Refusal) (asked : List Exchange) (out : List Packet) (new : TalkStage) : Type 0 where
  pub left : Own
  pub gives_up : GivesUp own asked left
  pub out_is : out ≡ []
  pub new_is : new ≡ Dropped left refusal

-- what a packet comes to where a header is due
abbrev pub TakesHeader : Own → List ℕ → List Exchange → List Packet → TalkStage → Type 0
TakesHeader own bytes asked out new =
    ((header : HeaderParts) × HasHeaderForm bytes header × Only [] (Records own header) asked out new)
    ⊎ (((header : HeaderParts) → HasHeaderForm bytes header → ⊥) × Drops own BadFileIndex asked out new)

-- the record of a header and a packet's bytes
abbrev pub record_of : HeaderParts → List ℕ → Record
record_of header bytes = record { index = header.index; stream = header.stream; bytes = bytes }

-- what a record comes to, taken or not
abbrev pub AppendsIf : Bool → Own → HeaderParts → Reply → List Exchange → List Packet → TalkStage → Type 0
AppendsIf true own header reply asked out new = Only [] (Records own header) asked out new
AppendsIf false own header reply asked out new = Drops (by_reply own reply) (refusal_in reply) asked out new

-- what a packet comes to where a record is due
pub record TakesRecordPacket (own : Own) (header : HeaderParts) (bytes : List ℕ) (asked : List Exchange) (out : List Packet) (new : TalkStage) : Type 0 where
  pub reply : Reply
  pub more : List Exchange
  pub asked_is : asked ≡ Stepped (events.Append own.ticket (record_of header bytes)) reply ∷ more
  pub behind_it : AppendsIf (is_taken reply) own header reply more out new

-- Reads.

-- a text that is one line at most, in ASCII
abbrev pub is_one_line : List ℕ → Bool
is_one_line text = list_all (λ c. nat_lt c 128 && not (c == 10)) text

-- The session is read back by the spans that the JobMedia text says; or that says none; or there is no memory for them.
abbrev pub ReadsBack : Option Own → List ℕ → List Exchange → List Packet → TalkStage → Type 0
ReadsBack own text asked out new =
    ((key : SessionKey) × (spans : List Span) × (records : List Record) × (answer : Result ReadEnd Refusal)
    × IsJobMedia text key spans × (asked ≡ WasRead key spans records answer ∷ [])
    × (out ≡ flat_map record_said records ++ end_of_data ∷ read_end_said answer ∷ []) × (new ≡ Command own))
    ⊎ (((key : SessionKey) (spans : List Span) → IsJobMedia text key spans → ⊥)
    × Only (end_of_data ∷ refused BadSpan ∷ []) (Command own) asked out new)
    ⊎ Only (end_of_data ∷ refused Memory ∷ []) (Command own) asked out new

-- the line says a span
abbrev pub IsSpanLine : List ℕ → Type 0
IsSpanLine text = (span : Span) × SpanFits span × (text ≡ span_text span)

-- what a span's packet comes to: its line is added to the text; or it says no span, and from then on nothing of the spans
-- is kept; or there is no memory for it
abbrev pub TakesSpan : Bool → Option Own → List ℕ → List ℕ → List Exchange → List Packet → TalkStage → Type 0
TakesSpan true own text more asked out new =
    (IsSpanLine more × Only [] (Spans own (text ++ line more)) asked out new)
    ⊎ ((IsSpanLine more → ⊥) × Only [] (BadSpans own BadSpan) asked out new)
    ⊎ Only [] (BadSpans own Memory) asked out new
TakesSpan false own text more asked out new = Only [] (BadSpans own BadSpan) asked out new

-- Packets.

-- what a payload comes to at this moment
abbrev pub TakesBytes : ℤ → TalkStage → List ℕ → List Exchange → List Packet → TalkStage → Type 0
TakesBytes moment (Command own) bytes asked out new = TakesCommand moment own bytes asked out new
TakesBytes moment (Header own) bytes asked out new = TakesHeader own bytes asked out new
TakesBytes moment (Records own header) bytes asked out new = TakesRecordPacket own header bytes asked out new
TakesBytes moment (Refused own refusal) bytes asked out new = Only [] (Dropped own refusal) asked out new
TakesBytes moment (Dropped own refusal) bytes asked out new = Only [] (Dropped own refusal) asked out new
TakesBytes moment (Spans own text) bytes asked out new = TakesSpan (is_one_line (trimmed bytes)) own text (trimmed bytes) asked out new
TakesBytes moment (BadSpans own refusal) bytes asked out new = Only [] (BadSpans own refusal) asked out new
TakesBytes moment (Over own) bytes asked out new = Only [] (Over own) asked out new

-- what the end of data comes to
abbrev pub TakesEnd : TalkStage → List Exchange → List Packet → TalkStage → Type 0
TakesEnd (Command own) asked out new = Only [] (Command own) asked out new
TakesEnd (Header own) asked out new = Only (said lines.Appended ∷ []) (Command (Some own)) asked out new
TakesEnd (Records own header) asked out new = Only [] (Header own) asked out new
TakesEnd (Refused own refusal) asked out new = Only (refused refusal ∷ []) (Command (Some own)) asked out new
TakesEnd (Dropped own refusal) asked out new = Only [] (Refused own refusal) asked out new
TakesEnd (Spans own text) asked out new = ReadsBack own text asked out new
TakesEnd (BadSpans own refusal) asked out new = Only (end_of_data ∷ refused refusal ∷ []) (Command own) asked out new
TakesEnd (Over own) asked out new = Only [] (Over own) asked out new

-- what goes out for a poll or a heartbeat: an answer if a command is due
abbrev pub poll_said : TalkStage → List Packet
poll_said (Command own) = heartbeat_response ∷ []
poll_said stage = []

-- what a signal comes to
abbrev pub TakesSignal : Meaning → TalkStage → List Exchange → List Packet → TalkStage → Type 0
TakesSignal EndOfData old asked out new = TakesEnd old asked out new
TakesSignal Terminate old asked out new = Only [] (Over (own_of old)) asked out new
TakesSignal Poll old asked out new = Only (poll_said old) old asked out new
TakesSignal Other old asked out new = Only [] old asked out new

-- what a packet comes to at this moment, in microseconds
abbrev pub Takes : ℤ → TalkStage → Packet → List Exchange → List Packet → TalkStage → Type 0
Takes moment old (Bytes bytes) asked out new = TakesBytes moment old bytes asked out new
Takes moment old (Signal number) asked out new = TakesSignal (meaning_of number) old asked out new
