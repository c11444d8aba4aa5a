-- A talk as turns: what came in one, what the port was asked for it, and what went out for it.
use Rattle.std.specs.Prelude.{◌≡◌, ◌≢◌, ◌⊎◌, ℕ, ℤ, pos, negsuc, ◌==◌, ◌||◌, Bool, true, false, if◌then◌else◌, List, [], ◌∷◌, ◌++◌, map, Option, Some, Result}
use Rattle.std.specs.List.{flat_map}
use Rattle.sd_base.specs.Record.{Record}
use Rattle.sd_base.specs.declared.number.SessionKey.{SessionKey}
use Rattle.sd_base.specs.declared.refusal.Refusal.{Refusal}
use Rattle.sd_base.specs.declared.refusal.Refusal.TheVariants.{BadCommand, BadName, SessionNotOpen}
use Rattle.sd_bnet.specs.declared.packet.Packet.{Packet}
use Rattle.sd_bnet.specs.declared.packet.Packet.TheVariants.{Bytes, Signal}
use Rattle.sd_machine.specs.declared.event.Event.TheVariants as events
use Rattle.sd_machine.specs.declared.reply.Reply.{Reply}
use Rattle.sd_append.specs.Command.{AreNames, HasShape, SpellsCommand}
use Rattle.sd_append.specs.Port.{Exchange, Stepped, Said}
use Rattle.sd_append.specs.Talk.{close_said, console_said, end_of_data, end_said, heartbeat_response, open_said, refused, said}
use Rattle.sd_append.specs.Text.{trimmed}
use Rattle.sd_append.specs.declared.command.Command.{Command}
use Rattle.sd_append.specs.declared.command.Command.TheVariants as commands
use Rattle.sd_append.specs.declared.line.ReplyLine.{ReplyLine}
use Rattle.sd_append.specs.declared.line.ReplyLine.TheVariants as lines
use Rattle.sd_append.specs.Phases.{AskFor, BecomesOf, Group, ReadsBy, heard, packets_of}
use Rattle.sd_append.specs.Sessions.{Known, known_behind}

-- the packets that came, what the port was asked, and the packets that went out
pub record Turn : Type 0 where
  pub packets : List Packet
  pub asked : List Exchange
  pub says : List Packet

-- Signals where a command is due.

-- whether a signal asks for an answer: a poll, -5, or a heartbeat, -6
abbrev pub is_poll : ℤ → Bool
is_poll (pos n) = false
is_poll (negsuc n) = n == 4 || n == 5

-- what goes out for a signal
abbrev pub signal_said : ℤ → List Packet
signal_said number = if is_poll number then heartbeat_response ∷ [] else []

-- A signal, but for the one that ends the talk, -4: the port is asked nothing, and only a poll or a heartbeat is answered.
pub record IsSignal (turn : Turn) : Type 0 where
  pub number : ℤ
  pub goes_on : number ≢ negsuc 3
  pub packets_are : turn.packets ≡ Signal number ∷ []
  pub asked_is : turn.asked ≡ []
  pub says_is : turn.says ≡ signal_said number

-- Commands that one packet is the whole of.

-- nothing is asked, and this refusal is the reply
abbrev pub IsRefused : Refusal → List Exchange → List Packet → Type 0
IsRefused refusal asked says = (asked ≡ []) × (says ≡ refused refusal ∷ [])

-- a command names the session that the talk opened last, and what it comes to; or no such session, and it is refused
abbrev pub OfOwn : Known → Option ℕ → (ℕ → Type 0) → Type 0 → Type 0
OfOwn known named comes refuses =
    ((ticket : ℕ) × (known.ticket ≡ Some ticket) × (named ≡ Some ticket) × comes ticket)
    ⊎ (((ticket : ℕ) → known.ticket ≡ Some ticket → named ≡ Some ticket → ⊥) × refuses)

-- What a command is answered at this moment, by what is known of the talk's session. An open is refused while that goes on. An
-- open, an end and a close are asked of the port, and its reply is the answer; so is a console's line, said at this moment. Data is answered at once
-- only if its session is not the talk's; else, as for a read, there is more to come.
abbrev pub Answers : ℤ → Known → Command → List Exchange → List Packet → Type 0
Answers moment known (commands.Open job pool media) asked says =
    ((known.goes_on ≡ true) × IsRefused BadCommand asked says)
    ⊎ ((known.goes_on ≡ false)
    × ((reply : Reply) × (asked ≡ Stepped (events.Open job pool media moment) reply ∷ []) × (says ≡ open_said reply)))
Answers moment known (commands.Data named) asked says = OfOwn known named (λ ticket. ⊥) (IsRefused SessionNotOpen asked says)
Answers moment known (commands.End named) asked says =
    OfOwn known named (λ ticket. (reply : Reply) × (asked ≡ Stepped (events.End ticket moment) reply ∷ []) × (says ≡ end_said reply))
    (IsRefused SessionNotOpen asked says)
Answers moment known (commands.Close named) asked says =
    OfOwn known named (λ ticket. (reply : Reply) × (asked ≡ Stepped (events.Close ticket) reply ∷ []) × (says ≡ close_said reply))
    (IsRefused SessionNotOpen asked says)
Answers moment known (commands.Read key) asked says = ⊥
Answers moment known (commands.Console text) asked says =
    (answer : Result (List (List ℕ)) Refusal) × (asked ≡ Said moment text answer ∷ []) × (says ≡ console_said answer)

-- a packet's text and its answer: it spells a command; or one but for its names; or none
abbrev pub IsAnswered : ℤ → Known → List ℕ → List Exchange → List Packet → Type 0
IsAnswered moment known bytes asked says =
    ((command : Command) × SpellsCommand bytes command × Answers moment known command asked says)
    ⊎ ((command : Command) × HasShape bytes command × (AreNames command → ⊥) × IsRefused BadName asked says)
    ⊎ (((command : Command) → HasShape bytes command → ⊥) × IsRefused BadCommand asked says)

-- one packet that is answered at once
pub record IsCommand (moment : ℤ) (known : Known) (turn : Turn) : Type 0 where
  pub bytes : List ℕ
  pub packets_are : turn.packets ≡ Bytes bytes ∷ []
  pub is_answered : IsAnswered moment known bytes turn.asked turn.says

-- Commands with more to come.

-- A data phase: the command, with the ticket of the talk's session, goes before groups, and -1 ends it where a header is due. What
-- goes out is that data may come, and at the end what became of the records that the groups ask for.
pub record IsDataPhase (known : Known) (turn : Turn) : Type 0 where
  pub bytes : List ℕ
  pub ticket : ℕ
  pub phase : List Packet
  pub groups : List Group
  pub records : List Record
  pub unread : List Group
  pub answer : ReplyLine
  pub spells : SpellsCommand bytes (commands.Data (Some ticket))
  pub own : known.ticket ≡ Some ticket
  pub packets_are : turn.packets ≡ Bytes bytes ∷ (phase ++ end_of_data ∷ [])
  pub heard_is : heard phase ≡ packets_of groups
  pub ask_for : AskFor groups records unread
  pub becomes : BecomesOf ticket known.goes_on records unread turn.asked answer
  pub says_is : turn.says ≡ said lines.Data ∷ said answer ∷ []

-- A read: the command, the packets of the spans, and the -1 that ends them; what goes out is by what these packets say.
pub record IsRead (turn : Turn) : Type 0 where
  pub bytes : List ℕ
  pub key : SessionKey
  pub phase : List Packet
  pub payloads : List (List ℕ)
  pub spells : SpellsCommand bytes (commands.Read key)
  pub packets_are : turn.packets ≡ Bytes bytes ∷ (phase ++ end_of_data ∷ [])
  pub heard_is : heard phase ≡ map Bytes payloads
  pub reads : ReadsBy key (map trimmed payloads) turn.asked turn.says

-- a turn of a talk at this moment, by what is known of its session
abbrev pub IsTurn : ℤ → Known → Turn → Type 0
IsTurn moment known turn = IsSignal turn ⊎ IsCommand moment known turn ⊎ IsDataPhase known turn ⊎ IsRead turn

-- The last turn, which has no end.

-- A data phase that has no end yet: all that is missing of its last group is -1, at most. The port was asked so far what such
-- groups ask, and nothing has gone out but that data may come.
pub record IsDataBegun (known : Known) (packets : List Packet) (asked : List Exchange) (says : List Packet) : Type 0 where
  pub bytes : List ℕ
  pub ticket : ℕ
  pub phase : List Packet
  pub missing : List Packet
  pub groups : List Group
  pub records : List Record
  pub unread : List Group
  pub due : ReplyLine
  pub spells : SpellsCommand bytes (commands.Data (Some ticket))
  pub own : known.ticket ≡ Some ticket
  pub packets_are : packets ≡ Bytes bytes ∷ phase
  pub missing_is : (missing ≡ []) ⊎ (missing ≡ end_of_data ∷ [])
  pub heard_is : heard phase ++ missing ≡ packets_of groups
  pub ask_for : AskFor groups records unread
  pub becomes : BecomesOf ticket known.goes_on records unread asked due
  pub says_is : says ≡ said lines.Data ∷ []

-- a read whose spans have no end yet: nothing was asked, and nothing has gone out
pub record IsReadBegun (packets : List Packet) (asked : List Exchange) (says : List Packet) : Type 0 where
  pub bytes : List ℕ
  pub key : SessionKey
  pub phase : List Packet
  pub payloads : List (List ℕ)
  pub spells : SpellsCommand bytes (commands.Read key)
  pub packets_are : packets ≡ Bytes bytes ∷ phase
  pub heard_is : heard phase ≡ map Bytes payloads
  pub asked_is : asked ≡ []
  pub says_is : says ≡ []

-- where a talk is after its last packet: between two turns, within one, or ended by the client
pub data Place : Type 0 where
  Between : Place
  Within : Place
  Ended : Place

-- So it is by the packets of the last turn, and by those that aren't heard any more: nothing came; or a turn has begun; or the
-- signal came that ends the talk, -4, and whatever comes after it.
abbrev pub LiesAt : Place → List Packet → List Packet → Type 0
LiesAt Between packets left_out = (packets ≡ []) × (left_out ≡ [])
LiesAt Within packets left_out = (packets ≢ []) × (left_out ≡ [])
LiesAt Ended packets left_out = (more : List Packet) × (left_out ≡ Signal (negsuc 3) ∷ more)

-- the last turn: nothing came, or a data phase or a read has begun; and where the talk is then
pub record IsLast (place : Place) (known : Known) (turn : Turn) : Type 0 where
  pub packets : List Packet
  pub left_out : List Packet
  pub packets_are : turn.packets ≡ packets ++ left_out
  pub lies : LiesAt place packets left_out
  pub begun : ((packets ≡ []) × (turn.asked ≡ []) × (turn.says ≡ []))
      ⊎ IsDataBegun known packets turn.asked turn.says ⊎ IsReadBegun packets turn.asked turn.says

-- Talks.

-- turns one after the other, each by what is known from those before it, and a last one
abbrev pub AreTurns : ℤ → Place → Known → List Turn → Turn → Type 0
AreTurns moment place known [] last = IsLast place known last
AreTurns moment place known (turn ∷ turns) last = IsTurn moment known turn × AreTurns moment place (known_behind known turn.asked) turns last

-- The packets of a talk part into turns, the last of which may have no end, which is where the talk is then; what the port was asked is, turn by turn, what those
-- ask, and what went out is what those say, and nothing else.
pub record IsOfTurns (moment : ℤ) (place : Place) (known : Known) (packets : List Packet) (asked : List Exchange) (out : List Packet) : Type 0 where
  pub turns : List Turn
  pub last : Turn
  pub are_turns : AreTurns moment place known turns last
  pub packets_are : packets ≡ flat_map (λ (t : Turn). t.packets) turns ++ last.packets
  pub asked_is : asked ≡ flat_map (λ (t : Turn). t.asked) turns ++ last.asked
  pub out_is : out ≡ flat_map (λ (t : Turn). t.says) turns ++ last.says
