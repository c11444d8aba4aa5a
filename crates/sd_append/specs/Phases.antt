-- What comes between a command and its reply: the groups of a data phase, and the span packets of a read.
use Rattle.std.specs.Prelude.{◌≡◌, ◌⊎◌, ℕ, ℤ, pos, negsuc, ◌==◌, ◌||◌, Bool, false, if◌then◌else◌, List, [], ◌∷◌, ◌++◌, map, Result}
use Rattle.std.specs.List.{flat_map}
use Rattle.sd_base.specs.Record.{Record}
use Rattle.sd_base.specs.declared.number.SessionKey.{SessionKey}
use Rattle.sd_base.specs.declared.refusal.Refusal.{Refusal}
use Rattle.sd_base.specs.declared.refusal.Refusal.TheVariants.{BadFileIndex, BadSpan, Memory}
use Rattle.sd_bnet.specs.declared.packet.Packet.{Packet}
use Rattle.sd_bnet.specs.declared.packet.Packet.TheVariants.{Bytes, Signal}
use Rattle.sd_machine.specs.declared.event.Event.TheVariants as events
use Rattle.sd_machine.specs.declared.reply.Reply.{Reply}
use Rattle.sd_machine.specs.declared.reply.Reply.TheVariants as replies
use Rattle.sd_readback.specs.declared.read.ReadEnd.{ReadEnd}
use Rattle.sd_span.specs.JobMedia.{SpanFits, span_text}
use Rattle.sd_span.specs.declared.span.Span.{Span}
use Rattle.sd_append.specs.Header.{HasHeaderForm, HeaderParts}
use Rattle.sd_append.specs.Port.{Exchange, Stepped, WasRead}
use Rattle.sd_append.specs.TalkStage.{refusal_in}
use Rattle.sd_append.specs.Talk.{IsSpanLine, end_of_data, is_one_line, read_end_said, record_said, refused}
use Rattle.sd_append.specs.declared.line.ReplyLine.{ReplyLine}
use Rattle.sd_append.specs.declared.line.ReplyLine.TheVariants as lines
use Rattle.sd_append.specs.Sessions.{IsGivenUp, goes_on_by}

-- What is heard.

-- a signal that means something between a command and its reply: the end of data, -1, and the end of the talk, -4
abbrev pub is_heard : ℤ → Bool
is_heard (pos n) = false
is_heard (negsuc n) = n == 0 || n == 3

-- the payloads and those signals; any other may come anywhere, and means nothing
abbrev pub heard : List Packet → List Packet
heard [] = []
heard (Bytes bytes ∷ packets) = Bytes bytes ∷ heard packets
heard (Signal number ∷ packets) = if is_heard number then Signal number ∷ heard packets else heard packets

-- Data phases.

-- a packet where a header is due, and the payloads under it
pub record Group : Type 0 where
  pub header : List ℕ
  pub payloads : List (List ℕ)

-- the packets of groups: of each its header, its payloads and -1
abbrev pub packets_of : List Group → List Packet
packets_of [] = []
packets_of (group ∷ groups) = Bytes group.header ∷ (map Bytes group.payloads ++ end_of_data ∷ packets_of groups)

-- The records that groups ask to be appended, each payload under the index and the stream of its header; as far as their headers
-- were read, and the groups from there on, which weren't.
abbrev pub AskFor : List Group → List Record → List Group → Type 0
AskFor [] records unread = (records ≡ []) × (unread ≡ [])
AskFor (group ∷ groups) records unread =
    ((header : HeaderParts) × (more : List Record) × HasHeaderForm group.header header × AskFor groups more unread
    × (records ≡ map (λ (bytes : List ℕ). record { index = header.index; stream = header.stream; bytes = bytes }) group.payloads ++ more))
    ⊎ ((records ≡ []) × (unread ≡ group ∷ groups))

-- the header of the first of these groups can't be read
abbrev pub BeginsUnreadable : List Group → Type 0
BeginsUnreadable [] = ⊥
BeginsUnreadable (group ∷ groups) = (header : HeaderParts) → HasHeaderForm group.header header → ⊥

-- the port was asked to append these records to a session, in order and nothing else, and took each
abbrev pub AreTaken : ℕ → List Record → List Exchange → Type 0
AreTaken ticket [] asked = asked ≡ []
AreTaken ticket (r ∷ records) asked =
    (count : ℕ) × (more : List Exchange) × (asked ≡ Stepped (events.Append ticket r) (replies.Taken count) ∷ more) × AreTaken ticket records more

-- Some of the records were taken, up to one that was not. It met this refusal; by then the session went on or not, and was given up.
pub record StopsAtRecord (ticket : ℕ) (goes_on : Bool) (records : List Record) (asked : List Exchange) (refusal : Refusal) : Type 0 where
  pub taken : List Record
  pub first_not : Record
  pub untried : List Record
  pub takes : List Exchange
  pub reply : Reply
  pub gives_up : List Exchange
  pub records_are : records ≡ taken ++ first_not ∷ untried
  pub asked_is : asked ≡ takes ++ Stepped (events.Append ticket first_not) reply ∷ gives_up
  pub are_taken : AreTaken ticket taken takes
  pub not_taken : (count : ℕ) → reply ≡ replies.Taken count → ⊥
  pub refusal_is : refusal ≡ refusal_in reply
  pub given_up : IsGivenUp (goes_on_by goes_on reply) ticket gives_up

-- all records before a header that can't be read were taken, and the session was given up
pub record StopsAtHeader (ticket : ℕ) (goes_on : Bool) (records : List Record) (asked : List Exchange) : Type 0 where
  pub takes : List Exchange
  pub gives_up : List Exchange
  pub asked_is : asked ≡ takes ++ gives_up
  pub are_taken : AreTaken ticket records takes
  pub given_up : IsGivenUp goes_on ticket gives_up

-- What becomes of the records that a data phase asks for, with groups that weren't read, and the answer at its end: every group
-- was read and every record taken; or the first record that isn't stops it; or the first header that can't be read does.
abbrev pub BecomesOf : ℕ → Bool → List Record → List Group → List Exchange → ReplyLine → Type 0
BecomesOf ticket goes_on records unread asked answer =
    ((unread ≡ []) × AreTaken ticket records asked × (answer ≡ lines.Appended))
    ⊎ ((refusal : Refusal) × StopsAtRecord ticket goes_on records asked refusal × (answer ≡ lines.Refused refusal))
    ⊎ (BeginsUnreadable unread × StopsAtHeader ticket goes_on records asked × (answer ≡ lines.Refused BadFileIndex))

-- Reads.

-- these texts are the lines of these spans, each of its own
abbrev pub SayEach : List (List ℕ) → List Span → Type 0
SayEach [] [] = Unit {0}
SayEach (text ∷ texts) (span ∷ spans) = SpanFits span × (text ≡ span_text span) × SayEach texts spans
SayEach texts spans = ⊥

-- the text is no line of a span: it is more than one line, or not in ASCII, or says none
abbrev pub SaysNoSpan : List ℕ → Type 0
SaysNoSpan text = (is_one_line text ≡ false) ⊎ (IsSpanLine text → ⊥)

-- one of these is none
abbrev pub OneSaysNoSpan : List (List ℕ) → Type 0
OneSaysNoSpan texts =
    (before : List (List ℕ)) × (text : List ℕ) × (behind : List (List ℕ)) × (texts ≡ before ++ text ∷ behind) × SaysNoSpan text

-- The texts say spans, by which the session of the command was read back: its records go out, and what the read came to. Or nothing
-- is asked: one of them says none, or there is no memory for them; then a refusal goes out.
abbrev pub ReadsBy : SessionKey → List (List ℕ) → List Exchange → List Packet → Type 0
ReadsBy key texts asked says =
    ((spans : List Span) × (records : List Record) × (answer : Result ReadEnd Refusal) × SayEach texts spans
    × (asked ≡ WasRead key spans records answer ∷ []) × (says ≡ flat_map record_said records ++ end_of_data ∷ read_end_said answer ∷ []))
    ⊎ ((asked ≡ []) × (says ≡ end_of_data ∷ refused BadSpan ∷ []) × OneSaysNoSpan texts)
    ⊎ ((asked ≡ []) × (says ≡ end_of_data ∷ refused Memory ∷ []))
