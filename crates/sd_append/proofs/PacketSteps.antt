-- A packet more, before those that come after it.
use Rattle.std.proofs.Common.{◌≡◌, ℕ, ℤ, refl, sym, ap, subst, ◌∙◌, inl, inr, Bool, true, false, List, [], ◌∷◌, ◌++◌, Option, Some, Result, Ok, append_assoc}
use Rattle.sd_base.specs.declared.number.SessionKey.{SessionKey}
use Rattle.sd_base.specs.declared.refusal.Refusal.{Refusal}
use Rattle.sd_base.specs.declared.refusal.Refusal.TheVariants as refusals
use Rattle.sd_bnet.specs.declared.packet.Packet.{Packet}
use Rattle.sd_bnet.specs.declared.packet.Packet.TheVariants.{Bytes}
use Rattle.sd_machine.specs.declared.event.Event.TheVariants as events
use Rattle.sd_machine.specs.declared.reply.Reply.{Reply}
use Rattle.sd_machine.specs.declared.reply.Reply.TheVariants as replies
use Rattle.sd_span.specs.JobMedia.{session_text}
use Rattle.sd_text.specs.Lines.{line}
use Rattle.sd_append.specs.Command.{SpellsCommand}
use Rattle.sd_append.specs.Header.{HeaderParts}
use Rattle.sd_append.specs.Port.{Exchange, Stepped}
use Rattle.sd_append.specs.TalkStage.{by_reply, is_running, is_taken, own_of, own_with, refusal_in}
use Rattle.sd_append.specs.Talk.{AppendsIf, Drops, Obeys, ObeysClose, ObeysData, ObeysEnd, ObeysOpen, Only, TakesBytes, TakesCommand, TakesHeader, TakesRecordPacket, TakesSpan, end_of_data, is_one_line, record_of, refused, said}
use Rattle.sd_append.specs.Text.{trimmed}
use Rattle.sd_append.specs.declared.command.Command.{Command as Asked}
use Rattle.sd_append.specs.declared.command.Command.TheVariants as commands
use Rattle.sd_append.specs.declared.line.ReplyLine.TheVariants as lines
use Rattle.sd_append.specs.declared.stage.Own.{Own}
use Rattle.sd_append.specs.declared.stage.TalkStage.{TalkStage}
use Rattle.sd_append.specs.declared.stage.TalkStage.TheVariants.{Command, Header, Records, Refused, Dropped, Spans, BadSpans, Over}
use Rattle.sd_append.specs.Phases.{BecomesOf}
use Rattle.sd_append.specs.Sessions.{IsGivenUp, Known, goes_on_by, known_behind}
use Rattle.sd_append.specs.Turns.{Answers, IsAnswered, IsOfTurns, Place, Between, Within, Ended, Turn}
use Rattle.sd_append.proofs.AskedLemmas.{given_up, known_in, named, reply_known, running_known, same_ticket, taken_is}
use Rattle.sd_append.proofs.PhaseLemmas.{DroppedLeft, HeaderLeft, Phase, RecordsLeft, RefusedLeft, header_behind, header_read, header_unread, no_header, no_header_refused, phase_more, phase_stops, record_refused, record_taken, refused_behind, header_dropped, payload_dropped}
use Rattle.sd_append.proofs.SpanPackets.{Read, RefusalLeft, SpansLeft, read_back, read_more, read_stops, span_bad, span_memory, span_more}
use Rattle.sd_append.proofs.TurnLists.{LeavesOut, last_alone, lies_within, nothing_more, of_turns_at, turn_then}

-- What packets are from where a talk stands: turns; or the rest of a phase and then turns; or nothing that is heard.
abbrev pub GoesOn : ℤ → Place → TalkStage → List Packet → List Exchange → List Packet → Type 0
GoesOn moment place (Command own) packets asked out = IsOfTurns moment place (known_in own) packets asked out
GoesOn moment place (Header own) packets asked out = Phase moment place (known_in (Some own)) (HeaderLeft own) packets asked out
GoesOn moment place (Records own header) packets asked out = Phase moment place (known_in (Some own)) (RecordsLeft own header) packets asked out
GoesOn moment place (Refused own refusal) packets asked out = Phase moment place (known_in (Some own)) (RefusedLeft refusal) packets asked out
GoesOn moment place (Dropped own refusal) packets asked out = Phase moment place (known_in (Some own)) (DroppedLeft refusal) packets asked out
GoesOn moment place (Spans own text) packets asked out = Read moment place (known_in own) (SpansLeft text) packets asked out
GoesOn moment place (BadSpans own refusal) packets asked out = Read moment place (known_in own) (RefusalLeft refusal) packets asked out
GoesOn moment place (Over own) packets asked out = (asked ≡ []) × (out ≡ []) × (place ≡ Ended)

-- where that is
abbrev pub place_of : TalkStage → Place
place_of (Command own) = Between
place_of (Over own) = Ended
place_of stage = Within

-- nothing is heard any more
pub stops : (moment : ℤ) (place : Place) (stage : TalkStage) (left_out : List Packet) → LeavesOut (place_of stage) place left_out → GoesOn moment place stage left_out [] []
stops moment place (Command own) left_out is = nothing_more moment place (known_in own) left_out is
stops moment place (Header own) left_out is = phase_stops moment place (known_in (Some own)) (HeaderLeft own) [] lines.Appended left_out (no_header own) (inl refl) is
stops moment place (Records own header) left_out is =
    phase_stops moment place (known_in (Some own)) (RecordsLeft own header) (end_of_data ∷ []) lines.Appended left_out
    (header_behind own header [] [] lines.Appended (no_header own)) (inr refl) is
stops moment place (Refused own refusal) left_out is =
    phase_stops moment place (known_in (Some own)) (RefusedLeft refusal) [] (lines.Refused refusal) left_out (no_header_refused refusal) (inl refl) is
stops moment place (Dropped own refusal) left_out is =
    phase_stops moment place (known_in (Some own)) (DroppedLeft refusal) (end_of_data ∷ []) (lines.Refused refusal) left_out
    (refused_behind refusal [] [] (lines.Refused refusal) (no_header_refused refusal)) (inr refl) is
stops moment place (Spans own text) left_out is = read_stops moment place (known_in own) (SpansLeft text) left_out is
stops moment place (BadSpans own refusal) left_out is = read_stops moment place (known_in own) (RefusalLeft refusal) left_out is
stops moment place (Over own) left_out (inl (is, none)) = (refl, refl, is)
stops moment place (Over own) left_out (inr (is, more)) = (refl, refl, is)

-- a step that only says something
pub only_then : (moment : ℤ) (place : Place) (old : TalkStage) (packet : Packet) (packets : List Packet) (more : List Exchange) (later : List Packet) (says : List Packet) (next : TalkStage)
    (asked : List Exchange) (out : List Packet) (new : TalkStage) → Only says next asked out new
    → (GoesOn moment place next packets more later → GoesOn moment place old (packet ∷ packets) more (says ++ later))
    → GoesOn moment place new packets more later → GoesOn moment place old (packet ∷ packets) (asked ++ more) (out ++ later)
only_then moment place old packet packets more later says next asked out new (none, said_is, stands) step rest =
    subst (λ (l : List Exchange). GoesOn moment place old (packet ∷ packets) (l ++ more) (out ++ later)) (sym none)
    (subst (λ (l : List Packet). GoesOn moment place old (packet ∷ packets) more (l ++ later)) (sym said_is)
    (step (subst (λ (s : TalkStage). GoesOn moment place s packets more later) stands rest)))

-- Commands.

-- one that is answered at once
answered_then : (moment : ℤ) (place : Place) (own : Option Own) (bytes : List ℕ) (packets : List Packet) (more : List Exchange) (later : List Packet) (next : Option Own) (asked : List Exchange) (out : List Packet) (new : TalkStage)
    → IsAnswered moment (known_in own) bytes asked out → new ≡ Command next → known_behind (known_in own) asked ≡ known_in (own_of new)
    → GoesOn moment place new packets more later → IsOfTurns moment place (known_in own) (Bytes bytes ∷ packets) (asked ++ more) (out ++ later)
answered_then moment place own bytes packets more later next asked out new is stands known rest =
    let turn : Turn = record { packets = Bytes bytes ∷ []; asked = asked; says = out } in
    turn_then moment place (known_in own) turn packets more later (inr (inl (record { bytes = bytes; packets_are = refl; is_answered = is })))
    (subst (λ (k : Known). IsOfTurns moment place k packets more later) (sym (known ∙ ap (λ (s : TalkStage). known_in (own_of s)) stands))
    (subst (λ (s : TalkStage). GoesOn moment place s packets more later) stands rest))

-- a data phase after its command
data_then : (moment : ℤ) (place : Place) (known : Known) (own : Own) (bytes : List ℕ) (packets : List Packet) (more : List Exchange) (later : List Packet) → known ≡ known_in (Some own)
    → SpellsCommand bytes (commands.Data (Some own.ticket)) → Phase moment place known (HeaderLeft own) packets more later
    → IsOfTurns moment place known (Bytes bytes ∷ packets) more (said lines.Data ∷ later)
data_then moment place known own bytes packets more later is spells (inl e) =
    let turn : Turn = record { packets = Bytes bytes ∷ (e.phase ++ end_of_data ∷ []); asked = e.first; says = said lines.Data ∷ said e.answer ∷ [] } in
    of_turns_at moment place known (Bytes bytes ∷ packets) (turn.packets ++ e.behind) more (e.first ++ e.more) (said lines.Data ∷ later) (turn.says ++ e.later)
    (ap (λ (l : List Packet). Bytes bytes ∷ l) (e.packets_are ∙ sym (append_assoc e.phase (end_of_data ∷ []) e.behind)))
    e.asked_is
    (ap (λ (l : List Packet). said lines.Data ∷ l) e.out_is)
    (turn_then moment place known turn e.behind e.more e.later (inr (inr (inl (record {
      bytes = bytes;
      ticket = own.ticket;
      phase = e.phase;
      groups = e.left.groups;
      records = e.left.records;
      unread = e.left.unread;
      answer = e.answer;
      spells = spells;
      own = ap (λ (k : Known). k.ticket) is;
      packets_are = refl;
      heard_is = e.left.heard_is;
      ask_for = e.left.ask_for;
      becomes = subst (λ (on : Bool). BecomesOf own.ticket on e.left.records e.left.unread e.first e.answer) (sym (ap (λ (k : Known). k.goes_on) is)) e.left.becomes;
      says_is = refl;
    })))) e.turns)
data_then moment place known own bytes packets more later is spells (inr s) =
    let turn : Turn = record { packets = Bytes bytes ∷ packets; asked = more; says = said lines.Data ∷ [] } in
    of_turns_at moment place known (Bytes bytes ∷ packets) turn.packets more turn.asked (said lines.Data ∷ later) turn.says refl refl
    (ap (λ (l : List Packet). said lines.Data ∷ l) s.out_is)
    (last_alone moment place known turn (record {
      packets = Bytes bytes ∷ s.phase;
      left_out = s.left_out;
      packets_are = ap (λ (l : List Packet). Bytes bytes ∷ l) s.packets_are;
      lies = lies_within place (Bytes bytes ∷ s.phase) s.left_out (λ none. absurd (cc none)) s.leaves;
      begun = inr (inl (record {
        bytes = bytes;
        ticket = own.ticket;
        phase = s.phase;
        missing = s.missing;
        groups = s.left.groups;
        records = s.left.records;
        unread = s.left.unread;
        due = s.due;
        spells = spells;
        own = ap (λ (k : Known). k.ticket) is;
        packets_are = refl;
        missing_is = s.missing_is;
        heard_is = s.left.heard_is;
        ask_for = s.left.ask_for;
        becomes = subst (λ (on : Bool). BecomesOf own.ticket on s.left.records s.left.unread more s.due) (sym (ap (λ (k : Known). k.goes_on) is)) s.left.becomes;
        says_is = refl;
      }));
    }))

-- a read after its command
read_then : (moment : ℤ) (place : Place) (known : Known) (key : SessionKey) (bytes : List ℕ) (packets : List Packet) (more : List Exchange) (later : List Packet)
    → SpellsCommand bytes (commands.Read key) → Read moment place known (SpansLeft (line (session_text key))) packets more later
    → IsOfTurns moment place known (Bytes bytes ∷ packets) more later
read_then moment place known key bytes packets more later spells (inl e) =
    let turn : Turn = record { packets = Bytes bytes ∷ (e.phase ++ end_of_data ∷ []); asked = e.first; says = e.says } in
    of_turns_at moment place known (Bytes bytes ∷ packets) (turn.packets ++ e.behind) more (e.first ++ e.more) later (e.says ++ e.later)
    (ap (λ (l : List Packet). Bytes bytes ∷ l) (e.packets_are ∙ sym (append_assoc e.phase (end_of_data ∷ []) e.behind)))
    e.asked_is e.out_is
    (turn_then moment place known turn e.behind e.more e.later (inr (inr (inr (record {
      bytes = bytes;
      key = key;
      phase = e.phase;
      payloads = e.payloads;
      spells = spells;
      packets_are = refl;
      heard_is = e.heard_is;
      reads = read_back key bytes e.payloads e.first e.says spells e.left;
    })))) e.turns)
read_then moment place known key bytes packets more later spells (inr s) =
    let turn : Turn = record { packets = Bytes bytes ∷ packets; asked = more; says = later } in
    last_alone moment place known turn (record {
      packets = Bytes bytes ∷ s.phase;
      left_out = s.left_out;
      packets_are = ap (λ (l : List Packet). Bytes bytes ∷ l) s.packets_are;
      lies = lies_within place (Bytes bytes ∷ s.phase) s.left_out (λ none. absurd (cc none)) s.leaves;
      begun = inr (inr (record {
        bytes = bytes;
        key = key;
        phase = s.phase;
        payloads = s.payloads;
        spells = spells;
        packets_are = refl;
        heard_is = s.heard_is;
        asked_is = s.asked_is;
        says_is = s.out_is;
      }));
    })

module _ (moment : ℤ) (place : Place) (own : Option Own) (bytes : List ℕ) (packets : List Packet) (more : List Exchange) (later : List Packet) (asked : List Exchange) (out : List Packet) (new : TalkStage)
    (known : known_behind (known_in own) asked ≡ known_in (own_of new)) (rest : GoesOn moment place new packets more later) where
  -- the turns that a packet and those after it are
  abbrev Follows : Type 0
  Follows = IsOfTurns moment place (known_in own) (Bytes bytes ∷ packets) (asked ++ more) (out ++ later)

  obeyed : (command : Asked) (next : Option Own) → SpellsCommand bytes command → Answers moment (known_in own) command asked out → new ≡ Command next → Follows
  obeyed command next spells answers stands = answered_then moment place own bytes packets more later next asked out new (inl (command, spells, answers)) stands known rest

  open_then : (running : Bool) (job : ℕ) (pool media : List ℕ) → SpellsCommand bytes (commands.Open job pool media) → is_running own ≡ running
      → ObeysOpen moment running own job pool media asked out new → Follows
  open_then true job pool media spells is only =
      obeyed (commands.Open job pool media) own spells (inl (running_known own ∙ is, (only.0, only.1))) only.2
  open_then false job pool media spells is obeys =
      obeyed (commands.Open job pool media) _ spells (inr (running_known own ∙ is, (obeys.0, obeys.1, obeys.2))) obeys.3

  data_obeyed : (ticket : Option ℕ) → SpellsCommand bytes (commands.Data ticket) → ObeysData (own_with own ticket) asked out new → Follows
  data_obeyed ticket spells obeys = elim (named own ticket) [
    | inl n ↦ only_then moment place (Command own) (Bytes bytes) packets more later (said lines.Data ∷ []) (Header n.0) asked out new
        (subst (λ (w : Result Own (Option Own)). ObeysData w asked out new) n.1.with_is obeys)
        (λ phase. data_then moment place (known_in own) n.0 bytes packets more later (ap known_in n.1.own_is)
        (subst (λ (t : Option ℕ). SpellsCommand bytes (commands.Data t)) n.1.ticket_is spells)
        (subst (λ (k : Known). Phase moment place k (HeaderLeft n.0) packets more later) (sym (ap known_in n.1.own_is)) phase)) rest
    | inr n ↦ (let o : Only (refused refusals.SessionNotOpen ∷ []) (Command own) asked out new = subst (λ (w : Result Own (Option Own)). ObeysData w asked out new) n.with_is obeys in
        obeyed (commands.Data ticket) own spells (inr (n.other, (o.0, o.1))) o.2)
  ]

  end_obeyed : (ticket : Option ℕ) → SpellsCommand bytes (commands.End ticket) → ObeysEnd moment (own_with own ticket) asked out new → Follows
  end_obeyed ticket spells obeys = elim (named own ticket) [
    | inl n ↦ (let o : ObeysEnd moment (Ok n.0) asked out new = subst (λ (w : Result Own (Option Own)). ObeysEnd moment w asked out new) n.1.with_is obeys in
        obeyed (commands.End ticket) (Some (by_reply n.0 o.0)) spells
        (inl (n.0.ticket, ap (λ (k : Option Own). (known_in k).ticket) n.1.own_is, n.1.ticket_is, (o.0, o.1, o.2))) o.3)
    | inr n ↦ (let o : Only (refused refusals.SessionNotOpen ∷ []) (Command own) asked out new = subst (λ (w : Result Own (Option Own)). ObeysEnd moment w asked out new) n.with_is obeys in
        obeyed (commands.End ticket) own spells (inr (n.other, (o.0, o.1))) o.2)
  ]

  close_obeyed : (ticket : Option ℕ) → SpellsCommand bytes (commands.Close ticket) → ObeysClose (own_with own ticket) asked out new → Follows
  close_obeyed ticket spells obeys = elim (named own ticket) [
    | inl n ↦ (let o : ObeysClose (Ok n.0) asked out new = subst (λ (w : Result Own (Option Own)). ObeysClose w asked out new) n.1.with_is obeys in
        obeyed (commands.Close ticket) (Some (by_reply n.0 o.0)) spells
        (inl (n.0.ticket, ap (λ (k : Option Own). (known_in k).ticket) n.1.own_is, n.1.ticket_is, (o.0, o.1, o.2))) o.3)
    | inr n ↦ (let o : Only (refused refusals.SessionNotOpen ∷ []) (Command own) asked out new = subst (λ (w : Result Own (Option Own)). ObeysClose w asked out new) n.with_is obeys in
        obeyed (commands.Close ticket) own spells (inr (n.other, (o.0, o.1))) o.2)
  ]

  command_obeyed : (command : Asked) → SpellsCommand bytes command → Obeys moment own command asked out new → Follows
  command_obeyed (commands.Open job pool media) spells obeys = open_then (is_running own) job pool media spells refl obeys
  command_obeyed (commands.Data ticket) spells obeys = data_obeyed ticket spells obeys
  command_obeyed (commands.End ticket) spells obeys = end_obeyed ticket spells obeys
  command_obeyed (commands.Close ticket) spells obeys = close_obeyed ticket spells obeys
  command_obeyed (commands.Read key) spells obeys =
      only_then moment place (Command own) (Bytes bytes) packets more later [] (Spans own (line (session_text key))) asked out new obeys
      (λ read. read_then moment place (known_in own) key bytes packets more later spells read) rest
  command_obeyed (commands.Console text) spells obeys = obeyed (commands.Console text) own spells (obeys.0, obeys.1, obeys.2) obeys.3

  command_then : TakesCommand moment own bytes asked out new → Follows
  command_then (inl (command, spells, obeys)) = command_obeyed command spells obeys
  command_then (inr (inl (command, shape, none, only))) =
      answered_then moment place own bytes packets more later own asked out new (inr (inl (command, shape, none, (only.0, only.1)))) only.2 known rest
  command_then (inr (inr (none, only))) =
      answered_then moment place own bytes packets more later own asked out new (inr (inr (none, (only.0, only.1)))) only.2 known rest

-- Payloads of a data phase.

-- the session is given up, and the rest is dropped
dropped_then : (moment : ℤ) (place : Place) (own : Own) (refusal : Refusal) (packets : List Packet) (more : List Exchange) (later : List Packet) (asked : List Exchange) (out : List Packet) (new : TalkStage)
    → (d : Drops own refusal asked out new) → GoesOn moment place new packets more later → Phase moment place (known_in (Some d.left)) (DroppedLeft refusal) packets more later
dropped_then moment place own refusal packets more later asked out new d rest = subst (λ (s : TalkStage). GoesOn moment place s packets more later) d.new_is rest

-- a packet of which nothing goes out
pub quiet : (moment : ℤ) (place : Place) (old : TalkStage) (packets : List Packet) (asked : List Exchange) (says later : List Packet) → says ≡ [] → GoesOn moment place old packets asked later
    → GoesOn moment place old packets asked (says ++ later)
quiet moment place old packets asked says later none rest = subst (λ (l : List Packet). GoesOn moment place old packets asked (l ++ later)) (sym none) rest

header_then : (moment : ℤ) (place : Place) (own : Own) (bytes : List ℕ) (packets : List Packet) (more : List Exchange) (later : List Packet) (asked : List Exchange) (out : List Packet) (new : TalkStage)
    → known_behind (known_in (Some own)) asked ≡ known_in (own_of new) → GoesOn moment place new packets more later → TakesHeader own bytes asked out new
    → GoesOn moment place (Header own) (Bytes bytes ∷ packets) (asked ++ more) (out ++ later)
header_then moment place own bytes packets more later asked out new known rest (inl (header, form, only)) =
    only_then moment place (Header own) (Bytes bytes) packets more later [] (Records own header) asked out new only
    (λ phase. phase_more moment place (known_in (Some own)) (known_in (Some own)) (HeaderLeft own) (RecordsLeft own header) (Bytes bytes) (Bytes bytes ∷ []) [] packets more later refl (λ l. refl)
    (λ hears asks answer left. header_read own header bytes hears asks answer form left) phase) rest
header_then moment place own bytes packets more later asked out new known rest (inr (none, d)) =
    quiet moment place (Header own) (Bytes bytes ∷ packets) (asked ++ more) out later d.out_is
    (phase_more moment place (known_in (Some own)) (known_in (Some d.left)) (HeaderLeft own) (DroppedLeft refusals.BadFileIndex) (Bytes bytes) (Bytes bytes ∷ []) asked packets more later
    (known ∙ ap (λ (s : TalkStage). known_in (own_of s)) d.new_is) (λ l. refl)
    (λ hears asks answer left. header_unread own bytes asked hears asks answer none (given_up own.runs own d.left asked d.gives_up) left)
    (dropped_then moment place own refusals.BadFileIndex packets more later asked out new d rest))

-- how a session goes on by a reply
runs_by : (own : Own) (reply : Reply) → (by_reply own reply).runs ≡ goes_on_by own.runs reply
runs_by own reply = ap (λ (k : Known). k.goes_on) (reply_known own reply)

-- its ticket stays
ticket_by : (own : Own) (reply : Reply) → (by_reply own reply).ticket ≡ own.ticket
ticket_by own reply = same_ticket (by_reply own reply).ticket own.ticket (ap (λ (k : Known). k.ticket) (reply_known own reply))

-- so a session is given up by what was known of it before
given_by : (own : Own) (reply : Reply) (asked : List Exchange) → IsGivenUp (by_reply own reply).runs (by_reply own reply).ticket asked → IsGivenUp (goes_on_by own.runs reply) own.ticket asked
given_by own reply asked given =
    subst (λ (t : ℕ). IsGivenUp (goes_on_by own.runs reply) t asked) (ticket_by own reply)
    (subst (λ (b : Bool). IsGivenUp b (by_reply own reply).ticket asked) (runs_by own reply) given)

appended_then : (moment : ℤ) (place : Place) (own : Own) (header : HeaderParts) (bytes : List ℕ) (packets : List Packet) (more : List Exchange) (later : List Packet) (reply : Reply) (taken : Bool)
    (asked : List Exchange) (out : List Packet) (new : TalkStage) → is_taken reply ≡ taken
    → known_behind (known_in (Some own)) (Stepped (events.Append own.ticket (record_of header bytes)) reply ∷ asked) ≡ known_in (own_of new)
    → GoesOn moment place new packets more later → AppendsIf taken own header reply asked out new
    → GoesOn moment place (Records own header) (Bytes bytes ∷ packets) ((Stepped (events.Append own.ticket (record_of header bytes)) reply ∷ asked) ++ more) (out ++ later)
appended_then moment place own header bytes packets more later reply true asked out new is known rest only =
    let t = taken_is reply is in
    let one : Exchange = Stepped (events.Append own.ticket (record_of header bytes)) reply in
    let given : Exchange = Stepped (events.Append own.ticket (record_of header bytes)) (replies.Taken t.0) in
    let same : given ≡ one = ap (λ (r : Reply). Stepped (events.Append own.ticket (record_of header bytes)) r) (sym t.1) in
    subst (λ (l : List Exchange). GoesOn moment place (Records own header) (Bytes bytes ∷ packets) ((one ∷ l) ++ more) (out ++ later)) (sym only.0)
    (quiet moment place (Records own header) (Bytes bytes ∷ packets) (one ∷ more) out later only.1
    (subst (λ (e : Exchange). GoesOn moment place (Records own header) (Bytes bytes ∷ packets) (e ∷ more) later) same
    (phase_more moment place (known_in (Some own)) (known_in (Some own)) (RecordsLeft own header) (RecordsLeft own header) (Bytes bytes) (Bytes bytes ∷ []) (given ∷ []) packets more later
    refl (λ l. refl) (λ hears asks answer left. record_taken own header bytes t.0 hears asks answer left)
    (subst (λ (s : TalkStage). GoesOn moment place s packets more later) only.2 rest))))
appended_then moment place own header bytes packets more later reply false asked out new is known rest d =
    let one : Exchange = Stepped (events.Append own.ticket (record_of header bytes)) reply in
    let left = by_reply own reply in
    quiet moment place (Records own header) (Bytes bytes ∷ packets) ((one ∷ asked) ++ more) out later d.out_is
    (phase_more moment place (known_in (Some own)) (known_in (Some d.left)) (RecordsLeft own header) (DroppedLeft (refusal_in reply)) (Bytes bytes) (Bytes bytes ∷ []) (one ∷ asked) packets more later
    (known ∙ ap (λ (s : TalkStage). known_in (own_of s)) d.new_is) (λ l. refl)
    (λ hears asks answer rest_left. record_refused own header bytes reply asked hears asks answer is (given_by own reply asked (given_up left.runs left d.left asked d.gives_up)) rest_left)
    (dropped_then moment place left (refusal_in reply) packets more later asked out new d rest))

record_then : (moment : ℤ) (place : Place) (own : Own) (header : HeaderParts) (bytes : List ℕ) (packets : List Packet) (more : List Exchange) (later : List Packet) (asked : List Exchange) (out : List Packet) (new : TalkStage)
    → known_behind (known_in (Some own)) asked ≡ known_in (own_of new) → GoesOn moment place new packets more later → TakesRecordPacket own header bytes asked out new
    → GoesOn moment place (Records own header) (Bytes bytes ∷ packets) (asked ++ more) (out ++ later)
record_then moment place own header bytes packets more later asked out new known rest t =
    let same = t.asked_is in
    subst (λ (l : List Exchange). GoesOn moment place (Records own header) (Bytes bytes ∷ packets) (l ++ more) (out ++ later)) (sym same)
    (appended_then moment place own header bytes packets more later t.reply (is_taken t.reply) t.more out new refl
    (ap (known_behind (known_in (Some own))) (sym same) ∙ known) rest t.behind_it)

dropped_more : (moment : ℤ) (place : Place) (own : Own) (refusal : Refusal) (bytes : List ℕ) (packets : List Packet) (more : List Exchange) (later : List Packet)
    → Phase moment place (known_in (Some own)) (DroppedLeft refusal) packets more later → Phase moment place (known_in (Some own)) (DroppedLeft refusal) (Bytes bytes ∷ packets) more later
dropped_more moment place own refusal bytes packets more later phase =
    phase_more moment place (known_in (Some own)) (known_in (Some own)) (DroppedLeft refusal) (DroppedLeft refusal) (Bytes bytes) (Bytes bytes ∷ []) [] packets more later refl (λ l. refl)
    (λ hears asks answer left. payload_dropped refusal bytes hears asks answer left) phase

refused_more : (moment : ℤ) (place : Place) (own : Own) (refusal : Refusal) (bytes : List ℕ) (packets : List Packet) (more : List Exchange) (later : List Packet)
    → Phase moment place (known_in (Some own)) (DroppedLeft refusal) packets more later → Phase moment place (known_in (Some own)) (RefusedLeft refusal) (Bytes bytes ∷ packets) more later
refused_more moment place own refusal bytes packets more later phase =
    phase_more moment place (known_in (Some own)) (known_in (Some own)) (RefusedLeft refusal) (DroppedLeft refusal) (Bytes bytes) (Bytes bytes ∷ []) [] packets more later refl (λ l. refl)
    (λ hears asks answer left. header_dropped refusal bytes hears asks answer left) phase

-- Payloads of a read.

span_then : (moment : ℤ) (place : Place) (plain : Bool) (own : Option Own) (text bytes : List ℕ) (packets : List Packet) (more : List Exchange) (later : List Packet) (asked : List Exchange) (out : List Packet) (new : TalkStage)
    → is_one_line (trimmed bytes) ≡ plain → GoesOn moment place new packets more later → TakesSpan plain own text (trimmed bytes) asked out new
    → GoesOn moment place (Spans own text) (Bytes bytes ∷ packets) (asked ++ more) (out ++ later)
span_then moment place true own text bytes packets more later asked out new is rest (inl (says, only)) =
    only_then moment place (Spans own text) (Bytes bytes) packets more later [] (Spans own (text ++ line (trimmed bytes))) asked out new only
    (λ read. read_more moment place (known_in own) (SpansLeft text) (SpansLeft (text ++ line (trimmed bytes))) bytes packets more later
    (λ payloads first out left. span_more text bytes payloads first out says left) read) rest
span_then moment place true own text bytes packets more later asked out new is rest (inr (inl (none, only))) =
    only_then moment place (Spans own text) (Bytes bytes) packets more later [] (BadSpans own refusals.BadSpan) asked out new only
    (λ read. read_more moment place (known_in own) (SpansLeft text) (RefusalLeft refusals.BadSpan) bytes packets more later
    (λ payloads first out left. span_bad text bytes payloads first out (inr none) left) read) rest
span_then moment place true own text bytes packets more later asked out new is rest (inr (inr only)) =
    only_then moment place (Spans own text) (Bytes bytes) packets more later [] (BadSpans own refusals.Memory) asked out new only
    (λ read. read_more moment place (known_in own) (SpansLeft text) (RefusalLeft refusals.Memory) bytes packets more later
    (λ payloads first out left. span_memory text bytes payloads first out left) read) rest
span_then moment place false own text bytes packets more later asked out new is rest only =
    only_then moment place (Spans own text) (Bytes bytes) packets more later [] (BadSpans own refusals.BadSpan) asked out new only
    (λ read. read_more moment place (known_in own) (SpansLeft text) (RefusalLeft refusals.BadSpan) bytes packets more later
    (λ payloads first out left. span_bad text bytes payloads first out (inl is) left) read) rest

pub bytes_then : (moment : ℤ) (place : Place) (old : TalkStage) (bytes : List ℕ) (packets : List Packet) (more : List Exchange) (later : List Packet) (asked : List Exchange) (out : List Packet) (new : TalkStage)
    → known_behind (known_in (own_of old)) asked ≡ known_in (own_of new) → GoesOn moment place new packets more later → TakesBytes moment old bytes asked out new
    → GoesOn moment place old (Bytes bytes ∷ packets) (asked ++ more) (out ++ later)
bytes_then moment place (Command own) bytes packets more later asked out new known rest t = command_then moment place own bytes packets more later asked out new known rest t
bytes_then moment place (Header own) bytes packets more later asked out new known rest t = header_then moment place own bytes packets more later asked out new known rest t
bytes_then moment place (Records own header) bytes packets more later asked out new known rest t = record_then moment place own header bytes packets more later asked out new known rest t
bytes_then moment place (Refused own refusal) bytes packets more later asked out new known rest t =
    only_then moment place (Refused own refusal) (Bytes bytes) packets more later [] (Dropped own refusal) asked out new t (refused_more moment place own refusal bytes packets more later) rest
bytes_then moment place (Dropped own refusal) bytes packets more later asked out new known rest t =
    only_then moment place (Dropped own refusal) (Bytes bytes) packets more later [] (Dropped own refusal) asked out new t (dropped_more moment place own refusal bytes packets more later) rest
bytes_then moment place (Spans own text) bytes packets more later asked out new known rest t =
    span_then moment place (is_one_line (trimmed bytes)) own text bytes packets more later asked out new refl rest t
bytes_then moment place (BadSpans own refusal) bytes packets more later asked out new known rest t =
    only_then moment place (BadSpans own refusal) (Bytes bytes) packets more later [] (BadSpans own refusal) asked out new t
    (λ read. read_more moment place (known_in own) (RefusalLeft refusal) (RefusalLeft refusal) bytes packets more later (λ payloads first out left. left) read) rest
bytes_then moment place (Over own) bytes packets more later asked out new known rest t =
    only_then moment place (Over own) (Bytes bytes) packets more later [] (Over own) asked out new t (λ over. over) rest
