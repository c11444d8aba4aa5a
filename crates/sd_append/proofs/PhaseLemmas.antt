-- Within a data phase: what is heard until its end, and what becomes of it.
use Rattle.std.proofs.Common.{◌≡◌, ◌⊎◌, ℕ, ℤ, refl, sym, ap, subst, ◌∙◌, inl, inr, Bool, false, if◌then◌else◌, List, [], ◌∷◌, ◌++◌, map, append_assoc, append-nil}
use Rattle.std.proofs.lemmas.Bool.{true≢false}
use Rattle.sd_base.specs.Record.{Record}
use Rattle.sd_base.specs.declared.refusal.Refusal.{Refusal}
use Rattle.sd_base.specs.declared.refusal.Refusal.TheVariants.{BadFileIndex}
use Rattle.sd_bnet.specs.declared.packet.Packet.{Packet}
use Rattle.sd_bnet.specs.declared.packet.Packet.TheVariants.{Bytes, Signal}
use Rattle.sd_machine.specs.declared.event.Event.TheVariants as events
use Rattle.sd_machine.specs.declared.reply.Reply.{Reply}
use Rattle.sd_machine.specs.declared.reply.Reply.TheVariants as replies
use Rattle.sd_append.specs.Header.{HasHeaderForm, HeaderParts}
use Rattle.sd_append.specs.Port.{Exchange, Stepped}
use Rattle.sd_append.specs.TalkStage.{is_taken, refusal_in}
use Rattle.sd_append.specs.Talk.{end_of_data, record_of, said}
use Rattle.sd_append.specs.declared.line.ReplyLine.{ReplyLine}
use Rattle.sd_append.specs.declared.line.ReplyLine.TheVariants as lines
use Rattle.sd_append.specs.declared.stage.Own.{Own}
use Rattle.sd_append.specs.Phases.{AskFor, BecomesOf, Group, StopsAtHeader, heard, packets_of, is_heard}
use Rattle.sd_append.specs.Sessions.{IsGivenUp, Known, goes_on_by, known_behind}
use Rattle.sd_append.specs.Turns.{IsOfTurns, Place, Within}
use Rattle.sd_append.proofs.AskedLemmas.{known_append}
use Rattle.sd_append.proofs.TurnLists.{LeavesOut}

-- What is left of a phase: what is heard until its end, what is asked, and the answer that is due then.

-- where a header is due
pub record HeaderLeft (own : Own) (hears : List Packet) (asked : List Exchange) (answer : ReplyLine) : Type 0 where
  pub groups : List Group
  pub records : List Record
  pub unread : List Group
  pub heard_is : hears ≡ packets_of groups
  pub ask_for : AskFor groups records unread
  pub becomes : BecomesOf own.ticket own.runs records unread asked answer

-- under a header
pub record RecordsLeft (own : Own) (header : HeaderParts) (hears : List Packet) (asked : List Exchange) (answer : ReplyLine) : Type 0 where
  pub payloads : List (List ℕ)
  pub groups : List Group
  pub records : List Record
  pub unread : List Group
  pub heard_is : hears ≡ map Bytes payloads ++ end_of_data ∷ packets_of groups
  pub ask_for : AskFor groups records unread
  pub becomes : BecomesOf own.ticket own.runs (map (record_of header) payloads ++ records) unread asked answer

-- where a header is due, of a phase that was refused
pub record RefusedLeft (refusal : Refusal) (hears : List Packet) (asked : List Exchange) (answer : ReplyLine) : Type 0 where
  pub groups : List Group
  pub heard_is : hears ≡ packets_of groups
  pub asked_is : asked ≡ []
  pub answer_is : answer ≡ lines.Refused refusal

-- under a header, of such a phase
pub record DroppedLeft (refusal : Refusal) (hears : List Packet) (asked : List Exchange) (answer : ReplyLine) : Type 0 where
  pub payloads : List (List ℕ)
  pub groups : List Group
  pub heard_is : hears ≡ map Bytes payloads ++ end_of_data ∷ packets_of groups
  pub asked_is : asked ≡ []
  pub answer_is : answer ≡ lines.Refused refusal

-- At the end.

pub no_header : (own : Own) → HeaderLeft own [] [] lines.Appended
no_header own = record { groups = []; records = []; unread = []; heard_is = refl; ask_for = (refl, refl); becomes = inl (refl, refl, refl) }

pub no_header_refused : (refusal : Refusal) → RefusedLeft refusal [] [] (lines.Refused refusal)
no_header_refused refusal = record { groups = []; heard_is = refl; asked_is = refl; answer_is = refl }

pub header_behind : (own : Own) (header : HeaderParts) (hears : List Packet) (asked : List Exchange) (answer : ReplyLine) → HeaderLeft own hears asked answer
    → RecordsLeft own header (end_of_data ∷ hears) asked answer
header_behind own header hears asked answer l = record {
  payloads = [];
  groups = l.groups;
  records = l.records;
  unread = l.unread;
  heard_is = ap (λ (hs : List Packet). end_of_data ∷ hs) l.heard_is;
  ask_for = l.ask_for;
  becomes = l.becomes;
}

pub refused_behind : (refusal : Refusal) (hears : List Packet) (asked : List Exchange) (answer : ReplyLine) → RefusedLeft refusal hears asked answer
    → DroppedLeft refusal (end_of_data ∷ hears) asked answer
refused_behind refusal hears asked answer l = record {
  payloads = [];
  groups = l.groups;
  heard_is = ap (λ (hs : List Packet). end_of_data ∷ hs) l.heard_is;
  asked_is = l.asked_is;
  answer_is = l.answer_is;
}

-- Payloads.

-- a header
pub header_read : (own : Own) (header : HeaderParts) (bytes : List ℕ) (hears : List Packet) (asked : List Exchange) (answer : ReplyLine) → HasHeaderForm bytes header
    → RecordsLeft own header hears asked answer → HeaderLeft own (Bytes bytes ∷ hears) asked answer
header_read own header bytes hears asked answer form l =
    let group : Group = record { header = bytes; payloads = l.payloads } in
    record {
      groups = group ∷ l.groups;
      records = map (record_of header) l.payloads ++ l.records;
      unread = l.unread;
      heard_is = ap (λ (hs : List Packet). Bytes bytes ∷ hs) l.heard_is;
      ask_for = inl (header, l.records, form, l.ask_for, refl);
      becomes = l.becomes;
    }

-- nothing of groups is read
none_read : (groups : List Group) → AskFor groups [] groups
none_read [] = (refl, refl)
none_read (group ∷ groups) = inr (refl, refl)

-- nothing is asked after these
asks_none : (a b : List Exchange) → b ≡ [] → a ++ b ≡ a
asks_none a b none = ap (λ (l : List Exchange). a ++ l) none ∙ append-nil a

-- a header that can't be read
pub header_unread : (own : Own) (bytes : List ℕ) (gives_up : List Exchange) (hears : List Packet) (asked : List Exchange) (answer : ReplyLine)
    → ((header : HeaderParts) → HasHeaderForm bytes header → ⊥) → IsGivenUp own.runs own.ticket gives_up → DroppedLeft BadFileIndex hears asked answer
    → HeaderLeft own (Bytes bytes ∷ hears) (gives_up ++ asked) answer
header_unread own bytes gives_up hears asked answer none given l =
    let group : Group = record { header = bytes; payloads = l.payloads } in
    let stops : StopsAtHeader own.ticket own.runs [] (gives_up ++ asked) = record {
      takes = [];
      gives_up = gives_up;
      asked_is = asks_none gives_up asked l.asked_is;
      are_taken = refl;
      given_up = given;
    } in
    record {
      groups = group ∷ l.groups;
      records = [];
      unread = group ∷ l.groups;
      heard_is = ap (λ (hs : List Packet). Bytes bytes ∷ hs) l.heard_is;
      ask_for = inr (refl, refl);
      becomes = inr (inr (none, stops, l.answer_is));
    }

-- one record more before others
becomes_more : (ticket : ℕ) (goes_on : Bool) (r : Record) (count : ℕ) (records : List Record) (unread : List Group) (asked : List Exchange) (answer : ReplyLine)
    → BecomesOf ticket goes_on records unread asked answer
    → BecomesOf ticket goes_on (r ∷ records) unread (Stepped (events.Append ticket r) (replies.Taken count) ∷ asked) answer
becomes_more ticket goes_on r count records unread asked answer (inl (all, taken, is)) = inl (all, (count, asked, refl, taken), is)
becomes_more ticket goes_on r count records unread asked answer (inr (inl (refusal, stops, is))) =
    let one : Exchange = Stepped (events.Append ticket r) (replies.Taken count) in
    inr (inl (
      refusal,
      record {
        taken = r ∷ stops.taken;
        first_not = stops.first_not;
        untried = stops.untried;
        takes = one ∷ stops.takes;
        reply = stops.reply;
        gives_up = stops.gives_up;
        records_are = ap (λ (l : List Record). r ∷ l) stops.records_are;
        asked_is = ap (λ (l : List Exchange). one ∷ l) stops.asked_is;
        are_taken = (count, stops.takes, refl, stops.are_taken);
        not_taken = stops.not_taken;
        refusal_is = stops.refusal_is;
        given_up = stops.given_up;
      },
      is,
    ))
becomes_more ticket goes_on r count records unread asked answer (inr (inr (begins, stops, is))) =
    let one : Exchange = Stepped (events.Append ticket r) (replies.Taken count) in
    inr (inr (
      begins,
      record {
        takes = one ∷ stops.takes;
        gives_up = stops.gives_up;
        asked_is = ap (λ (l : List Exchange). one ∷ l) stops.asked_is;
        are_taken = (count, stops.takes, refl, stops.are_taken);
        given_up = stops.given_up;
      },
      is,
    ))

-- a record that is taken
pub record_taken : (own : Own) (header : HeaderParts) (bytes : List ℕ) (count : ℕ) (hears : List Packet) (asked : List Exchange) (answer : ReplyLine)
    → RecordsLeft own header hears asked answer
    → RecordsLeft own header (Bytes bytes ∷ hears) (Stepped (events.Append own.ticket (record_of header bytes)) (replies.Taken count) ∷ asked) answer
record_taken own header bytes count hears asked answer l = record {
  payloads = bytes ∷ l.payloads;
  groups = l.groups;
  records = l.records;
  unread = l.unread;
  heard_is = ap (λ (hs : List Packet). Bytes bytes ∷ hs) l.heard_is;
  ask_for = l.ask_for;
  becomes = becomes_more own.ticket own.runs (record_of header bytes) count (map (record_of header) l.payloads ++ l.records) l.unread asked answer l.becomes;
}

-- a record that isn't
pub record_refused : (own : Own) (header : HeaderParts) (bytes : List ℕ) (reply : Reply) (gives_up : List Exchange) (hears : List Packet) (asked : List Exchange) (answer : ReplyLine)
    → is_taken reply ≡ false → IsGivenUp (goes_on_by own.runs reply) own.ticket gives_up → DroppedLeft (refusal_in reply) hears asked answer
    → RecordsLeft own header (Bytes bytes ∷ hears) (Stepped (events.Append own.ticket (record_of header bytes)) reply ∷ (gives_up ++ asked)) answer
record_refused own header bytes reply gives_up hears asked answer refuses given l =
    let one : Exchange = Stepped (events.Append own.ticket (record_of header bytes)) reply in
    record {
      payloads = bytes ∷ l.payloads;
      groups = l.groups;
      records = [];
      unread = l.groups;
      heard_is = ap (λ (hs : List Packet). Bytes bytes ∷ hs) l.heard_is;
      ask_for = none_read l.groups;
      becomes = inr (inl (
        refusal_in reply,
        record {
          taken = [];
          first_not = record_of header bytes;
          untried = map (record_of header) l.payloads ++ [];
          takes = [];
          reply = reply;
          gives_up = gives_up;
          records_are = refl;
          asked_is = ap (λ (l : List Exchange). one ∷ l) (asks_none gives_up asked l.asked_is);
          are_taken = refl;
          not_taken = λ count is. true≢false (sym (ap is_taken is) ∙ refuses);
          refusal_is = refl;
          given_up = given;
        },
        l.answer_is,
      ));
    }

-- a payload that is dropped
pub payload_dropped : (refusal : Refusal) (bytes : List ℕ) (hears : List Packet) (asked : List Exchange) (answer : ReplyLine) → DroppedLeft refusal hears asked answer
    → DroppedLeft refusal (Bytes bytes ∷ hears) asked answer
payload_dropped refusal bytes hears asked answer l = record {
  payloads = bytes ∷ l.payloads;
  groups = l.groups;
  heard_is = ap (λ (hs : List Packet). Bytes bytes ∷ hs) l.heard_is;
  asked_is = l.asked_is;
  answer_is = l.answer_is;
}

-- a header that is dropped
pub header_dropped : (refusal : Refusal) (bytes : List ℕ) (hears : List Packet) (asked : List Exchange) (answer : ReplyLine) → DroppedLeft refusal hears asked answer
    → RefusedLeft refusal (Bytes bytes ∷ hears) asked answer
header_dropped refusal bytes hears asked answer l =
    let group : Group = record { header = bytes; payloads = l.payloads } in
    record { groups = group ∷ l.groups; heard_is = ap (λ (hs : List Packet). Bytes bytes ∷ hs) l.heard_is; asked_is = l.asked_is; answer_is = l.answer_is }

-- Packets of a phase.

-- the phase comes to its end, and turns follow it
pub record PhaseEnds (moment : ℤ) (place : Place) (known : Known) (Left : List Packet → List Exchange → ReplyLine → Type 0) (packets : List Packet) (asked : List Exchange) (out : List Packet) : Type 0 where
  pub phase : List Packet
  pub behind : List Packet
  pub first : List Exchange
  pub more : List Exchange
  pub answer : ReplyLine
  pub later : List Packet
  pub left : Left (heard phase) first answer
  pub turns : IsOfTurns moment place (known_behind known first) behind more later
  pub packets_are : packets ≡ phase ++ end_of_data ∷ behind
  pub asked_is : asked ≡ first ++ more
  pub out_is : out ≡ said answer ∷ later

-- or it doesn't
pub record PhaseStops (place : Place) (Left : List Packet → List Exchange → ReplyLine → Type 0) (packets : List Packet) (asked : List Exchange) (out : List Packet) : Type 0 where
  pub phase : List Packet
  pub left_out : List Packet
  pub missing : List Packet
  pub due : ReplyLine
  pub left : Left (heard phase ++ missing) asked due
  pub leaves : LeavesOut Within place left_out
  pub missing_is : (missing ≡ []) ⊎ (missing ≡ end_of_data ∷ [])
  pub packets_are : packets ≡ phase ++ left_out
  pub out_is : out ≡ []

-- these packets go on with a phase
abbrev pub Phase : ℤ → Place → Known → (List Packet → List Exchange → ReplyLine → Type 0) → List Packet → List Exchange → List Packet → Type 0
Phase moment place known Left packets asked out = PhaseEnds moment place known Left packets asked out ⊎ PhaseStops place Left packets asked out

-- one packet more before others, of which this is heard, and for which this is asked
pub phase_more : (moment : ℤ) (place : Place) (known between : Known) (Left Later : List Packet → List Exchange → ReplyLine → Type 0) (packet : Packet) (hears : List Packet) (a : List Exchange)
    (packets : List Packet) (asked : List Exchange) (out : List Packet)
    → known_behind known a ≡ between → ((rest : List Packet) → heard (packet ∷ rest) ≡ hears ++ heard rest)
    → ((rest : List Packet) (more : List Exchange) (answer : ReplyLine) → Later rest more answer → Left (hears ++ rest) (a ++ more) answer)
    → Phase moment place between Later packets asked out → Phase moment place known Left (packet ∷ packets) (a ++ asked) out
phase_more moment place known between Left Later packet hears a packets asked out same hear turn (inl e) = inl (record {
  phase = packet ∷ e.phase;
  behind = e.behind;
  first = a ++ e.first;
  more = e.more;
  answer = e.answer;
  later = e.later;
  left = subst (λ (l : List Packet). Left l (a ++ e.first) e.answer) (sym (hear e.phase)) (turn (heard e.phase) e.first e.answer e.left);
  turns = subst (λ (k : Known). IsOfTurns moment place k e.behind e.more e.later)
      (sym (known_append a e.first known ∙ ap (λ (k : Known). known_behind k e.first) same)) e.turns;
  packets_are = ap (λ (l : List Packet). packet ∷ l) e.packets_are;
  asked_is = ap (λ (l : List Exchange). a ++ l) e.asked_is ∙ sym (append_assoc a e.first e.more);
  out_is = e.out_is;
})
phase_more moment place known between Left Later packet hears a packets asked out same hear turn (inr s) = inr (record {
  phase = packet ∷ s.phase;
  left_out = s.left_out;
  missing = s.missing;
  due = s.due;
  left = subst (λ (l : List Packet). Left l (a ++ asked) s.due)
      (sym (ap (λ (l : List Packet). l ++ s.missing) (hear s.phase) ∙ append_assoc hears (heard s.phase) s.missing))
      (turn (heard s.phase ++ s.missing) asked s.due s.left);
  leaves = s.leaves;
  missing_is = s.missing_is;
  packets_are = ap (λ (l : List Packet). packet ∷ l) s.packets_are;
  out_is = s.out_is;
})

-- a signal that isn't heard
pub unheard : (number : ℤ) (rest : List Packet) → is_heard number ≡ false → heard (Signal number ∷ rest) ≡ heard rest
unheard number rest is = ap (λ (b : Bool). if b then Signal number ∷ heard rest else heard rest) is

pub phase_passes : (moment : ℤ) (place : Place) (known : Known) (Left : List Packet → List Exchange → ReplyLine → Type 0) (number : ℤ) (packets : List Packet) (asked : List Exchange) (out : List Packet)
    → is_heard number ≡ false → Phase moment place known Left packets asked out → Phase moment place known Left (Signal number ∷ packets) asked out
phase_passes moment place known Left number packets asked out is p =
    phase_more moment place known known Left Left (Signal number) [] [] packets asked out refl (λ rest. unheard number rest is) (λ rest more answer l. l) p

-- the phase is at its end
pub phase_ends : (moment : ℤ) (place : Place) (known : Known) (Left : List Packet → List Exchange → ReplyLine → Type 0) (answer : ReplyLine) (packets : List Packet) (asked : List Exchange) (out : List Packet)
    → Left [] [] answer → IsOfTurns moment place known packets asked out → Phase moment place known Left (end_of_data ∷ packets) asked (said answer ∷ out)
phase_ends moment place known Left answer packets asked out left turns = inl (record {
  phase = [];
  behind = packets;
  first = [];
  more = asked;
  answer = answer;
  later = out;
  left = left;
  turns = turns;
  packets_are = refl;
  asked_is = refl;
  out_is = refl;
})

-- nothing of it is heard any more
pub phase_stops : (moment : ℤ) (place : Place) (known : Known) (Left : List Packet → List Exchange → ReplyLine → Type 0) (missing : List Packet) (due : ReplyLine) (left_out : List Packet)
    → Left missing [] due → (missing ≡ []) ⊎ (missing ≡ end_of_data ∷ []) → LeavesOut Within place left_out → Phase moment place known Left left_out [] []
phase_stops moment place known Left missing due left_out left is leaves = inr (record {
  phase = [];
  left_out = left_out;
  missing = missing;
  due = due;
  left = left;
  leaves = leaves;
  missing_is = is;
  packets_are = refl;
  out_is = refl;
})
