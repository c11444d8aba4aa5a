-- Within a read: the packets of its spans until their end, and what becomes of them.
use Rattle.std.proofs.Common.{◌≡◌, ◌⊎◌, ℕ, ℤ, refl, sym, ap, subst, ◌∙◌, arith, inl, inr, false, List, [], ◌∷◌, ◌++◌, All, map, append_assoc, append-nil, Option, Result}
use Rattle.std.specs.List.{flat_map}
use Rattle.std.proofs.lemmas.List.Elements.{All-nil, All-push}
use Rattle.sd_base.specs.Record.{Record}
use Rattle.sd_base.specs.declared.number.SessionKey.{SessionKey}
use Rattle.sd_base.specs.declared.refusal.Refusal.{Refusal}
use Rattle.sd_base.specs.declared.refusal.Refusal.TheVariants.{BadSpan, Memory}
use Rattle.sd_bnet.specs.declared.packet.Packet.{Packet}
use Rattle.sd_bnet.specs.declared.packet.Packet.TheVariants.{Bytes, Signal}
use Rattle.sd_readback.specs.declared.read.ReadEnd.{ReadEnd}
use Rattle.sd_span.specs.JobMedia.{KeyFits, SpanFits, jobmedia_text, session_text, span_text}
use Rattle.sd_span.specs.declared.span.Span.{Span}
use Rattle.sd_span.proofs.TextLemmas.{jobmedia_is_one}
use Rattle.sd_text.specs.Lines.{line}
use Rattle.sd_append.specs.Command.{SpellsCommand}
use Rattle.sd_append.specs.Port.{Exchange, WasRead}
use Rattle.sd_append.specs.Talk.{IsSpanLine, ReadsBack, end_of_data, read_end_said, record_said, refused}
use Rattle.sd_append.specs.Text.{trimmed}
use Rattle.sd_append.specs.declared.command.Command.TheVariants as commands
use Rattle.sd_append.specs.declared.stage.Own.{Own}
use Rattle.sd_append.specs.declared.stage.TalkStage.{TalkStage}
use Rattle.sd_append.specs.declared.stage.TalkStage.TheVariants.{Command}
use Rattle.sd_append.specs.Phases.{OneSaysNoSpan, ReadsBy, SayEach, SaysNoSpan, heard, is_heard}
use Rattle.sd_append.specs.Sessions.{Known, known_behind}
use Rattle.sd_append.specs.Turns.{IsOfTurns, Place, Within}
use Rattle.sd_append.proofs.PhaseLemmas.{unheard}
use Rattle.sd_append.proofs.TurnLists.{LeavesOut}

-- What is left of a read: the payloads until its end, what is asked, and what goes out.

-- of a session, after these spans
abbrev pub ReadsFrom : SessionKey → List Span → List (List ℕ) → List Exchange → List Packet → Type 0
ReadsFrom key done texts asked says =
    ((spans : List Span) × (records : List Record) × (answer : Result ReadEnd Refusal) × SayEach texts spans
    × (asked ≡ WasRead key (done ++ spans) records answer ∷ []) × (says ≡ flat_map record_said records ++ end_of_data ∷ read_end_said answer ∷ []))
    ⊎ ((asked ≡ []) × (says ≡ end_of_data ∷ refused BadSpan ∷ []) × OneSaysNoSpan texts)
    ⊎ ((asked ≡ []) × (says ≡ end_of_data ∷ refused Memory ∷ []))

-- while each packet says a span, whatever session and spans the text until here is of
abbrev pub SpansLeft : List ℕ → List (List ℕ) → List Exchange → List Packet → Type 0
SpansLeft text payloads asked says =
    (key : SessionKey) (done : List Span) → KeyFits key → All SpanFits done → text ≡ jobmedia_text key done → ReadsFrom key done (map trimmed payloads) asked says

-- if one said none, or it was out of memory
abbrev pub RefusalLeft : Refusal → List (List ℕ) → List Exchange → List Packet → Type 0
RefusalLeft refusal payloads asked says = (asked ≡ []) × (says ≡ end_of_data ∷ refused refusal ∷ [])

lines_more : (done : List Span) (span : Span)
    → flat_map (λ (s : Span). line (span_text s)) (done ++ span ∷ []) ≡ flat_map (λ (s : Span). line (span_text s)) done ++ line (span_text span)
lines_more [] span = append-nil (line (span_text span))
lines_more (s ∷ done) span =
    ap (λ (l : List ℕ). line (span_text s) ++ l) (lines_more done span)
    ∙ sym (append_assoc (line (span_text s)) (flat_map (λ (x : Span). line (span_text x)) done) (line (span_text span)))

-- a span more is its line after the text
text_more : (key : SessionKey) (done : List Span) (span : Span) → jobmedia_text key (done ++ span ∷ []) ≡ jobmedia_text key done ++ line (span_text span)
text_more key done span =
    ap (λ (l : List ℕ). line (session_text key) ++ l) (lines_more done span)
    ∙ sym (append_assoc (line (session_text key)) (flat_map (λ (s : Span). line (span_text s)) done) (line (span_text span)))

-- one that says a span
from_more : (key : SessionKey) (done : List Span) (span : Span) (one : List ℕ) (texts : List (List ℕ)) (asked : List Exchange) (says : List Packet) → SpanFits span → one ≡ span_text span
    → ReadsFrom key (done ++ span ∷ []) texts asked says → ReadsFrom key done (one ∷ texts) asked says
from_more key done span one texts asked says fits is (inl (spans, records, answer, each, asked_is, says_is)) =
    inl (
      span ∷ spans,
      records,
      answer,
      (fits, is, each),
      asked_is ∙ ap (λ (l : List Span). WasRead key l records answer ∷ []) (append_assoc done (span ∷ []) spans),
      says_is,
    )
from_more key done span one texts asked says fits is (inr (inl (asked_is, says_is, (before, bad, behind, are, none)))) =
    inr (inl (asked_is, says_is, (one ∷ before, bad, behind, ap (λ (l : List (List ℕ)). one ∷ l) are, none)))
from_more key done span one texts asked says fits is (inr (inr memory)) = inr (inr memory)

pub span_more : (text bytes : List ℕ) (payloads : List (List ℕ)) (asked : List Exchange) (says : List Packet) → IsSpanLine (trimmed bytes)
    → SpansLeft (text ++ line (trimmed bytes)) payloads asked says → SpansLeft text (bytes ∷ payloads) asked says
span_more text bytes payloads asked says (span, fits, is) left key done key_fits done_fit text_is =
    from_more key done span (trimmed bytes) (map trimmed payloads) asked says fits is
    (left key (done ++ span ∷ []) key_fits (All-push SpanFits done span done_fit fits)
    (ap (λ (l : List ℕ). l ++ line (trimmed bytes)) text_is ∙ ap (λ (l : List ℕ). jobmedia_text key done ++ line l) is ∙ sym (text_more key done span)))

-- one that says none
pub span_bad : (text bytes : List ℕ) (payloads : List (List ℕ)) (asked : List Exchange) (says : List Packet) → SaysNoSpan (trimmed bytes) → RefusalLeft BadSpan payloads asked says
    → SpansLeft text (bytes ∷ payloads) asked says
span_bad text bytes payloads asked says none left key done key_fits done_fit text_is =
    inr (inl (left.0, left.1, ([], trimmed bytes, map trimmed payloads, refl, none)))

-- there is no memory for one
pub span_memory : (text bytes : List ℕ) (payloads : List (List ℕ)) (asked : List Exchange) (says : List Packet) → RefusalLeft Memory payloads asked says
    → SpansLeft text (bytes ∷ payloads) asked says
span_memory text bytes payloads asked says left key done key_fits done_fit text_is = inr (inr left)

-- at the end of the spans
pub spans_end : (own : Option Own) (text : List ℕ) (asked : List Exchange) (out : List Packet) (new : TalkStage) → ReadsBack own text asked out new
    → SpansLeft text [] asked out × (new ≡ Command own)
spans_end own text asked out new (inl (key, spans, records, answer, is, asked_is, out_is, stands)) = (
  (λ of done key_fits done_fit text_is.
      (let one = jobmedia_is_one text key of spans done is (record { key_fits = key_fits; spans_fit = done_fit; written = inl text_is }) in
      inl (
        [],
        records,
        answer,
        tt,
        asked_is ∙ ap (λ (k : SessionKey). WasRead k spans records answer ∷ []) one.0
            ∙ ap (λ (l : List Span). WasRead of l records answer ∷ []) (one.1 ∙ sym (append-nil done)),
        out_is,
      ))),
  stands,
)
spans_end own text asked out new (inr (inl (none, only))) = (
  (λ of done key_fits done_fit text_is. absurd (none of done (record { key_fits = key_fits; spans_fit = done_fit; written = inl text_is }))),
  only.2,
)
spans_end own text asked out new (inr (inr only)) = ((λ of done key_fits done_fit text_is. inr (inr (only.0, only.1))), only.2)

-- the spans of a command's session
pub read_back : (key : SessionKey) (bytes : List ℕ) (payloads : List (List ℕ)) (asked : List Exchange) (says : List Packet) → SpellsCommand bytes (commands.Read key)
    → SpansLeft (line (session_text key)) payloads asked says → ReadsBy key (map trimmed payloads) asked says
read_back key bytes payloads asked says spells left =
    let body = spells.shape.body in
    left key [] (record { time_fits = omega (arith, body.1.1); id_fits = omega (arith, body.2.1) }) (All-nil SpanFits) (sym (append-nil (line (session_text key))))

-- Packets of a read.

-- the read comes to its end, and turns follow it
pub record ReadEnds (moment : ℤ) (place : Place) (known : Known) (Left : List (List ℕ) → List Exchange → List Packet → Type 0) (packets : List Packet) (asked : List Exchange) (out : List Packet) : Type 0 where
  pub phase : List Packet
  pub payloads : List (List ℕ)
  pub behind : List Packet
  pub first : List Exchange
  pub more : List Exchange
  pub says : List Packet
  pub later : List Packet
  pub heard_is : heard phase ≡ map Bytes payloads
  pub left : Left payloads first says
  pub turns : IsOfTurns moment place (known_behind known first) behind more later
  pub packets_are : packets ≡ phase ++ end_of_data ∷ behind
  pub asked_is : asked ≡ first ++ more
  pub out_is : out ≡ says ++ later

-- or it doesn't
pub record ReadStops (place : Place) (packets : List Packet) (asked : List Exchange) (out : List Packet) : Type 0 where
  pub phase : List Packet
  pub payloads : List (List ℕ)
  pub left_out : List Packet
  pub heard_is : heard phase ≡ map Bytes payloads
  pub leaves : LeavesOut Within place left_out
  pub packets_are : packets ≡ phase ++ left_out
  pub asked_is : asked ≡ []
  pub out_is : out ≡ []

-- these packets go on with a read
abbrev pub Read : ℤ → Place → Known → (List (List ℕ) → List Exchange → List Packet → Type 0) → List Packet → List Exchange → List Packet → Type 0
Read moment place known Left packets asked out = ReadEnds moment place known Left packets asked out ⊎ ReadStops place packets asked out

-- one packet of a span more before others
pub read_more : (moment : ℤ) (place : Place) (known : Known) (Left Later : List (List ℕ) → List Exchange → List Packet → Type 0) (bytes : List ℕ) (packets : List Packet) (asked : List Exchange) (out : List Packet)
    → ((payloads : List (List ℕ)) (first : List Exchange) (says : List Packet) → Later payloads first says → Left (bytes ∷ payloads) first says)
    → Read moment place known Later packets asked out → Read moment place known Left (Bytes bytes ∷ packets) asked out
read_more moment place known Left Later bytes packets asked out turn (inl e) = inl (record {
  phase = Bytes bytes ∷ e.phase;
  payloads = bytes ∷ e.payloads;
  behind = e.behind;
  first = e.first;
  more = e.more;
  says = e.says;
  later = e.later;
  heard_is = ap (λ (l : List Packet). Bytes bytes ∷ l) e.heard_is;
  left = turn e.payloads e.first e.says e.left;
  turns = e.turns;
  packets_are = ap (λ (l : List Packet). Bytes bytes ∷ l) e.packets_are;
  asked_is = e.asked_is;
  out_is = e.out_is;
})
read_more moment place known Left Later bytes packets asked out turn (inr s) = inr (record {
  phase = Bytes bytes ∷ s.phase;
  payloads = bytes ∷ s.payloads;
  left_out = s.left_out;
  heard_is = ap (λ (l : List Packet). Bytes bytes ∷ l) s.heard_is;
  leaves = s.leaves;
  packets_are = ap (λ (l : List Packet). Bytes bytes ∷ l) s.packets_are;
  asked_is = s.asked_is;
  out_is = s.out_is;
})

-- a signal that isn't heard
pub read_passes : (moment : ℤ) (place : Place) (known : Known) (Left : List (List ℕ) → List Exchange → List Packet → Type 0) (number : ℤ) (packets : List Packet) (asked : List Exchange) (out : List Packet)
    → is_heard number ≡ false → Read moment place known Left packets asked out → Read moment place known Left (Signal number ∷ packets) asked out
read_passes moment place known Left number packets asked out is (inl e) = inl (record {
  phase = Signal number ∷ e.phase;
  payloads = e.payloads;
  behind = e.behind;
  first = e.first;
  more = e.more;
  says = e.says;
  later = e.later;
  heard_is = unheard number e.phase is ∙ e.heard_is;
  left = e.left;
  turns = e.turns;
  packets_are = ap (λ (l : List Packet). Signal number ∷ l) e.packets_are;
  asked_is = e.asked_is;
  out_is = e.out_is;
})
read_passes moment place known Left number packets asked out is (inr s) = inr (record {
  phase = Signal number ∷ s.phase;
  payloads = s.payloads;
  left_out = s.left_out;
  heard_is = unheard number s.phase is ∙ s.heard_is;
  leaves = s.leaves;
  packets_are = ap (λ (l : List Packet). Signal number ∷ l) s.packets_are;
  asked_is = s.asked_is;
  out_is = s.out_is;
})

-- the read is at its end
pub read_ends : (moment : ℤ) (place : Place) (known between : Known) (Left : List (List ℕ) → List Exchange → List Packet → Type 0) (first : List Exchange) (says : List Packet)
    (packets : List Packet) (asked : List Exchange) (out : List Packet) → known_behind known first ≡ between
    → Left [] first says → IsOfTurns moment place between packets asked out → Read moment place known Left (end_of_data ∷ packets) (first ++ asked) (says ++ out)
read_ends moment place known between Left first says packets asked out same left turns = inl (record {
  phase = [];
  payloads = [];
  behind = packets;
  first = first;
  more = asked;
  says = says;
  later = out;
  heard_is = refl;
  left = left;
  turns = subst (λ (k : Known). IsOfTurns moment place k packets asked out) (sym same) turns;
  packets_are = refl;
  asked_is = refl;
  out_is = refl;
})

-- nothing of it is heard any more
pub read_stops : (moment : ℤ) (place : Place) (known : Known) (Left : List (List ℕ) → List Exchange → List Packet → Type 0) (left_out : List Packet) → LeavesOut Within place left_out
    → Read moment place known Left left_out [] []
read_stops moment place known Left left_out is = inr (record {
  phase = [];
  payloads = [];
  left_out = left_out;
  heard_is = refl;
  leaves = is;
  packets_are = refl;
  asked_is = refl;
  out_is = refl;
})
