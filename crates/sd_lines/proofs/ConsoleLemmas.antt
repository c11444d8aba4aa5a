-- What answers a console's line is lines, each with its newline; and the talk's session is left, or given up.
use Rattle.std.proofs.Common.{◌≡◌, ℕ, ℤ, refl, subst, sym, List, [], ◌∷◌, codes}
use Rattle.std.specs.Prelude.{All, IfOk, Ok, Err, Option}
use Rattle.std.specs.List.{flat_map}
use Rattle.sd_append.specs.Port.{IsLine}
use Rattle.sd_console.proofs.AnswerLemmas.{one_line, shown_lines, told_lines}
use Rattle.sd_base.specs.declared.number.SessionKey.{SessionKey}
use Rattle.sd_console.specs.Lines.{Shows}
use Rattle.sd_console.specs.Replies.{reply_line}
use Rattle.sd_console.specs.Told.{Answer, TellsReply}
use Rattle.sd_console.specs.Requests.{requests_lines}
use Rattle.sd_console.specs.Status.{status_lines}
use Rattle.sd_driver.specs.Meaning.{Meaning}
use Rattle.sd_journal.specs.Journal.{Entry, placements}
use Rattle.sd_line.specs.Operates.{MayOperate}
use Rattle.sd_line.specs.Parts.{PartIs}
use Rattle.sd_lines.specs.Console.{AnswersLine, IsDone, Obeys, TellsSpans}
use Rattle.sd_machine.specs.declared.event.Event.{Event}
use Rattle.sd_machine.specs.declared.event.Event.TheVariants as event
use Rattle.sd_machine.specs.declared.reply.Reply.{Reply}
use Rattle.sd_machine.specs.declared.reply.Reply.TheVariants.{Adopted, Labelled, Media}
use Rattle.sd_script.specs.Grammar.{HasForm}
use Rattle.sd_script.specs.declared.line.ScriptLine.TheVariants.{Console}
use Rattle.sd_script.specs.declared.console.ConsoleCmd.{ConsoleCmd}
use Rattle.sd_script.specs.declared.console.ConsoleCmd.TheVariants.{Label, Adopt, Mount, Unmount, Retire, Purge, Cancel, JobMedia, Status, Requests}
use Rattle.sd_span.specs.Spans.{spans_of}
use Rattle.sd_span.specs.declared.span.Span.{Span}
use Rattle.sd_text.specs.Lines.{line}

-- one line
alone : (text : List ℕ) (lines : List (List ℕ)) → lines ≡ line text ∷ [] → All IsLine lines
alone text lines is = subst (λ (ls : List (List ℕ)). All IsLine ls) (sym is) (one_line text)

pub obeyed_lines : {D : Type 0} (meaning : D → Meaning) (moment : ℤ) (command : ConsoleCmd) (lines : List (List ℕ)) (old new : Option PartIs)
    → Obeys meaning moment command lines old new → All IsLine lines
obeyed_lines meaning moment (Label drive volume pool media) lines old new o = alone (codes "ok labelled") lines o.0.1
obeyed_lines meaning moment (Adopt drive volume) lines old new o = alone (reply_line (Adopted o.0 o.1)) lines o.2.1
obeyed_lines meaning moment (Mount drive volume) lines old new o = alone (codes "ok mounted") lines o.1.1
obeyed_lines meaning moment (Unmount drive) lines old new o = alone (codes "ok unmounted") lines o.0.1
obeyed_lines meaning moment (Retire drive) lines old new o = absurd o
obeyed_lines meaning moment (Purge drive volume) lines old new o = absurd o
obeyed_lines meaning moment (Cancel ticket) lines old new o = alone (codes "ok cancelled") lines o.1
obeyed_lines meaning moment (JobMedia ticket) lines old new o = told_lines o.0.0 (Media (spans_of o.0.0 (placements o.0.2))) (Ok lines) o.0.3
obeyed_lines meaning moment Status lines old new o = shown_lines (flat_map line (status_lines o.0.0)) (Ok lines) o.0.1
obeyed_lines meaning moment Requests lines old new o = shown_lines (flat_map line (requests_lines o.0.0)) (Ok lines) o.0.1

-- an event that a drive answered so is done
pub done_as : {D : Type 0} (meaning : D → Meaning) (own drive : ℕ) (given told_of : Event) (reply told : Reply) (text : List ℕ) (lines : List (List ℕ)) → own ≡ drive → given ≡ told_of → reply ≡ told
    → MayOperate meaning own given reply → lines ≡ line text ∷ [] → IsDone meaning drive told_of told text lines
done_as meaning own drive given told_of reply told text lines at same is may lines_are = (
  subst (λ (n : ℕ). MayOperate meaning n told_of told) at (subst (λ (x : Event). MayOperate meaning own x told) same (subst (λ (r : Reply). MayOperate meaning own given r) is may)),
  lines_are,
)

-- a text of something is told
pub told_as : {X : Type 0} (text_of : X → List ℕ) (x : X) (text : List ℕ) (answer : Answer) → text ≡ text_of x → Shows text answer
    → IfOk answer (λ lines. (y : X) × Shows (text_of y) (Ok lines))
told_as text_of x text (Ok lines) is shows = (x, subst (λ (t : List ℕ). Shows t (Ok lines)) is shows)
told_as text_of x text (Err why) is shows = tt

-- so are the spans of a session
pub spans_told : (ticket : ℕ) (key : SessionKey) (spans : List Span) (journal : List Entry) (answer : Answer) → key.id ≡ ticket → spans ≡ spans_of key (placements journal)
    → TellsReply key (Media spans) answer → IfOk answer (λ lines. TellsSpans ticket lines)
spans_told ticket key spans journal (Ok lines) id is tells = (key, id, journal, subst (λ (ss : List Span). TellsReply key (Media ss) (Ok lines)) is tells)
spans_told ticket key spans journal (Err why) id is tells = tt

-- What a command of an event comes to leaves the talk's session.

pub label_obeyed : {D : Type 0} (meaning : D → Meaning) (moment : ℤ) (drive : ℕ) (volume pool media : List ℕ) (same : Option PartIs) (answer : Answer)
    → IfOk answer (λ lines. IsDone meaning drive (event.Label drive volume pool media moment) Labelled (codes "ok labelled") lines)
    → IfOk answer (λ lines. Obeys meaning moment (Label drive volume pool media) lines same same)
label_obeyed meaning moment drive volume pool media same (Ok lines) done = (done, refl)
label_obeyed meaning moment drive volume pool media same (Err why) done = tt

pub adopt_obeyed : {D : Type 0} (meaning : D → Meaning) (moment : ℤ) (drive : ℕ) (volume : List ℕ) (same : Option PartIs) (answer : Answer)
    → IfOk answer (λ lines. (end : ℕ) × (next : ℕ) × IsDone meaning drive (event.Adopt drive volume) (Adopted end next) (reply_line (Adopted end next)) lines)
    → IfOk answer (λ lines. Obeys meaning moment (Adopt drive volume) lines same same)
adopt_obeyed meaning moment drive volume same (Ok lines) done = (done.0, done.1, done.2, refl)
adopt_obeyed meaning moment drive volume same (Err why) done = tt

-- So a line is answered that has the form of a command,

pub line_answered : {D : Type 0} (meaning : D → Meaning) (moment : ℤ) (text : List ℕ) (command : ConsoleCmd) (answer : Answer) (old new : Option PartIs)
    → HasForm text (Console command) → IfOk answer (λ lines. Obeys meaning moment command lines old new) → AnswersLine meaning moment text answer old new
line_answered meaning moment text command (Ok lines) old new form obeys = (command, form, obeys)
line_answered meaning moment text command (Err why) old new form obeys = tt

-- and what answers it is lines.

pub answered_lines : {D : Type 0} (meaning : D → Meaning) (moment : ℤ) (text : List ℕ) (answer : Answer) (old new : Option PartIs)
    → AnswersLine meaning moment text answer old new → IfOk answer (λ lines. All IsLine lines)
answered_lines meaning moment text (Ok lines) old new a = obeyed_lines meaning moment a.0 lines old new a.2
answered_lines meaning moment text (Err why) old new a = tt
