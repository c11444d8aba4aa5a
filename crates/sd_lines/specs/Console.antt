-- What answers a console's line in a running daemon.
use Rattle.std.specs.Prelude.{◌≡◌, ℕ, ℤ, Ok, Err, List, [], ◌∷◌, Option, codes}
use Rattle.std.specs.List.{flat_map}
use Rattle.sd_base.specs.declared.number.SessionKey.{SessionKey}
use Rattle.sd_console.specs.Lines.{Shows}
use Rattle.sd_console.specs.Replies.{reply_line}
use Rattle.sd_console.specs.Requests.{requests_lines}
use Rattle.sd_console.specs.Status.{status_lines}
use Rattle.sd_console.specs.Told.{Answer, TellsReply}
use Rattle.sd_desk.specs.declared.request.Request.{Request}
use Rattle.sd_driver.specs.Meaning.{Meaning}
use Rattle.sd_journal.specs.Journal.{Entry, placements}
use Rattle.sd_line.specs.Operates.{MayOperate}
use Rattle.sd_line.specs.Parts.{PartIs}
use Rattle.sd_lines.specs.Held.{AnswersOwn, Cancels}
use Rattle.sd_machine.specs.declared.event.Event.{Event}
use Rattle.sd_machine.specs.declared.event.Event.TheVariants as event
use Rattle.sd_machine.specs.declared.reply.Reply.{Reply}
use Rattle.sd_machine.specs.declared.reply.Reply.TheVariants.{Labelled, Adopted, Mounted, Unmounted, Cancelled, Media}
use Rattle.sd_machine.specs.declared.view.View.{View}
use Rattle.sd_script.specs.Grammar.{HasForm}
use Rattle.sd_script.specs.declared.console.ConsoleCmd.{ConsoleCmd}
use Rattle.sd_script.specs.declared.console.ConsoleCmd.TheVariants.{Label, Adopt, Mount, Unmount, Retire, Purge, Cancel, JobMedia, Status, Requests}
use Rattle.sd_script.specs.declared.line.ScriptLine.TheVariants.{Console}
use Rattle.sd_span.specs.Spans.{spans_of}
use Rattle.sd_text.specs.Lines.{line}

-- The line tells that the event was done: some drive of this number could have answered it by this reply.
abbrev pub IsDone : {D : Type 0} → (D → Meaning) → ℕ → Event → Reply → List ℕ → List (List ℕ) → Type 0
IsDone meaning drive e reply text lines = MayOperate meaning drive e reply × (lines ≡ line text ∷ [])

-- the session of this number is told by the spans that a journal of a drive gives of it
abbrev pub TellsSpans : ℕ → List (List ℕ) → Type 0
TellsSpans ticket lines = (key : SessionKey) × (key.id ≡ ticket) × (journal : List Entry)
    × TellsReply key (Media (spans_of key (placements journal))) (Ok lines)

-- What a command comes to that is not refused, and what it does to the session that the talk opened last: an event of a drive is
-- done; the talk's own session is given up; or it is told what was asked. No drive is retired and no volume purged while the daemon
-- runs.
abbrev pub Obeys : {D : Type 0} → (D → Meaning) → ℤ → ConsoleCmd → List (List ℕ) → Option PartIs → Option PartIs → Type 0
Obeys meaning moment (Label drive volume pool media) lines old new =
    IsDone meaning drive (event.Label drive volume pool media moment) Labelled (codes "ok labelled") lines × (new ≡ old)
Obeys meaning moment (Adopt drive volume) lines old new = (end : ℕ) × (next : ℕ)
    × IsDone meaning drive (event.Adopt drive volume) (Adopted end next) (reply_line (Adopted end next)) lines × (new ≡ old)
Obeys meaning moment (Mount drive volume) lines old new = (name : List ℕ)
    × IsDone meaning drive (event.Mount drive volume) (Mounted name) (codes "ok mounted") lines × (new ≡ old)
Obeys meaning moment (Unmount drive) lines old new =
    IsDone meaning drive (event.Unmount drive) Unmounted (codes "ok unmounted") lines × (new ≡ old)
Obeys meaning moment (Retire drive) lines old new = ⊥
Obeys meaning moment (Purge drive volume) lines old new = ⊥
Obeys meaning moment (Cancel ticket) lines old new =
    AnswersOwn Cancels ticket Cancelled old new × (lines ≡ line (codes "ok cancelled") ∷ [])
Obeys meaning moment (JobMedia ticket) lines old new = TellsSpans ticket lines × (new ≡ old)
Obeys meaning moment Status lines old new = ((view : View) × Shows (flat_map line (status_lines view)) (Ok lines)) × (new ≡ old)
Obeys meaning moment Requests lines old new =
    ((requests : List Request) × Shows (flat_map line (requests_lines requests)) (Ok lines)) × (new ≡ old)

-- a console's line is answered so: lines are those of the one command whose form it has
abbrev pub AnswersLine : {D : Type 0} → (D → Meaning) → ℤ → List ℕ → Answer → Option PartIs → Option PartIs → Type 0
AnswersLine meaning moment text (Ok lines) old new =
    (command : ConsoleCmd) × HasForm text (Console command) × Obeys meaning moment command lines old new
AnswersLine meaning moment text (Err why) old new = Unit {0}
