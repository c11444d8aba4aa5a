-- What a console's line does to a world, and what it is answered.
use Rattle.std.specs.Prelude.{◌≡◌, ◌⊎◌, ℕ, ℤ, Ok, Err, List, [], ◌∷◌, codes}
use Rattle.std.specs.List.{flat_map}
use Rattle.sd_base.specs.declared.refusal.Refusal.TheVariants.{BadCommand, BadName, Memory}
use Rattle.sd_text.specs.Lines.{line}
use Rattle.sd_driver.specs.Meaning.{Meaning}
use Rattle.sd_machine.specs.declared.event.Event.{Event}
use Rattle.sd_machine.specs.declared.event.Event.TheVariants as event
use Rattle.sd_machine.specs.declared.reply.Reply.{Reply}
use Rattle.sd_machine.specs.declared.reply.Reply.TheVariants.{Refused, Adopted}
use Rattle.sd_world.specs.World.{WorldView}
use Rattle.sd_world.specs.Steps.{IsStep}
use Rattle.sd_core.specs.View.{view_of}
use Rattle.sd_script.specs.Grammar.{AreNames, HasForm, HasShape}
use Rattle.sd_script.specs.declared.console.ConsoleCmd.{ConsoleCmd}
use Rattle.sd_script.specs.declared.console.ConsoleCmd.TheVariants.{Label, Adopt, Mount, Unmount, Retire, Purge, Cancel, JobMedia, Status, Requests}
use Rattle.sd_script.specs.declared.line.ScriptLine.TheVariants.{Console}
use Rattle.sd_console.specs.Replies.{reply_line}
use Rattle.sd_console.specs.Requests.{requests_lines}
use Rattle.sd_console.specs.Status.{status_lines}
use Rattle.sd_console.specs.Lines.{Shows}
use Rattle.sd_console.specs.Told.{Answer, TellsReply}

-- no event is given to the world, which stays
abbrev pub GivesNone : {D : Type 0} → List Event → List Reply → WorldView D → WorldView D → Type 0
GivesNone events replies old new = (events ≡ []) × (replies ≡ []) × (new ≡ old)

-- the event is given to the world, and answered so
abbrev pub GivesOne : {D : Type 0} → (D → Meaning) → Event → Reply → List Event → List Reply → WorldView D → WorldView D → Type 0
GivesOne meaning e reply events replies old new = (events ≡ e ∷ []) × (replies ≡ reply ∷ []) × IsStep meaning old e reply new

-- The answer to an operator's event: its refusal; or else the line that tells that it is done.
abbrev pub told_done : List ℕ → Reply → Answer
told_done words (Refused why) = Err why
told_done words reply = Ok (line words ∷ [])

-- The answer to an adoption: its refusal; or where the volume's blocks end, and the number of its next one. No other
-- reply comes of one.
abbrev pub told_adopted : Reply → Answer
told_adopted (Refused why) = Err why
told_adopted (Adopted end next) = Ok (line (reply_line (Adopted end next)) ∷ [])
told_adopted reply = Err BadCommand

-- An operator's event, and how its reply is told. If there is no memory for the answer, the event isn't given.
abbrev pub Operates : {D : Type 0} → (D → Meaning) → Event → (Reply → Answer) → Answer → List Event → List Reply → WorldView D → WorldView D → Type 0
Operates meaning e told answer events replies old new =
    ((answer ≡ Err Memory) × GivesNone events replies old new)
    ⊎ ((reply : Reply) × GivesOne meaning e reply events replies old new × (answer ≡ told reply))

-- The session's spans are asked for, and told as its JobMedia text.
abbrev pub AsksSpans : {D : Type 0} → (D → Meaning) → ℕ → Answer → List Event → List Reply → WorldView D → WorldView D → Type 0
AsksSpans meaning ticket answer events replies old new = (reply : Reply)
    × GivesOne meaning (event.Media ticket) reply events replies old new
    × TellsReply (record { time = old.limits.time; id = ticket }) reply answer

-- What a console's command does at this moment, and its answer.
abbrev pub CommandDoes : {D : Type 0} → (D → Meaning) → ℤ → ConsoleCmd → Answer → List Event → List Reply → WorldView D → WorldView D → Type 0
CommandDoes meaning moment (Label drive volume pool media) answer events replies old new =
    Operates meaning (event.Label drive volume pool media moment) (told_done (codes "ok labelled")) answer events replies old new
CommandDoes meaning moment (Adopt drive volume) answer events replies old new =
    Operates meaning (event.Adopt drive volume) told_adopted answer events replies old new
CommandDoes meaning moment (Mount drive volume) answer events replies old new =
    Operates meaning (event.Mount drive volume) (told_done (codes "ok mounted")) answer events replies old new
CommandDoes meaning moment (Unmount drive) answer events replies old new =
    Operates meaning (event.Unmount drive) (told_done (codes "ok unmounted")) answer events replies old new
CommandDoes meaning moment (Retire drive) answer events replies old new =
    Operates meaning (event.Retire drive) (told_done (codes "ok retired")) answer events replies old new
CommandDoes meaning moment (Purge drive volume) answer events replies old new =
    Operates meaning (event.Purge drive volume) (told_done (codes "ok purged")) answer events replies old new
CommandDoes meaning moment (Cancel ticket) answer events replies old new =
    Operates meaning (event.Cancel ticket) (told_done (codes "ok cancelled")) answer events replies old new
CommandDoes meaning moment (JobMedia ticket) answer events replies old new = AsksSpans meaning ticket answer events replies old new
CommandDoes meaning moment Status answer events replies old new =
    GivesNone events replies old new × Shows (flat_map line (status_lines (view_of old))) answer
CommandDoes meaning moment Requests answer events replies old new =
    GivesNone events replies old new × Shows (flat_map line (requests_lines old.desk.requests)) answer

-- What a console's line does: what its command does; or, if it is a command but for a word that is no name, nothing,
-- and it is refused as a bad name; or, if it is none, nothing, and it is refused as a bad command.
abbrev pub LineDoes : {D : Type 0} → (D → Meaning) → ℤ → List ℕ → Answer → List Event → List Reply → WorldView D → WorldView D → Type 0
LineDoes meaning moment text answer events replies old new =
    ((command : ConsoleCmd) × HasForm text (Console command) × CommandDoes meaning moment command answer events replies old new)
    ⊎ ((command : ConsoleCmd) × HasShape text (Console command) × (AreNames (Console command) → ⊥)
    × (answer ≡ Err BadName) × GivesNone events replies old new)
    ⊎ (((command : ConsoleCmd) → HasShape text (Console command) → ⊥)
    × (answer ≡ Err BadCommand) × GivesNone events replies old new)
