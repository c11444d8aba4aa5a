-- What a console's line does, and that its answer is lines.
use Rattle.std.proofs.Common.{◌≡◌, ◌↔◌, ℕ, ℤ, refl, sym, subst, inl, inr, List, [], ◌∷◌}
use Rattle.std.specs.Prelude.{Result, Ok, Err, codes}
use Rattle.std.specs.List.{flat_map}
use Rattle.sd_base.specs.declared.number.SessionKey.{SessionKey}
use Rattle.sd_base.specs.declared.refusal.Refusal.{Refusal}
use Rattle.sd_base.specs.declared.refusal.Refusal.TheVariants.{BadCommand, BadName}
use Rattle.sd_text.specs.Lines.{line}
use Rattle.sd_world.specs.Steps.{StepsAlong}
use Rattle.sd_console.specs.Replies.{reply_line}
use Rattle.sd_console.specs.Requests.{requests_lines}
use Rattle.sd_console.specs.Status.{status_lines}
use Rattle.sd_core.specs.View.{view_of}
use Rattle.sd_driver.specs.Meaning.{Meaning}
use Rattle.sd_machine.specs.declared.event.Event.{Event}
use Rattle.sd_machine.specs.declared.reply.Reply.{Reply}
use Rattle.sd_machine.specs.declared.reply.Reply.TheVariants.{Refused, Adopted}
use Rattle.sd_world.specs.World.{WorldView}
use Rattle.sd_script.specs.declared.console.ConsoleCmd.{ConsoleCmd}
use Rattle.sd_script.specs.declared.console.ConsoleCmd.TheVariants.{Label, Adopt, Mount, Unmount, Retire, Purge, Cancel, JobMedia, Status, Requests}
use Rattle.sd_script.specs.Grammar.{AreNames, HasForm, HasShape}
use Rattle.sd_script.specs.declared.line.ScriptLine.TheVariants.{Console}
use Rattle.sd_console.specs.Told.{Answer}
use Rattle.sd_console.proofs.AnswerLemmas.{AreLines, one_line, shown_lines, told_lines}
use Rattle.sd_port.specs.Console.{CommandDoes, GivesNone, GivesOne, LineDoes, Operates, told_adopted, told_done}

-- The world moves along what it is given.

none_along : {D : Type 0} (meaning : D → Meaning) (es : List Event) (rs : List Reply) (a b : WorldView D) → GivesNone es rs a b → StepsAlong meaning a es rs b
none_along meaning es rs a b p = rw (p.0, p.1) p.2

one_along : {D : Type 0} (meaning : D → Meaning) (e : Event) (reply : Reply) (es : List Event) (rs : List Reply) (a b : WorldView D) → GivesOne meaning e reply es rs a b
    → StepsAlong meaning a es rs b
one_along meaning e reply es rs a b p = rw (p.0, p.1) (b, p.2, refl)

operates_along : {D : Type 0} (meaning : D → Meaning) (e : Event) (told : Reply → Answer) (answer : Answer) (es : List Event) (rs : List Reply) (a b : WorldView D)
    → Operates meaning e told answer es rs a b → StepsAlong meaning a es rs b
operates_along meaning e told answer es rs a b (inl p) = none_along meaning es rs a b p.1
operates_along meaning e told answer es rs a b (inr p) = one_along meaning e p.0 es rs a b p.1

command_along : {D : Type 0} (meaning : D → Meaning) (moment : ℤ) (command : ConsoleCmd) (answer : Answer) (es : List Event) (rs : List Reply) (a b : WorldView D)
    → CommandDoes meaning moment command answer es rs a b → StepsAlong meaning a es rs b
command_along meaning moment (Label drive volume pool media) answer es rs a b p = operates_along meaning _ _ answer es rs a b p
command_along meaning moment (Adopt drive volume) answer es rs a b p = operates_along meaning _ _ answer es rs a b p
command_along meaning moment (Mount drive volume) answer es rs a b p = operates_along meaning _ _ answer es rs a b p
command_along meaning moment (Unmount drive) answer es rs a b p = operates_along meaning _ _ answer es rs a b p
command_along meaning moment (Retire drive) answer es rs a b p = operates_along meaning _ _ answer es rs a b p
command_along meaning moment (Purge drive volume) answer es rs a b p = operates_along meaning _ _ answer es rs a b p
command_along meaning moment (Cancel ticket) answer es rs a b p = operates_along meaning _ _ answer es rs a b p
command_along meaning moment (JobMedia ticket) answer es rs a b p = one_along meaning _ p.0 es rs a b p.1
command_along meaning moment Status answer es rs a b p = none_along meaning es rs a b p.0
command_along meaning moment Requests answer es rs a b p = none_along meaning es rs a b p.0

pub line_along : {D : Type 0} (meaning : D → Meaning) (moment : ℤ) (text : List ℕ) (answer : Answer) (es : List Event) (rs : List Reply) (a b : WorldView D)
    → LineDoes meaning moment text answer es rs a b → StepsAlong meaning a es rs b
line_along meaning moment text answer es rs a b (inl p) = command_along meaning moment p.0 answer es rs a b p.2
line_along meaning moment text answer es rs a b (inr (inl p)) = none_along meaning es rs a b p.4
line_along meaning moment text answer es rs a b (inr (inr p)) = none_along meaning es rs a b p.2

-- what a command does, with some events and replies
abbrev pub CommandDone : {D : Type 0} → (D → Meaning) → ℤ → ConsoleCmd → Answer → WorldView D → WorldView D → Type 0
CommandDone meaning moment command answer old new = (events : List Event) × (replies : List Reply) × CommandDoes meaning moment command answer events replies old new

-- what a line does, with some events and replies
abbrev pub LineDone : {D : Type 0} → (D → Meaning) → ℤ → List ℕ → Answer → WorldView D → WorldView D → Type 0
LineDone meaning moment text answer old new = (events : List Event) × (replies : List Reply) × LineDoes meaning moment text answer events replies old new

-- An answer is lines, each with its newline.

done_lines : (words : List ℕ) (reply : Reply) → AreLines (told_done words reply)
done_lines words (Refused why) = tt
done_lines words reply = one_line words

adopted_lines : (reply : Reply) → AreLines (told_adopted reply)
adopted_lines (Refused why) = tt
adopted_lines (Adopted end next) = one_line (reply_line (Adopted end next))
adopted_lines reply = tt

operates_lines : {D : Type 0} (meaning : D → Meaning) (e : Event) (told : Reply → Answer) (answer : Answer) (es : List Event) (rs : List Reply) (a b : WorldView D)
    → ((reply : Reply) → AreLines (told reply)) → Operates meaning e told answer es rs a b → AreLines answer
operates_lines meaning e told answer es rs a b all (inl p) = subst (λ (x : Answer). AreLines x) (sym p.0) tt
operates_lines meaning e told answer es rs a b all (inr p) = subst (λ (x : Answer). AreLines x) (sym p.2) (all p.0)

command_lines : {D : Type 0} (meaning : D → Meaning) (moment : ℤ) (command : ConsoleCmd) (answer : Answer) (es : List Event) (rs : List Reply) (a b : WorldView D)
    → CommandDoes meaning moment command answer es rs a b → AreLines answer
command_lines meaning moment (Label drive volume pool media) answer es rs a b p = operates_lines meaning _ _ answer es rs a b (done_lines (codes "ok labelled")) p
command_lines meaning moment (Adopt drive volume) answer es rs a b p = operates_lines meaning _ _ answer es rs a b adopted_lines p
command_lines meaning moment (Mount drive volume) answer es rs a b p = operates_lines meaning _ _ answer es rs a b (done_lines (codes "ok mounted")) p
command_lines meaning moment (Unmount drive) answer es rs a b p = operates_lines meaning _ _ answer es rs a b (done_lines (codes "ok unmounted")) p
command_lines meaning moment (Retire drive) answer es rs a b p = operates_lines meaning _ _ answer es rs a b (done_lines (codes "ok retired")) p
command_lines meaning moment (Purge drive volume) answer es rs a b p = operates_lines meaning _ _ answer es rs a b (done_lines (codes "ok purged")) p
command_lines meaning moment (Cancel ticket) answer es rs a b p = operates_lines meaning _ _ answer es rs a b (done_lines (codes "ok cancelled")) p
command_lines meaning moment (JobMedia ticket) answer es rs a b p = told_lines (record { time = a.limits.time; id = ticket }) p.0 answer p.2
command_lines meaning moment Status answer es rs a b p = shown_lines (flat_map line (status_lines (view_of a))) answer p.1
command_lines meaning moment Requests answer es rs a b p = shown_lines (flat_map line (requests_lines a.desk.requests)) answer p.1

pub line_lines : {D : Type 0} (meaning : D → Meaning) (moment : ℤ) (text : List ℕ) (answer : Answer) (es : List Event) (rs : List Reply) (a b : WorldView D)
    → LineDoes meaning moment text answer es rs a b → AreLines answer
line_lines meaning moment text answer es rs a b (inl p) = command_lines meaning moment p.0 answer es rs a b p.2
line_lines meaning moment text answer es rs a b (inr (inl p)) = subst (λ (x : Answer). AreLines x) (sym p.3) tt
line_lines meaning moment text answer es rs a b (inr (inr p)) = subst (λ (x : Answer). AreLines x) (sym p.1) tt

-- A reply that is no refusal.

pub done_otherwise : (words : List ℕ) (reply : Reply) → ((why : Refusal) → reply ≡ Refused why → ⊥) → told_done words reply ≡ Ok (line words ∷ [])
done_otherwise words (Refused why) other = absurd (other why refl)
done_otherwise words reply other = refl

-- A line that is refused as it is read.

-- what a line's refusal says, of whatever form it is
abbrev pub IsNoForm : List ℕ → Result ConsoleCmd Refusal → Type 0
IsNoForm text result = (command : ConsoleCmd) → HasForm text (Console command) → result ≡ Ok command

abbrev pub HasBadName : List ℕ → Type 0
HasBadName text = (command : ConsoleCmd) × HasShape text (Console command) × (AreNames (Console command) → ⊥)

abbrev pub HasNoShape : List ℕ → Type 0
HasNoShape text = (command : ConsoleCmd) → HasShape text (Console command) → ⊥

-- a line that is refused so
abbrev pub as_refused : Refusal → Result ConsoleCmd Refusal
as_refused why = Err why

-- a line of no bad name that isn't read has no shape
no_shape : (text : List ℕ) (why : Refusal) → IsNoForm text (Err why) → (HasBadName text → ⊥) → HasNoShape text
no_shape text why found no_bad command shape =
    no_bad (command, shape, λ names. (let e = found command (record { ascii = shape.ascii; spelled = shape.spelled; within = shape.within; names = names }) in cc))

pub refused_line : {D : Type 0} (meaning : D → Meaning) (moment : ℤ) (text : List ℕ) (w : WorldView D) (why : Refusal) → IsNoForm text (Err why)
    → (as_refused why ≡ Err BadName ↔ HasBadName text) → (as_refused why ≡ Err BadCommand ↔ HasNoShape text)
    → LineDoes meaning moment text (Err why) [] [] w w
refused_line meaning moment text w BadName found names commands =
    let s = names.0 refl in
    inr (inl (s.0, s.1, s.2, refl, (refl, refl, refl)))
refused_line meaning moment text w BadCommand found names commands = inr (inr (commands.0 refl, refl, (refl, refl, refl)))
refused_line meaning moment text w why found names commands =
    let none : HasNoShape text = no_shape text why found (λ bad. (let e = names.1 bad in cc)) in
    let e = commands.1 none in
    absurd cc
