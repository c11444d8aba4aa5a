-- The run of a script: its lines one after another, to its end.
use Rattle.std.specs.Prelude.{◌≡◌, ◌⊎◌, ℕ, pos, ◌-◌, ◌^◌, true, false, Option, None, Some, List, [], ◌∷◌, length}
use Rattle.sd_base.specs.declared.refusal.Refusal.{Refusal}
use Rattle.sd_base.specs.declared.refusal.Refusal.TheVariants as refusal
use Rattle.sd_driver.specs.Meaning.{Meaning}
use Rattle.sd_text.specs.Says.{SaidView, Says, said_view}
use Rattle.sd_script.specs.Grammar.{AreNames, HasForm, HasShape, StandsIn, line_refusal}
use Rattle.sd_script.specs.declared.line.ScriptLine.{ScriptLine}
use Rattle.sd_script.specs.declared.line.ScriptLine.TheVariants as line
use Rattle.sd_script.specs.declared.line.LineFault.{LineFault}
use Rattle.sd_script.specs.declared.line.LineFault.TheVariants as fault
use Rattle.sd_script.specs.declared.line.Part.{Part}
use Rattle.sd_script.specs.declared.line.Part.TheVariants.{Body, Head}
use Rattle.sd_script.specs.declared.line.Tail.{Tail}
use Rattle.sd_tool.specs.ReplyLines.{refused_line}
use Rattle.sd_text.specs.Lines.{line as as_line}
use Rattle.sd_tool.specs.Doing.{LineDoes}
use Rattle.sd_tool.specs.Restart.{BeginsAs, RestartsAs}
use Rattle.sd_tool.specs.Script.{KeepsRest, Prints, ScriptView, script_view}
use Rattle.sd_tool.specs.Settings.{ValuesView, misfit_of}
use Rattle.sd_tool.specs.Told.{misfit_text, no_input_text, restarted_text}
use Rattle.sd_tool.specs.declared.fits.Misfit.{Misfit}
use Rattle.sd_tool.specs.declared.lines.Next.{Next}
use Rattle.sd_tool.specs.declared.lines.Next.TheVariants as next
use Rattle.sd_tool.specs.declared.restart.Restart.{Restart}
use Rattle.sd_tool.specs.declared.run.Came.{Came}
use Rattle.sd_tool.specs.declared.run.Came.TheVariants.{Over, On}
use Rattle.sd_tool.specs.declared.run.Ran.{Ran}
use Rattle.sd_tool.specs.declared.run.Script.{Script}

-- One line.

-- A new world starts, or the old one stays if there can't be a new one; which of them it is, is printed.
abbrev pub Restarts : {D : Type 0} → (D → Meaning) → Restart → ScriptView D → ScriptView D → Type 0
Restarts meaning restart old new =
    (refused : Option Refusal) × RestartsAs meaning old.stage restart new.stage refused
    × KeepsRest old new × Says old.said new.said (as_line (restarted_text refused))

-- what any line does
abbrev pub Obeys : {D : Type 0} → (D → Meaning) → ScriptLine → ScriptView D → ScriptView D → Type 0
Obeys meaning (line.Restart time tail) old new = Restarts meaning (record { time = time; tail = tail }) old new
Obeys meaning other old new = LineDoes meaning other old new

-- why these bytes are no line of that part
abbrev pub IsNoLine : Part → List ℕ → LineFault → Type 0
IsNoLine part bytes fault.BadName = (l : ScriptLine) × HasShape bytes l × StandsIn part l × (AreNames l → ⊥)
IsNoLine part bytes fault.BadCommand = (l : ScriptLine) → HasShape bytes l → StandsIn part l → ⊥

-- the line that these bytes are is obeyed; if they are none, they are refused
abbrev pub ObeysBytes : {D : Type 0} → (D → Meaning) → Part → List ℕ → ScriptView D → ScriptView D → Type 0
ObeysBytes meaning part bytes old new =
    ((l : ScriptLine) × HasForm bytes l × StandsIn part l × Obeys meaning l old new)
    ⊎ ((why : LineFault) × IsNoLine part bytes why × Prints old new (refused_line (line_refusal why)))

-- what is done for what came
abbrev pub ObeysNext : {D : Type 0} → (D → Meaning) → Part → Next → List ℕ → ScriptView D → ScriptView D → Type 0
ObeysNext meaning part next.Line bytes old new = ObeysBytes meaning part bytes old new
ObeysNext meaning part next.TooLong bytes old new = Prints old new (refused_line refusal.BadCommand)
ObeysNext meaning part next.NoMemory bytes old new = Prints old new (refused_line refusal.Memory)
ObeysNext meaning part other bytes old new = ⊥

-- It is shown at once, and the script goes on if that could be written.
abbrev pub GoesOn : {D : Type 0} → (D → Meaning) → Part → Next → List ℕ → ScriptView D → ScriptView D → Type 0
GoesOn {D} meaning part came bytes old new =
    (between : ScriptView D) × ObeysNext meaning part came bytes old between × Prints between new []
    × (new.said.failed ≡ false)

-- what the run ends with if nothing was done for what came: at the end of the input, at one that can't be read, and if
-- there is no memory for a new world once the old one is gone
abbrev pub EndsAt : SaidView → Next → List ℕ → SaidView → ℕ → Type 0
EndsAt old next.End bytes new status = (new ≡ old) × (status ≡ 0)
EndsAt old next.Fault bytes new status = Says old new (as_line no_input_text) × (status ≡ 1)
EndsAt old next.Line bytes new status =
    ((time : ℕ) × (tail : Option Tail) × HasForm bytes (line.Restart time tail))
    × Says old new (refused_line refusal.Memory) × (status ≡ 1)
EndsAt old other bytes new status = ⊥

-- the run is over: what came ends it, or what was done for it could not be written
abbrev pub Ends : {D : Type 0} → (D → Meaning) → Part → Next → List ℕ → ScriptView D → SaidView → ℕ → Type 0
Ends {D} meaning part came bytes old said status =
    EndsAt old.said came bytes said status
    ⊎ ((between : ScriptView D) × ObeysNext meaning part came bytes old between × Says between.said said []
    × (said.failed ≡ true) × (status ≡ 1))

-- what came leaves the script that goes on, or what a run has that is over
abbrev pub Comes : {D Q W : Type 0} → (W → Option (List ℕ)) → (D → Meaning) → Part → Next → List ℕ → ScriptView D → Came D Q W → Type 0
Comes contents meaning part came bytes old (On s) = GoesOn meaning part came bytes old (script_view contents s)
Comes contents meaning part came bytes old (Over ran) =
    Ends meaning part came bytes old (said_view contents ran.out) ran.status

-- What is to be shown after a line that was done is shown: the script goes on if that could be written, and else the
-- run is over.
abbrev pub Shown : {D Q W : Type 0} → (W → Option (List ℕ)) → ScriptView D → Came D Q W → Type 0
Shown contents done (On s) = Prints done (script_view contents s) [] × ((script_view contents s).said.failed ≡ false)
Shown contents done (Over ran) =
    Says done.said (said_view contents ran.out) [] × ((said_view contents ran.out).failed ≡ true) × (ran.status ≡ 1)

-- it is refused for this, and that is shown
abbrev pub Refuses : {D Q W : Type 0} → (W → Option (List ℕ)) → ScriptView D → Refusal → Came D Q W → Type 0
Refuses {D} contents old why came =
    (between : ScriptView D) × Prints old between (refused_line why) × Shown contents between came

-- there was no memory for a new world, and the run is over
abbrev pub EndsForMemory : {D Q W : Type 0} → (W → Option (List ℕ)) → SaidView → Came D Q W → Type 0
EndsForMemory contents old (On s) = ⊥
EndsForMemory contents old (Over ran) = Says old (said_view contents ran.out) (refused_line refusal.Memory) × (ran.status ≡ 1)

-- a `restart` line is done and shown, or there was no memory for the new world
abbrev pub RestartComes : {D Q W : Type 0} → (W → Option (List ℕ)) → (D → Meaning) → Restart → ScriptView D → Came D Q W → Type 0
RestartComes {D} contents meaning restart old came =
    ((between : ScriptView D) × Restarts meaning restart old between × Shown contents between came)
    ⊎ EndsForMemory contents old.said came

-- a line is done and shown
abbrev pub LineComes : {D Q W : Type 0} → (W → Option (List ℕ)) → (D → Meaning) → ScriptLine → ScriptView D → Came D Q W → Type 0
LineComes contents meaning (line.Restart time tail) old came = RestartComes contents meaning (record { time = time; tail = tail }) old came
LineComes {D} contents meaning other old came = (between : ScriptView D) × LineDoes meaning other old between × Shown contents between came

-- All lines.

-- how a line came, and its bytes
abbrev pub LineCame : Type 0
LineCame = Next × List ℕ

-- After a line of this part these came; all but the last of them left a script that went on, and the last one left this.
abbrev pub Reaches : {D Q W : Type 0} → (W → Option (List ℕ)) → (D → Meaning) → Part → LineCame → List LineCame → ScriptView D → Came D Q W → Type 0
Reaches contents meaning part c [] old came = Comes contents meaning part c.0 c.1 old came
Reaches {D} contents meaning part c (d ∷ ds) old came =
    (between : ScriptView D) × GoesOn meaning part c.0 c.1 old between × Reaches contents meaning Body d ds between came

-- A script over queues of this kind is run from this line on, and this is what its run has: what came last ended it; or it is over since as many
-- lines came as 64 bits count.
abbrev pub RunsFrom : {D W : Type 0} → (Q : Type 0) → (W → Option (List ℕ)) → (D → Meaning) → LineCame → ScriptView D → Ran W → Type 0
RunsFrom {D} {W} Q contents meaning first begun ran =
    ((later : List LineCame) × Reaches {Q = Q} contents meaning Head first later begun (Over ran))
    ⊎ ((later : List LineCame) × (s : Script D Q W) × (length later ≡ 2 ^ 64 - 1)
    × Reaches contents meaning Head first later begun (On s) × (ran.out ≡ s.out) × (ran.status ≡ 0))

-- the script begins: a world of these settings over these devices, at the moment 0; nothing was closed, and nothing printed yet
pub record Begins {D : Type 0} (meaning : D → Meaning) (v : ValuesView) (devices : List D) (said : SaidView) (s : ScriptView D) : Type 0 where
  pub stage : BeginsAs meaning v devices s.stage
  pub moment_is : s.moment ≡ pos 0
  pub none_closed : s.closed ≡ []
  pub said_is : s.said ≡ said

-- A script of these settings is run over these devices and queues of this kind. If the settings don't go together, that
-- is printed, and nothing is run; nor is anything if there is no memory for its world.
abbrev pub RunsScript : {D W : Type 0} → (Q : Type 0) → (W → Option (List ℕ)) → (D → Meaning) → ValuesView → List D → LineCame → SaidView → Ran W → Type 0
RunsScript {D} Q contents meaning v devices first said ran =
    ((m : Misfit) × (misfit_of v ≡ Some m) × Says said (said_view contents ran.out) (as_line (misfit_text m)) × (ran.status ≡ 1))
    ⊎ ((misfit_of v ≡ None) × Says said (said_view contents ran.out) (refused_line refusal.Memory) × (ran.status ≡ 1))
    ⊎ ((misfit_of v ≡ None) × (begun : ScriptView D) × Begins meaning v devices said begun × RunsFrom Q contents meaning first begun ran)
