-- Lines that come one after another.
use Rattle.std.proofs.Common.{◌≡◌, ℕ, ◌≤◌, refl, List, [], ◌∷◌, ◌++◌, Option, None, Some, inl, inr}
use Rattle.sd_base.specs.Limits.{most_number}
use Rattle.sd_base.specs.declared.refusal.Refusal.{Refusal}
use Rattle.sd_driver.specs.Meaning.{Meaning}
use Rattle.sd_text.specs.Says.{Says}
use Rattle.sd_script.specs.Grammar.{AreNames, HasForm, HasShape, IsWithin, StandsIn}
use Rattle.sd_script.specs.declared.line.ScriptLine.{ScriptLine}
use Rattle.sd_script.specs.declared.line.ScriptLine.TheVariants as line
use Rattle.sd_script.specs.declared.line.LineFault.{LineFault}
use Rattle.sd_script.specs.declared.line.LineFault.TheVariants as fault
use Rattle.sd_script.specs.declared.line.Part.{Part}
use Rattle.sd_script.specs.declared.line.Part.TheVariants.{Body}
use Rattle.sd_script.specs.declared.line.Tail.{Tail}
use Rattle.sd_tool.specs.Doing.{LineDoes}
use Rattle.sd_text.specs.Lines.{line as as_line}
use Rattle.sd_tool.specs.Restart.{RestartsAs}
use Rattle.sd_tool.specs.Run.{Comes, IsNoLine, LineCame, LineComes, ObeysNext, Reaches, RestartComes, Shown}
use Rattle.sd_tool.specs.Script.{ScriptView, script_view}
use Rattle.sd_tool.specs.Told.{restarted_text}
use Rattle.sd_tool.specs.declared.lines.Next.{Next}
use Rattle.sd_tool.specs.declared.lines.Next.TheVariants as next
use Rattle.sd_tool.specs.declared.restart.Restart.{Restart}
use Rattle.sd_tool.specs.declared.run.Came.{Came}
use Rattle.sd_tool.specs.declared.run.Came.TheVariants.{Over, On}
use Rattle.sd_tool.specs.declared.run.Script.{Script}

-- what was done for what came is shown
pub done_comes : {D Q W : Type 0} (contents : W → Option (List ℕ)) (meaning : D → Meaning) (part : Part) (n : Next) (bytes : List ℕ) (old between : ScriptView D) (came : Came D Q W)
    → ObeysNext meaning part n bytes old between → Shown contents between came → Comes contents meaning part n bytes old came
done_comes contents meaning part n bytes old between (On s) done shown = (between, done, shown.0, shown.1)
done_comes contents meaning part n bytes old between (Over ran) done shown = inr (between, done, shown.0, shown.1, shown.2)

-- a new run begins, or not, and that is shown
pub restart_done : {D Q W : Type 0} (contents : W → Option (List ℕ)) (meaning : D → Meaning) (restart : Restart) (refused : Option Refusal) (old between : ScriptView D) (came : Came D Q W)
    → RestartsAs meaning old.stage restart between.stage refused → between.moment ≡ old.moment → between.closed ≡ old.closed
    → Says old.said between.said (as_line (restarted_text refused)) → Shown contents between came → RestartComes contents meaning restart old came
restart_done contents meaning restart refused old between came restarts moment closed says shown = inl (between, (refused, restarts, (moment, closed), says), shown)

-- a `restart` line
pub restart_comes : {D Q W : Type 0} (contents : W → Option (List ℕ)) (meaning : D → Meaning) (part : Part) (bytes : List ℕ) (time : ℕ) (tail : Option Tail) (old : ScriptView D) (came : Came D Q W)
    → HasForm bytes (line.Restart time tail) → StandsIn part (line.Restart time tail) → RestartComes contents meaning (record { time = time; tail = tail }) old came
    → Comes contents meaning part next.Line bytes old came
restart_comes contents meaning part bytes time tail old came form stands (inl (between, restarts, shown)) =
    done_comes contents meaning part next.Line bytes old between came (inl (line.Restart time tail, form, stands, restarts)) shown
restart_comes contents meaning part bytes time tail old (On s) form stands (inr no_memory) = absurd no_memory
restart_comes contents meaning part bytes time tail old (Over ran) form stands (inr (says, status)) = inl ((time, tail, form), says, status)

-- a line
pub line_comes : {D Q W : Type 0} (contents : W → Option (List ℕ)) (meaning : D → Meaning) (part : Part) (bytes : List ℕ) (l : ScriptLine) (old : ScriptView D) (came : Came D Q W)
    → HasForm bytes l → StandsIn part l → LineComes contents meaning l old came → Comes contents meaning part next.Line bytes old came
line_comes contents meaning part bytes (line.Restart time tail) old came form stands comes = restart_comes contents meaning part bytes time tail old came form stands comes
line_comes contents meaning part bytes l old came form stands (between, does, shown) =
    done_comes contents meaning part next.Line bytes old between came (inl (l, form, stands, does)) shown

-- a line is done that makes no new world
pub other_comes : {D Q W : Type 0} (contents : W → Option (List ℕ)) (meaning : D → Meaning) (l : ScriptLine) (old between : ScriptView D) (came : Came D Q W)
    → ((time : ℕ) (tail : Option Tail) → l ≡ line.Restart time tail → ⊥) → LineDoes meaning l old between → Shown contents between came → LineComes contents meaning l old came
other_comes contents meaning (line.Restart time tail) old between came other does shown = absurd (other time tail refl)
other_comes contents meaning l old between came other does shown = (between, does, shown)

-- the time of a new run
pub restart_within : (time : ℕ) (tail : Option Tail) → IsWithin (line.Restart time tail) → (1 ≤ time) × (time ≤ most_number)
restart_within time None within = within
restart_within time (Some tail) within = within.0

-- no line, for this
pub no_line : (part : Part) (bytes : List ℕ) (why : LineFault)
    → (why ≡ fault.BadName → (l : ScriptLine) × HasShape bytes l × StandsIn part l × (AreNames l → ⊥)) → (why ≡ fault.BadCommand → (l : ScriptLine) → HasShape bytes l → StandsIn part l → ⊥) → IsNoLine part bytes why
no_line part bytes fault.BadName name command = name refl
no_line part bytes fault.BadCommand name command = command refl

-- one line more
pub reaches_more : {D Q W : Type 0} (contents : W → Option (List ℕ)) (meaning : D → Meaning) (part : Part) (c : LineCame) (ds : List LineCame) (e : LineCame) (old : ScriptView D) (s : Script D Q W) (came : Came D Q W)
    → Reaches contents meaning part c ds old (On s) → Comes contents meaning Body e.0 e.1 (script_view contents s) came → Reaches contents meaning part c (ds ++ e ∷ []) old came
reaches_more contents meaning part c [] e old s came here after = (script_view contents s, here, after)
reaches_more contents meaning part c (d ∷ ds) e old s came (between, goes, rest) after = (between, goes, reaches_more contents meaning Body d ds e between s came rest after)
