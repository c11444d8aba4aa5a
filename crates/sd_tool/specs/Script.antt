-- A script that is run.
use Rattle.std.specs.Prelude.{◌≡◌, ℕ, ℤ, Option, List}
use Rattle.sd_text.specs.Says.{SaidView, Says, said_view}
use Rattle.sd_tool.specs.ScriptStage.{StageView}
use Rattle.sd_tool.specs.declared.printed.Closed.{Closed}
use Rattle.sd_tool.specs.declared.run.Script.{Script}

-- its world, the moment of what happens now, the closed sessions whose JobMedia texts were printed, and what was printed
pub record ScriptView (D : Type 0) : Type 0 where
  pub stage : StageView D
  pub moment : ℤ
  pub closed : List Closed
  pub said : SaidView

-- a script as such a view, by what is known of its writer
abbrev pub script_view : {D Q W : Type 0} → (W → Option (List ℕ)) → Script D Q W → ScriptView D
script_view contents s = record {
  stage = s.stage;
  moment = s.moment;
  closed = s.printed.sessions.items;
  said = said_view contents s.out;
}

-- the moment and the closed sessions stay
abbrev pub KeepsRest : {D : Type 0} → ScriptView D → ScriptView D → Type 0
KeepsRest old new = (new.moment ≡ old.moment) × (new.closed ≡ old.closed)

-- nothing happens but that this is printed
abbrev pub Prints : {D : Type 0} → ScriptView D → ScriptView D → List ℕ → Type 0
Prints old new text = (new.stage ≡ old.stage) × KeepsRest old new × Says old.said new.said text
