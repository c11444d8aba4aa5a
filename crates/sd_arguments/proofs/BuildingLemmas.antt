-- What the parser reads of a command that is built step by step.
use Rattle.std.proofs.Common.{◌≡◌, ◌∙◌, ◌||◌, List, [], ◌∷◌, ◌++◌, refl, sym, ap, ap₂, subst, append_assoc, append-nil, fold, map, length, arith, true, false, Some, Result, Ok, Err, IfOk}
use Rattle.std.specs.Borrow.{Bor}
use Rattle.clap.specs.Built.{AddsArg, AddsInTurn, AddsSubcommand}
use Rattle.clap.specs.Simple.{App, Shape, app_of, app_of_fields, new_app, shape_of, with_rule, with_subcommand}
use Rattle.clap.specs.Walk.{Rule, Text, rule_of}
use Rattle.clap.specs.declared.builder.arg.Arg.{Arg}
use Rattle.clap.specs.declared.builder.command.Command.{Command}
use Rattle.clap.specs.declared.builder.command.Command.TheViews.{out-Command}
use Rattle.sd_arguments.specs.Building.{AddsMade, AreLocal}
use Rattle.sd_arguments.specs.Lines.{command_shape}

-- ---- in turn

-- one more, after those in turn
pub added_more : {X : Type 0} (step : Command → X → Command → Type 0) (old mid new : Command) (xs : List X) (x : X) → AddsInTurn step old xs mid → step mid x new
    → AddsInTurn step old (xs ++ x ∷ []) new
added_more step old mid new [] x h st = (new, subst (λ o. step o x new) (sym h) st, refl)
added_more step old mid new (y ∷ ys) x h st = (h.0, h.1, added_more step h.0 mid new ys x h.2 st)

pub nothing_left : {X : Type 0} (l : List X) → length l ≡ 0 → l ≡ []
nothing_left [] h = refl
nothing_left (x ∷ xs) h = absurd (omega arith)

-- ---- arguments

with_argument : {old new : Command} {x : Arg} (a : App) → AddsArg old x new → x.global ≡ false → app_of old ≡ a → app_of new ≡ with_rule a (rule_of x)
with_argument {old} {new} {x} a adds local is = adds.shape local ∙ ap (λ (b : App). with_rule b (rule_of x)) is

still_local : {old new : Command} {x : Arg} → AddsArg old x new → x.global ≡ false → (out-Command old).has_globals ≡ false
    → (out-Command new).has_globals ≡ false
still_local {old} {new} {x} adds local before = adds.globals ∙ (ap (λ b. b || x.global) before ∙ local)

with_arguments : (a : App) (old new : Command) (xs : List Arg) → AddsInTurn AddsArg old xs new → AreLocal xs → app_of old ≡ a
    → app_of new ≡ fold with_rule a (map rule_of xs)
with_arguments a old new [] adds local is = ap app_of (sym adds) ∙ is
with_arguments a old new (x ∷ rest) adds local is =
    with_arguments (with_rule a (rule_of x)) adds.0 new rest adds.2 local.1 (with_argument a adds.1 local.0 is)

abbrev command_app : Text → List Rule → App
command_app name rules = record { top = command_shape name rules; subs = [] }

rules_in_turn : (name : Text) (before rules : List Rule) → fold with_rule (command_app name before) rules ≡ command_app name (before ++ rules)
rules_in_turn name before [] = ap (command_app name) (sym (append-nil before))
rules_in_turn name before (r ∷ rest) = rules_in_turn name (before ++ r ∷ []) rest ∙ ap (command_app name) (append_assoc before (r ∷ []) rest)

-- a new command with arguments
pub arguments_shape : (old new : Command) (name : Text) (xs : List Arg) → AddsInTurn AddsArg old xs new → AreLocal xs → app_of old ≡ new_app name
    → shape_of new ≡ command_shape name (map rule_of xs)
arguments_shape old new name xs adds local is =
    ap (λ (a : App). a.top) (with_arguments (new_app name) old new xs adds local is ∙ rules_in_turn name [] (map rule_of xs))

pub arguments_local : (old new : Command) (xs : List Arg) → AddsInTurn AddsArg old xs new → AreLocal xs → (out-Command old).has_globals ≡ false
    → (out-Command new).has_globals ≡ false
arguments_local old new [] adds local before = ap (λ (c : Command). (out-Command c).has_globals) (sym adds) ∙ before
arguments_local old new (x ∷ rest) adds local before = arguments_local adds.0 new rest adds.2 local.1 (still_local adds.1 local.0 before)

-- ---- programs

abbrev pub with_version : App → App
with_version a = record a { top = record a.top { has_version = true } }

-- the program with its version
pub versioned : (old new : Command) (a : App) (v : Bor Text) → app_of old ≡ a → out-Command new ≡ record (out-Command old) { version = Some v }
    → app_of new ≡ with_version a
versioned old new a v is e = ap app_of_fields e ∙ ap with_version is

with_command : {old sub new : Command} (a : App) (s : Shape) → AddsSubcommand old sub new → (out-Command sub).has_globals ≡ false
    → app_of old ≡ a → shape_of sub ≡ s → app_of new ≡ with_subcommand a s
with_command a s adds local is shape = adds.shape local ∙ ap₂ with_subcommand is shape

module _ {E : Type 0} where
  -- the subcommands that were made have these shapes
  abbrev pub AreShaped : List (Result Command E) → List Shape → Type 0
  AreShaped [] [] = Unit {0}
  AreShaped [] (s ∷ shapes) = ⊥
  AreShaped (made ∷ rest) [] = ⊥
  AreShaped (made ∷ rest) (s ∷ shapes) = IfOk made (λ c. shape_of c ≡ s) × IfOk made (λ c. (out-Command c).has_globals ≡ false) × AreShaped rest shapes

  with_made : (a : App) (s : Shape) (old new : Command) (made : Result Command E) → AddsMade old made new → IfOk made (λ c. shape_of c ≡ s)
      → IfOk made (λ c. (out-Command c).has_globals ≡ false) → app_of old ≡ a → app_of new ≡ with_subcommand a s
  with_made a s old new (Ok sub) adds shape local is = with_command a s adds local is shape
  with_made a s old new (Err e) adds shape local is = absurd adds

  pub with_all : (a : App) (old new : Command) (xs : List (Result Command E)) (shapes : List Shape) → AddsInTurn AddsMade old xs new → AreShaped xs shapes
      → app_of old ≡ a → app_of new ≡ fold with_subcommand a shapes
  with_all a old new [] [] adds shaped is = ap app_of (sym adds) ∙ is
  with_all a old new [] (s ∷ shapes) adds shaped is = absurd shaped
  with_all a old new (made ∷ rest) [] adds shaped is = absurd shaped
  with_all a old new (made ∷ rest) (s ∷ shapes) adds shaped is =
      with_all (with_subcommand a s) adds.0 new rest shapes adds.2 shaped.2 (with_made a s old adds.0 made adds.1 shaped.0 shaped.1 is)
