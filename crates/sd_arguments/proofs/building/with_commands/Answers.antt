use Rattle.std.proofs.Common.{◌≡◌, ◌∷◌, [], sym, ap, subst, ◌∙◌, append_assoc, append-nil, length, arith, IsOkAnd}
use Rattle.std.specs.Vec.Iter.{into_iter_items}
use Rattle.clap.specs.Built.{AddsInTurn, AddsSubcommand}
use Rattle.sd_arguments.specs.Building.{AddsMade}
use Rattle.sd_arguments.proofs.BuildingLemmas.{added_more, nothing_left}
use Rattle.sd_arguments.proofs.building.with_commands.Goals as goal

pub loop-command-preserved : goal.loop-command-preserved
loop-command-preserved c =
    let at = c.loop-command in
    let x = c.in-Some.command in
    let steps : into_iter_items at.command-iterator ≡ x ∷ into_iter_items c.next.new.self = c.in-Some.ensures.steps.0 in (
      append_assoc at.yielded (x ∷ []) _ ∙ rw (← steps) at.invariant.0,
      added_more AddsMade _ _ _ at.yielded x at.invariant.1
          (subst (λ made. IsOkAnd made (λ sub. AddsSubcommand at.program sub c.in_ok-program.program)) (sym c.in_ok-command.was) c.in_ok-program.ensures),
      let was = at.invariant.2 in
          let gone = c.in-Some.ensures.steps.1 in
          let short = ap length steps in
          omega arith,
    )

pub returns : goal.returns
returns c =
    let at = c.loop-command in
    let none = c.in-None.ensures.steps in
    let empty : into_iter_items at.command-iterator ≡ [] = nothing_left _ (sym at.invariant.2 ∙ none.0) in
    let all = sym (append-nil at.yielded) ∙ rw empty at at.invariant.0 ∙ c.into_iter-command-iterator.ensures.into_iter_gives.0 in
    subst (λ l. AddsInTurn AddsMade c.args.program l at.program) all at.invariant.1
