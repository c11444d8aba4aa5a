use Rattle.std.proofs.Common.{inl, sym}
use Rattle.clap.specs.Matches.{found_of}
use Rattle.clap.specs.Walk.{rows_of}
use Rattle.clap.proofs.TakesLemmas.{passed_up}
use Rattle.sd_arguments.specs.Tool.{tool_line}
use Rattle.sd_arguments.proofs.LineLemmas.{exit_with, no_name, parsed, refused_by}
use Rattle.sd_arguments.proofs.ToolLemmas.{asks_for, names_command, tool_is, words_are_given}
use Rattle.sd_arguments.proofs.tool.parse.Goals as goal

pub returns-in_err-command-clause-err : goal.returns-in_err-command-clause-err
returns-in_err-command-clause-err c = exit_with c.from_residual.result _ _ c.from_residual.ensures.1 (λ e is. inl is)

pub returns-in_err-matches-clause-err : goal.returns-in_err-matches-clause-err
returns-in_err-matches-clause-err c = passed_up c.from_residual-in_err-matches.result c.in_err-matches.field-0.0 _ c.from_residual-in_err-matches.ensures.1
    (refused_by tool_line _ _ c.in_err-matches.field-0.0 tool_is c.in_ok-command.ensures c.in_err-matches.ensures.kinds)

pub task_of-requires : goal.task_of-requires
task_of-requires c =
    let named = parsed tool_line _ _ c.in_ok-matches.matches tool_is c.in_ok-command.ensures c.in_ok-matches.ensures.kinds c.in_ok-matches.ensures.matches in
    record {
      known = names_command _ c.in_ok-matches.matches named c.in-Some.name.now (sym c.in-Some.ensures.name);
      words = words_are_given _ c.in_ok-matches.matches named c.in-Some.name.now (rows_of (found_of c.in-Some.given.now)) (sym c.in-Some.ensures.name) (sym c.in-Some.ensures.rows);
    }

pub returns-in-Some-clause-ok : goal.returns-in-Some-clause-ok
returns-in-Some-clause-ok c =
    asks_for _ c.in_ok-matches.matches (parsed tool_line _ _ c.in_ok-matches.matches tool_is c.in_ok-command.ensures c.in_ok-matches.ensures.kinds c.in_ok-matches.ensures.matches)
    c.in-Some.name.now (rows_of (found_of c.in-Some.given.now)) _ (sym c.in-Some.ensures.name) (sym c.in-Some.ensures.rows) c.in_ok-task_of-in-Some.ensures

pub returns-clause-ok : goal.returns-clause-ok
returns-clause-ok c = absurd (no_name (parsed tool_line _ _ c.in_ok-matches.matches tool_is c.in_ok-command.ensures c.in_ok-matches.ensures.kinds c.in_ok-matches.ensures.matches) c.in-None.ensures.name)
