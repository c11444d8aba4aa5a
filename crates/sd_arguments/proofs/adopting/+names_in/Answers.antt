use Rattle.std.proofs.Common.{sym, true≢false}
use Rattle.clap.proofs.TakesLemmas.{passed_up}
use Rattle.sd_arguments.proofs.NameLemmas.{bad_front, last_name}
use Rattle.sd_arguments.proofs.adopting.+names_in.Goals as goal

pub returns-in_err-names-clause-err : goal.returns-in_err-names-clause-err
returns-in_err-names-clause-err t c = passed_up c.from_residual.result c.in_err-names.field-0.0 _ c.from_residual.ensures.1
    (bad_front c.in_err-names.field-0.0 c.args.words.now c.in-Some.front.now c.in-Some.last.now c.in-Some.ensures.cases.0 c.in_err-names.ensures.err)

pub returns-in_default-parse-clause-err : goal.returns-in_default-parse-clause-err
returns-in_default-parse-clause-err t c =
    λ names. true≢false (sym (c.in_default-parse.ensures.accepted.1 (last_name c.args.words.now c.in-Some.front.now c.in-Some.last.now c.in-Some.ensures.cases.0 names)))
