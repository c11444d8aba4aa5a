use Rattle.std.proofs.Common.{sym, ap, ◌∙◌}
use Rattle.sd_append.specs.Talk.{is_one_line}
use Rattle.sd_append.proofs.SpanLemmas.{span_added, span_unread}
use Rattle.sd_append.proofs.TakeLemmas.{span_refused}
use Rattle.sd_append.proofs.take.take_span.Goals as goal

pub returns-in_default : goal.returns-in_default
returns-in_default c =
    span_refused _ c.args.own c.args.text _ (ap is_one_line (sym c.trimmed.ensures) ∙ c.in_default.ensures.none)

pub read_span-requires : goal.read_span-requires
read_span-requires c =
    let found = c.in-Some.ensures.found in
    ap is_one_line found.0 ∙ found.1

pub returns-in-Ok : goal.returns-in-Ok
returns-in-Ok c =
    let found = c.in-Some.ensures.found in
    span_added _ c.args.own c.args.text _ c.in-Some.line.now c.add_span.result (ap is_one_line (sym c.trimmed.ensures) ∙ found.1) (found.0 ∙ c.trimmed.ensures)
    c.in-Ok.ensures.ok c.add_span.ensures

pub returns-in-Err : goal.returns-in-Err
returns-in-Err c =
    let found = c.in-Some.ensures.found in
    span_unread _ c.args.own c.args.text _ c.in-Some.line.now c.read_span.result c.in-Err.fault c.refusal.result (ap is_one_line (sym c.trimmed.ensures) ∙ found.1)
    (found.0 ∙ c.trimmed.ensures) c.in-Err.is c.read_span.ensures.bad_span c.refusal.ensures
