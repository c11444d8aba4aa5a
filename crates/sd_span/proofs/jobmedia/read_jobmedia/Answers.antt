use Rattle.std.proofs.Common.{◌∷◌, [], Some, refl, sym, ap, ◌∙◌}
use Rattle.sd_span.proofs.TextLemmas.{none_taken, taken_at, one_taken, empty_says_none, first_says_none, line_says_none, none_told, refused_told, memory_told, read_told}
use Rattle.sd_span.proofs.jobmedia.read_jobmedia.Goals as goal

pub returns-in_default-clause-found : goal.returns-in_default-clause-found
returns-in_default-clause-found c =
    (none_told c.args.text.now (empty_says_none c.args.text.now (sym c.new-lines.ensures ∙ c.in_default.ensures.0))).found

pub returns-in_default-clause-bad_span : goal.returns-in_default-clause-bad_span
returns-in_default-clause-bad_span c =
    (none_told c.args.text.now (empty_says_none c.args.text.now (sym c.new-lines.ensures ∙ c.in_default.ensures.0))).bad_span

pub returns-in_err-key-clause-found : goal.returns-in_err-key-clause-found
returns-in_err-key-clause-found c =
    (refused_told c.args.text.now c.from_residual.result c.from_residual.ensures
    (first_says_none c.args.text.now c.in-Some.first.now c.next_line.new.self (sym c.new-lines.ensures ∙ c.in-Some.ensures) c.in_err-key.ensures)).found

pub returns-in_err-key-clause-bad_span : goal.returns-in_err-key-clause-bad_span
returns-in_err-key-clause-bad_span c =
    (refused_told c.args.text.now c.from_residual.result c.from_residual.ensures
    (first_says_none c.args.text.now c.in-Some.first.now c.next_line.new.self (sym c.new-lines.ensures ∙ c.in-Some.ensures) c.in_err-key.ensures)).bad_span

pub returns-in_err-span-clause-found : goal.returns-in_err-span-clause-found
returns-in_err-span-clause-found c =
    (refused_told c.args.text.now c.from_residual-in_err-span.result c.from_residual-in_err-span.ensures
    (line_says_none c.args.text.now c.in_ok-key.key c.in-Some-next_line.line.now c.next_line-in-loop-line.new.self c.loop-line.kept
    (taken_at c.args.text.now c.in_ok-key.key c.loop-line.lines (c.in-Some-next_line.line.now ∷ c.next_line-in-loop-line.new.self) c.loop-line.kept c.loop-line.kept c.in-Some-next_line.ensures refl c.loop-line.invariant)
    c.in_err-span.ensures)).found

pub returns-in_err-span-clause-bad_span : goal.returns-in_err-span-clause-bad_span
returns-in_err-span-clause-bad_span c =
    (refused_told c.args.text.now c.from_residual-in_err-span.result c.from_residual-in_err-span.ensures
    (line_says_none c.args.text.now c.in_ok-key.key c.in-Some-next_line.line.now c.next_line-in-loop-line.new.self c.loop-line.kept
    (taken_at c.args.text.now c.in_ok-key.key c.loop-line.lines (c.in-Some-next_line.line.now ∷ c.next_line-in-loop-line.new.self) c.loop-line.kept c.loop-line.kept c.in-Some-next_line.ensures refl c.loop-line.invariant)
    c.in_err-span.ensures)).bad_span

pub loop-line-init : goal.loop-line-init
loop-line-init c =
    taken_at c.args.text.now c.in_ok-key.key c.next_line.new.self c.next_line.new.self (Some []) (Some c.new.result) refl (ap Some (sym c.new.ensures))
    (none_taken c.args.text.now c.in-Some.first.now c.in_ok-key.key c.next_line.new.self (sym c.new-lines.ensures ∙ c.in-Some.ensures) c.in_ok-key.ensures.1)

pub loop-line-preserved : goal.loop-line-preserved
loop-line-preserved c =
    one_taken c.args.text.now c.in_ok-key.key c.in-Some-next_line.line.now c.next_line-in-loop-line.new.self c.loop-line.kept c.with_span-kept.result c.in_ok-span.span
    (taken_at c.args.text.now c.in_ok-key.key c.loop-line.lines (c.in-Some-next_line.line.now ∷ c.next_line-in-loop-line.new.self) c.loop-line.kept c.loop-line.kept c.in-Some-next_line.ensures refl c.loop-line.invariant)
    c.in_ok-span.ensures.0 c.in_ok-span.ensures.1 c.with_span-kept.ensures

pub returns-in_default-kept-clause-bad_span : goal.returns-in_default-kept-clause-bad_span
returns-in_default-kept-clause-bad_span c =
    (memory_told c.args.text.now c.in_ok-key.key c.loop-line.kept c.in_ok-key.ensures.0
    (taken_at c.args.text.now c.in_ok-key.key c.loop-line.lines [] c.loop-line.kept c.loop-line.kept c.in_default-next_line.ensures.0 refl c.loop-line.invariant)).bad_span

pub returns-clause-ok : goal.returns-clause-ok
returns-clause-ok c =
    (read_told c.args.text.now c.in_ok-key.key c.in-Some-kept.spans c.in_ok-key.ensures.0
    (taken_at c.args.text.now c.in_ok-key.key c.loop-line.lines [] c.loop-line.kept (Some c.in-Some-kept.spans) c.in_default-next_line.ensures.0 c.in-Some-kept.is c.loop-line.invariant)).ok

pub returns-clause-found : goal.returns-clause-found
returns-clause-found c =
    (read_told c.args.text.now c.in_ok-key.key c.in-Some-kept.spans c.in_ok-key.ensures.0
    (taken_at c.args.text.now c.in_ok-key.key c.loop-line.lines [] c.loop-line.kept (Some c.in-Some-kept.spans) c.in_default-next_line.ensures.0 c.in-Some-kept.is c.loop-line.invariant)).found

pub returns-clause-bad_span : goal.returns-clause-bad_span
returns-clause-bad_span c =
    (read_told c.args.text.now c.in_ok-key.key c.in-Some-kept.spans c.in_ok-key.ensures.0
    (taken_at c.args.text.now c.in_ok-key.key c.loop-line.lines [] c.loop-line.kept (Some c.in-Some-kept.spans) c.in_default-next_line.ensures.0 c.in-Some-kept.is c.loop-line.invariant)).bad_span
