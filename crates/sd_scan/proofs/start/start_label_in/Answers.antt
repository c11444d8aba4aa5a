use Rattle.std.proofs.Common.{◌≡◌, ◌++◌, sym, ◌∙◌, ap, drop}
use Rattle.std.specs.Prelude.{is_some}
use Rattle.std.proofs.lemmas.Bool.{true≢false}
use Rattle.std.proofs.lemmas.List.{length-take-le, take-append-drop}
use Rattle.sd_label.proofs.AnswerLemmas.{same_ok}
use Rattle.sd_label.specs.declared.label.SessionLabel.{SessionLabel}
use Rattle.sd_scan.proofs.SessionLemmas.{none_left}
use Rattle.sd_unpack.proofs.BatchLemmas.{stands_within}
use Rattle.sd_scan.proofs.IndexLemmas.{label_first, label_in_front, found_end, never_some}
use Rattle.sd_scan.proofs.start.start_label_in.Goals as goal

pub returns-in_default-clause-none : goal.returns-in_default-clause-none
returns-in_default-clause-none c = λ label begins.
    never_some _ (sym c.in_default.is ∙ label_first c.args.body.now begins.behind label c.fragment_at.result c.fragment_at.ensures.read_back begins.start_is.label_is begins.begins)

pub slice_bounds-read_session_label-end : goal.slice_bounds-read_session_label-end
slice_bounds-read_session_label-end c =
    let within = stands_within c.args.body.now 0 c.in-Some.next c.in-Some.field-0-0 c.in-Some.ensures.found in
    sym (length-take-le c.in-Some.next c.args.body.now within.1)

pub returns-in_default-read_session_label-clause-none : goal.returns-in_default-read_session_label-clause-none
returns-in_default-read_session_label-clause-none c = λ label begins.
    let first = label_first c.args.body.now begins.behind label c.fragment_at.result c.fragment_at.ensures.read_back begins.start_is.label_is begins.begins in
    let next_is = found_end _ _ (sym c.in-Some.is ∙ first) in
    c.in_default-read_session_label.not-Ok label
    (c.read_session_label.ensures.read_back label begins.start_is.label_is (label_in_front c.args.body.now begins.behind label c.in-Some.next begins.begins next_is))

pub returns-then-is_some-clause-none : goal.returns-then-is_some-clause-none
returns-then-is_some-clause-none c = λ label begins.
    let first = label_first c.args.body.now begins.behind label c.fragment_at.result c.fragment_at.ensures.read_back begins.start_is.label_is begins.begins in
    let next_is = found_end _ _ (sym c.in-Some.is ∙ first) in
    let read = c.read_session_label.ensures.read_back label begins.start_is.label_is (label_in_front c.args.body.now begins.behind label c.in-Some.next begins.begins next_is) in
    let same : c.in-Ok.label ≡ label = same_ok _ _ (sym c.in-Ok.is ∙ read) in
    true≢false (c.if-is_some.ensures ∙ ap (λ (l : SessionLabel). is_some l.totals) same ∙ ap is_some begins.start_is.no_totals)

pub returns-clause-some : goal.returns-clause-some
returns-clause-some c = record {
  behind = drop c.in-Some.next c.args.body.now;
  start_is = record { label_is = c.in-Ok.ensures.label.0; no_totals = none_left c.in-Ok.label.totals c.if-is_some.ensures };
  begins = sym (take-append-drop c.in-Some.next c.args.body.now) ∙ ap (λ l. l ++ drop c.in-Some.next c.args.body.now) c.in-Ok.ensures.label.1;
}
