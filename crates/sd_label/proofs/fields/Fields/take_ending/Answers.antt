use Rattle.std.proofs.Common.{◌≡◌, ap, sym, ◌∙◌, rules, [], Some}
use Rattle.std.proofs.lemmas.List.{append-nil}
use Rattle.std.proofs.lemmas.Bool.{false≢true}
use Rattle.sd_label.specs.Label.{start_label_index, end_label_index, totals_bytes}
use Rattle.sd_label.proofs.AnswerLemmas.{never_ok}
use Rattle.sd_label.proofs.LabelLemmas.{ends_with_totals, starts_with_none}
use Rattle.sd_label.proofs.fields.Fields.take_ending.Goals.{in-minus4, in-minus5+in_ok-take_totals-in-minus5}
use Rattle.sd_label.proofs.fields.Fields.take_ending.Goals as goal

pub returns-in_err-take_totals-in-minus5-clause-read_back : goal.returns-in_err-take_totals-in-minus5-clause-read_back
returns-in_err-take_totals-in-minus5-clause-read_back c totals fits index begins =
    let end : c.args.index ≡ end_label_index = search rules in
    let t = ends_with_totals totals (index ∙ end) fits in
    absurd (never_ok _ t.0 (c.in_err-take_totals-in-minus5.ensures.read_back t.0 [] t.2 (begins ∙ ap totals_bytes t.1 ∙ sym (append-nil (totals_bytes (Some t.0))))).0)

pub returns-then-not-is_empty-clause-read_back : goal.returns-then-not-is_empty-clause-read_back
returns-then-not-is_empty-clause-read_back c totals fits index begins =
    absurd (elim c.match-index.branch [
      | in-minus4 w ↦
          let start : c.args.index ≡ start_label_index = search rules in
          false≢true (c.if-not-is_empty.ensures.1 (w.self-is ∙ begins ∙ ap totals_bytes (starts_with_none totals (index ∙ start))))
      | in-minus5+in_ok-take_totals-in-minus5 w ↦
          let end : c.args.index ≡ end_label_index = search rules in
          let t = ends_with_totals totals (index ∙ end) fits in
          let read = w.in_ok-take_totals-in-minus5.ensures.read_back t.0 [] t.2 (begins ∙ ap totals_bytes t.1 ∙ sym (append-nil (totals_bytes (Some t.0)))) in
          false≢true (c.if-not-is_empty.ensures.1 (w.self-is ∙ read.1))
    ])
