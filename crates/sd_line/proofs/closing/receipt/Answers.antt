use Rattle.std.proofs.Common.{ap, sym, ◌∙◌}
use Rattle.sd_journal.specs.Journal.{placed_of, progress_of}
use Rattle.sd_line.proofs.CloseLemmas.{refuses, no_memory, due}
use Rattle.sd_line.proofs.closing.receipt.Goals as goal

pub returns-in-Err : goal.returns-in-Err
returns-in-Err g c =
    let j = c.args.drive.now.journal in
    let far = c.progress-progress.ensures ∙ ap (λ k. progress_of k j) c.key-key.ensures in
    let r = c.refuse.ensures in
    refuses j c.args.session.now c.refuse.new.session c.progress-progress.result c.in-Err.why c.refuse.result far c.in-Err.ensures.why
    (record { not_yet = r.not_yet; failed = r.failed; other = r.other })

pub returns-in-Ok : goal.returns-in-Ok
returns-in-Ok g c =
    let j = c.args.drive.now.journal in
    let far = c.progress-progress.ensures ∙ ap (λ k. progress_of k j) c.key-key.ensures in
    due j c.args.session.now c.progress-progress.result c.key-key.result c.sent.result c.in-Ok.receipt far c.in_default.ensures.ok c.key-key.ensures c.sent.ensures
    c.in-Ok.ensures.exactly c.in-Ok.ensures.tells

pub returns-in-Err-receipt : goal.returns-in-Err-receipt
returns-in-Err-receipt g c =
    let j = c.args.drive.now.journal in
    let far = c.progress-progress.ensures ∙ ap (λ k. progress_of k j) c.key-key.ensures in
    no_memory j c.args.session.now c.progress-progress.result far c.in_default.ensures.ok
    (ap (λ k. placed_of k j) (sym c.key-key.ensures) ∙ c.in-Err-receipt.ensures.err.0 ∙ c.sent.ensures)
