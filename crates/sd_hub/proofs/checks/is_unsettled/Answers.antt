use Rattle.std.proofs.Common.{ap, not, subst, ◌∙◌}
use Rattle.std.specs.Prelude.{◌↔◌, IsTrue}
use Rattle.sd_base.specs.Seen.{seen_of}
use Rattle.sd_base.specs.declared.number.SessionKey.{SessionKey}
use Rattle.sd_journal.specs.Journal.{progress_of}
use Rattle.sd_line.specs.Ends.{ToldSession}
use Rattle.sd_span.specs.declared.progress.Progress.{Progress}
use Rattle.sd_hub.specs.Settles.{IsUnsettled}
use Rattle.sd_hub.proofs.CheckLemmas.{closed_unsettled}
use Rattle.sd_hub.proofs.checks.is_unsettled.Goals as goal

pub returns-in-Closed : goal.returns-in-Closed
returns-in-Closed g c =
    let journal = c.args.drive.now.journal in
    let own : ToldSession = record { session = c.told.inside.session; told = seen_of c.told.inside.told; spools = c.told.inside.spools } in
    let far = c.progress.ensures ∙ ap (λ (k : SessionKey). progress_of k journal) c.key.ensures in
    subst (λ (s : ToldSession). IsTrue (not c.has_all.result) ↔ IsUnsettled journal s) c.told.view_is
    (closed_unsettled journal own c.progress.result.placed c.progress.result.synced c.sent.result c.has_all.result c.in-Closed.ensures
    (ap (λ (p : Progress). p.placed) far) (ap (λ (p : Progress). p.synced) far) c.sent.ensures c.has_all.ensures)
