use Rattle.std.proofs.Common.{◌≡◌, length, refl, ap, sym, ◌∙◌, arith}
use Rattle.std.proofs.lemmas.List.{length-map}
use Rattle.std.proofs.lemmas.Option.{slice_get_read}
use Rattle.sd_scan.proofs.TableLemmas.{told_of}
use Rattle.sd_scan.specs.declared.session.Session.{Session}
use Rattle.sd_scan.proofs.sessions.Sessions.report.Goals as goal

pub returns-clause-reports : goal.returns-clause-reports
returns-clause-reports c =
    let items = c.args.self.now.found.items in
    let within = length-map items (λ (s : Session). s.key) in
    let there = slice_get_read items (length items) c.args.at c.index.result.now refl (omega (arith, within, c.requires)) c.index.ensures in
    told_of c.report.result items c.args.at c.index.result.now there c.report.ensures.key c.report.ensures.spans c.report.ensures.start c.report.ensures.reads c.report.ensures.breaks
