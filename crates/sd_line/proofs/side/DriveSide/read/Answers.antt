use Rattle.std.proofs.Common.{ap, ◌∙◌}
use Rattle.sd_drive.specs.View.{DriveIs}
use Rattle.sd_driver.specs.Meaning.{Meaning}
use Rattle.sd_journal.specs.Journal.{has_purged}
use Rattle.sd_line.proofs.SideLemmas.{calls_keep, only_read, told_keep}
use Rattle.sd_line.proofs.side.DriveSide.read.Goals as goal

pub returns-clause-reads : goal.returns-clause-reads
returns-clause-reads g c = rw (← c.self.view_is) c.read_drive.ensures

pub invariant_of-self : goal.invariant_of-self
invariant_of-self g c =
    let meaning : g.row.D.Denot → Meaning = λ d. g.D.Driver.meaning d in
    let p = c.self.inside in
    let r = c.read_drive.ensures in
    record {
      keeps = told_keep meaning g.N.Naming.table g.N.Naming.time p.no p.book.id p.drive c.read_drive.new.drive p.seat p.seat p.told p.book.entries
          (only_read _ _ _ r.device)
          (calls_keep meaning _ _ _ _ p.drive c.read_drive.new.drive p.seat (ap (λ (d : DriveIs g.row.D.Denot). d.limits) r.same) r.keeps
          (λ key none. ap (λ (d : DriveIs g.row.D.Denot). has_purged key d.journal) r.same ∙ none)) c.self.invariant.keeps;
      counted = c.self.invariant.counted;
    }
