use Rattle.std.proofs.Common.{refl}
use Rattle.sd_scan.proofs.SessionLemmas.{breaks, reads_to}
use Rattle.sd_scan.proofs.session.Session.report.Goals as goal

pub returns-clause-reads : goal.returns-clause-reads
returns-clause-reads c = λ first own bodies stands.
    reads_to bodies c.args.self.now.unpacker c.args.self.now.records c.args.self.now.bytes c.args.self.now.damaged _ stands.took c.is_ended.ensures

pub returns-clause-breaks : goal.returns-clause-breaks
returns-clause-breaks c = λ first own bodies stands.
    breaks bodies c.args.self.now.unpacker c.args.self.now.records c.args.self.now.bytes c.args.self.now.damaged stands.took c.args.self.now.damaged refl
