use Rattle.sd_drive.proofs.VolumeLists.{kept_read, pieces_read}
use Rattle.sd_drive.proofs.drive.Drive.read.Goals as goal

pub invariant_of-self : goal.invariant_of-self
invariant_of-self g c = record {
  kept = kept_read _ (g.D.Driver.meaning c.self.inside.driver) (g.D.Driver.meaning c.read_session.new.driver) c.self.inside.volumes.items c.self.inside.loaded c.self.inside.journal.entries c.self.invariant.kept c.read_session.ensures.device;
  limit = c.self.invariant.limit;
}

pub returns-clause-keeps : goal.returns-clause-keeps
returns-clause-keeps g c =
    rw (← c.self.view_is) (pieces_read _ (g.D.Driver.meaning c.self.inside.driver) (g.D.Driver.meaning c.read_session.new.driver) c.self.inside.volumes.items c.self.inside.loaded c.self.inside.journal.entries c.self.inside.hand c.self.invariant.kept c.read_session.ensures.device)

pub returns-clause-found : goal.returns-clause-found
returns-clause-found g c = rw (← c.self.view_is) c.read_session.ensures.found

pub returns-clause-first : goal.returns-clause-first
returns-clause-first g c = rw (← c.self.view_is) c.read_session.ensures.first

pub returns-clause-met : goal.returns-clause-met
returns-clause-met g c = rw (← c.self.view_is) c.read_session.ensures.met
