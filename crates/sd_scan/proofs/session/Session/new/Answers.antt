use Rattle.sd_scan.proofs.SessionLemmas.{took_none}
use Rattle.sd_scan.proofs.session.Session.new.Goals as goal

pub returns-clause-stands : goal.returns-clause-stands
returns-clause-stands c = record {
  start_is = c.start_in.ensures;
  stretches_are = c.new.ensures.items;
  took = took_none _ c.new-2.ensures.unpacks c.new-2.ensures.damage;
}
