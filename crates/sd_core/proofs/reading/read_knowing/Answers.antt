use Rattle.std.proofs.Common.{List, sym, subst}
use Rattle.sd_world.specs.World.{WorldSession, BayView}
use Rattle.sd_world.specs.Deeds.{CountsFit}
use Rattle.sd_world.specs.Steps.{DrivesKeep}
use Rattle.sd_events.specs.View.{world_of}
use Rattle.sd_core.specs.Numbers.{NumbersAreTickets}
use Rattle.sd_core.proofs.Gone.{are_tickets}
use Rattle.sd_core.proofs.reading.read_knowing.Goals as goal

pub know_counts-requires-clause-most : goal.know_counts-requires-clause-most
know_counts-requires-clause-most g c κs within =
    subst (λ (es : List WorldSession). NumbersAreTickets es) (sym c.deref.ensures.value) (are_tickets (world_of c.args.parts.now) c.requires.world)

pub returns-clause-drives : goal.returns-clause-drives
returns-clause-drives g c =
    subst (λ (bays : List (BayView g.row.D.Denot)). DrivesKeep (λ d. g.D.Driver.meaning d) bays) c.deref-2.ensures.value c.know_drives.ensures

pub returns-clause-fit : goal.returns-clause-fit
returns-clause-fit g c = subst (λ (es : List WorldSession). CountsFit es c.args.key) c.deref.ensures.value c.know_counts.ensures
