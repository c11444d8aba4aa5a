-- The world's deeds in what a port did.
use Rattle.std.proofs.Common.{ℕ, refl, List, [], ◌∷◌}
use Rattle.sd_driver.specs.Meaning.{Meaning}
use Rattle.sd_world.specs.World.{WorldView}
use Rattle.sd_world.specs.Deeds.{LeadsTo}
use Rattle.sd_world.proofs.DeedLemmas.{leads_join, steps_lead}
use Rattle.sd_append.specs.Port.{Stepped, WasRead, Said}
use Rattle.sd_port.specs.Port.{PortDeed, Exchanged, Played, IsPortDeed, PortLeadsTo, world_deeds, world_deeds_in}
use Rattle.sd_port.proofs.ConsoleLemmas.{line_along}
use Rattle.sd_core.proofs.TryLemmas.{answers_along}

deed_leads : {D : Type 0} (meaning : D → Meaning) (rounds : ℕ) (d : PortDeed) (a b : WorldView D) → IsPortDeed meaning rounds d a b
    → LeadsTo meaning a (world_deeds d) b
deed_leads meaning rounds (Exchanged (Stepped e reply) es rs) a b p = (steps_lead meaning a b es rs (answers_along meaning rounds e reply a b es rs p)).0
deed_leads meaning rounds (Exchanged (WasRead key spans records answer) es rs) a b p = (b, p.2, refl)
deed_leads meaning rounds (Exchanged (Said moment text answer) es rs) a b p = (steps_lead meaning a b es rs (line_along meaning moment text answer es rs a b p)).0
deed_leads meaning rounds (Played es rs) a b p = (steps_lead meaning a b es rs p.1).0

pub port_leads : {D : Type 0} (meaning : D → Meaning) (rounds : ℕ) (a b : WorldView D) (ds : List PortDeed) → PortLeadsTo meaning rounds a ds b
    → LeadsTo meaning a (world_deeds_in ds) b
port_leads meaning rounds a b [] p = p
port_leads meaning rounds a b (d ∷ ds) p =
    leads_join meaning a p.0 b (world_deeds d) (world_deeds_in ds) (deed_leads meaning rounds d a p.0 p.1) (port_leads meaning rounds p.0 b ds p.2)
