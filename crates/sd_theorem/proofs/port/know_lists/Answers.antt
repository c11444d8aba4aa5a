use Rattle.sd_port.specs.Port.{world_deeds_in}
use Rattle.sd_theorem.proofs.port.know_lists.Goals as goal

pub returns : goal.returns
returns g c = λ start made.
    let over = c.know.ensures in
    let p = c.args.port.now in (
      over.deeds,
      over.asked_are,
      c.headline.ensures _ start p.opening p.world (world_deeds_in over.deeds) made
          (c.port_leads.ensures _ p.rounds p.opening p.world over.deeds over.leads),
    )
