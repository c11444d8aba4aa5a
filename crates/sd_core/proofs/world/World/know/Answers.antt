use Rattle.std.proofs.Common.{List, ap, ◌∙◌, subst}
use Rattle.sd_driver.specs.Meaning.{Meaning}
use Rattle.sd_world.specs.Rules.{IsWorld}
use Rattle.sd_world.specs.World.{WorldView, BayView}
use Rattle.sd_world.specs.Steps.{DrivesKeep}
use Rattle.sd_core.proofs.world.World.know.Goals as goal

pub returns : goal.returns
returns g c =
    let meaning : g.row.D.Denot → Meaning = λ d. g.D.Driver.meaning d in
    let W : WorldView g.row.D.Denot → Type 0 = λ w. IsWorld w in
    record {
      rules = subst W c.self.view_is c.self.invariant;
      drives = subst (λ (bays : List (BayView g.row.D.Denot)). DrivesKeep meaning bays)
          (c.deref.ensures.value ∙ ap (λ (w : WorldView g.row.D.Denot). w.bays) c.self.view_is) c.know_drives.ensures;
    }
