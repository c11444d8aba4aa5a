use Rattle.std.proofs.Common.{subst}
use Rattle.sd_world.specs.Steps.{DrivesKeep}
use Rattle.sd_core.proofs.world.World.of_parts.Goals as goal

pub returns-clause-sound : goal.returns-clause-sound
returns-clause-sound g c = record {
  rules = c.requires.rules;
  drives = subst (DrivesKeep (λ d. g.D.Driver.meaning d)) c.deref.ensures.value c.know_drives.ensures;
}
