use Rattle.sd_world.proofs.MoveLeaves.{leaves}
use Rattle.sd_world.proofs.laws.moves_keep_claims.Goals as goal

pub returns : goal.returns
returns g c = λ meaning old new event reply m. let left = leaves meaning old new event reply m in (left.claims, left.purged)
