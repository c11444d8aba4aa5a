use Rattle.std.proofs.Common.{subst}
use Rattle.std.specs.Prelude.{IfSome}
use Rattle.sd_line.specs.Operates.{Operates}
use Rattle.sd_line.specs.Side.{SideIs}
use Rattle.sd_line.proofs.side.DriveSide.refusal_without_room.Goals as goal

pub returns : goal.returns
returns g c =
    subst (λ (s : SideIs g.row.D.Denot). IfSome c.refusal_without_room.result (λ reply. Operates (λ d. g.D.Driver.meaning d) s.no c.args.event.now reply s.drive s.drive))
    c.self.view_is c.refusal_without_room.ensures
