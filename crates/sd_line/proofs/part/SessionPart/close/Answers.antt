use Rattle.std.proofs.Common.{rules, subst, ◌≡◌}
use Rattle.sd_line.specs.Side.{KeepsSide, SideIs}
use Rattle.sd_line.proofs.part.SessionPart.close.Goals as goal

pub returns-clause-closes : goal.returns-clause-closes
returns-clause-closes g c =
    let side : SideIs g.row.D.Denot = c.deref_mut-side.result.now in
    record {
      side = side;
      no_is = search rules;
      keeps = c.know.ensures.side;
      closes = c.close_on-closing.ensures.closes;
      own = c.close_on-closing.ensures.own;
      stands = subst (KeepsSide (λ d. g.D.Driver.meaning d) g.N.Naming.table g.N.Naming.time) c.close_on-closing.ensures.told c.know-2.ensures.side;
    }
