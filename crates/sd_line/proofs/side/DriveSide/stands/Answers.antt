use Rattle.std.proofs.Common.{◌≡◌, sym, ap, subst}
use Rattle.sd_ledger.specs.Ledger.{IsAmong, TokenIs}
use Rattle.sd_line.specs.Side.{CloseIs, SideIs, TellsStand}
use Rattle.sd_line.proofs.SideLemmas.{written_at}
use Rattle.sd_line.proofs.side.DriveSide.stands.Goals as goal

pub returns-clause-stands : goal.returns-clause-stands
returns-clause-stands g c = λ told shown.
    let has = c.know.ensures.among told (subst (λ (t : TokenIs _). IsAmong told t.shown) (sym c.into_token.ensures.token) shown) in
    subst (λ (s : SideIs _). TellsStand (λ d. g.D.Driver.meaning d) s.drive.device told) c.self.view_is
    (written_at (TellsStand (λ d. g.D.Driver.meaning d) c.self.inside.drive.device) c.self.inside.book.entries has.0 told c.self.invariant.keeps.written has.1)
