use Rattle.std.proofs.Common.{sym, subst, ◌∙◌, arith}
use Rattle.std.specs.Prelude.{IsTrue}
use Rattle.sd_driver.proofs.Lasting.{StillLasts-trans}
use Rattle.sd_drive.proofs.drive.Drive.mount.Goals as goal

pub returns-clause-later : goal.returns-clause-later
returns-clause-later g c =
    StillLasts-trans (g.D.Driver.meaning c.args.self.now.device).shelf (g.D.Driver.meaning c.unmount.new.self.device).shelf (g.D.Driver.meaning c.load.new.self.device).shelf c.unmount.ensures.later c.load.ensures.later

pub returns-clause-others : goal.returns-clause-others
returns-clause-others g c = λ honest name apart.
    c.load.ensures.same (subst IsTrue (sym c.unmount.ensures.counted.honest) honest) name ∙ c.unmount.ensures.others honest name apart

pub returns-clause-calls : goal.returns-clause-calls
returns-clause-calls g c = omega (arith, c.unmount.ensures.calls, c.load.ensures.calls)
