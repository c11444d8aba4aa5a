use Rattle.std.proofs.Common.{sym, subst}
use Rattle.std.specs.Prelude.{IsTrue}
use Rattle.sd_driver.proofs.Lasting.{still_lasts, StillLasts-trans}
use Rattle.sd_volume.proofs.DeviceLemmas.{writes_of}
use Rattle.sd_volume.proofs.label.write.Goals as goal

pub returns-in_err-sync-clause-lasts : goal.returns-in_err-sync-clause-lasts
returns-in_err-sync-clause-lasts g c =
    StillLasts-trans (g.D.Driver.meaning c.args.driver.now).shelf (g.D.Driver.meaning c.append.new.self).shelf (g.D.Driver.meaning c.sync.new.self).shelf
    (still_lasts _ _ c.in_ok-append.ensures.passes c.in_ok-append.ensures.stable) (still_lasts _ _ c.in_err-sync.ensures.passes c.in_err-sync.ensures.stable)

pub returns-clause-lasts : goal.returns-clause-lasts
returns-clause-lasts g c =
    StillLasts-trans (g.D.Driver.meaning c.args.driver.now).shelf (g.D.Driver.meaning c.append.new.self).shelf (g.D.Driver.meaning c.sync.new.self).shelf
    (still_lasts _ _ c.in_ok-append.ensures.passes c.in_ok-append.ensures.stable) (still_lasts _ _ c.in_ok-sync.ensures.passes c.in_ok-sync.ensures.stable)

pub returns-clause-ok : goal.returns-clause-ok
returns-clause-ok g c = λ honest.
    writes_of c.args.bytes.now (g.D.Driver.meaning c.args.driver.now).loaded (g.D.Driver.meaning c.append.new.self).loaded (g.D.Driver.meaning c.args.driver.now).shelf (g.D.Driver.meaning c.append.new.self).shelf
    (g.D.Driver.meaning c.sync.new.self).shelf c.in_ok-append.ensures.loaded (c.in_ok-append.ensures.ok honest) (c.in_ok-sync.ensures.ok (subst IsTrue (sym c.in_ok-append.ensures.counts.honest) honest))
