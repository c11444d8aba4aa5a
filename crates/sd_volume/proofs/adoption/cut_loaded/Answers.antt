use Rattle.std.proofs.Common.{arith, sym, subst}
use Rattle.std.specs.Prelude.{IsTrue}
use Rattle.sd_driver.proofs.Lasting.{still_lasts, still_lasts_below, StillLastsBelow-of, StillLastsBelow-trans}
use Rattle.sd_volume.proofs.DeviceLemmas.{cuts_of, cut_keeps, failed_cut_keeps, failed_sync_keeps, one_call}
use Rattle.sd_volume.proofs.adoption.cut_loaded.Goals as goal

pub returns-in_err-cut-clause-calls : goal.returns-in_err-cut-clause-calls
returns-in_err-cut-clause-calls g c =
    omega (arith, one_call (g.D.Driver.meaning c.args.driver.now) (g.D.Driver.meaning c.cut.new.self) c.in_err-cut.ensures.passes)

pub returns-in_err-sync-clause-calls : goal.returns-in_err-sync-clause-calls
returns-in_err-sync-clause-calls g c =
    omega (
      arith,
      one_call (g.D.Driver.meaning c.args.driver.now) (g.D.Driver.meaning c.cut.new.self) c.in_ok-cut.ensures.passes,
      one_call (g.D.Driver.meaning c.cut.new.self) (g.D.Driver.meaning c.sync.new.self) c.in_err-sync.ensures.passes,
    )

pub returns-clause-calls : goal.returns-clause-calls
returns-clause-calls g c =
    omega (
      arith,
      one_call (g.D.Driver.meaning c.args.driver.now) (g.D.Driver.meaning c.cut.new.self) c.in_ok-cut.ensures.passes,
      one_call (g.D.Driver.meaning c.cut.new.self) (g.D.Driver.meaning c.sync.new.self) c.in_ok-sync.ensures.passes,
    )

pub returns-in_err-cut-clause-lasts_below : goal.returns-in_err-cut-clause-lasts_below
returns-in_err-cut-clause-lasts_below g c = λ volume is. still_lasts_below c.args.to _ volume _ _ is c.in_err-cut.ensures.passes c.in_err-cut.ensures.stable

pub returns-in_err-cut-clause-keeps : goal.returns-in_err-cut-clause-keeps
returns-in_err-cut-clause-keeps g c = λ honest. failed_cut_keeps c.args.to _ (g.D.Driver.meaning c.args.driver.now).shelf (g.D.Driver.meaning c.cut.new.self).shelf (c.in_err-cut.ensures.err honest)

pub returns-in_err-sync-clause-lasts_below : goal.returns-in_err-sync-clause-lasts_below
returns-in_err-sync-clause-lasts_below g c = λ volume is.
    StillLastsBelow-trans c.args.to volume (g.D.Driver.meaning c.args.driver.now).shelf (g.D.Driver.meaning c.cut.new.self).shelf (g.D.Driver.meaning c.sync.new.self).shelf
    (still_lasts_below c.args.to _ volume _ _ is c.in_ok-cut.ensures.passes c.in_ok-cut.ensures.stable)
    (StillLastsBelow-of c.args.to volume _ _ (still_lasts _ _ c.in_err-sync.ensures.passes c.in_err-sync.ensures.stable))

pub returns-in_err-sync-clause-keeps : goal.returns-in_err-sync-clause-keeps
returns-in_err-sync-clause-keeps g c = λ honest.
    failed_sync_keeps c.args.to _ (g.D.Driver.meaning c.cut.new.self).loaded (g.D.Driver.meaning c.args.driver.now).shelf (g.D.Driver.meaning c.cut.new.self).shelf (g.D.Driver.meaning c.sync.new.self).shelf
    c.in_ok-cut.ensures.loaded (c.in_ok-cut.ensures.ok honest) (c.in_err-sync.ensures.err (subst IsTrue (sym c.in_ok-cut.ensures.counts.honest) honest))

pub returns-clause-lasts_below : goal.returns-clause-lasts_below
returns-clause-lasts_below g c = λ volume is.
    StillLastsBelow-trans c.args.to volume (g.D.Driver.meaning c.args.driver.now).shelf (g.D.Driver.meaning c.cut.new.self).shelf (g.D.Driver.meaning c.sync.new.self).shelf
    (still_lasts_below c.args.to _ volume _ _ is c.in_ok-cut.ensures.passes c.in_ok-cut.ensures.stable)
    (StillLastsBelow-of c.args.to volume _ _ (still_lasts _ _ c.in_ok-sync.ensures.passes c.in_ok-sync.ensures.stable))

pub returns-clause-ok : goal.returns-clause-ok
returns-clause-ok g c = λ honest.
    cuts_of c.args.to _ (g.D.Driver.meaning c.cut.new.self).loaded (g.D.Driver.meaning c.args.driver.now).shelf (g.D.Driver.meaning c.cut.new.self).shelf (g.D.Driver.meaning c.sync.new.self).shelf
    c.in_ok-cut.ensures.loaded (c.in_ok-cut.ensures.ok honest) (c.in_ok-sync.ensures.ok (subst IsTrue (sym c.in_ok-cut.ensures.counts.honest) honest))

pub returns-clause-keeps : goal.returns-clause-keeps
returns-clause-keeps g c = λ honest. cut_keeps c.args.to _ (g.D.Driver.meaning c.args.driver.now).shelf (g.D.Driver.meaning c.sync.new.self).shelf (returns-clause-ok g c honest)
