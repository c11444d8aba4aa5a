use Rattle.std.proofs.Common.{None, sym, subst, ◌∙◌, arith}
use Rattle.std.specs.Prelude.{IsTrue}
use Rattle.sd_driver.proofs.Lasting.{Passes-later, still_lasts, StillLasts-trans}
use Rattle.sd_volume.proofs.DeviceLemmas.{one_call}
use Rattle.sd_drive.proofs.SyncLemmas.{kept_loading, none_unsynced, pieces_same, pieces_trans}
use Rattle.sd_drive.proofs.drive.Drive.unmount.Goals as goal

pub invariant_of-self : goal.invariant_of-self
invariant_of-self g c =
    let u = c.unload.ensures in
    let k = c.self.invariant.kept in
    let quiet = rw (← c.self.view_is) at c.in_ok-sync.ensures.none in
    record {
      kept = kept_loading (g.D.Driver.meaning c.self.inside.driver) (g.D.Driver.meaning c.unload.new.self) c.self.inside.volumes.items c.self.inside.loaded None c.self.inside.journal.entries
          k (none_unsynced _ c.self.inside.journal.entries quiet k.unsynced) u.loaded tt u.counts.honest (still_lasts _ _ u.passes u.stable) (Passes-later _ _ u.passes) u.same;
      limit = c.self.invariant.limit;
    }

pub returns-clause-keeps : goal.returns-clause-keeps
returns-clause-keeps g c =
    let u = c.unload.ensures in
    let first = rw (← c.self.view_is) at c.sync.ensures.keeps in
    pieces_trans (g.D.Driver.meaning c.args.self.now.device) (g.D.Driver.meaning c.self.inside.driver) (g.D.Driver.meaning c.unload.new.self) _ c.self.inside.journal.entries _ _ c.self.inside.hand _ first
    (pieces_same (g.D.Driver.meaning c.self.inside.driver) (g.D.Driver.meaning c.unload.new.self) c.self.inside.volumes.items c.self.inside.loaded c.self.inside.journal.entries c.self.inside.hand c.self.invariant.kept u.counts.honest u.same)

pub returns-clause-later : goal.returns-clause-later
returns-clause-later g c =
    let u = c.unload.ensures in
    let first = rw (← c.self.view_is) at c.sync.ensures.later in
    StillLasts-trans (g.D.Driver.meaning c.args.self.now.device).shelf (g.D.Driver.meaning c.self.inside.driver).shelf (g.D.Driver.meaning c.unload.new.self).shelf first (still_lasts _ _ u.passes u.stable)

pub returns-clause-others : goal.returns-clause-others
returns-clause-others g c = λ honest name apart.
    let first = rw (← c.self.view_is) at c.sync.ensures.others in
    let counted = rw (← c.self.view_is) at c.sync.ensures.counted in
    c.unload.ensures.same (subst IsTrue (sym counted.honest) honest) name ∙ first honest name apart

pub returns-clause-calls : goal.returns-clause-calls
returns-clause-calls g c =
    let first = rw (← c.self.view_is) at c.in_ok-sync.ensures.calls in
    omega (arith, first, one_call (g.D.Driver.meaning c.self.inside.driver) (g.D.Driver.meaning c.unload.new.self) c.unload.ensures.passes)
