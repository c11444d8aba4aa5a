use Rattle.std.proofs.Common.{ap, sym, ◌∙◌, Some, Err}
use Rattle.sd_driver.proofs.Lasting.{Passes-later, still_lasts}
use Rattle.sd_volume.proofs.DeviceLemmas.{one_call}
use Rattle.sd_drive.proofs.Kept.{kept_stand}
use Rattle.sd_drive.proofs.Places.{within_get}
use Rattle.sd_drive.proofs.SyncLemmas.{kept_loading}
use Rattle.sd_drive.specs.View.{name_loaded}
use Rattle.sd_drive.proofs.LoadLemmas.{none_when, is_not_there, on_shelf, loaded_there}
use Rattle.sd_drive.proofs.drive.Drive.load.Goals as goal

pub invariant_of-self : goal.invariant_of-self
invariant_of-self g c =
    let e = c.in-Ok.ensures in
    let k = c.self.invariant.kept in
    let vs = c.self.inside.volumes.items in
    let none = rw (← c.self.view_is) at c.requires.none in
    let there = rw (← c.self.view_is) at c.requires.there in
    record {
      kept = kept_loading (g.D.Driver.meaning c.self.inside.driver) (g.D.Driver.meaning c.load.new.self) vs c.self.inside.loaded (Some c.args.at) c.self.inside.journal.entries
          k (none_when _ vs c.self.inside.loaded c.self.inside.journal.entries none k) (loaded_there vs c.args.at c.args.name.now _ there e.loaded) (within_get vs c.args.at there.0 there.1) e.counts.honest (still_lasts _ _ e.passes e.stable) (Passes-later _ _ e.passes) e.same;
      limit = c.self.invariant.limit;
    }

pub invariant_of-self-in-Err : goal.invariant_of-self-in-Err
invariant_of-self-in-Err g c =
    let e = c.in-Err.ensures in
    let k = c.self.invariant.kept in
    let vs = c.self.inside.volumes.items in
    let none = rw (← c.self.view_is) at c.requires.none in
    record {
      kept = kept_loading (g.D.Driver.meaning c.self.inside.driver) (g.D.Driver.meaning c.load.new.self) vs c.self.inside.loaded c.self.inside.loaded c.self.inside.journal.entries
          k (none_when _ vs c.self.inside.loaded c.self.inside.journal.entries none k) (e.not_loaded ∙ sym (ap (name_loaded vs) none)) k.one_of e.counts.honest (still_lasts _ _ e.passes e.stable) (Passes-later _ _ e.passes) e.same;
      limit = c.self.invariant.limit;
    }

pub returns-in-Err-clause-on_shelf : goal.returns-in-Err-clause-on_shelf
returns-in-Err-clause-on_shelf g c =
    let there = rw (← c.self.view_is) at c.requires.there in
    let e = c.in-Err.ensures in
    rw (← c.self.view_is) (λ honest is.
    on_shelf (g.D.Driver.meaning c.self.inside.driver).shelf c.self.inside.volumes.items c.args.at c.args.name.now (kept_stand _ c.self.inside.volumes.items c.self.inside.loaded c.self.inside.journal.entries c.self.invariant.kept honest) there
    (e.not_there honest (ap (λ f. Err f) (is_not_there c.in-Err.fault (sym c.load_refusal.ensures ∙ is)))))

pub returns-in-Ok-clause-calls : goal.returns-in-Ok-clause-calls
returns-in-Ok-clause-calls g c = rw (← c.self.view_is) (one_call (g.D.Driver.meaning c.self.inside.driver) (g.D.Driver.meaning c.load.new.self) c.in-Ok.ensures.passes)

pub returns-in-Err-clause-calls : goal.returns-in-Err-clause-calls
returns-in-Err-clause-calls g c = rw (← c.self.view_is) (one_call (g.D.Driver.meaning c.self.inside.driver) (g.D.Driver.meaning c.load.new.self) c.in-Err.ensures.passes)
