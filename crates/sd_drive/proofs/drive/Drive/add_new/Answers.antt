use Rattle.std.proofs.Common.{rules, []}
use Rattle.sd_volume.specs.Label.{new_volume}
use Rattle.sd_drive.proofs.Stays.{still_on}
use Rattle.sd_drive.proofs.VolumeLists.{kept_more, kept_called, pieces_called, same_but, same_made}
use Rattle.sd_drive.proofs.drive.Drive.add_new.Goals as goal

pub invariant_of-self-in-Ok-label_new : goal.invariant_of-self-in-Ok-label_new
invariant_of-self-in-Ok-label_new g c =
    let e = c.in-Ok-label_new.ensures in
    let vs = c.self.inside.volumes.items in
    let js = c.self.inside.journal.entries in
    let label = c.args.label.now in
    let fresh = rw (← c.self.view_is) at c.requires.fresh in
    let none = rw (← c.self.view_is) at c.requires.loaded in
    record {
      kept = kept_more (g.D.Driver.meaning c.self.inside.driver) (g.D.Driver.meaning c.label_new.new.driver) vs _ c.self.inside.loaded js (new_volume label)
          c.self.invariant.kept none (let p = c.push_reserved.ensures.items in let r = c.reserve.ensures.items in let v = e.volume in search rules) fresh e.counted.honest e.unloaded e.counted.moment
          (λ o. still_on vs _ _ e.lasts) (λ o. same_but vs label.name (g.D.Driver.meaning c.self.inside.driver).shelf (g.D.Driver.meaning c.label_new.new.driver).shelf fresh (e.ok o).others) (λ o. record { label = label; blocks = []; tail = []; stands = (e.ok o).stands });
      limit = c.self.invariant.limit;
    }

pub invariant_of-self-in-Err : goal.invariant_of-self-in-Err
invariant_of-self-in-Err g c =
    let e = c.in-Err.ensures in
    let vs = c.self.inside.volumes.items in
    let js = c.self.inside.journal.entries in
    let none = rw (← c.self.view_is) at c.requires.loaded in
    record {
      kept = rw c.reserve.ensures.items (kept_called (g.D.Driver.meaning c.self.inside.driver) (g.D.Driver.meaning c.label_new.new.driver) vs c.self.inside.loaded js
          c.self.invariant.kept none e.counted.honest e.unloaded e.counted.moment (λ o. still_on vs _ _ e.lasts) (λ o. same_made vs c.args.label.now.name _ _ (e.err o)));
      limit = c.self.invariant.limit;
    }

pub returns-in-Ok-label_new-clause-keeps : goal.returns-in-Ok-label_new-clause-keeps
returns-in-Ok-label_new-clause-keeps g c =
    let e = c.in-Ok-label_new.ensures in
    let vs = c.self.inside.volumes.items in
    let fresh = rw (← c.self.view_is) at c.requires.fresh in
    rw (← c.self.view_is) (pieces_called (g.D.Driver.meaning c.self.inside.driver) (g.D.Driver.meaning c.label_new.new.driver) vs c.self.inside.loaded c.self.inside.journal.entries c.self.inside.hand
    c.self.invariant.kept e.counted.honest (λ o. same_but vs c.args.label.now.name (g.D.Driver.meaning c.self.inside.driver).shelf (g.D.Driver.meaning c.label_new.new.driver).shelf fresh (e.ok o).others))

pub returns-in-Ok-label_new-clause-later : goal.returns-in-Ok-label_new-clause-later
returns-in-Ok-label_new-clause-later g c = rw (← c.self.view_is) c.in-Ok-label_new.ensures.lasts

pub returns-in-Err-clause-keeps : goal.returns-in-Err-clause-keeps
returns-in-Err-clause-keeps g c =
    let e = c.in-Err.ensures in
    let vs = c.self.inside.volumes.items in
    rw (← c.self.view_is) (pieces_called (g.D.Driver.meaning c.self.inside.driver) (g.D.Driver.meaning c.label_new.new.driver) vs c.self.inside.loaded c.self.inside.journal.entries c.self.inside.hand
    c.self.invariant.kept e.counted.honest (λ o. same_made vs c.args.label.now.name _ _ (e.err o)))

pub returns-in-Err-clause-later : goal.returns-in-Err-clause-later
returns-in-Err-clause-later g c = rw (← c.self.view_is) c.in-Err.ensures.lasts
