use Rattle.std.proofs.Common.{◌≡◌, ℕ, List, [], refl, ap, sym, subst, ◌∙◌, Err}
use Rattle.sd_driver.specs.Shelf.{StillLastsBelow}
use Rattle.sd_journal.specs.Journal.{purged}
use Rattle.sd_volume.specs.Adopt.{CutsAt}
use Rattle.sd_volume.specs.Fault.{adopt_refusal}
use Rattle.sd_volume.specs.declared.volume.VolumeStatus.TheVariants.{Append, Error}
use Rattle.sd_drive.specs.View.{DriveIs}
use Rattle.sd_drive.proofs.Kept.{kept_stand}
use Rattle.sd_drive.proofs.LoadLemmas.{on_shelf}
use Rattle.sd_drive.proofs.PurgeLemmas.{kept_purged, kept_unpurged, pieces_purged, adds_none, is_named, purges_err, keeps_err, device_or_other, is_not_on_shelf}
use Rattle.sd_drive.proofs.Stays.{same_bytes}
use Rattle.sd_drive.proofs.SyncLemmas.{parts_are}
use Rattle.sd_drive.proofs.VolumeLists.{pieces_called}
use Rattle.sd_drive.proofs.drive.Drive.purge_at.Goals as goal

pub invariant_of-self : goal.invariant_of-self
invariant_of-self g c =
    let i = c.self.inside in
    let vs = i.volumes.items in
    let js = i.journal.entries in
    let name = c.args.name.now in
    let v = c.index_mut.result.now in
    let at = is_named vs c.args.at name v (rw (← c.self.view_is) at c.requires.there) c.index_mut.ensures.value in
    let old = g.D.Driver.meaning i.driver in
    let new = g.D.Driver.meaning c.purge.new.driver in
    let none = rw (← c.self.view_is) at c.requires.none in
    let k = c.self.invariant.kept in
    let e = c.in-Ok.ensures in
    let journal : c.purged.new.self.entries ≡ purged v.name js = ap (λ (j : _). j.entries) c.purged.ensures ∙ ap (λ (n : List ℕ). purged n js) (sym at.name_is) in
    record {
      kept = kept_purged old new vs i.loaded js c.purged.new.self.entries c.args.at v c.purge.new.volume Append k none at.there e.ok journal e.counted.honest e.unloaded e.counted.moment e.lasts_below
          (λ o. (let s = kept_stand old vs i.loaded js k o c.args.at v at.there in record { label = s.label; blocks = []; tail = []; stands = e.leaves o s.label s.blocks s.tail s.stands })) e.others;
      limit = c.self.invariant.limit;
    }

pub invariant_of-self-in-Err : goal.invariant_of-self-in-Err
invariant_of-self-in-Err g c =
    let i = c.self.inside in
    let vs = i.volumes.items in
    let js = i.journal.entries in
    let name = c.args.name.now in
    let v = c.index_mut.result.now in
    let at = is_named vs c.args.at name v (rw (← c.self.view_is) at c.requires.there) c.index_mut.ensures.value in
    let old = g.D.Driver.meaning i.driver in
    let new = g.D.Driver.meaning c.purge.new.driver in
    let none = rw (← c.self.view_is) at c.requires.none in
    let k = c.self.invariant.kept in
    let e = c.in-Err.ensures in
    let t = c.tell_failure.ensures in
    record {
      kept = device_or_other c.in-Err.fault
          (λ device. kept_purged old new vs i.loaded js c.tell_failure.new.journal.entries c.args.at v c.purge.new.volume Error k none at.there (e.failed (ap Err device))
          (ap (λ (j : _). j.entries) (t.device device) ∙ ap (λ (n : List ℕ). purged n js) (sym at.name_is)) e.counted.honest e.unloaded e.counted.moment e.lasts_below
          (λ o. (
          let s = kept_stand old vs i.loaded js k o c.args.at v at.there in
          let left = e.keeps o (ap Err device) s.label s.blocks s.tail s.stands in
          record { label = s.label; blocks = []; tail = left.0; stands = left.1 })) e.others)
          (λ other. kept_unpurged old new vs i.loaded js c.tell_failure.new.journal.entries c.args.at v c.purge.new.volume k none at.there (e.refused other)
          (ap (λ (j : _). j.entries) (t.other other)) e.counted.honest e.unloaded e.counted.moment (e.refused_last other) (λ o. e.same o other));
      limit = c.self.invariant.limit;
    }

pub returns-in-Ok-clause-purges : goal.returns-in-Ok-clause-purges
returns-in-Ok-clause-purges g c =
    let i = c.self.inside in
    let vs = i.volumes.items in
    let js = i.journal.entries in
    let name = c.args.name.now in
    let v = c.index_mut.result.now in
    let at = is_named vs c.args.at name v (rw (← c.self.view_is) at c.requires.there) c.index_mut.ensures.value in
    let old = g.D.Driver.meaning i.driver in
    let new = g.D.Driver.meaning c.purge.new.driver in
    let e = c.in-Ok.ensures in
    let d : DriveIs _ = record { device = i.driver; media = i.media; limits = i.limits; volumes = vs; loaded = i.loaded; pool = i.pool; hand = i.hand; journal = js; ready = i.journal.ready } in
    let B : List ℕ → Type 0 = λ n. StillLastsBelow v.first n old.shelf new.shelf in
    let C : List ℕ → Type 0 = λ n. CutsAt v.first n old.shelf new.shelf in
    let journal : c.purged.new.self.entries ≡ purged v.name js = ap (λ (j : _). j.entries) c.purged.ensures ∙ ap (λ (n : List ℕ). purged n js) (sym at.name_is) in
    rw (← c.self.view_is) (record {
      volume = v;
      there = at.there;
      name_is = at.name_is;
      purges = parts_are d c.purge.new.driver _ _ _ c.args.at _ _ e.ok journal (ap (λ (j : _). j.ready) c.purged.ensures);
      below = subst B at.name_is e.lasts_below;
      cuts = λ o. subst C at.name_is (e.cuts o);
    })

pub returns-in-Ok-clause-keeps : goal.returns-in-Ok-clause-keeps
returns-in-Ok-clause-keeps g c =
    let i = c.self.inside in
    let vs = i.volumes.items in
    let js = i.journal.entries in
    let name = c.args.name.now in
    let v = c.index_mut.result.now in
    let at = is_named vs c.args.at name v (rw (← c.self.view_is) at c.requires.there) c.index_mut.ensures.value in
    let old = g.D.Driver.meaning i.driver in
    let new = g.D.Driver.meaning c.purge.new.driver in
    let e = c.in-Ok.ensures in
    rw (← c.self.view_is) (pieces_purged old new name js i.hand e.counted.honest (λ o other apart. e.others o other (λ is. apart (is ∙ at.name_is))))

pub returns-in-Ok-clause-others : goal.returns-in-Ok-clause-others
returns-in-Ok-clause-others g c =
    let i = c.self.inside in
    let vs = i.volumes.items in
    let js = i.journal.entries in
    let name = c.args.name.now in
    let v = c.index_mut.result.now in
    let at = is_named vs c.args.at name v (rw (← c.self.view_is) at c.requires.there) c.index_mut.ensures.value in
    rw (← c.self.view_is) (λ o other apart. c.in-Ok.ensures.others o other (λ is. apart (is ∙ at.name_is)))

pub returns-in-Ok-clause-calls : goal.returns-in-Ok-clause-calls
returns-in-Ok-clause-calls g c = rw (← c.self.view_is) c.in-Ok.ensures.calls

pub returns-in-Err-clause-calls : goal.returns-in-Err-clause-calls
returns-in-Err-clause-calls g c = rw (← c.self.view_is) c.in-Err.ensures.calls

pub returns-in-Err-clause-purges : goal.returns-in-Err-clause-purges
returns-in-Err-clause-purges g c =
    let i = c.self.inside in
    let vs = i.volumes.items in
    let js = i.journal.entries in
    let name = c.args.name.now in
    let v = c.index_mut.result.now in
    let at = is_named vs c.args.at name v (rw (← c.self.view_is) at c.requires.there) c.index_mut.ensures.value in
    let old = g.D.Driver.meaning i.driver in
    let new = g.D.Driver.meaning c.purge.new.driver in
    let e = c.in-Err.ensures in
    let t = c.tell_failure.ensures in
    let d : DriveIs _ = record { device = i.driver; media = i.media; limits = i.limits; volumes = vs; loaded = i.loaded; pool = i.pool; hand = i.hand; journal = js; ready = i.journal.ready } in
    let B : List ℕ → Type 0 = λ n. StillLastsBelow v.first n old.shelf new.shelf in
    rw (← c.self.view_is, c.refusal.ensures) (record {
      volume = v;
      there = at.there;
      name_is = at.name_is;
      purges = purges_err (Unit {0}) c.in-Err.fault c.args.at v d _ e.faults
          (λ device. parts_are d c.purge.new.driver _ _ _ c.args.at _ _ (e.failed (ap Err device))
          (ap (λ (j : _). j.entries) (t.device device) ∙ ap (λ (n : List ℕ). purged n js) (sym at.name_is)) (ap (λ (j : _). j.ready) (t.device device)))
          (λ other. adds_none d c.purge.new.driver _ _ c.args.at v _ at.there (e.refused other) (ap (λ (j : _). j.entries) (t.other other)) (ap (λ (j : _). j.ready) (t.other other)));
      below = subst B at.name_is e.lasts_below;
      cuts = λ o. tt;
    })

pub returns-in-Err-clause-on_shelf : goal.returns-in-Err-clause-on_shelf
returns-in-Err-clause-on_shelf g c =
    let i = c.self.inside in
    let vs = i.volumes.items in
    let js = i.journal.entries in
    let name = c.args.name.now in
    let v = c.index_mut.result.now in
    let at = is_named vs c.args.at name v (rw (← c.self.view_is) at c.requires.there) c.index_mut.ensures.value in
    let old = g.D.Driver.meaning i.driver in
    let new = g.D.Driver.meaning c.purge.new.driver in
    let k = c.self.invariant.kept in
    rw (← c.self.view_is) (λ o is. on_shelf old.shelf vs c.args.at v.name (kept_stand old vs i.loaded js k o) (v, at.there, refl)
    (c.in-Err.ensures.not_there o (ap Err (is_not_on_shelf c.in-Err.fault (sym c.refusal.ensures ∙ is)))))

pub returns-in-Err-clause-keeps : goal.returns-in-Err-clause-keeps
returns-in-Err-clause-keeps g c =
    let i = c.self.inside in
    let vs = i.volumes.items in
    let js = i.journal.entries in
    let name = c.args.name.now in
    let v = c.index_mut.result.now in
    let at = is_named vs c.args.at name v (rw (← c.self.view_is) at c.requires.there) c.index_mut.ensures.value in
    let old = g.D.Driver.meaning i.driver in
    let new = g.D.Driver.meaning c.purge.new.driver in
    let k = c.self.invariant.kept in
    let e = c.in-Err.ensures in
    rw (← c.self.view_is, c.refusal.ensures) (keeps_err (Unit {0}) c.in-Err.fault name old new js i.hand
    (λ device. pieces_purged old new name js i.hand e.counted.honest (λ o other apart. e.others o other (λ is. apart (is ∙ at.name_is))))
    (λ other. pieces_called old new vs i.loaded js i.hand k e.counted.honest (λ o place x here. same_bytes old.shelf new.shelf x.name (e.same o other x.name))))

pub returns-in-Err-clause-refused_last : goal.returns-in-Err-clause-refused_last
returns-in-Err-clause-refused_last g c = rw (← c.self.view_is) (λ other. c.in-Err.ensures.refused_last (λ device. other (c.refusal.ensures ∙ ap adopt_refusal device)))

pub returns-in-Err-clause-others : goal.returns-in-Err-clause-others
returns-in-Err-clause-others g c =
    let i = c.self.inside in
    let vs = i.volumes.items in
    let js = i.journal.entries in
    let name = c.args.name.now in
    let v = c.index_mut.result.now in
    let at = is_named vs c.args.at name v (rw (← c.self.view_is) at c.requires.there) c.index_mut.ensures.value in
    rw (← c.self.view_is) (λ o other apart. c.in-Err.ensures.others o other (λ is. apart (is ∙ at.name_is)))
