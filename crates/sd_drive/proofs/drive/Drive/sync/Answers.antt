use Rattle.std.proofs.Common.{rules, arith, refl, ap, sym, subst, ◌∙◌, true, false, ◌≡◌, List, ℕ, None}
use Rattle.std.specs.Prelude.{IsSome, IsTrue}
use Rattle.sd_journal.specs.Journal.{any_awaits_sync, settled}
use Rattle.sd_journal.specs.declared.mark.Mark.TheVariants.{Synced, Lost}
use Rattle.sd_journal.proofs.EntryLemmas.{settling}
use Rattle.sd_driver.proofs.Lasting.{Passes-later, still_lasts}
use Rattle.sd_drive.proofs.SyncLemmas.{kept_synced, kept_failed_sync, pieces_marked, loaded_read, loaded_name_is, settled_is, awaits_is, settled_none, with_journal, sync_bytes, may_sync_bytes, then_same, journal_is, parts_are, settled_by, true_false}
use Rattle.sd_drive.specs.View.{DriveIs}
use Rattle.sd_drive.proofs.CallLemmas.{sync_call, failed_sync_calls}
use Rattle.sd_drive.proofs.Places.{some_is}
use Rattle.sd_drive.proofs.drive.Drive.sync.Goals as goal

pub returns-then-not-has_unsynced-clause-ok : goal.returns-then-not-has_unsynced-clause-ok
returns-then-not-has_unsynced-clause-ok g c =
    let vs = c.self.inside.volumes.items in
    let js = c.self.inside.journal.entries in
    let v = c.index.result.now in
    let there = loaded_read vs c.self.inside.loaded _ v c.self.invariant.kept.one_of c.in-Some.is c.index.ensures in
    let quiet : any_awaits_sync v.name js ≡ false = ap (λ (n : List ℕ). any_awaits_sync n js) (sym c.name.ensures) ∙ sym c.has_unsynced.ensures ∙ c.if-not-has_unsynced.true in
    rw (← c.self.view_is) (with_journal _ _ (settled_is Synced vs c.self.inside.loaded js _ v c.in-Some.is there ∙ settled_none Synced v.name js quiet))

pub returns-then-not-has_unsynced-clause-none : goal.returns-then-not-has_unsynced-clause-none
returns-then-not-has_unsynced-clause-none g c =
    let vs = c.self.inside.volumes.items in
    let js = c.self.inside.journal.entries in
    let v = c.index.result.now in
    let there = loaded_read vs c.self.inside.loaded _ v c.self.invariant.kept.one_of c.in-Some.is c.index.ensures in
    let quiet : any_awaits_sync v.name js ≡ false = ap (λ (n : List ℕ). any_awaits_sync n js) (sym c.name.ensures) ∙ sym c.has_unsynced.ensures ∙ c.if-not-has_unsynced.true in
    rw (← c.self.view_is) (awaits_is vs c.self.inside.loaded js _ v c.in-Some.is there ∙ quiet)

pub sync-requires : goal.sync-requires
sync-requires g c =
    let vs = c.self.inside.volumes.items in
    let v = c.index.result.now in
    let there = loaded_read vs c.self.inside.loaded _ v c.self.invariant.kept.one_of c.in-Some.is c.index.ensures in
    subst IsSome (sym (c.self.invariant.kept.tied ∙ loaded_name_is vs c.self.inside.loaded _ v c.in-Some.is there)) (search rules)

pub invariant_of-self : goal.invariant_of-self
invariant_of-self g c =
    let vs = c.self.inside.volumes.items in
    let js = c.self.inside.journal.entries in
    let v = c.index.result.now in
    let e = c.in-Ok.ensures in
    let there = loaded_read vs c.self.inside.loaded _ v c.self.invariant.kept.one_of c.in-Some.is c.index.ensures in
    let there' = loaded_read vs c.self.inside.loaded _ c.index-in-Ok.result.now c.self.invariant.kept.one_of c.in-Some.is c.index-in-Ok.ensures in
    let journal : c.synced.new.self.entries ≡ settled Synced c.index-in-Ok.result.now.name js = ap (λ (j : _). j.entries) c.synced.ensures ∙ ap (λ (n : List ℕ). settled Synced n js) c.name-in-Ok.ensures in
    record {
      kept = kept_synced (g.D.Driver.meaning c.self.inside.driver) (g.D.Driver.meaning c.sync.new.self) vs c.self.inside.loaded js c.synced.new.self.entries _ c.index-in-Ok.result.now
          c.self.invariant.kept c.in-Some.is there' journal e.counts.honest e.loaded e.passes (still_lasts _ _ e.passes e.stable) e.ok;
      limit = c.self.invariant.limit;
    }

pub invariant_of-self-in-Err : goal.invariant_of-self-in-Err
invariant_of-self-in-Err g c =
    let vs = c.self.inside.volumes.items in
    let js = c.self.inside.journal.entries in
    let v = c.index_mut.result.now in
    let e = c.in-Err.ensures in
    let u = c.unload.ensures in
    let there = loaded_read vs c.self.inside.loaded _ v c.self.invariant.kept.one_of c.in-Some.is c.index_mut.ensures.value in
    let there' = loaded_read vs c.self.inside.loaded _ c.index-in-Err.result.now c.self.invariant.kept.one_of c.in-Some.is c.index-in-Err.ensures in
    let journal : c.sync_failed.new.self.entries ≡ settled Lost v.name js = ap (λ (j : _). j.entries) c.sync_failed.ensures ∙ ap (λ (n : List ℕ). settled Lost n js) c.name-in-Err.ensures ∙ ap (λ (o : _). settled Lost o.name js) (some_is (sym there' ∙ there)) in
    record {
      kept = kept_failed_sync (g.D.Driver.meaning c.self.inside.driver) (g.D.Driver.meaning c.sync.new.self) (g.D.Driver.meaning c.unload.new.self) vs c.self.inside.loaded js c.sync_failed.new.self.entries _ v c.fail.new.self
          c.self.invariant.kept c.in-Some.is there c.fail.ensures journal e.counts.honest u.counts.honest u.loaded (still_lasts _ _ e.passes e.stable) (still_lasts _ _ u.passes u.stable) (omega (arith, Passes-later _ _ e.passes, Passes-later _ _ u.passes)) e.err u.same;
      limit = c.self.invariant.limit;
    }

pub returns-in-Ok-clause-ok : goal.returns-in-Ok-clause-ok
returns-in-Ok-clause-ok g c =
    let vs = c.self.inside.volumes.items in
    let js = c.self.inside.journal.entries in
    let v = c.index-in-Ok.result.now in
    let there = loaded_read vs c.self.inside.loaded _ v c.self.invariant.kept.one_of c.in-Some.is c.index-in-Ok.ensures in
    let journal : c.synced.new.self.entries ≡ settled Synced v.name js = ap (λ (j : _). j.entries) c.synced.ensures ∙ ap (λ (n : List ℕ). settled Synced n js) c.name-in-Ok.ensures in
    let is = journal ∙ sym (settled_is Synced vs c.self.inside.loaded js _ v c.in-Some.is there) in
    let i = c.self.inside in
    let d : DriveIs _ = record { device = i.driver; media = i.media; limits = i.limits; volumes = i.volumes.items; loaded = i.loaded; pool = i.pool; hand = i.hand; journal = i.journal.entries; ready = i.journal.ready } in
    rw (← c.self.view_is) (journal_is d _ _ _ _ is (ap (λ (j : _). j.ready) c.synced.ensures))

pub returns-in-Ok-clause-none : goal.returns-in-Ok-clause-none
returns-in-Ok-clause-none g c =
    let vs = c.self.inside.volumes.items in
    let js = c.self.inside.journal.entries in
    let v = c.index-in-Ok.result.now in
    let there = loaded_read vs c.self.inside.loaded _ v c.self.invariant.kept.one_of c.in-Some.is c.index-in-Ok.ensures in
    let journal : c.synced.new.self.entries ≡ settled Synced v.name js = ap (λ (j : _). j.entries) c.synced.ensures ∙ ap (λ (n : List ℕ). settled Synced n js) c.name-in-Ok.ensures in
    awaits_is vs c.self.inside.loaded c.synced.new.self.entries _ v c.in-Some.is there ∙ ap (any_awaits_sync v.name) journal ∙ (settling Synced v.name js).none_awaits (λ e. cc)

pub returns-in-Ok-clause-quiet : goal.returns-in-Ok-clause-quiet
returns-in-Ok-clause-quiet g c =
    let vs = c.self.inside.volumes.items in
    let js = c.self.inside.journal.entries in
    let v = c.index.result.now in
    let there = loaded_read vs c.self.inside.loaded _ v c.self.invariant.kept.one_of c.in-Some.is c.index.ensures in
    let awaits : any_awaits_sync v.name js ≡ true = ap (λ (n : List ℕ). any_awaits_sync n js) (sym c.name.ensures) ∙ sym c.has_unsynced.ensures ∙ c.if-not-has_unsynced.false in
    rw (← c.self.view_is) (λ quiet. true_false (sym awaits ∙ sym (awaits_is vs c.self.inside.loaded js _ v c.in-Some.is there) ∙ quiet))

pub returns-in-Ok-clause-keeps : goal.returns-in-Ok-clause-keeps
returns-in-Ok-clause-keeps g c =
    let vs = c.self.inside.volumes.items in
    let js = c.self.inside.journal.entries in
    let v = c.index-in-Ok.result.now in
    let e = c.in-Ok.ensures in
    let journal : c.synced.new.self.entries ≡ settled Synced v.name js = ap (λ (j : _). j.entries) c.synced.ensures ∙ ap (λ (n : List ℕ). settled Synced n js) c.name-in-Ok.ensures in
    rw (← c.self.view_is) (pieces_marked (g.D.Driver.meaning c.self.inside.driver) (g.D.Driver.meaning c.sync.new.self) vs c.self.inside.loaded js c.synced.new.self.entries c.self.inside.hand
    c.self.invariant.kept (settled_by Synced v.name js _ journal refl) e.counts.honest (λ o n. sync_bytes _ _ _ (e.ok o) n))

pub returns-in-Err-clause-err : goal.returns-in-Err-clause-err
returns-in-Err-clause-err g c =
    let vs = c.self.inside.volumes.items in
    let js = c.self.inside.journal.entries in
    let v = c.index_mut.result.now in
    let there = loaded_read vs c.self.inside.loaded _ v c.self.invariant.kept.one_of c.in-Some.is c.index_mut.ensures.value in
    let there' = loaded_read vs c.self.inside.loaded _ c.index-in-Err.result.now c.self.invariant.kept.one_of c.in-Some.is c.index-in-Err.ensures in
    let one = loaded_read vs c.self.inside.loaded _ c.index.result.now c.self.invariant.kept.one_of c.in-Some.is c.index.ensures in
    let journal : c.sync_failed.new.self.entries ≡ settled Lost v.name js = ap (λ (j : _). j.entries) c.sync_failed.ensures ∙ ap (λ (n : List ℕ). settled Lost n js) c.name-in-Err.ensures ∙ ap (λ (o : _). settled Lost o.name js) (some_is (sym there' ∙ there)) in
    let awaits : any_awaits_sync v.name js ≡ true =
    ap (λ (o : _). any_awaits_sync o.name js) (some_is (sym there ∙ one)) ∙ ap (λ (n : List ℕ). any_awaits_sync n js) (sym c.name.ensures) ∙ sym c.has_unsynced.ensures ∙ c.if-not-has_unsynced.false in
    let i = c.self.inside in
    let d : DriveIs _ = record { device = i.driver; media = i.media; limits = i.limits; volumes = i.volumes.items; loaded = i.loaded; pool = i.pool; hand = i.hand; journal = i.journal.entries; ready = i.journal.ready } in
    rw (← c.self.view_is) (record {
      at = c.in-Some.at;
      volume = v;
      loaded = c.in-Some.is;
      there = there;
      awaited = awaits;
      becomes = parts_are (record d { loaded = None }) _ _ _ _ c.in-Some.at _ _ c.fail.ensures journal (ap (λ (j : _). j.ready) c.sync_failed.ensures);
    })

pub returns-in-Err-clause-quiet : goal.returns-in-Err-clause-quiet
returns-in-Err-clause-quiet g c =
    let vs = c.self.inside.volumes.items in
    let js = c.self.inside.journal.entries in
    let v = c.index.result.now in
    let there = loaded_read vs c.self.inside.loaded _ v c.self.invariant.kept.one_of c.in-Some.is c.index.ensures in
    let awaits : any_awaits_sync v.name js ≡ true = ap (λ (n : List ℕ). any_awaits_sync n js) (sym c.name.ensures) ∙ sym c.has_unsynced.ensures ∙ c.if-not-has_unsynced.false in
    rw (← c.self.view_is) (λ quiet. true_false (sym awaits ∙ sym (awaits_is vs c.self.inside.loaded js _ v c.in-Some.is there) ∙ quiet))

pub returns-in-Err-clause-keeps : goal.returns-in-Err-clause-keeps
returns-in-Err-clause-keeps g c =
    let vs = c.self.inside.volumes.items in
    let js = c.self.inside.journal.entries in
    let v = c.index-in-Err.result.now in
    let e = c.in-Err.ensures in
    let u = c.unload.ensures in
    let journal : c.sync_failed.new.self.entries ≡ settled Lost v.name js = ap (λ (j : _). j.entries) c.sync_failed.ensures ∙ ap (λ (n : List ℕ). settled Lost n js) c.name-in-Err.ensures in
    rw (← c.self.view_is) (pieces_marked (g.D.Driver.meaning c.self.inside.driver) (g.D.Driver.meaning c.unload.new.self) vs c.self.inside.loaded js c.sync_failed.new.self.entries c.self.inside.hand
    c.self.invariant.kept (settled_by Lost v.name js _ journal refl) (u.counts.honest ∙ e.counts.honest) (λ o n. then_same (g.D.Driver.meaning c.self.inside.driver).shelf (g.D.Driver.meaning c.sync.new.self).shelf (g.D.Driver.meaning c.unload.new.self).shelf n (may_sync_bytes _ (g.D.Driver.meaning c.self.inside.driver).shelf (g.D.Driver.meaning c.sync.new.self).shelf (e.err o) n) (u.same (subst IsTrue (sym e.counts.honest) o))))

pub returns-in-Ok-clause-others : goal.returns-in-Ok-clause-others
returns-in-Ok-clause-others g c = rw (← c.self.view_is) (λ honest. (c.in-Ok.ensures.ok honest).others)

pub returns-in-Ok-clause-calls : goal.returns-in-Ok-clause-calls
returns-in-Ok-clause-calls g c =
    let vs = c.self.inside.volumes.items in
    let js = c.self.inside.journal.entries in
    let v = c.index.result.now in
    let there = loaded_read vs c.self.inside.loaded _ v c.self.invariant.kept.one_of c.in-Some.is c.index.ensures in
    let awaits : any_awaits_sync v.name js ≡ true = ap (λ (n : List ℕ). any_awaits_sync n js) (sym c.name.ensures) ∙ sym c.has_unsynced.ensures ∙ c.if-not-has_unsynced.false in
    rw (← c.self.view_is) (sync_call _ (g.D.Driver.meaning c.self.inside.driver) (g.D.Driver.meaning c.sync.new.self) (awaits_is vs c.self.inside.loaded js _ v c.in-Some.is there ∙ awaits) c.in-Ok.ensures.passes)

pub returns-in-Err-clause-others : goal.returns-in-Err-clause-others
returns-in-Err-clause-others g c =
    let e = c.in-Err.ensures in
    rw (← c.self.view_is) (λ honest name apart. c.unload.ensures.same (subst IsTrue (sym e.counts.honest) honest) name ∙ (e.err honest).others name apart)

pub returns-in-Err-clause-calls_failing : goal.returns-in-Err-clause-calls_failing
returns-in-Err-clause-calls_failing g c =
    let vs = c.self.inside.volumes.items in
    let js = c.self.inside.journal.entries in
    let v = c.index.result.now in
    let there = loaded_read vs c.self.inside.loaded _ v c.self.invariant.kept.one_of c.in-Some.is c.index.ensures in
    let awaits : any_awaits_sync v.name js ≡ true = ap (λ (n : List ℕ). any_awaits_sync n js) (sym c.name.ensures) ∙ sym c.has_unsynced.ensures ∙ c.if-not-has_unsynced.false in
    rw (← c.self.view_is) (failed_sync_calls _ (g.D.Driver.meaning c.self.inside.driver) (g.D.Driver.meaning c.sync.new.self) (g.D.Driver.meaning c.unload.new.self) (awaits_is vs c.self.inside.loaded js _ v c.in-Some.is there ∙ awaits) c.in-Err.ensures.passes c.unload.ensures.passes)
