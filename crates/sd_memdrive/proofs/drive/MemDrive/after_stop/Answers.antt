use Rattle.std.proofs.Common.{List, IsTrue, ap, sym, ◌∙◌, subst, drop}
use Rattle.sd_memdrive.specs.Volumes.{Volume, volume_of, names_differ}
use Rattle.sd_memdrive.specs.Drive.{store_shelf}
use Rattle.sd_memdrive.proofs.Stops.{names_differ-left, left_kept, left_by_slices, AfterStop-left}
use Rattle.sd_memdrive.proofs.drive.MemDrive.after_stop.Goals as goal

pub of-requires : goal.of-requires
of-requires c =
    let P : List Volume → Type 0 = λ vs. IsTrue (names_differ vs) in
    let left = c.in_ok-volumes.ensures ∙ left_by_slices c.args.self.now.store.volumes.items _ c.args.self.now.store.changes.items _ c.args.calls c.args.tail.now c.deref-2.ensures.value c.deref.ensures.value in
    subst P (sym left) (names_differ-left (drop c.args.calls c.args.self.now.store.changes.items) c.args.tail.now c.args.self.now.store.volumes.items c.args.self.now.store.names)

pub returns-clause-left : goal.returns-clause-left
returns-clause-left c = λ name.
    ap (λ (vs : List Volume). volume_of vs name)
    (c.in_ok-of.ensures.volumes ∙ c.in_ok-volumes.ensures
    ∙ left_by_slices c.args.self.now.store.volumes.items _ c.args.self.now.store.changes.items _ c.args.calls c.args.tail.now c.deref-2.ensures.value c.deref.ensures.value)
    ∙ left_kept c.args.self.now.store.volumes.items c.args.self.now.store.changes.items c.args.calls c.args.tail.now name c.args.self.now.store.names c.args.self.now.store.absent

pub returns-clause-stop : goal.returns-clause-stop
returns-clause-stop c = AfterStop-left _ _ (store_shelf c.in_ok-of.field-0) c.args.tail.now c.requires (returns-clause-left c)
