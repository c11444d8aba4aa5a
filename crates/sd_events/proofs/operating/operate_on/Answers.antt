use Rattle.std.proofs.Common.{◌≡◌, to_z, of_z, w64, rules, subst}
use Rattle.sd_machine.specs.declared.event.Event.{Event}
use Rattle.sd_machine.specs.declared.event.Event.TheVariants.{Take, Place, Sync, Label, Adopt, Mount, Unmount, Seek}
use Rattle.sd_world.specs.Drives.{IsOfDrive}
use Rattle.sd_events.proofs.OperatingLemmas.{of_drive, at_moment, no_other}
use Rattle.sd_events.proofs.operating.operate_on.Goals as goal

pub returns-in-Take : goal.returns-in-Take
returns-in-Take g c =
    of_drive (λ d. g.D.Driver.meaning d) c.args.drive _ (λ n. Take n) c.args.event.now _ _ _ _ _ _ _ c.in-Take.is
    (subst (λ (e : Event). IsOfDrive e c.args.drive) c.in-Take.is c.requires.own) (c.take.ensures c.args.drive c.args.desk.now)

pub returns-in-Place : goal.returns-in-Place
returns-in-Place g c =
    of_drive (λ d. g.D.Driver.meaning d) c.args.drive _ (λ n. Place n) c.args.event.now _ _ _ _ _ _ _ c.in-Place.is
    (subst (λ (e : Event). IsOfDrive e c.args.drive) c.in-Place.is c.requires.own) (c.place.ensures c.args.drive _ c.args.desk.now)

pub returns-in-Sync : goal.returns-in-Sync
returns-in-Sync g c =
    of_drive (λ d. g.D.Driver.meaning d) c.args.drive _ (λ n. Sync n) c.args.event.now _ _ _ _ _ _ _ c.in-Sync.is
    (subst (λ (e : Event). IsOfDrive e c.args.drive) c.in-Sync.is c.requires.own) (c.sync.ensures c.args.drive _ c.args.desk.now)

pub returns-in-Label : goal.returns-in-Label
returns-in-Label g c =
    let wide : to_z w64 (of_z w64 c.in-Label.moment) ≡ c.in-Label.moment = search rules in
    of_drive (λ d. g.D.Driver.meaning d) c.args.drive _ (λ n. Label n c.in-Label.name c.in-Label.pool c.in-Label.media c.in-Label.moment) c.args.event.now _ _ _ _ _ _ _ c.in-Label.is
    (subst (λ (e : Event). IsOfDrive e c.args.drive) c.in-Label.is c.requires.own) (at_moment (λ d. g.D.Driver.meaning d) c.args.drive _ _ _ _ _ _ _ _ _ _ _ _ wide (c.label.ensures _))

pub returns-in-Adopt : goal.returns-in-Adopt
returns-in-Adopt g c =
    of_drive (λ d. g.D.Driver.meaning d) c.args.drive _ (λ n. Adopt n c.in-Adopt.name) c.args.event.now _ _ _ _ _ _ _ c.in-Adopt.is
    (subst (λ (e : Event). IsOfDrive e c.args.drive) c.in-Adopt.is c.requires.own) (c.adopt.ensures _)

pub returns-in-Mount : goal.returns-in-Mount
returns-in-Mount g c =
    of_drive (λ d. g.D.Driver.meaning d) c.args.drive _ (λ n. Mount n c.in-Mount.name) c.args.event.now _ _ _ _ _ _ _ c.in-Mount.is
    (subst (λ (e : Event). IsOfDrive e c.args.drive) c.in-Mount.is c.requires.own) (c.mount.ensures _)

pub returns-in-Unmount : goal.returns-in-Unmount
returns-in-Unmount g c =
    of_drive (λ d. g.D.Driver.meaning d) c.args.drive _ (λ n. Unmount n) c.args.event.now _ _ _ _ _ _ _ c.in-Unmount.is
    (subst (λ (e : Event). IsOfDrive e c.args.drive) c.in-Unmount.is c.requires.own) (c.unmount.ensures c.args.drive _ c.args.desk.now)

pub returns-in-Seek : goal.returns-in-Seek
returns-in-Seek g c =
    of_drive (λ d. g.D.Driver.meaning d) c.args.drive _ (λ n. Seek n) c.args.event.now _ _ _ _ _ _ _ c.in-Seek.is
    (subst (λ (e : Event). IsOfDrive e c.args.drive) c.in-Seek.is c.requires.own) (c.seek.ensures _)

pub unreachable-requires : goal.unreachable-requires
unreachable-requires g c =
    no_other c.args.event.now c.args.drive c.requires.own c.in_default.not-Take c.in_default.not-Place c.in_default.not-Sync c.in_default.not-Label
    c.in_default.not-Adopt c.in_default.not-Mount c.in_default.not-Unmount c.in_default.not-Seek
