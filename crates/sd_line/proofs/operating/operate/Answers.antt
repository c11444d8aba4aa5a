use Rattle.std.proofs.Common.{◌≡◌, ℤ, Some, to_z, of_z, w64, rules, refl, subst}
use Rattle.sd_machine.specs.declared.event.Event.TheVariants.{Sync, Label, Adopt, Mount, Unmount, Seek}
use Rattle.sd_line.specs.Operates.{AnswersAlone, operated_at}
use Rattle.sd_line.proofs.OperateLemmas.{here}
use Rattle.sd_line.proofs.operating.operate.Goals as goal

pub returns-in-Sync : goal.returns-in-Sync
returns-in-Sync g c =
    let at : operated_at c.args.event.now ≡ Some c.args.own = search rules in
    here (λ d. g.D.Driver.meaning d) c.args.own _ (λ n. Sync n) _ _ _ _ c.in-Sync.is refl at c.sync.ensures

pub returns-in-Label : goal.returns-in-Label
returns-in-Label g c =
    let at : operated_at c.args.event.now ≡ Some c.args.own = search rules in
    let wide : to_z w64 (of_z w64 c.in-Label.moment) ≡ c.in-Label.moment = search rules in
    here (λ d. g.D.Driver.meaning d) c.args.own _ (λ n. Label n c.in-Label.name c.in-Label.pool c.in-Label.media c.in-Label.moment) _ _ _ _ c.in-Label.is refl at
    (λ n. subst (λ (z : ℤ). AnswersAlone (λ d. g.D.Driver.meaning d) n (Label n c.in-Label.name c.in-Label.pool c.in-Label.media z) c.label.result c.args.drive.now c.label.new.drive)
    wide (c.label.ensures n))

pub returns-in-Adopt : goal.returns-in-Adopt
returns-in-Adopt g c =
    let at : operated_at c.args.event.now ≡ Some c.args.own = search rules in
    here (λ d. g.D.Driver.meaning d) c.args.own _ (λ n. Adopt n c.in-Adopt.name) _ _ _ _ c.in-Adopt.is refl at c.adopt.ensures

pub returns-in-Mount : goal.returns-in-Mount
returns-in-Mount g c =
    let at : operated_at c.args.event.now ≡ Some c.args.own = search rules in
    here (λ d. g.D.Driver.meaning d) c.args.own _ (λ n. Mount n c.in-Mount.name) _ _ _ _ c.in-Mount.is refl at c.mount.ensures

pub returns-in-Unmount : goal.returns-in-Unmount
returns-in-Unmount g c =
    let at : operated_at c.args.event.now ≡ Some c.args.own = search rules in
    here (λ d. g.D.Driver.meaning d) c.args.own _ (λ n. Unmount n) _ _ _ _ c.in-Unmount.is refl at c.unmount.ensures

pub returns-in-Seek : goal.returns-in-Seek
returns-in-Seek g c =
    let at : operated_at c.args.event.now ≡ Some c.args.own = search rules in
    here (λ d. g.D.Driver.meaning d) c.args.own _ (λ n. Seek n) _ _ _ _ c.in-Seek.is refl at c.seek.ensures
