use Rattle.std.proofs.Common.{Some, None, refl}
use Rattle.sd_world.proofs.CallLemmas.{counted_well, calls_are, device_fails}
use Rattle.sd_events.proofs.syncing.sync.Goals as goal

pub returns-in-Ok : goal.returns-in-Ok
returns-in-Ok g c = λ own queue desk.
    let e = c.in-Ok.ensures in
    (None, ((e.ok, e.quiet), calls_are (λ d. g.D.Driver.meaning d) ⊥ ⊥ _ _ (counted_well _ _ _ e.counted) e.keeps e.later, refl))

pub returns-in-Err : goal.returns-in-Err
returns-in-Err g c = λ own queue desk.
    let e = c.in-Err.ensures in
    (Some e.err.volume.name, (e.refusal, device_fails (λ d. g.D.Driver.meaning d) c.args.drive.now c.sync.new.self queue desk _ e.err e.refusal e.counted e.keeps e.later))
