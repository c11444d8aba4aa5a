use Rattle.std.proofs.Common.{Some, None, refl}
use Rattle.sd_line.specs.Operates.{desk_of}
use Rattle.sd_line.proofs.AnswerLemmas.{called_well}
use Rattle.sd_world.proofs.CallLemmas.{device_fails}
use Rattle.sd_line.proofs.operating.sync.Goals as goal

pub returns-in-Ok : goal.returns-in-Ok
returns-in-Ok g c = λ own queue requests.
    let e = c.in-Ok.ensures in
    (desk_of own c.args.drive.now requests, None, ((e.ok, e.quiet), called_well (λ d. g.D.Driver.meaning d) _ _ _ e.counted e.keeps e.later, refl))

pub returns-in-Err : goal.returns-in-Err
returns-in-Err g c = λ own queue requests.
    let e = c.in-Err.ensures in
    let desk = desk_of own c.args.drive.now requests in (
      desk,
      Some e.err.volume.name,
      (e.refusal, device_fails (λ d. g.D.Driver.meaning d) c.args.drive.now c.sync.new.self queue desk _ e.err e.refusal e.counted e.keeps e.later),
    )
