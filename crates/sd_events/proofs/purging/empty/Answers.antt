use Rattle.sd_events.proofs.PurgeLemmas.{refuses}
use Rattle.sd_events.proofs.purging.empty.Goals as goal

pub returns-in-Err : goal.returns-in-Err
returns-in-Err g c =
    let e = c.in-Err.ensures in
    let due = c.requires.due in
    let p = e.purges due in
    refuses (λ d. g.D.Driver.meaning d) c.args.name.now p.0 c.in-Err.why c.args.at.now c.purge.new.self (λ honest. e.on_shelf honest due) p.1 p.2 e.counted e.keeps e.refused_last e.same
