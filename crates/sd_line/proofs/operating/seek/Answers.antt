use Rattle.std.proofs.Common.{None, refl}
use Rattle.sd_line.specs.Operates.{desk_of}
use Rattle.sd_line.proofs.ClaimLemmas.{asked_once}
use Rattle.sd_line.proofs.SeekLemmas.{seeks_by}
use Rattle.sd_world.proofs.SeekLemmas.{next_free}
use Rattle.sd_line.proofs.operating.seek.Goals as goal

pub returns-in_default : goal.returns-in_default
returns-in_default g c = λ own queue requests. (desk_of own c.args.drive.now requests, None, (c.in_default.ensures, refl))

pub returns-in-Some-next_volume : goal.returns-in-Some-next_volume
returns-in-Some-next_volume g c = λ own queue requests.
    let d = c.args.drive.now in
    let wants = c.in-Some.ensures in
    let next = rw c.volumes.ensures at c.in-Some-next_volume.ensures in
    let name = c.in-Some-next_volume.name in
    let due = next_free d c.in-Some.pool name next.0 next.1 c.know.ensures.differ wants.0 wants.1 next.2 in
    let m = c.mount.ensures own queue requests in
    (m.0, m.1, seeks_by (λ x. g.D.Driver.meaning x) own name c.mount.result _ _ due (wants.0, c.in-Some.pool, wants.1, next.0, next.1, next.2) m.2)

pub returns-in-None : goal.returns-in-None
returns-in-None g c = λ own queue requests.
    let d = c.args.drive.now in
    let wants = c.in-Some.ensures in
    let none = rw c.volumes.ensures at c.in-None.ensures in
    let asks = asked_once (record { drive = own; pool = c.in-Some.pool; media = d.media }) (desk_of own d requests) in
    (asks.0, None, record { pool = c.in-Some.pool; none = (wants.0, wants.1, none); asks = asks.1; is = refl })
