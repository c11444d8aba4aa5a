use Rattle.std.proofs.Common.{sym, ap, subst, ◌∙◌, arith, List}
use Rattle.sd_drive.specs.Shelf.{NamesDiffer}
use Rattle.sd_drive.specs.View.{DriveIs}
use Rattle.sd_volume.specs.Volume.{VolumeView}
use Rattle.sd_hub.specs.Claimed.{AreClaimed}
use Rattle.sd_hub.proofs.room.Room.with_desk.Goals as goal

pub claim_all-requires : goal.claim_all-requires
claim_all-requires g c = subst NamesDiffer (sym c.volumes.ensures) c.know.ensures.differ

pub returns-clause-told : goal.returns-clause-told
returns-clause-told g c =
    let room = c.in_ok-with_capacity.ensures.exact in
    let count = c.in-Ok.ensures in
    (c.in_ok-with_capacity.ensures.items, omega (arith, room, count, c.count.ensures))

pub returns-clause-entries : goal.returns-clause-entries
returns-clause-entries g c =
    let room = c.in_ok-with_capacity-2.ensures.exact in
    let count = c.in-Ok.ensures in
    (c.in_ok-with_capacity-2.ensures.items, omega (arith, room, count, c.count.ensures))

pub returns-clause-claimed : goal.returns-clause-claimed
returns-clause-claimed g c =
    let same = c.volumes.ensures ∙ ap (λ (d : DriveIs _). d.volumes) c.drive-drive.ensures in
    subst (λ (volumes : List VolumeView). AreClaimed volumes c.in_ok-claim_all.field-0) same c.in_ok-claim_all.ensures
