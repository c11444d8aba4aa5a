use Rattle.std.proofs.Common.{refl}
use Rattle.sd_filedrive.proofs.Shelves.{honest_after, Takes-under, Knows-after, Knows-named, DataSynced-keeps, MaySyncName-keeps}
use Rattle.sd_filedrive.proofs.steps.make_last.Goals as goal

pub returns-in_default-sync_name-clause-knows : goal.returns-in_default-sync_name-clause-knows
returns-in_default-sync_name-clause-knows g c = λ h.
    let k = c.requires.knows h in
    let first = Takes-under _ _ _ _ _ k.same (c.in-Ok.ensures.ok h) in
    let then = Takes-under _ _ _ _ _ k.same (c.in_default-sync_name.ensures.err (honest_after _ _ c.sync_data.ensures.goes h)) in
    Knows-after _ _ _ _ _ c.requires.torn MaySyncName-keeps then (Knows-after _ _ _ _ _ c.requires.torn DataSynced-keeps first k)

pub returns-clause-knows : goal.returns-clause-knows
returns-clause-knows g c = λ h.
    let k = c.requires.knows h in
    let first = Takes-under _ _ _ _ _ k.same (c.in-Ok.ensures.ok h) in
    let then = Takes-under _ _ _ _ _ k.same (c.in-Ok-sync_name.ensures.ok (honest_after _ _ c.sync_data.ensures.goes h)) in
    Knows-named _ _ _ _ _ refl refl refl c.requires.torn then (Knows-after _ _ _ _ _ c.requires.torn DataSynced-keeps first k)
