use Rattle.std.proofs.Common.{refl}
use Rattle.std.proofs.lemmas.Option.{slice_get_read}
use Rattle.sd_memdrive.proofs.Places.{volume_of-place, StandsFirstAt-within}
use Rattle.sd_memdrive.proofs.drive.MemDriveDriver.len.Goals as goal

pub returns-clause-ok : goal.returns-clause-ok
returns-clause-ok c = λ honest.
    let at = slice_get_read _ _ _ _ refl (StandsFirstAt-within _ _ _ c.in-Some.ensures.place) c.index.ensures in
    let here = volume_of-place _ _ _ _ c.in-Some.ensures.place at in
    record { held = c.index.result.now.held; there = here.1; length_is = c.len.ensures.length }
