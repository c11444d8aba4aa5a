use Rattle.std.proofs.Common.{refl, sym, ◌∙◌}
use Rattle.std.proofs.lemmas.Option.{slice_get_read}
use Rattle.sd_drive.specs.View.{DriveIs}
use Rattle.sd_drive.proofs.Places.{within_get}
use Rattle.sd_drive.proofs.FindLemmas.{place_there, due_there}
use Rattle.sd_drive.proofs.drive.Drive.mountable.Goals as goal

pub returns-in-None-clause-there : goal.returns-in-None-clause-there
returns-in-None-clause-there g c = rw (← c.self.view_is) (place_there c.self.inside.volumes.items c.args.name.now c.in-Some.at (sym (rw c.deref.ensures.value at c.in-Some.ensures)))

pub returns-in-Some-refusal_at-clause-due : goal.returns-in-Some-refusal_at-clause-due
returns-in-Some-refusal_at-clause-due g c =
    let vs = c.self.inside.volumes.items in
    let is = sym (rw c.deref.ensures.value at c.in-Some.ensures) in
    let found = place_there vs c.args.name.now c.in-Some.at is in
    let there = slice_get_read vs _ c.in-Some.at c.index.result.now refl (within_get vs c.in-Some.at found.0 found.1) c.index.ensures in
    let i = c.self.inside in
    let d : DriveIs _ = record { device = i.driver; media = i.media; limits = i.limits; volumes = i.volumes.items; loaded = i.loaded; pool = i.pool; hand = i.hand; journal = i.journal.entries; ready = i.journal.ready } in
    rw (← c.self.view_is) (due_there d c.args.name.now c.in-Some.at c.index.result.now is there ∙ sym c.refusal_at.ensures ∙ c.in-Some-refusal_at.is)
