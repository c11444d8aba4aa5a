use Rattle.std.proofs.Common.{ap}
use Rattle.sd_filedrive.specs.Parts.{loaded_name}
use Rattle.sd_filedrive.proofs.Changing.{by_result, on_err, MaySync-keeps, Syncs-keeps, MaySync-of}
use Rattle.sd_filedrive.proofs.volumes.Volumes.sync.Goals as goal

pub returns-clause-stable : goal.returns-clause-stable
returns-clause-stable g c = λ h.
    by_result c.sync_or_note.result _ _ _ (c.sync_or_note.ensures.ok h) (c.sync_or_note.ensures.err h) (Syncs-keeps c.in-Some.loaded.name _ _) (MaySync-keeps c.in-Some.loaded.name _ _)

pub returns-clause-err : goal.returns-clause-err
returns-clause-err g c = λ h.
    on_err c.sync_or_note.result _ _ (λ may. MaySync-of c.in-Some.loaded.name _ _ _ (ap loaded_name c.in-Some.is) may) (c.sync_or_note.ensures.err h)
