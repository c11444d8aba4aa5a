use Rattle.std.proofs.Common.{◌≡◌, ap, sym, ◌∙◌, subst, List, [], ◌∷◌, ◌++◌, if◌then◌else◌, Result, Ok}
use Rattle.std.specs.Result.{is_ok}
use Rattle.sd_filedrive.specs.Torn.{Covers}
use Rattle.sd_filedrive.specs.declared.files.Torn.{Torn}
use Rattle.sd_filedrive.proofs.Torn.{Covers-noted}
use Rattle.sd_filedrive.proofs.steps.sync_or_note.Goals as goal

-- what went in by a push that worked
pushed : {T E : Type 0} (r : Result T E) (value : T) (more less after : List Torn) → r ≡ Ok value → after ≡ (if is_ok r then more else less) → after ≡ more
pushed r value more less after worked is = is ∙ ap (λ r. if is_ok r then more else less) worked

pub returns-in_default-clause-covers : goal.returns-in_default-clause-covers
returns-in_default-clause-covers g c = λ h.
    let new = g.F.Folder.meaning c.sync_at.new.folder in
    let x : Torn = record { name = c.copy-name.result; synced = c.sync_at.new.loaded.synced } in
    let items = pushed c.push.result c.unwrap.result (c.args.torn.now.items ++ x ∷ []) c.args.torn.now.items c.push.new.self.items c.unwrap.ensures c.push.ensures.items in
    let P : List Torn → Type 0 = λ torn. Covers torn new in
    subst P (sym items)
    (Covers-noted c.args.torn.now.items x _ c.args.loaded.now.name _ new (c.copy-name.ensures ∙ c.sync_at.ensures.name)
    (λ state is. (c.sync_at.ensures.knows h).synced state (ap new.file c.sync_at.ensures.name ∙ is))
    (c.in_default.ensures.err h) (c.requires.covers h))
