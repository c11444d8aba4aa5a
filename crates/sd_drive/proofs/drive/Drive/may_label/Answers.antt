use Rattle.std.proofs.Common.{◌≡◌, sym, ◌∙◌, None}
use Rattle.sd_drive.proofs.FindLemmas.{place_none, none_found}
use Rattle.sd_drive.proofs.drive.Drive.may_label.Goals as goal

pub returns-clause-fresh : goal.returns-clause-fresh
returns-clause-fresh g c =
    let vs = c.self.inside.volumes.items in
    let none : c.find.result ≡ None = none_found c.find.result (sym c.is_some-2.ensures ∙ c.if-is_some-2.false) in
    rw (← c.self.view_is) (place_none vs c.args.name.now (sym (rw c.deref.ensures.value at c.find.ensures) ∙ none))
