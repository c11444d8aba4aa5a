use Rattle.std.proofs.Common.{◌++◌, ◌∷◌, [], take, ap, sym, ◌∙◌}
use Rattle.sd_tool.proofs.MakingLemmas.{taken_more}
use Rattle.sd_tool.proofs.making.copies_of.Goals as goal

pub loop-drive-preserved : goal.loop-drive-preserved
loop-drive-preserved c =
    let ds = c.args.drives.now in
    let n = c.loop-drive.drive-index in
    let one = c.drive-item.result in
    c.in_ok-push.ensures.items
    ∙ ap (λ l. l ++ (c.copy.result, one.1) ∷ []) c.loop-drive.invariant
    ∙ ap (λ name. take n ds ++ (name, one.1) ∷ []) c.copy.ensures
    ∙ sym (taken_more ds n one c.drive-item.is c.loop-drive-test.true)
