use Rattle.std.proofs.Common.{Vec, Global, take, ◌++◌, ◌∷◌, [], ap, sym, ◌∙◌, append-nil}
use Rattle.std.specs.List.{cons_option, filter_map}
use Rattle.sd_memfolder.specs.declared.stored.Stored.{Stored}
use Rattle.sd_memfolder.specs.Files.{left_file}
use Rattle.sd_memfolder.proofs.Stops.{filter_map-more}
use Rattle.sd_memfolder.proofs.left.files_after.Goals as goal
use Rattle.sd_memfolder.proofs.left.files_after.Goals.{in-Some+in_ok-push, in_default}

pub loop-one-preserved : goal.loop-one-preserved
loop-one-preserved c =
    let f = left_file c.args.tail.now in
    let more = filter_map-more f c.args.left.now c.loop-one.one-index c.one-item.result c.loop-one-test.true c.one-item.is in
    let so_far = filter_map f (take c.loop-one.one-index c.args.left.now) in
    elim c.match-branch-2.branch [
      | in-Some+in_ok-push w ↦ (
          let one = ap (λ o. cons_option o []) (sym c.in_ok-file.ensures ∙ w.in-Some.is) in
          ap (λ (v : Vec Stored Global). v.items) w.files-is ∙ w.in_ok-push.ensures.items
          ∙ ap (λ l. l ++ w.in-Some.file ∷ []) c.loop-one.invariant ∙ sym (more ∙ ap (λ l. so_far ++ l) one))
      | in_default w ↦ (
          let none = ap (λ o. cons_option o []) (sym c.in_ok-file.ensures ∙ w.in_default.is) in
          ap (λ (v : Vec Stored Global). v.items) w.files-is ∙ c.loop-one.invariant
          ∙ sym (more ∙ ap (λ l. so_far ++ l) none ∙ append-nil so_far))
    ]
