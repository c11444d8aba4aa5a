use Rattle.std.proofs.Common.{Vec, Global, take, ◌++◌, ◌∷◌, [], ap, sym, ◌∙◌, append-nil}
use Rattle.std.specs.List.{cons_option, filter_map}
use Rattle.sd_memdrive.specs.declared.stored.Stored.{Stored}
use Rattle.sd_memdrive.specs.ChangeLog.{left_volume}
use Rattle.sd_memdrive.proofs.Stops.{filter_map-more}
use Rattle.sd_memdrive.proofs.stop.left_all.Goals as goal
use Rattle.sd_memdrive.proofs.stop.left_all.Goals.{in-Some+in_ok-push, in_default}

pub loop-stored-preserved : goal.loop-stored-preserved
loop-stored-preserved c =
    let left = left_volume c.args.later.now c.args.tail.now in
    let more = filter_map-more left c.args.volumes.now c.loop-stored.stored-index c.stored-item.result c.loop-stored-test.true c.stored-item.is in
    let so_far = filter_map left (take c.loop-stored.stored-index c.args.volumes.now) in
    elim c.match-branch-2.branch [
      | in-Some+in_ok-push w ↦ (
          let one = ap (λ o. cons_option o []) (sym c.in_ok-volume.ensures ∙ w.in-Some.is) in
          ap (λ (v : Vec Stored Global). v.items) w.left-is ∙ w.in_ok-push.ensures.items
          ∙ ap (λ l. l ++ w.in-Some.volume ∷ []) c.loop-stored.invariant ∙ sym (more ∙ ap (λ l. so_far ++ l) one))
      | in_default w ↦ (
          let none = ap (λ o. cons_option o []) (sym c.in_ok-volume.ensures ∙ w.in_default.is) in
          ap (λ (v : Vec Stored Global). v.items) w.left-is ∙ c.loop-stored.invariant
          ∙ sym (more ∙ ap (λ l. so_far ++ l) none ∙ append-nil so_far))
    ]
