use Rattle.std.proofs.Common.{sym, subst, List}
use Rattle.sd_board.specs.Slots.{KeepsLanes, SlotIs}
use Rattle.sd_board.proofs.SlotLemmas.{keeps_new}
use Rattle.sd_board.proofs.lanes.DriveLanes.of_ends.Goals as goal

pub invariant_of-result : goal.invariant_of-result
invariant_of-result g c =
    subst (λ (ss : List SlotIs). KeepsLanes (record { no = c.args.no; media = c.args.media; slots = ss })) (sym c.fill.ensures)
    (keeps_new c.args.no c.args.media c.args.ends.items c.requires.most c.requires.new)
