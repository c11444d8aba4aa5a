use Rattle.std.proofs.Common.{◌≡◌, sym, subst, []}
use Rattle.sd_board.specs.Slots.{DriveLanesIs}
use Rattle.sd_board.proofs.SlotLemmas.{keeps_none}
use Rattle.sd_board.proofs.lanes.DriveLanes.take_slots.Goals as goal

pub invariant_of-self : goal.invariant_of-self
invariant_of-self g c =
    let d : DriveLanesIs = record { no = c.self.inside.no; media = c.self.inside.media; slots = c.self.inside.slots.items } in
    keeps_none d _ (subst (λ v. v.items ≡ []) (sym c.replace.ensures.after) c.requires)
