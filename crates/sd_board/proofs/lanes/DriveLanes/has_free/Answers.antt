use Rattle.std.proofs.Common.{sym, subst, List}
use Rattle.std.specs.Prelude.{MatchBool}
use Rattle.sd_base.specs.Choice.{NoneOf}
use Rattle.sd_board.specs.Slots.{DriveLanesIs, IsFree, SlotIs}
use Rattle.sd_board.proofs.SlotLemmas.{free_by}
use Rattle.sd_board.proofs.lanes.DriveLanes.has_free.Goals as goal

pub returns : goal.returns
returns g c =
    let here = subst (λ (ss : List SlotIs). MatchBool c.is_some.result (NoneOf IsFree ss → ⊥) (NoneOf IsFree ss)) c.deref.ensures.value
    (subst (λ b. MatchBool b (NoneOf IsFree c.deref.result.now → ⊥) (NoneOf IsFree c.deref.result.now)) (sym c.is_some.ensures)
    (free_by c.deref.result.now c.lowest_free.result c.lowest_free.ensures.some c.lowest_free.ensures.none)) in
    subst (λ (d : DriveLanesIs). MatchBool c.is_some.result (NoneOf IsFree d.slots → ⊥) (NoneOf IsFree d.slots)) c.self.view_is here
