use Rattle.std.proofs.Common.{◌∙◌, sym}
use Rattle.sd_memdrive.proofs.Room.{room-first}
use Rattle.sd_memdrive.proofs.Stops.{NoneWithout-none}
use Rattle.sd_memdrive.proofs.store.Store.of.Goals as goal

pub invariant_of-result-clause-absent : goal.invariant_of-result-clause-absent
invariant_of-result-clause-absent c = NoneWithout-none _ _ (c.reserve.ensures.items ∙ c.new-changes.ensures.items)

pub invariant_of-result-clause-room : goal.invariant_of-result-clause-room
invariant_of-result-clause-room c =
    room-first c.args.volumes.items _ _ _ c.len.ensures (sym c.args.volumes.ok.0) c.in_ok-reserve.ensures.ok
