use Rattle.std.proofs.Common.{◌∙◌, ap, arith, length, count_by, zero-add}
use Rattle.slab.proofs.SlabLemmas.{length-entries}
use Rattle.sd_serve.specs.Connections.{session_count}
use Rattle.sd_serve.proofs.ConnectionLemmas.{in_a_session, sessions_of_entries}
use Rattle.sd_serve.proofs.connection_table.ConnectionTable.with_session.Goals as goal

pub loop-place-init : goal.loop-place-init
loop-place-init c =
    let left = c.into_iter-place-iterator.ensures.into_iter_gives ∙ c.iter-place-items.ensures.rest in (
      tt,
      tt,
      zero-add _ ∙ ap (count_by in_a_session) left ∙ sessions_of_entries 0 c.self.inside.held.slots ∙ ap session_count c.self.view_is,
      omega (arith, ap length left, length-entries c.self.inside.held, c.self.invariant.within),
    )
