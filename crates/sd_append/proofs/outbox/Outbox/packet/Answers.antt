use Rattle.std.proofs.Common.{◌++◌, List, ℕ, subst}
use Rattle.sd_append.specs.Out.{PutsOut, out_view}
use Rattle.sd_append.proofs.OutLemmas.{puts_then}
use Rattle.sd_append.proofs.outbox.Outbox.packet.Goals as goal

pub returns : goal.returns
returns g c =
    subst (λ (field : List ℕ). PutsOut (out_view g.W.Write.contents c.args.self.now) (out_view g.W.Write.contents c.put-2.new.self) (field ++ c.args.payload.now)) c.length_field.ensures
    (puts_then _ _ _ _ _ c.put.ensures c.put-2.ensures)
