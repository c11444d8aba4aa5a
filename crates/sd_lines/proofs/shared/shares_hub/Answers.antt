use denote.Param.{param}
use denote.Param.Send.{IsSync}
use Rattle.sd_lines.specs.contracts.hub.Hub as hub
use Rattle.sd_lines.proofs.SharedLemmas.{hub_sync}
use Rattle.sd_lines.proofs.shared.shares_hub.Goals as goal

pub shares-requires-sync-T : goal.shares-requires-sync-T
shares-requires-sync-T g c κs within =
    let h : IsSync (hub.the_row (param 2 g.row.D) (param 0 g.row.N) (param 3 g.row.R) (param 1 g.row.S) g.D.Driver g.N.Naming g.S.SpoolStore) =
    hub_sync (param 2 g.row.D) (param 0 g.row.N) (param 3 g.row.R) (param 1 g.row.S) g.D.Driver g.N.Naming g.S.SpoolStore c.type_bounds.sync-R c.shares_post.ensures c.board_sends.ensures c.pool_sends.ensures in
    record { shared = search (h) }
