use denote.Param.{param}
use denote.Param.Send.{IsSend, param_send}
use Rattle.sd_board.specs.contracts.board.Board as board
use Rattle.sd_board.proofs.SendLemmas.{board_send}
use Rattle.sd_board.proofs.sends.board_sends.Goals as goal

pub sends-requires-send-T : goal.sends-requires-send-T
sends-requires-send-T g c κs within =
    let b : IsSend (board.the_row (param 0 g.row.N) (param 1 g.row.S) g.N.Naming g.S.SpoolStore) =
    board_send (param 0 g.row.N) (param 1 g.row.S) g.N.Naming g.S.SpoolStore c.lanes_send.ensures in
    record { owned = search (b); leaving = (param_send 0 _ b).leaving }
