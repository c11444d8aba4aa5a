-- That a board may go to another thread if its lanes may.
use denote.Param.Send.{IsSend, recorded_send, sendable, struct_send, view_send}
use denote.RattleType.{RattleType}
use denote.Struct.Declared.{shape}
use Rattle.std.proofs.Crossing.{crosses}
use Rattle.sd_line.specs.declared.naming.Naming as naming
use Rattle.sd_spool.specs.declared.store.SpoolStore as store
use Rattle.sd_board.specs.contracts.board.Board as board
use Rattle.sd_board.specs.contracts.board.Board.TheInside as inside
use Rattle.sd_board.specs.contracts.lanes.DriveLanes as lanes
use Rattle.sd_board.proofs.lines.Lines.TheSendSync as lines
use Rattle.sd_board.proofs.names.Names.TheSendSync as names

inside_send : (N S : RattleType) (n : naming.Ghosts N.Denot) (s : store.Ghosts S.Denot) → IsSend (lanes.the_row N S n s) → IsSend (inside.the_row N S n s)
inside_send N S n s l =
    recorded_send (inside.the_field N S n s).row _ _ (inside.the_type N S n s).to_one
    (struct_send (shape (inside.the_type N S n s))
    (search (sendable, crosses) depth 12, (search (names.the_send), (search (sendable, crosses, l) depth 12, (search (lines.the_send), tt)))))

pub board_send : (N S : RattleType) (n : naming.Ghosts N.Denot) (s : store.Ghosts S.Denot) → IsSend (lanes.the_row N S n s) → IsSend (board.the_row N S n s)
board_send N S n s l = view_send _ _ _ _ _ (inside_send N S n s l)
