-- That threads may share a hub if they may share its parts.
use denote.Param.Send.{IsSend, IsSync, array_send, recorded_send, recorded_sync, sendable, struct_send, struct_sync}
use denote.RattleType.{RattleType}
use denote.Struct.Declared.{shape}
use Rattle.std.proofs.Crossing.{crosses}
use Rattle.sd_driver.specs.declared.driver.Driver as driver
use Rattle.sd_line.specs.declared.naming.Naming as naming
use Rattle.sd_spool.specs.declared.store.SpoolStore as store
use Rattle.std.specs.contracts.option.Option as option
use Rattle.sd_base.specs.contracts.name.Name as name
use Rattle.sd_base.specs.contracts.name.Pool as pool
use Rattle.sd_board.specs.contracts.board.Board as board
use Rattle.sd_lines.specs.contracts.front.Front as front
use Rattle.sd_lines.specs.contracts.hub.Hub as hub
use Rattle.sd_lines.specs.contracts.hub.Post as post

front_send : (N S : RattleType) (n : naming.Ghosts N.Denot) (s : store.Ghosts S.Denot) → IsSend (board.the_row N S n s) → IsSend (option.the_row (name.the_row pool.the_row))
    → IsSend (front.the_row N S n s)
front_send N S n s b q =
    recorded_send (front.the_field N S n s).row _ _ (front.the_type N S n s).to_one
    (struct_send (shape (front.the_type N S n s)) (search (sendable, crosses) depth 12, (array_send (option.the_row (name.the_row pool.the_row)) 8 q, (search (sendable, crosses) depth 12, tt))))

pub hub_sync : (D N R S : RattleType) (d : driver.Ghosts D.Denot) (n : naming.Ghosts N.Denot) (s : store.Ghosts S.Denot) → IsSync R → IsSync (post.the_row D N R d n)
    → IsSend (board.the_row N S n s) → IsSend (option.the_row (name.the_row pool.the_row)) → IsSync (hub.the_row D N R S d n s)
hub_sync D N R S d n s r p b q =
    let f = front_send N S n s b q in
    recorded_sync (hub.the_field D N R S d n s).row _ _ (hub.the_type D N R S d n s).to_one
    (struct_sync (shape (hub.the_type D N R S d n s))
    (search (sendable, crosses) depth 12, (search (sendable, crosses) depth 12, (search (sendable, crosses, p) depth 12, (search (sendable, crosses, f) depth 12, (search (sendable, crosses) depth 12, (search (sendable, crosses) depth 12, (search (sendable, crosses) depth 12, (search (sendable, crosses) depth 12, (search sendable, (search sendable, tt)))))))))))
