use Rattle.std.proofs.Common.{◌≡◌, length}
use Rattle.sd_pack.specs.Body.{empty_body}
use Rattle.sd_session.proofs.dropping.drop_bodies.Given as goal

-- no body is open, and the room stays
abbrev pub invariant-loop-body : goal.invariant-loop-body
invariant-loop-body l =
    record { none_open : l.packer.open_body ≡ empty_body; room_is : l.packer.room ≡ l.fn.packer.room }

abbrev pub decreases-loop-body : goal.decreases-loop-body
decreases-loop-body l = length l.packer.waiting
