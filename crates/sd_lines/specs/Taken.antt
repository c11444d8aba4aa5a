-- What the exchanges of a talk say that was taken.
use Rattle.std.specs.Prelude.{List, [], ◌∷◌, ◌++◌}
use Rattle.sd_append.specs.Port.{Exchange, Stepped}
use Rattle.sd_base.specs.Record.{Record}
use Rattle.sd_machine.specs.declared.event.Event.{Event}
use Rattle.sd_machine.specs.declared.event.Event.TheVariants.{Append}
use Rattle.sd_machine.specs.declared.reply.Reply.{Reply}
use Rattle.sd_machine.specs.declared.reply.Reply.TheVariants.{Opened, Taken}

-- The records that were taken of the session that was opened last, after one more reply to an event: none if the reply
-- is that a session is open; one more if it is that this record was taken.
abbrev pub taken_by : Reply → Event → List Record → List Record
taken_by (Opened ticket drive) event so_far = []
taken_by (Taken count) (Append ticket r) so_far = so_far ++ r ∷ []
taken_by reply event so_far = so_far

-- the records that were taken of the session that was opened last, after one more exchange
abbrev pub taken_behind : Exchange → List Record → List Record
taken_behind (Stepped event reply) so_far = taken_by reply event so_far
taken_behind exchange so_far = so_far

-- the records that were taken of the session that was opened last, after all these exchanges
abbrev pub taken_from : List Record → List Exchange → List Record
taken_from so_far [] = so_far
taken_from so_far (x ∷ xs) = taken_from (taken_behind x so_far) xs

-- the records that were answered to be taken, in order, of the session that was opened last in these exchanges
abbrev pub taken_last : List Exchange → List Record
taken_last asked = taken_from [] asked
