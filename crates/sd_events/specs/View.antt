-- What contracts say of the parts of a world, and of what an event is answered.
use Rattle.std.specs.Prelude.{Result, Ok, Err}
use Rattle.sd_base.specs.declared.refusal.Refusal.{Refusal}
use Rattle.sd_machine.specs.declared.reply.Reply.{Reply}
use Rattle.sd_machine.specs.declared.reply.Reply.TheVariants.{Refused}
use Rattle.sd_world.specs.World.{WorldView}
use Rattle.sd_events.specs.declared.parts.Parts.{Parts}

-- the world of these parts
abbrev pub world_of : {D Q S : Type 0} → Parts D Q S → WorldView D
world_of p = record {
  limits = p.limits;
  queue = p.queue;
  next = p.next;
  sessions = p.sessions.items;
  bays = p.bays.items;
  desk = p.desk;
}

-- the reply that an answer is: a refusal is one too
abbrev pub reply_of : Result Reply Refusal → Reply
reply_of (Ok reply) = reply
reply_of (Err why) = Refused why
