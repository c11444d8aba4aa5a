-- What a world's port is, and what it did.
use Rattle.std.specs.Prelude.{◌≡◌, ℕ, ℤ, List, [], ◌∷◌, ◌++◌}
use Rattle.sd_driver.specs.Meaning.{Meaning}
use Rattle.sd_machine.specs.declared.event.Event.{Event}
use Rattle.sd_machine.specs.declared.reply.Reply.{Reply}
use Rattle.sd_world.specs.World.{WorldView}
use Rattle.sd_world.specs.Deeds.{Deed, ReadBack, IsRead, answered}
use Rattle.sd_world.specs.Steps.{IsSound}
use Rattle.sd_append.specs.Port.{Exchange, Stepped, WasRead, Said}
use Rattle.sd_port.specs.Console.{LineDoes}
use Rattle.sd_core.specs.Tries.{Answers, PlaysAs}

-- a port: its world, the moment that it was made at, how many rounds there are while an event waits, the world that it was
-- made with, and what it was asked since, with the answers
pub record PortView (D : Type 0) : Type 0 where
  pub world : WorldView D
  pub moment : ℤ
  pub rounds : ℕ
  pub opening : WorldView D
  pub asked : List Exchange

-- a port that was asked nothing yet
abbrev pub new_port : {D : Type 0} → WorldView D → ℤ → ℕ → PortView D
new_port w moment rounds = record { world = w; moment = moment; rounds = rounds; opening = w; asked = [] }

-- the port after one exchange more, with the world as it is then
abbrev pub behind : {D : Type 0} → Exchange → WorldView D → PortView D → PortView D
behind exchange w p = record p { world = w; asked = p.asked ++ exchange ∷ [] }

-- What a port did at once: an exchange, or a round that it was told to play; with the events that its world was given for
-- it, and the replies to them.
pub data PortDeed : Type 0 where
  Exchanged : Exchange → List Event → List Reply → PortDeed
  Played : List Event → List Reply → PortDeed

-- what the port was asked in these deeds
abbrev pub asked_in : List PortDeed → List Exchange
asked_in [] = []
asked_in (Exchanged exchange events replies ∷ deeds) = exchange ∷ asked_in deeds
asked_in (Played events replies ∷ deeds) = asked_in deeds

-- the world's deeds in one of the port's
abbrev pub world_deeds : PortDeed → List Deed
world_deeds (Exchanged (Stepped event reply) events replies) = answered events replies
world_deeds (Exchanged (WasRead key spans records answer) events replies) = ReadBack key spans [] records answer ∷ []
world_deeds (Exchanged (Said moment text answer) events replies) = answered events replies
world_deeds (Played events replies) = answered events replies

-- the world's deeds in these, one after another
abbrev pub world_deeds_in : List PortDeed → List Deed
world_deeds_in [] = []
world_deeds_in (d ∷ deeds) = world_deeds d ++ world_deeds_in deeds

-- From the one world a deed leads to the other: an event is answered, in at most so many rounds; a session is read back,
-- for which the world is given no event; a console's line is obeyed, at the moment that it bears; or a round is played.
abbrev pub IsPortDeed : {D : Type 0} → (D → Meaning) → ℕ → PortDeed → WorldView D → WorldView D → Type 0
IsPortDeed meaning rounds (Exchanged (Stepped event reply) events replies) old new =
    Answers meaning rounds old event reply events replies new
IsPortDeed meaning rounds (Exchanged (WasRead key spans records answer) events replies) old new =
    (events ≡ []) × (replies ≡ []) × IsRead meaning key spans [] records answer old new
IsPortDeed meaning rounds (Exchanged (Said moment text answer) events replies) old new =
    LineDoes meaning moment text answer events replies old new
IsPortDeed meaning rounds (Played events replies) old new = PlaysAs meaning old events replies new

-- from the one world these deeds lead to the other, one after another, and nothing else
abbrev pub PortLeadsTo : {D : Type 0} → (D → Meaning) → ℕ → WorldView D → List PortDeed → WorldView D → Type 0
PortLeadsTo meaning rounds old [] new = new ≡ old
PortLeadsTo {D} meaning rounds old (d ∷ deeds) new =
    (between : WorldView D) × IsPortDeed meaning rounds d old between × PortLeadsTo meaning rounds between deeds new

-- What a port keeps: deeds lead from the world that it was made with, which is sound, to its world now; and what it
-- was asked is what it was asked in them.
pub record IsOver {D : Type 0} (meaning : D → Meaning) (p : PortView D) : Type 0 where
  pub opens : IsSound meaning p.opening
  pub deeds : List PortDeed
  pub leads : PortLeadsTo meaning p.rounds p.opening deeds p.world
  pub asked_are : p.asked ≡ asked_in deeds
