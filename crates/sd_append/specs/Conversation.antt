-- A talk as a whole: what the packets of a client came to, one after another, and how it ended.
use Rattle.std.specs.Prelude.{◌≡◌, ◌⊎◌, ℕ, ℤ, List, [], ◌∷◌, ◌++◌, Option, Some, None, Result, Ok, Err}
use Rattle.std.specs.declared.alloc.AllocError.{AllocError}
use Rattle.sd_base.specs.declared.refusal.Refusal.TheVariants.{PacketTooLong}
use Rattle.sd_bnet.specs.Stream.{IsFront, IsTooLong, IsUnfinished}
use Rattle.sd_bnet.specs.declared.packet.Packet.{Packet}
use Rattle.sd_append.specs.declared.end.TalkEnd.{TalkEnd}
use Rattle.sd_append.specs.declared.end.TalkEnd.TheVariants.{Finished, Truncated, TooLong, ReadFault, WriteFault, OutOfTurns}
use Rattle.sd_append.specs.declared.stage.Own.{Own}
use Rattle.sd_append.specs.declared.stage.TalkStage.{TalkStage}
use Rattle.sd_append.specs.declared.stage.TalkStage.TheVariants.{Command, Over}
use Rattle.sd_append.specs.Port.{Exchange}
use Rattle.sd_append.specs.TalkStage.{own_of}
use Rattle.sd_append.specs.Talk.{GivesUp, Takes, refused}

-- packets one after another, all at this moment, and where the talk stands after them
abbrev pub Converses : ℤ → TalkStage → List Packet → List Exchange → List Packet → TalkStage → Type 0
Converses moment old [] asked out new = (asked ≡ []) × (out ≡ []) × (new ≡ old)
Converses moment old (packet ∷ packets) asked out new =
    (between : TalkStage) × (first : List Exchange) × (more : List Exchange) × (says : List Packet) × (later : List Packet)
    × Takes moment old packet first says between × Converses moment between packets more later new
    × (asked ≡ first ++ more) × (out ≡ says ++ later)

-- the client has ended the talk
abbrev pub IsEndedByClient : TalkStage → Type 0
IsEndedByClient (Over own) = Unit {0}
IsEndedByClient stage = ⊥

-- a command is due
abbrev pub IsCommandDue : TalkStage → Type 0
IsCommandDue (Command own) = Unit {0}
IsCommandDue stage = ⊥

-- At the end the talk's session is given up, if it goes on.
abbrev pub GivesUpLast : Option Own → List Exchange → Type 0
GivesUpLast None asked = asked ≡ []
GivesUpLast (Some own) asked = (left : Own) × GivesUp own asked left

-- what goes out at the end: the refusal of a packet that is too long
abbrev pub end_says : Result TalkEnd AllocError → List Packet
end_says (Ok TooLong) = refused PacketTooLong ∷ []
end_says end = []

-- How a talk at this stage may end, with these bytes after its last packet, and with the input perhaps ended after
-- them: finished by the client, or if the input ended between two commands; cut off if it ended elsewhere, within a
-- packet or where no command was due; by a length above the limit; or, before any of these, by a fault of the reader or
-- by its last turn; or, at any place, by a fault of the writer or if out of memory.
abbrev pub MayEnd : Result TalkEnd AllocError → TalkStage → List ℕ → Type 0 → Type 0
MayEnd (Ok Finished) stage rest ended = IsEndedByClient stage ⊎ (IsCommandDue stage × (rest ≡ []) × ended)
MayEnd (Ok Truncated) stage rest ended =
    (IsEndedByClient stage → ⊥) × IsUnfinished rest × ((IsCommandDue stage → ⊥) ⊎ IsFront rest) × ended
MayEnd (Ok TooLong) stage rest ended = (IsEndedByClient stage → ⊥) × IsTooLong rest
MayEnd (Ok ReadFault) stage rest ended = (IsEndedByClient stage → ⊥) × IsUnfinished rest
MayEnd (Ok OutOfTurns) stage rest ended = (IsEndedByClient stage → ⊥) × IsUnfinished rest
MayEnd (Ok WriteFault) stage rest ended = Unit {0}
MayEnd (Err e) stage rest ended = Unit {0}

-- A conversation: packets came, with these bytes after them, and there the input may have ended; the port was asked
-- this and answered so, where each open, each end and each line of a console bears this moment; these packets went out;
-- and the talk ended so.
pub record Conversation (moment : ℤ) (packets : List Packet) (rest : List ℕ) (ended : Type 0) (asked : List Exchange) (out : List Packet) (end : Result TalkEnd AllocError) : Type 0 where
  pub last : TalkStage
  pub before : List Exchange
  pub giving : List Exchange
  pub says : List Packet
  pub converses : Converses moment (Command None) packets before says last
  pub gives_up : GivesUpLast (own_of last) giving
  pub asked_is : asked ≡ before ++ giving
  pub out_is : out ≡ says ++ end_says end
  pub ends : MayEnd end last rest ended
