-- What a talk is as a whole, whatever its port answers.
use Rattle.std.specs.Prelude.{◌≡◌, ◌≢◌, ◌⊎◌, ℕ, ℤ, List, [], ◌∷◌, ◌++◌, Result, Ok, Err}
use Rattle.std.specs.declared.alloc.AllocError.{AllocError}
use Rattle.sd_bnet.specs.Stream.{IsFront, IsTooLong, IsUnfinished}
use Rattle.sd_bnet.specs.declared.packet.Packet.{Packet}
use Rattle.sd_append.specs.Conversation.{Conversation, end_says}
use Rattle.sd_append.specs.Port.{Exchange}
use Rattle.sd_append.specs.Talk.{said}
use Rattle.sd_append.specs.declared.end.TalkEnd.{TalkEnd}
use Rattle.sd_append.specs.declared.end.TalkEnd.TheVariants.{Finished, Truncated, TooLong, ReadFault, WriteFault, OutOfTurns}
use Rattle.sd_append.specs.declared.line.ReplyLine.TheVariants as lines
use Rattle.sd_append.specs.Phases.{AreTaken, AskFor}
use Rattle.sd_append.specs.Sessions.{AreOver, Known, LastIsGivenUp, known_behind, none_opened}
use Rattle.sd_append.specs.Turns.{IsDataPhase, IsOfTurns, Place, Between, Within, Ended, Turn}

-- however a talk ends, each of its sessions is over, and every event that it asked was one of the session that it opened last
abbrev pub SessionsAreOver : Type 0 → Type 0
SessionsAreOver E = (moment : ℤ) (packets : List Packet) (rest : List ℕ) (asked : List Exchange) (out : List Packet) (end : Result TalkEnd AllocError)
    → Conversation moment packets rest E asked out end → AreOver moment asked

-- How a talk may end that is here after its last packet, with these bytes after that packet, and with the input perhaps
-- ended after them. It is finished if the client has ended it, or if the input ends between two turns and no packet has
-- begun; truncated if the input ends elsewhere. A length that is too great, a fault of the reader or the last read ends
-- it too, unless the client has. A fault of the writer, or being out of memory, may end it anywhere.
abbrev pub EndsAt : Result TalkEnd AllocError → Place → List ℕ → Type 0 → Type 0
EndsAt (Ok Finished) place rest ended = (place ≡ Ended) ⊎ ((place ≡ Between) × (rest ≡ []) × ended)
EndsAt (Ok Truncated) place rest ended = (place ≢ Ended) × IsUnfinished rest × ((place ≡ Within) ⊎ IsFront rest) × ended
EndsAt (Ok TooLong) place rest ended = (place ≢ Ended) × IsTooLong rest
EndsAt (Ok ReadFault) place rest ended = (place ≢ Ended) × IsUnfinished rest
EndsAt (Ok OutOfTurns) place rest ended = (place ≢ Ended) × IsUnfinished rest
EndsAt (Ok WriteFault) place rest ended = Unit {0}
EndsAt (Err e) place rest ended = Unit {0}

-- A talk is of turns, and ends by where it is after them. Its session is then given up, if it goes on, and only a
-- packet that is too long is answered.
pub record IsAnsweredByTurns (moment : ℤ) (packets : List Packet) (rest : List ℕ) (ended : Type 0) (asked : List Exchange) (out : List Packet) (end : Result TalkEnd AllocError) : Type 0 where
  pub place : Place
  pub before : List Exchange
  pub gives_up : List Exchange
  pub says : List Packet
  pub of_turns : IsOfTurns moment place none_opened packets before says
  pub given_up : LastIsGivenUp (known_behind none_opened before) gives_up
  pub asked_is : asked ≡ before ++ gives_up
  pub out_is : out ≡ says ++ end_says end
  pub ends : EndsAt end place rest ended

-- so it is of each talk
abbrev pub RepliesAnswerTurns : Type 0 → Type 0
RepliesAnswerTurns E = (moment : ℤ) (packets : List Packet) (rest : List ℕ) (asked : List Exchange) (out : List Packet) (end : Result TalkEnd AllocError)
    → Conversation moment packets rest E asked out end → IsAnsweredByTurns moment packets rest E asked out end

-- if `3000 OK append data` goes out for a data phase, the header of every group was read, and every record was taken
abbrev pub AppendedIsTaken : Type 0
AppendedIsTaken = (known : Known) (turn : Turn) (phase : IsDataPhase known turn) → turn.says ≡ said lines.Data ∷ said lines.Appended ∷ []
    → AskFor phase.groups phase.records [] × AreTaken phase.ticket phase.records turn.asked
