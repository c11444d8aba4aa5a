-- What rounds play, and what comes of them.
use Rattle.std.specs.Prelude.{◌≡◌, ◌⊎◌, ℕ, ◌-◌, ◌^◌, Bool, true, false, IsTrue, Option, Some, None, is_some, List, [], ◌∷◌, ◌++◌, length, map, filter, slice_get, All}
use Rattle.std.specs.List.{list_any, count_by, sum_by, range_with_len}
use Rattle.sd_base.specs.Limits.{most_drives}
use Rattle.sd_driver.specs.Meaning.{Meaning}
use Rattle.sd_machine.specs.declared.event.Event.{Event}
use Rattle.sd_machine.specs.declared.event.Event.TheVariants.{Spool, Despool, Take, Place, Sync, Seek}
use Rattle.sd_machine.specs.declared.reply.Reply.{Reply}
use Rattle.sd_machine.specs.declared.reply.Reply.TheVariants.{Spooled, Sent, InHand, Placed, NeedVolume, VolumeFull, VolumeError, Mounted}
use Rattle.sd_world.specs.Steps.{StepsAlong}
use Rattle.sd_world.specs.World.{WorldView, BayView}
use Rattle.sd_base.specs.Count.{counted}
use Rattle.sd_core.specs.View.{running_tickets}
use Rattle.sd_core.specs.declared.headway.Round.{Round}

-- What came of steps.

-- something moved in the step with this reply
abbrev pub has_moved : Reply → Bool
has_moved Spooled = true
has_moved Sent = true
has_moved (InHand ticket seq) = true
has_moved (Placed volume start end) = true
has_moved (Mounted name) = true
has_moved VolumeFull = true
has_moved VolumeError = true
has_moved reply = false

-- a block was placed in it
abbrev pub has_placed : Reply → Bool
has_placed (Placed volume start end) = true
has_placed reply = false

-- how many blocks were placed in the steps with these replies
abbrev pub placed_in : List Reply → ℕ
placed_in replies = count_by has_placed replies

-- whether something moved in one of them
abbrev pub moved_in : List Reply → Bool
moved_in replies = list_any has_moved replies

-- what came of the steps with these replies
pub record Tells (round : Round) (replies : List Reply) : Type 0 where
  pub moved : round.moved ≡ moved_in replies
  pub placed : round.placed ≡ counted (placed_in replies)

-- Steps of this kind are played, and what came of them is told.
pub record PlaysOn {D : Type 0} (meaning : D → Meaning) (kind : List Event → List Reply → Type 0) (old : WorldView D)
    (round : Round) (new : WorldView D) : Type 0 where
  pub events : List Event
  pub replies : List Reply
  pub is_kind : kind events replies
  pub along : StepsAlong meaning old events replies new
  pub tells : Tells round replies

-- The sessions' part of a round.

-- one step to the spool and one to the queue for each of the sessions
abbrev pub sends : List ℕ → List Event
sends [] = []
sends (ticket ∷ tickets) = Spool ticket ∷ Despool ticket ∷ sends tickets

-- the events are these steps, whatever the replies
abbrev pub AreSends : List ℕ → List Event → List Reply → Type 0
AreSends tickets events replies = events ≡ sends tickets

-- The drives' part of a round.

-- of each drive of a world whether it is online
abbrev pub online_flags : {D : Type 0} → WorldView D → List Bool
online_flags w = map (λ (bay : BayView _). is_some bay.drive) w.bays

-- there is such a drive, and it is online
abbrev pub is_set : Option Bool → Bool
is_set None = false
is_set (Some flag) = flag

-- whether the drive of this number is there and online
abbrev pub is_online : List Bool → ℕ → Bool
is_online flags drive = is_set (slice_get flags (drive - 1))

-- the numbers of the drives that are online, by rising number; a world has no more than it may have
abbrev pub drives_online : {D : Type 0} → WorldView D → List ℕ
drives_online w = filter (is_online (online_flags w)) (range_with_len 1 most_drives)

-- The body in the hand is placed; if a volume is needed, one is sought; and if that mounted one, the body is
-- placed again.
abbrev pub placing : ℕ → List Reply → List Event
placing drive (NeedVolume ∷ Mounted name ∷ replies) =
    Place drive ∷ Seek drive ∷ Place drive ∷ []
placing drive (NeedVolume ∷ replies) = Place drive ∷ Seek drive ∷ []
placing drive replies = Place drive ∷ []

-- the events are the placing that these replies make
abbrev pub IsPlacing : ℕ → List Event → List Reply → Type 0
IsPlacing drive events replies = events ≡ placing drive replies

-- A drive takes a body into its hand, if that is empty, places it and syncs.
pub record IsTurn (drive : ℕ) (events : List Event) (replies : List Reply) : Type 0 where
  pub took : Reply
  pub placed : List Reply
  pub synced : Reply
  pub events_are : events ≡ Take drive ∷ placing drive placed ++ Sync drive ∷ []
  pub replies_are : replies ≡ took ∷ placed ++ synced ∷ []

-- the drives have their turns, one after another
abbrev pub AreTurns : List ℕ → List Event → List Reply → Type 0
AreTurns [] events replies = (events ≡ []) × (replies ≡ [])
AreTurns (drive ∷ drives) events replies =
    (here : List Event) × (said : List Reply) × (later : List Event) × (rest : List Reply)
    × IsTurn drive here said × AreTurns drives later rest × (events ≡ here ++ later) × (replies ≡ said ++ rest)

-- A round.

-- each session that is on its way spools and despools, by rising ticket; then each drive that is online has its turn, by
-- rising number
pub record IsRound {D : Type 0} (w : WorldView D) (events : List Event) (replies : List Reply) : Type 0 where
  pub sent : List Reply
  pub turns : List Event
  pub turned : List Reply
  pub are_turns : AreTurns (drives_online w) turns turned
  pub events_are : events ≡ sends (running_tickets w.sessions) ++ turns
  pub replies_are : replies ≡ sent ++ turned

-- a round is played, and what came of it is told
abbrev pub PlaysRound : {D : Type 0} → (D → Meaning) → WorldView D → Round → WorldView D → Type 0
PlaysRound meaning old round new = PlaysOn meaning (IsRound old) old round new

-- Rounds until nothing moves.

-- a round with these replies is played
pub record PlaysOne {D : Type 0} (meaning : D → Meaning) (old : WorldView D) (replies : List Reply) (new : WorldView D) : Type 0 where
  pub events : List Event
  pub is_round : IsRound old events replies
  pub along : StepsAlong meaning old events replies new

-- rounds with these replies are played, one after another
abbrev pub PlaysRounds : {D : Type 0} → (D → Meaning) → WorldView D → List (List Reply) → WorldView D → Type 0
PlaysRounds meaning old [] new = new ≡ old
PlaysRounds {D} meaning old (replies ∷ rounds) new =
    (between : WorldView D) × PlaysOne meaning old replies between × PlaysRounds meaning between rounds new

-- something moved in the round with these replies
abbrev pub Moved : List Reply → Type 0
Moved replies = IsTrue (moved_in replies)

-- something moved in each of the rounds
abbrev pub AllMove : List (List Reply) → Type 0
AllMove rounds = All Moved rounds

-- the last of the rounds is the first in which nothing moved
pub record EndStill (rounds : List (List Reply)) : Type 0 where
  pub before : List (List Reply)
  pub last : List Reply
  pub rounds_are : rounds ≡ before ++ last ∷ []
  pub move : AllMove before
  pub still : moved_in last ≡ false

-- Rounds are played to the first in which nothing moved, or as many as a number of 64 bits counts; and so
-- many blocks were placed in them.
pub record Drains {D : Type 0} (meaning : D → Meaning) (old : WorldView D) (placed : ℕ) (new : WorldView D) : Type 0 where
  pub rounds : List (List Reply)
  pub plays : PlaysRounds meaning old rounds new
  pub ends : EndStill rounds ⊎ (AllMove rounds × (length rounds ≡ 2 ^ 64 - 1))
  pub placed_is : placed ≡ counted (sum_by placed_in rounds)

-- Rounds are played, in each of which something moved.
abbrev pub PlaysMoving : {D : Type 0} → (D → Meaning) → WorldView D → WorldView D → Type 0
PlaysMoving meaning old new = (rounds : List (List Reply)) × PlaysRounds meaning old rounds new × AllMove rounds
