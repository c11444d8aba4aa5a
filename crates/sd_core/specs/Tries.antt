-- An event that is given to a world, and again after rounds.
use Rattle.std.specs.Prelude.{◌≡◌, ◌⊎◌, ℕ, ◌+◌, ◌<◌, ◌≤◌, Bool, true, false, Option, Some, None, List, [], ◌∷◌, ◌++◌, length, map}
use Rattle.std.specs.List.{sum_by}
use Rattle.sd_base.specs.declared.refusal.Refusal.TheVariants.{Busy, NotYet, Memory}
use Rattle.sd_driver.specs.Meaning.{Meaning}
use Rattle.sd_machine.specs.declared.event.Event.{Event}
use Rattle.sd_machine.specs.declared.event.Event.TheVariants.{Append, Close}
use Rattle.sd_machine.specs.declared.reply.Reply.{Reply}
use Rattle.sd_machine.specs.declared.reply.Reply.TheVariants.{Refused}
use Rattle.sd_world.specs.World.{WorldView}
use Rattle.sd_world.specs.Steps.{IsStep, StepsAlong}
use Rattle.sd_core.specs.Rounds.{IsRound, PlaysRound, moved_in, placed_in}
use Rattle.sd_base.specs.Count.{counted}
use Rattle.sd_core.specs.declared.headway.Round.{Round}

-- the answer may be another one after a round: a record that found a body waiting, a close that found something
-- outstanding
abbrev pub may_change : Event → Reply → Bool
may_change (Append ticket r) (Refused Busy) = true
may_change (Close ticket) (Refused NotYet) = true
may_change event reply = false

-- a round is played, of these events and replies
abbrev pub PlaysAs : {D : Type 0} → (D → Meaning) → WorldView D → List Event → List Reply → WorldView D → Type 0
PlaysAs meaning old events replies new = IsRound old events replies × StepsAlong meaning old events replies new

-- an answer that may change, and the events and replies of the round that was played then
pub record Try : Type 0 where
  pub answer : Reply
  pub events : List Event
  pub replies : List Reply

-- The event is given to the world again and again. Each answer may change, and something moves in the round after it.
abbrev pub GivesAgain : {D : Type 0} → (D → Meaning) → Event → WorldView D → List Try → WorldView D → Type 0
GivesAgain meaning event old [] new = new ≡ old
GivesAgain {D} meaning event old (t ∷ tries) new =
    (asked : WorldView D) × (after : WorldView D)
    × IsStep meaning old event t.answer asked × (may_change event t.answer ≡ true)
    × PlaysAs meaning asked t.events t.replies after × (moved_in t.replies ≡ true)
    × GivesAgain meaning event after tries new

-- the events of these tries, those of their rounds among them
abbrev pub events_tried : Event → List Try → List Event
events_tried event [] = []
events_tried event (t ∷ tries) = event ∷ (t.events ++ events_tried event tries)

-- the replies to them
abbrev pub replies_tried : List Try → List Reply
replies_tried [] = []
replies_tried (t ∷ tries) = t.answer ∷ (t.replies ++ replies_tried tries)

-- The event is given to the world, and its answer is the answer: it is one that doesn't change, or there are no more
-- rounds.
pub record IsAnswered {D : Type 0} (meaning : D → Meaning) (event : Event) (tried rounds : ℕ) (reply : Reply)
    (old : WorldView D) (events : List Event) (replies : List Reply) (new : WorldView D) : Type 0 where
  pub step : IsStep meaning old event reply new
  pub due : (may_change event reply ≡ false) ⊎ (tried ≡ rounds)
  pub events_are : events ≡ event ∷ []
  pub replies_are : replies ≡ reply ∷ []

-- The event is given to the world; its answer may change, but in the round after it nothing moves: it is the answer.
pub record StandsStill {D : Type 0} (meaning : D → Meaning) (event : Event) (tried rounds : ℕ) (reply : Reply)
    (old : WorldView D) (events : List Event) (replies : List Reply) (new : WorldView D) : Type 0 where
  pub asked : WorldView D
  pub step : IsStep meaning old event reply asked
  pub may : may_change event reply ≡ true
  pub left : tried < rounds
  pub round_events : List Event
  pub round_replies : List Reply
  pub plays : PlaysAs meaning asked round_events round_replies new
  pub nothing_moved : moved_in round_replies ≡ false
  pub events_are : events ≡ event ∷ round_events
  pub replies_are : replies ≡ reply ∷ round_replies

-- The event is given to the world; its answer may change, but there is no memory for a round: that is the answer.
pub record LacksMemory {D : Type 0} (meaning : D → Meaning) (event : Event) (tried rounds : ℕ) (reply : Reply)
    (old : WorldView D) (events : List Event) (replies : List Reply) (new : WorldView D) : Type 0 where
  pub answer : Reply
  pub step : IsStep meaning old event answer new
  pub may : may_change event answer ≡ true
  pub left : tried < rounds
  pub reply_is : reply ≡ Refused Memory
  pub events_are : events ≡ event ∷ []
  pub replies_are : replies ≡ answer ∷ []

-- After so many tries the event is given to the world once more, and this is the answer.
abbrev pub Ends : {D : Type 0} → (D → Meaning) → Event → ℕ → ℕ → Reply → WorldView D → List Event → List Reply → WorldView D → Type 0
Ends meaning event tried rounds reply old events replies new =
    IsAnswered meaning event tried rounds reply old events replies new
    ⊎ StandsStill meaning event tried rounds reply old events replies new
    ⊎ LacksMemory meaning event tried rounds reply old events replies new

-- An event is answered, in at most so many rounds: it is given to the world, and given again after each round in which
-- something moved, as long as the answer may change. These are the world's events and its replies, the rounds' among
-- them.
pub record Answers {D : Type 0} (meaning : D → Meaning) (rounds : ℕ) (old : WorldView D) (event : Event) (reply : Reply)
    (events : List Event) (replies : List Reply) (new : WorldView D) : Type 0 where
  pub tries : List Try
  pub few : length tries ≤ rounds
  pub middle : WorldView D
  pub gives : GivesAgain meaning event old tries middle
  pub last_events : List Event
  pub last_replies : List Reply
  pub ends : Ends meaning event (length tries) rounds reply middle last_events last_replies new
  pub events_are : events ≡ events_tried event tries ++ last_events
  pub replies_are : replies ≡ replies_tried tries ++ last_replies

-- The loop that an answer and a drain have in common: before each round an event is given, or nothing is asked.

-- what is asked is given to the world, and answered so; if nothing is asked, the world stays
abbrev pub Asks : {D : Type 0} → (D → Meaning) → Option Event → WorldView D → Reply → WorldView D → Type 0
Asks meaning None old answer new = new ≡ old
Asks meaning (Some event) old answer new = IsStep meaning old event answer new

-- a round is due after this answer: it may be another one then, or nothing is asked
abbrev pub is_due : Option Event → Reply → Bool
is_due None answer = true
is_due (Some event) answer = may_change event answer

-- What is asked is given again and again, and after each answer a round is played in which something moves.
abbrev pub AsksAgain : {D : Type 0} → (D → Meaning) → Option Event → WorldView D → List Try → WorldView D → Type 0
AsksAgain meaning asked old [] new = new ≡ old
AsksAgain {D} meaning asked old (t ∷ tries) new =
    (given : WorldView D) × (after : WorldView D)
    × Asks meaning asked old t.answer given × (is_due asked t.answer ≡ true)
    × PlaysAs meaning given t.events t.replies after × (moved_in t.replies ≡ true)
    × AsksAgain meaning asked after tries new

-- the replies of the rounds of these tries
abbrev pub rounds_in : List Try → List (List Reply)
rounds_in tries = map (λ (t : Try). t.replies) tries

-- So many tries were made, and so many blocks placed in their rounds.
pub record Tried {D : Type 0} (meaning : D → Meaning) (asked : Option Event) (old : WorldView D)
    (count placed : ℕ) (world : WorldView D) : Type 0 where
  pub tries : List Try
  pub gives : AsksAgain meaning asked old tries world
  pub count_is : length tries ≡ count
  pub placed_is : placed ≡ counted (sum_by placed_in (rounds_in tries))

-- What is asked was given last, after so many tries: the answer doesn't change any more, or there are no more rounds.
pub record StopsGiven {D : Type 0} (meaning : D → Meaning) (rounds : ℕ) (asked : Option Event) (old : WorldView D)
    (answer : Reply) (placed : ℕ) (new : WorldView D) : Type 0 where
  pub count : ℕ
  pub middle : WorldView D
  pub tried : Tried meaning asked old count placed middle
  pub few : count ≤ rounds
  pub asks : Asks meaning asked middle answer new
  pub due : (is_due asked answer ≡ false) ⊎ (count ≡ rounds)

-- What is asked was given last, after so many tries, and a round is due.
pub record AwaitsRound {D : Type 0} (meaning : D → Meaning) (rounds : ℕ) (asked : Option Event) (old : WorldView D)
    (answer : Reply) (placed : ℕ) (new : WorldView D) : Type 0 where
  pub count : ℕ
  pub middle : WorldView D
  pub tried : Tried meaning asked old count placed middle
  pub left : count < rounds
  pub asks : Asks meaning asked middle answer new
  pub due : is_due asked answer ≡ true

-- The round that was due was played last, and nothing moved in it.
pub record StopsStill {D : Type 0} (meaning : D → Meaning) (rounds : ℕ) (asked : Option Event) (old : WorldView D)
    (answer : Reply) (placed : ℕ) (new : WorldView D) : Type 0 where
  pub before : ℕ
  pub given : WorldView D
  pub asked_last : AwaitsRound meaning rounds asked old answer before given
  pub round : Round
  pub plays : PlaysRound meaning given round new
  pub still : round.moved ≡ false
  pub placed_is : placed ≡ counted (before + round.placed)

-- The loop stopped with this answer, and so many blocks were placed in its rounds.
abbrev pub Stops : {D : Type 0} → (D → Meaning) → ℕ → Option Event → WorldView D → Reply → ℕ → WorldView D → Type 0
Stops meaning rounds asked old answer placed new =
    StopsGiven meaning rounds asked old answer placed new ⊎ StopsStill meaning rounds asked old answer placed new

-- There was no memory for a round that was due.
abbrev pub Lacks : {D : Type 0} → (D → Meaning) → ℕ → Option Event → WorldView D → WorldView D → Type 0
Lacks meaning rounds asked old new = (answer : Reply) × (placed : ℕ) × AwaitsRound meaning rounds asked old answer placed new
