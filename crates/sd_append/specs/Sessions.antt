-- The session of a talk, by what the port was asked and what it answered.
use Rattle.std.specs.Prelude.{◌≡◌, ◌⊎◌, ℕ, ℤ, Bool, true, false, if◌then◌else◌, List, [], ◌∷◌, ◌++◌, Option, Some, None}
use Rattle.sd_base.specs.declared.refusal.Refusal.TheVariants as refusals
use Rattle.sd_machine.specs.declared.event.Event.{Event}
use Rattle.sd_machine.specs.declared.event.Event.TheVariants as events
use Rattle.sd_machine.specs.declared.reply.Reply.{Reply}
use Rattle.sd_machine.specs.declared.reply.Reply.TheVariants as replies
use Rattle.sd_append.specs.Port.{Exchange, Stepped}

-- By this reply a session is over: it is closed, or cancelled; or it is refused because it has failed or was cancelled.
abbrev pub is_over : Reply → Bool
is_over (replies.Closed key spans) = true
is_over replies.Cancelled = true
is_over (replies.Refused refusals.SessionFailed) = true
is_over (replies.Refused refusals.SessionCancelled) = true
is_over reply = false

-- whether a session that went on so far goes on after one more reply to an event of its own
abbrev pub goes_on_by : Bool → Reply → Bool
goes_on_by goes_on reply = if is_over reply then false else goes_on

-- what is known of the session that a talk opened last: its ticket, if it opened one, and whether it goes on
pub record Known : Type 0 where
  pub ticket : Option ℕ
  pub goes_on : Bool

-- of a talk that has opened none
abbrev pub none_opened : Known
none_opened = record { ticket = None; goes_on = false }

-- by the reply to an open: another session, or the one before
abbrev pub known_by_open : Known → Reply → Known
known_by_open known (replies.Opened ticket drive) = record { ticket = Some ticket; goes_on = true }
known_by_open known reply = known

-- by an event and its reply
abbrev pub known_by_event : Known → Event → Reply → Known
known_by_event known (events.Open job pool media moment) reply = known_by_open known reply
known_by_event known event reply = record { ticket = known.ticket; goes_on = goes_on_by known.goes_on reply }

-- by one exchange more
abbrev pub known_by : Known → Exchange → Known
known_by known (Stepped event reply) = known_by_event known event reply
known_by known exchange = known

-- by these exchanges, one after the other
abbrev pub known_behind : Known → List Exchange → Known
known_behind known [] = known
known_behind known (exchange ∷ asked) = known_behind (known_by known exchange) asked

-- The event is one of a session, of this ticket: a record of it, its end at this moment, its close, or its cancel.
abbrev pub IsOf : ℤ → ℕ → Event → Type 0
IsOf moment ticket (events.Append of rec) = of ≡ ticket
IsOf moment ticket (events.End of at) = (of ≡ ticket) × (at ≡ moment)
IsOf moment ticket (events.Close of) = of ≡ ticket
IsOf moment ticket (events.Cancel of) = of ≡ ticket
IsOf moment ticket event = ⊥

-- What a talk may ask at this moment, by what is known of its session: that one be opened, with this moment, if none
-- goes on; or an event of the session that it opened last. Nothing else.
abbrev pub MayAsk : ℤ → Known → Event → Type 0
MayAsk moment known (events.Open job pool media at) = (at ≡ moment) × (known.goes_on ≡ false)
MayAsk moment known event = (ticket : ℕ) × (known.ticket ≡ Some ticket) × IsOf moment ticket event

-- the exchange asks that a session be opened
abbrev pub AsksOpen : Exchange → Type 0
AsksOpen (Stepped (events.Open job pool media moment) reply) = Unit {0}
AsksOpen exchange = ⊥

-- none of these does
abbrev pub AskNoOpen : List Exchange → Type 0
AskNoOpen [] = Unit {0}
AskNoOpen (exchange ∷ asked) = (AsksOpen exchange → ⊥) × AskNoOpen asked

-- The session of this ticket is over by what was asked after its opening. Before any other was asked to be opened, an
-- event of it was answered that it is over; or it was cancelled, whatever the answer, and nothing was asked any more.
pub record IsSessionOver (moment : ℤ) (ticket : ℕ) (behind : List Exchange) : Type 0 where
  pub meanwhile : List Exchange
  pub event : Event
  pub reply : Reply
  pub later : List Exchange
  pub behind_is : behind ≡ meanwhile ++ Stepped event reply ∷ later
  pub no_other : AskNoOpen meanwhile
  pub own : IsOf moment ticket event
  pub ends : (is_over reply ≡ true) ⊎ ((event ≡ events.Cancel ticket) × (later ≡ []))

-- A session that goes on is cancelled, and nothing else is asked; of one that doesn't, nothing.
abbrev pub IsGivenUp : Bool → ℕ → List Exchange → Type 0
IsGivenUp true ticket asked = (reply : Reply) × (asked ≡ Stepped (events.Cancel ticket) reply ∷ [])
IsGivenUp false ticket asked = asked ≡ []

-- so it is with the session that the talk opened last, if it opened one
abbrev pub LastIsGivenUp : Known → List Exchange → Type 0
LastIsGivenUp known asked =
    ((known.ticket ≡ None) × (asked ≡ [])) ⊎ ((ticket : ℕ) × (known.ticket ≡ Some ticket) × IsGivenUp known.goes_on ticket asked)

-- Each session that the talk opened is over by what was asked after its opening, and each event was one that it might
-- ask then.
pub record AreOver (moment : ℤ) (asked : List Exchange) : Type 0 where
  pub each_over : (before behind : List Exchange) (job : ℕ) (pool media : List ℕ) (at : ℤ) (ticket drive : ℕ)
      → asked ≡ before ++ Stepped (events.Open job pool media at) (replies.Opened ticket drive) ∷ behind → IsSessionOver moment ticket behind
  pub each_own : (before behind : List Exchange) (event : Event) (reply : Reply)
      → asked ≡ before ++ Stepped event reply ∷ behind → MayAsk moment (known_behind none_opened before) event
