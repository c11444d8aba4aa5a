-- What a talk asks is what it may ask, by what is known of its session.
use Rattle.std.proofs.Common.{◌≡◌, ◌⊎◌, ℕ, ℤ, refl, sym, ap, subst, ◌∙◌, inl, inr, Bool, true, false, if◌then◌else◌, List, [], ◌∷◌, ◌++◌, Option, Some, None, Result, Ok, Err}
use Rattle.std.specs.Prelude.{◌==◌}
use Rattle.std.proofs.lemmas.Bool.{eqb-true, eqb-false, false≢true}
use Rattle.sd_base.specs.declared.refusal.Refusal.{Refusal}
use Rattle.sd_base.specs.declared.refusal.Refusal.TheVariants as refusals
use Rattle.sd_bnet.specs.declared.packet.Packet.{Packet}
use Rattle.sd_bnet.specs.declared.packet.Packet.TheVariants.{Bytes, Signal}
use Rattle.sd_machine.specs.declared.event.Event.{Event}
use Rattle.sd_machine.specs.declared.event.Event.TheVariants as events
use Rattle.sd_machine.specs.declared.reply.Reply.{Reply}
use Rattle.sd_machine.specs.declared.reply.Reply.TheVariants as replies
use Rattle.sd_append.specs.Conversation.{Converses, GivesUpLast}
use Rattle.sd_append.specs.Header.{HeaderParts}
use Rattle.sd_append.specs.Port.{Exchange, Stepped}
use Rattle.sd_append.specs.TalkStage.{by_open, by_reply, is_running, is_taken, meaning_of, own_of, own_with, refusal_in}
use Rattle.sd_append.specs.Text.{trimmed}
use Rattle.sd_append.specs.Talk.{AppendsIf, Drops, GivesUpIf, Obeys, ObeysClose, ObeysData, ObeysEnd, ObeysOpen, Only, ReadsBack, Takes, TakesBytes, TakesCommand, TakesEnd, TakesHeader, TakesRecordPacket, TakesSignal, TakesSpan, is_one_line, poll_said, refused, said}
use Rattle.sd_append.specs.declared.command.Command.{Command as Asked}
use Rattle.sd_append.specs.declared.command.Command.TheVariants as commands
use Rattle.sd_append.specs.declared.line.ReplyLine.TheVariants as lines
use Rattle.sd_append.specs.declared.signal.Meaning.{Meaning}
use Rattle.sd_append.specs.declared.signal.Meaning.TheVariants.{EndOfData, Terminate, Poll, Other}
use Rattle.sd_append.specs.declared.stage.Own.{Own}
use Rattle.sd_append.specs.declared.stage.TalkStage.{TalkStage}
use Rattle.sd_append.specs.declared.stage.TalkStage.TheVariants.{Command, Header, Records, Refused, Dropped, Spans, BadSpans, Over}
use Rattle.sd_append.specs.Sessions.{IsGivenUp, Known, LastIsGivenUp, MayAsk, goes_on_by, known_behind, known_by, known_by_event, known_by_open, none_opened}

-- what is known of a session, as the code keeps it
abbrev pub known_in : Option Own → Known
known_in None = none_opened
known_in (Some own) = record { ticket = Some own.ticket; goes_on = own.runs }

-- an exchange is what the talk may ask
abbrev pub MayTell : ℤ → Known → Exchange → Type 0
MayTell moment known (Stepped event reply) = MayAsk moment known event
MayTell moment known exchange = Unit {0}

-- so is each of these, by what is known from those before it, and this is known after them
abbrev pub Tells : ℤ → Known → List Exchange → Known → Type 0
Tells moment known [] new = new ≡ known
Tells moment known (exchange ∷ asked) new = MayTell moment known exchange × Tells moment (known_by known exchange) asked new

pub tells_append : (moment : ℤ) (a b : List Exchange) (k m n : Known) → Tells moment k a m → Tells moment m b n → Tells moment k (a ++ b) n
tells_append moment [] b k m n t u = subst (λ (x : Known). Tells moment x b n) t u
tells_append moment (e ∷ a) b k m n t u = (t.0, tells_append moment a b (known_by k e) m n t.1 u)

pub tells_known : (moment : ℤ) (asked : List Exchange) (k n : Known) → Tells moment k asked n → known_behind k asked ≡ n
tells_known moment [] k n t = sym t
tells_known moment (e ∷ asked) k n t = tells_known moment asked (known_by k e) n t.1

pub known_append : (a b : List Exchange) (k : Known) → known_behind k (a ++ b) ≡ known_behind (known_behind k a) b
known_append [] b k = refl
known_append (e ∷ a) b k = known_append a b (known_by k e)

-- Replies.

-- by a reply to an event of its own
pub reply_known : (own : Own) (reply : Reply) → known_in (Some (by_reply own reply)) ≡ record { ticket = Some own.ticket; goes_on = goes_on_by own.runs reply }
reply_known own (replies.Closed key spans) = refl
reply_known own replies.Cancelled = refl
reply_known own (replies.Refused refusals.SessionFailed) = refl
reply_known own (replies.Refused refusals.SessionCancelled) = refl
reply_known own (replies.Refused refusal) = refl
reply_known own reply = refl

-- by the reply to an open
open_known : (own : Option Own) (reply : Reply) → known_in (by_open own reply) ≡ known_by_open (known_in own) reply
open_known own (replies.Opened ticket drive) = refl
open_known own reply = refl

pub running_known : (own : Option Own) → (known_in own).goes_on ≡ is_running own
running_known None = refl
running_known (Some own) = refl

-- a record that was taken
pub taken_is : (reply : Reply) → is_taken reply ≡ true → (count : ℕ) × (reply ≡ replies.Taken count)
taken_is (replies.Taken count) is = (count, refl)
taken_is reply is = absurd (false≢true is)

-- Tickets.

-- a command names the session that the talk opened last
pub record IsNamed (own : Option Own) (ticket : Option ℕ) (it : Own) : Type 0 where
  pub own_is : own ≡ Some it
  pub with_is : own_with own ticket ≡ Ok it
  pub ticket_is : ticket ≡ Some it.ticket

-- or it doesn't
pub record IsNotNamed (own : Option Own) (ticket : Option ℕ) : Type 0 where
  pub with_is : own_with own ticket ≡ Err own
  pub other : (at : ℕ) → (known_in own).ticket ≡ Some at → ticket ≡ Some at → ⊥

none_is_none : (at : ℕ) (X : Type 0) → None ≡ Some at → X
none_is_none at X e = absurd (cc e)

pub same_ticket : (a b : ℕ) → Some a ≡ Some b → a ≡ b
same_ticket a b e = cc

pub named : (own : Option Own) (ticket : Option ℕ) → ((it : Own) × IsNamed own ticket it) ⊎ IsNotNamed own ticket
named None ticket = inr (record { with_is = refl; other = λ at is of. none_is_none at ⊥ is })
named (Some own) None = inr (record { with_is = refl; other = λ at is of. none_is_none at ⊥ of })
named (Some own) (Some ticket) = by (own.ticket == ticket) refl
  where
    by : (same : Bool) → (own.ticket == ticket) ≡ same → ((it : Own) × IsNamed (Some own) (Some ticket) it) ⊎ IsNotNamed (Some own) (Some ticket)
    by true e = inl (
      own,
      record {
        own_is = refl;
        with_is = ap (λ (b : Bool). if b then Ok own else Err (Some own)) e;
        ticket_is = ap Some (sym (eqb-true own.ticket ticket e));
      },
    )
    by false e = inr (record {
      with_is = ap (λ (b : Bool). if b then Ok own else Err (Some own)) e;
      other = λ at is of. eqb-false own.ticket ticket e (same_ticket own.ticket at is ∙ sym (same_ticket ticket at of));
    })

-- Steps.

-- one that asks nothing
only_tells : (moment : ℤ) (own : Option Own) (says : List Packet) (next : TalkStage) (asked : List Exchange) (out : List Packet) (new : TalkStage) → own_of next ≡ own
    → Only says next asked out new → Tells moment (known_in own) asked (known_in (own_of new))
only_tells moment own says next asked out new same only =
    subst (λ (l : List Exchange). Tells moment (known_in own) l (known_in (own_of new))) (sym only.0) (ap known_in (ap own_of only.2 ∙ same))

-- an event of its own
own_tells : (moment : ℤ) (it : Own) (own : Option Own) (event : Event) (reply : Reply) (asked : List Exchange) (new : TalkStage) → own ≡ Some it
    → MayAsk moment (known_in (Some it)) event → known_by_event (known_in (Some it)) event reply ≡ known_in (Some (by_reply it reply))
    → asked ≡ Stepped event reply ∷ [] → own_of new ≡ Some (by_reply it reply) → Tells moment (known_in own) asked (known_in (own_of new))
own_tells moment it own event reply asked new is may known asked_is new_is =
    subst (λ (o : Option Own). Tells moment (known_in o) asked (known_in (own_of new))) (sym is)
    (subst (λ (l : List Exchange). Tells moment (known_in (Some it)) l (known_in (own_of new))) (sym asked_is) (may, ap known_in new_is ∙ sym known))

-- it is given up
given_tells : (moment : ℤ) (runs : Bool) (own left : Own) (asked : List Exchange) → GivesUpIf runs own asked left → Tells moment (known_in (Some own)) asked (known_in (Some left))
given_tells moment true own left asked gives =
    subst (λ (l : List Exchange). Tells moment (known_in (Some own)) l (known_in (Some left))) (sym gives.1)
    ((own.ticket, refl, refl), ap (λ (o : Own). known_in (Some o)) gives.2 ∙ reply_known own gives.0)
given_tells moment false own left asked gives =
    subst (λ (l : List Exchange). Tells moment (known_in (Some own)) l (known_in (Some left))) (sym gives.0) (ap (λ (o : Own). known_in (Some o)) gives.1)

drops_tell : (moment : ℤ) (own : Own) (refusal : Refusal) (asked : List Exchange) (out : List Packet) (new : TalkStage) → Drops own refusal asked out new
    → Tells moment (known_in (Some own)) asked (known_in (own_of new))
drops_tell moment own refusal asked out new d =
    subst (λ (s : TalkStage). Tells moment (known_in (Some own)) asked (known_in (own_of s))) (sym d.new_is) (given_tells moment own.runs own d.left asked d.gives_up)

-- Commands.

open_tells : (moment : ℤ) (running : Bool) (own : Option Own) (job : ℕ) (pool media : List ℕ) (asked : List Exchange) (out : List Packet) (new : TalkStage) → is_running own ≡ running
    → ObeysOpen moment running own job pool media asked out new → Tells moment (known_in own) asked (known_in (own_of new))
open_tells moment true own job pool media asked out new is obeys = only_tells moment own (refused refusals.BadCommand ∷ []) (Command own) asked out new refl obeys
open_tells moment false own job pool media asked out new is obeys =
    subst (λ (l : List Exchange). Tells moment (known_in own) l (known_in (own_of new))) (sym obeys.1)
    ((refl, running_known own ∙ is), ap (λ (s : TalkStage). known_in (own_of s)) obeys.3 ∙ open_known own obeys.0)

unnamed_tells : (moment : ℤ) (own : Option Own) (asked : List Exchange) (out : List Packet) (new : TalkStage) → Only (refused refusals.SessionNotOpen ∷ []) (Command own) asked out new
    → Tells moment (known_in own) asked (known_in (own_of new))
unnamed_tells moment own asked out new only = only_tells moment own (refused refusals.SessionNotOpen ∷ []) (Command own) asked out new refl only

data_tells : (moment : ℤ) (own : Option Own) (ticket : Option ℕ) (asked : List Exchange) (out : List Packet) (new : TalkStage) → ObeysData (own_with own ticket) asked out new
    → Tells moment (known_in own) asked (known_in (own_of new))
data_tells moment own ticket asked out new obeys = elim (named own ticket) [
  | inl n ↦ only_tells moment own (said lines.Data ∷ []) (Header n.0) asked out new (sym n.1.own_is)
      (subst (λ (w : Result Own (Option Own)). ObeysData w asked out new) n.1.with_is obeys)
  | inr n ↦ unnamed_tells moment own asked out new (subst (λ (w : Result Own (Option Own)). ObeysData w asked out new) n.with_is obeys)
]

end_tells : (moment : ℤ) (own : Option Own) (ticket : Option ℕ) (asked : List Exchange) (out : List Packet) (new : TalkStage) → ObeysEnd moment (own_with own ticket) asked out new
    → Tells moment (known_in own) asked (known_in (own_of new))
end_tells moment own ticket asked out new obeys = elim (named own ticket) [
  | inl n ↦ (let o : ObeysEnd moment (Ok n.0) asked out new = subst (λ (w : Result Own (Option Own)). ObeysEnd moment w asked out new) n.1.with_is obeys in
      own_tells moment n.0 own (events.End n.0.ticket moment) o.0 asked new n.1.own_is (n.0.ticket, refl, (refl, refl)) (sym (reply_known n.0 o.0)) o.1 (ap own_of o.3))
  | inr n ↦ unnamed_tells moment own asked out new (subst (λ (w : Result Own (Option Own)). ObeysEnd moment w asked out new) n.with_is obeys)
]

close_tells : (moment : ℤ) (own : Option Own) (ticket : Option ℕ) (asked : List Exchange) (out : List Packet) (new : TalkStage) → ObeysClose (own_with own ticket) asked out new
    → Tells moment (known_in own) asked (known_in (own_of new))
close_tells moment own ticket asked out new obeys = elim (named own ticket) [
  | inl n ↦ (let o : ObeysClose (Ok n.0) asked out new = subst (λ (w : Result Own (Option Own)). ObeysClose w asked out new) n.1.with_is obeys in
      own_tells moment n.0 own (events.Close n.0.ticket) o.0 asked new n.1.own_is (n.0.ticket, refl, refl) (sym (reply_known n.0 o.0)) o.1 (ap own_of o.3))
  | inr n ↦ unnamed_tells moment own asked out new (subst (λ (w : Result Own (Option Own)). ObeysClose w asked out new) n.with_is obeys)
]

obeys_tell : (moment : ℤ) (own : Option Own) (command : Asked) (asked : List Exchange) (out : List Packet) (new : TalkStage) → Obeys moment own command asked out new
    → Tells moment (known_in own) asked (known_in (own_of new))
obeys_tell moment own (commands.Open job pool media) asked out new obeys = open_tells moment (is_running own) own job pool media asked out new refl obeys
obeys_tell moment own (commands.Data ticket) asked out new obeys = data_tells moment own ticket asked out new obeys
obeys_tell moment own (commands.End ticket) asked out new obeys = end_tells moment own ticket asked out new obeys
obeys_tell moment own (commands.Close ticket) asked out new obeys = close_tells moment own ticket asked out new obeys
obeys_tell moment own (commands.Read key) asked out new obeys = only_tells moment own [] (Spans own _) asked out new refl obeys
obeys_tell moment own (commands.Console text) asked out new obeys =
    subst (λ (l : List Exchange). Tells moment (known_in own) l (known_in (own_of new))) (sym obeys.1) (tt, ap (λ (s : TalkStage). known_in (own_of s)) obeys.3)

command_tells : (moment : ℤ) (own : Option Own) (bytes : List ℕ) (asked : List Exchange) (out : List Packet) (new : TalkStage) → TakesCommand moment own bytes asked out new
    → Tells moment (known_in own) asked (known_in (own_of new))
command_tells moment own bytes asked out new (inl (command, spells, obeys)) = obeys_tell moment own command asked out new obeys
command_tells moment own bytes asked out new (inr (inl (command, shape, none, only))) =
    only_tells moment own (refused refusals.BadName ∷ []) (Command own) asked out new refl only
command_tells moment own bytes asked out new (inr (inr (none, only))) = only_tells moment own (refused refusals.BadCommand ∷ []) (Command own) asked out new refl only

-- Phases.

header_tells : (moment : ℤ) (own : Own) (bytes : List ℕ) (asked : List Exchange) (out : List Packet) (new : TalkStage) → TakesHeader own bytes asked out new
    → Tells moment (known_in (Some own)) asked (known_in (own_of new))
header_tells moment own bytes asked out new (inl (header, form, only)) = only_tells moment (Some own) [] (Records own header) asked out new refl only
header_tells moment own bytes asked out new (inr (none, drops)) = drops_tell moment own refusals.BadFileIndex asked out new drops

appends_tell : (moment : ℤ) (own : Own) (header : HeaderParts) (reply : Reply) (taken : Bool) (asked : List Exchange) (out : List Packet) (new : TalkStage) → is_taken reply ≡ taken
    → AppendsIf taken own header reply asked out new → Tells moment (known_in (Some (by_reply own reply))) asked (known_in (own_of new))
appends_tell moment own header reply true asked out new is only =
    let t = taken_is reply is in
    only_tells moment (Some (by_reply own reply)) [] (Records own header) asked out new (sym (ap (λ (r : Reply). Some (by_reply own r)) t.1)) only
appends_tell moment own header reply false asked out new is drops = drops_tell moment (by_reply own reply) (refusal_in reply) asked out new drops

record_tells : (moment : ℤ) (own : Own) (header : HeaderParts) (bytes : List ℕ) (asked : List Exchange) (out : List Packet) (new : TalkStage) → TakesRecordPacket own header bytes asked out new
    → Tells moment (known_in (Some own)) asked (known_in (own_of new))
record_tells moment own header bytes asked out new t =
    subst (λ (l : List Exchange). Tells moment (known_in (Some own)) l (known_in (own_of new))) (sym t.asked_is) (
      (own.ticket, refl, refl),
      subst (λ (k : Known). Tells moment k t.more (known_in (own_of new))) (reply_known own t.reply)
          (appends_tell moment own header t.reply (is_taken t.reply) t.more out new refl t.behind_it),
    )

span_tells : (moment : ℤ) (plain : Bool) (own : Option Own) (text more : List ℕ) (asked : List Exchange) (out : List Packet) (new : TalkStage) → TakesSpan plain own text more asked out new
    → Tells moment (known_in own) asked (known_in (own_of new))
span_tells moment true own text more asked out new (inl (is, only)) = only_tells moment own [] (Spans own _) asked out new refl only
span_tells moment true own text more asked out new (inr (inl (none, only))) = only_tells moment own [] (BadSpans own refusals.BadSpan) asked out new refl only
span_tells moment true own text more asked out new (inr (inr only)) = only_tells moment own [] (BadSpans own refusals.Memory) asked out new refl only
span_tells moment false own text more asked out new only = only_tells moment own [] (BadSpans own refusals.BadSpan) asked out new refl only

reads_tell : (moment : ℤ) (own : Option Own) (text : List ℕ) (asked : List Exchange) (out : List Packet) (new : TalkStage) → ReadsBack own text asked out new
    → Tells moment (known_in own) asked (known_in (own_of new))
reads_tell moment own text asked out new (inl (key, spans, records, answer, is, asked_is, out_is, new_is)) =
    subst (λ (l : List Exchange). Tells moment (known_in own) l (known_in (own_of new))) (sym asked_is) (tt, ap (λ (s : TalkStage). known_in (own_of s)) new_is)
reads_tell moment own text asked out new (inr (inl (none, only))) = only_tells moment own _ (Command own) asked out new refl only
reads_tell moment own text asked out new (inr (inr only)) = only_tells moment own _ (Command own) asked out new refl only

-- Packets.

bytes_tell : (moment : ℤ) (old : TalkStage) (bytes : List ℕ) (asked : List Exchange) (out : List Packet) (new : TalkStage) → TakesBytes moment old bytes asked out new
    → Tells moment (known_in (own_of old)) asked (known_in (own_of new))
bytes_tell moment (Command own) bytes asked out new t = command_tells moment own bytes asked out new t
bytes_tell moment (Header own) bytes asked out new t = header_tells moment own bytes asked out new t
bytes_tell moment (Records own header) bytes asked out new t = record_tells moment own header bytes asked out new t
bytes_tell moment (Refused own refusal) bytes asked out new t = only_tells moment (Some own) [] (Dropped own refusal) asked out new refl t
bytes_tell moment (Dropped own refusal) bytes asked out new t = only_tells moment (Some own) [] (Dropped own refusal) asked out new refl t
bytes_tell moment (Spans own text) bytes asked out new t = span_tells moment (is_one_line (trimmed bytes)) own text (trimmed bytes) asked out new t
bytes_tell moment (BadSpans own refusal) bytes asked out new t = only_tells moment own [] (BadSpans own refusal) asked out new refl t
bytes_tell moment (Over own) bytes asked out new t = only_tells moment own [] (Over own) asked out new refl t

end_of_data_tells : (moment : ℤ) (old : TalkStage) (asked : List Exchange) (out : List Packet) (new : TalkStage) → TakesEnd old asked out new
    → Tells moment (known_in (own_of old)) asked (known_in (own_of new))
end_of_data_tells moment (Command own) asked out new t = only_tells moment own [] (Command own) asked out new refl t
end_of_data_tells moment (Header own) asked out new t = only_tells moment (Some own) _ (Command (Some own)) asked out new refl t
end_of_data_tells moment (Records own header) asked out new t = only_tells moment (Some own) [] (Header own) asked out new refl t
end_of_data_tells moment (Refused own refusal) asked out new t = only_tells moment (Some own) _ (Command (Some own)) asked out new refl t
end_of_data_tells moment (Dropped own refusal) asked out new t = only_tells moment (Some own) [] (Refused own refusal) asked out new refl t
end_of_data_tells moment (Spans own text) asked out new t = reads_tell moment own text asked out new t
end_of_data_tells moment (BadSpans own refusal) asked out new t = only_tells moment own _ (Command own) asked out new refl t
end_of_data_tells moment (Over own) asked out new t = only_tells moment own [] (Over own) asked out new refl t

signal_tells : (moment : ℤ) (meaning : Meaning) (old : TalkStage) (asked : List Exchange) (out : List Packet) (new : TalkStage) → TakesSignal meaning old asked out new
    → Tells moment (known_in (own_of old)) asked (known_in (own_of new))
signal_tells moment EndOfData old asked out new t = end_of_data_tells moment old asked out new t
signal_tells moment Terminate old asked out new t = only_tells moment (own_of old) [] (Over (own_of old)) asked out new refl t
signal_tells moment Poll old asked out new t = only_tells moment (own_of old) (poll_said old) old asked out new refl t
signal_tells moment Other old asked out new t = only_tells moment (own_of old) [] old asked out new refl t

pub takes_tell : (moment : ℤ) (old : TalkStage) (packet : Packet) (asked : List Exchange) (out : List Packet) (new : TalkStage) → Takes moment old packet asked out new
    → Tells moment (known_in (own_of old)) asked (known_in (own_of new))
takes_tell moment old (Bytes bytes) asked out new t = bytes_tell moment old bytes asked out new t
takes_tell moment old (Signal number) asked out new t = signal_tells moment (meaning_of number) old asked out new t

pub converses_tell : (moment : ℤ) (old : TalkStage) (packets : List Packet) (asked : List Exchange) (out : List Packet) (new : TalkStage) → Converses moment old packets asked out new
    → Tells moment (known_in (own_of old)) asked (known_in (own_of new))
converses_tell moment old [] asked out new (none, said_is, stands) =
    subst (λ (l : List Exchange). Tells moment (known_in (own_of old)) l (known_in (own_of new))) (sym none) (ap (λ (s : TalkStage). known_in (own_of s)) stands)
converses_tell moment old (packet ∷ packets) asked out new (between, first, more, says, later, takes, rest, asked_is, out_is) =
    subst (λ (l : List Exchange). Tells moment (known_in (own_of old)) l (known_in (own_of new))) (sym asked_is)
    (tells_append moment first more (known_in (own_of old)) (known_in (own_of between)) (known_in (own_of new))
    (takes_tell moment old packet first says between takes) (converses_tell moment between packets more later new rest))

-- The end.

pub given_up : (runs : Bool) (own left : Own) (asked : List Exchange) → GivesUpIf runs own asked left → IsGivenUp runs own.ticket asked
given_up true own left asked gives = (gives.0, gives.1)
given_up false own left asked gives = gives.0

pub last_given_up : (own : Option Own) (asked : List Exchange) → GivesUpLast own asked → LastIsGivenUp (known_in own) asked
last_given_up None asked gives = inl (refl, gives)
last_given_up (Some own) asked gives = inr (own.ticket, refl, given_up own.runs own gives.0 asked gives.1)

pub last_tells : (moment : ℤ) (own : Option Own) (asked : List Exchange) → GivesUpLast own asked → (new : Known) × Tells moment (known_in own) asked new
last_tells moment None asked gives = (none_opened, subst (λ (l : List Exchange). Tells moment none_opened l none_opened) (sym gives) refl)
last_tells moment (Some own) asked gives = (known_in (Some gives.0), given_tells moment own.runs own gives.0 asked gives.1)
