-- The shapes of moves: what each move changes of a world, whatever its event was. What is so of each shape is so of
-- each move.
use Rattle.std.proofs.Common.{◌≡◌, ◌≢◌, ◌⊎◌, ℕ, ℤ, refl, sym, ap, subst, ◌∙◌, inl, inr, List}
use Rattle.sd_base.specs.declared.number.SessionKey.{SessionKey}
use Rattle.sd_base.specs.declared.refusal.Refusal.{Refusal}
use Rattle.sd_base.specs.declared.refusal.Refusal.TheVariants.{SpoolFault, DeviceFault, Memory}
use Rattle.sd_desk.specs.Desk.{DeskView, SameClaims}
use Rattle.sd_driver.specs.Meaning.{Meaning}
use Rattle.sd_drive.specs.View.{DriveIs}
use Rattle.sd_lane.specs.Queue.{LanesView}
use Rattle.sd_machine.specs.declared.event.Event.{Event}
use Rattle.sd_machine.specs.declared.event.Event.TheVariants.{Open, Append, End, Close, Cancel, Spool, Despool, Take, Place, Sync, Label, Adopt, Mount, Unmount, Seek, Retire, Purge, Media}
use Rattle.sd_machine.specs.declared.reply.Reply.{Reply}
use Rattle.sd_machine.specs.declared.reply.Reply.TheVariants.{Refused, Opened, Taken, Ended, Closed, Cancelled, Spooled, SpoolFull, Nothing, NoSpool, Sent, LaneFull, NotDue, Retired, Purged, Media as Spans}
use Rattle.sd_session.specs.Session.{SessionView, IsRunning}
use Rattle.sd_session.specs.Spooling.{Spools, SpoolRefused}
use Rattle.sd_session.specs.Sending.{DespoolRefused}
use Rattle.sd_session.specs.declared.answer.Despooled.{Despooled}
use Rattle.sd_session.specs.declared.answer.Despooled.TheVariants as despooled
use Rattle.sd_session.specs.declared.answer.Spooling.{Spooling}
use Rattle.sd_session.specs.declared.answer.Spooling.TheVariants as spooling
use Rattle.sd_session.specs.declared.status.Status.TheVariants as status
use Rattle.sd_span.specs.declared.span.Span.{Span}
use Rattle.sd_world.specs.World.{WorldView, WorldSession, BayView, IsOnline, HasTicket, with_session}
use Rattle.sd_world.specs.Sessions.{ChangesSession, RefusedWith, SendsStep, DespoolsSession, OpensSession, OpensNot, OpenRefused, ClosesAt}
use Rattle.sd_world.specs.Drives.{IsOfDrive, AtDrive, MovesDrive, RetiresDrive, LeavesVolume, PurgeRefused}
use Rattle.sd_world.specs.Operators.{ClaimsName}
use Rattle.sd_world.specs.Moves.{Moves}
use Rattle.sd_world.specs.Fails.{IsOfSpool, IsOfSync}
use Rattle.sd_world.proofs.DriveSteps.{DriveGoesOn, DriveAdds, adds_none}
use Rattle.sd_world.proofs.Framed.{TakesIn, LosesIn, with_desk, station, calls_knowing, stays_knowing, stays_all, takes_in, loses_in}
use Rattle.sd_world.proofs.PurgeSteps.{PurgesIn, purges_in}
use Rattle.sd_world.proofs.QueueSteps.{next_store, next_honest, unsent}
use Rattle.sd_world.proofs.StationShapes as place
use Rattle.sd_world.proofs.StationShapes.{DeviceStays, StationShape, station_shape, called}
use Rattle.sd_world.proofs.Views.{StaysWhole, alike_stays, same_whole, takes_record, ends, cancels, spools, spool_refused, despool_refused}

-- Shapes.

-- if the session has failed, it had, or its own spool did; and 'out of memory' changes nothing of it
pub record Tells (event : Event) (reply : Reply) (ticket : ℕ) (s t : SessionView) : Type 0 where
  pub cause : t.status ≡ status.Failed
      → (s.status ≡ status.Failed) ⊎ (IsRunning s.status × IsOfSpool event ticket × (reply ≡ Refused SpoolFault))
  pub memory : reply ≡ Refused Memory → t ≡ s

-- one session changes
pub record ChangesOne {D : Type 0} (w : WorldView D) (event : Event) (reply : Reply) (w' : WorldView D) : Type 0 where
  pub ticket : ℕ
  pub e : WorldSession
  pub t : SessionView
  pub has : HasTicket w ticket e
  pub whole : StaysWhole e.session t
  pub tells : Tells event reply ticket e.session t
  pub new_is : w' ≡ record w { sessions = with_session (record e { session = t }) w.sessions }

-- one drive is called and goes on, and the desk's claims stay
pub record CallsOne {D : Type 0} (meaning : D → Meaning) (w w' : WorldView D) : Type 0 where
  pub drive : ℕ
  pub at : ℕ
  pub bay : BayView D
  pub d : DriveIs D
  pub after : DriveIs D
  pub desk : DeskView
  pub online : IsOnline w drive at bay d
  pub goes : DriveGoesOn d after
  pub device : DeviceStays (meaning d.device) (meaning after.device)
  pub claims : SameClaims w.desk desk
  pub new_is : w' ≡ with_desk at bay after desk w

-- one drive gets a volume, whose name is claimed for it
pub record GetsVolume {D : Type 0} (meaning : D → Meaning) (w w' : WorldView D) : Type 0 where
  pub drive : ℕ
  pub at : ℕ
  pub bay : BayView D
  pub d : DriveIs D
  pub after : DriveIs D
  pub desk : DeskView
  pub name : List ℕ
  pub online : IsOnline w drive at bay d
  pub adds : DriveAdds name d after
  pub device : DeviceStays (meaning d.device) (meaning after.device)
  pub claims : ClaimsName name drive w.desk desk
  pub new_is : w' ≡ with_desk at bay after desk w

-- only the desk changes, and its claims stay
pub record KnowsMore {D : Type 0} (w w' : WorldView D) : Type 0 where
  pub desk : DeskView
  pub claims : SameClaims w.desk desk
  pub new_is : w' ≡ record w { desk = desk }

pub data Shape {D : Type 0} (meaning : D → Meaning) (w : WorldView D) (event : Event) (reply : Reply) (w' : WorldView D) : Type 0 where
  stays : w' ≡ w → Shape meaning w event reply w'
  changes : ChangesOne w event reply w' → Shape meaning w event reply w'
  closes : (ticket : ℕ) (key : SessionKey) (spans : List Span) → reply ≡ Closed key spans → ClosesAt w ticket key spans w' → Shape meaning w event reply w'
  sends : (ticket : ℕ) → reply ≡ Sent → DespoolsSession despooled.Sent w ticket w' → Shape meaning w event reply w'
  opens : (job : ℕ) (pool media : List ℕ) (moment : ℤ) (ticket drive : ℕ) → reply ≡ Opened ticket drive → OpensSession w job pool media moment ticket drive w' → Shape meaning w event reply w'
  opens_not : (pool media : List ℕ) (why : Refusal) → OpensNot w pool media why w' → Shape meaning w event reply w'
  takes : (drive ticket seq : ℕ) → TakesIn w drive ticket seq w' → Shape meaning w event reply w'
  calls : CallsOne meaning w w' → Shape meaning w event reply w'
  gets : GetsVolume meaning w w' → Shape meaning w event reply w'
  loses : (drive : ℕ) → IsOfSync event drive → reply ≡ Refused DeviceFault → LosesIn meaning w drive w' → Shape meaning w event reply w'
  knows : KnowsMore w w' → Shape meaning w event reply w'
  retires : (drive : ℕ) → reply ≡ Retired → RetiresDrive w drive w' → Shape meaning w event reply w'
  purges : (drive : ℕ) (name : List ℕ) → event ≡ Purge drive name → (reply ≡ Purged) ⊎ (reply ≡ Refused DeviceFault) → PurgesIn meaning w drive name w' → Shape meaning w event reply w'

-- Sessions.

-- the session keeps its status
keeps_status : {event : Event} {reply : Reply} {ticket : ℕ} (s t : SessionView) → (reply ≡ Refused Memory → ⊥) → t.status ≡ s.status → Tells event reply ticket s t
keeps_status s t other same = record { cause = λ failed. inl (sym same ∙ failed); memory = λ is. absurd (other is) }

same_session : {event : Event} {reply : Reply} {ticket : ℕ} (s t : SessionView) → t ≡ s → Tells event reply ticket s t
same_session s t same = record { cause = λ failed. inl (ap (λ (x : SessionView). x.status) (sym same) ∙ failed); memory = λ is. same }

-- its status is another, and not that
other_status : {event : Event} {reply : Reply} {ticket : ℕ} (s t : SessionView) → (reply ≡ Refused Memory → ⊥) → (t.status ≡ status.Failed → ⊥) → Tells event reply ticket s t
other_status s t other not_that = record { cause = λ failed. absurd (not_that failed); memory = λ is. absurd (other is) }

spools_on : {event : Event} {reply : Reply} {ticket : ℕ} (answer : Spooling) → (reply ≡ Refused Memory → ⊥) → (s t : SessionView) → Spools answer s t → Tells event reply ticket s t
spools_on spooling.Spooled other s t h = keeps_status s t other (ap (λ (x : SessionView). x.status) h.is)
spools_on spooling.SpoolFull other s t h = keeps_status s t other (ap (λ (x : SessionView). x.status) h.2)
spools_on spooling.Nothing other s t h = same_session s t h.3
spools_on spooling.NoSpool other s t h = same_session s t h.2

refuses_spool : {event : Event} {ticket : ℕ} (s t : SessionView) (why : Refusal) → IsOfSpool event ticket → SpoolRefused s why t → Tells event (Refused why) ticket s t
refuses_spool s t why own (inl h) = same_session s t h.1
refuses_spool s t why own (inr (inl h)) = record { cause = λ failed. inr (h.0.running, own, ap Refused h.1); memory = λ is. absurd (cc (is, h.1)) }
refuses_spool s t why own (inr (inr h)) = same_session s t h.2

refuses_despool : {event : Event} {ticket : ℕ} (s t : SessionView) (why : Refusal) → IsOfSpool event ticket → DespoolRefused s why t → Tells event (Refused why) ticket s t
refuses_despool s t why own (inl h) = same_session s t h.1
refuses_despool s t why own (inr (inl h)) = record { cause = λ failed. inr (h.0.running, own, ap Refused h.1); memory = λ is. absurd (cc (is, h.1)) }
refuses_despool s t why own (inr (inr h)) = same_session s t h.2

-- what a step of sending does that sends nothing
nothing_sent : (answer : Despooled) (s t : SessionView) (queue queue' : LanesView) → answer ≢ despooled.Sent → SendsStep answer s queue t queue'
    → StaysWhole s t × (t.status ≡ s.status)
nothing_sent despooled.Sent s t queue queue' other step = absurd (other refl)
nothing_sent despooled.LaneFull s t queue queue' other step =
    let full = step.step in (
      subst (StaysWhole s) (sym full.is) (record {
        stays = alike_stays s _ refl refl refl refl;
        store = λ some. next_store full.body s full.between full.takes some;
        honest = λ true_store. next_honest full.body s full.between full.takes true_store;
      }),
      ap (λ (x : SessionView). x.status) full.is,
    )
nothing_sent despooled.Nothing s t queue queue' other step = (same_whole s t step.step.3, ap (λ (x : SessionView). x.status) step.step.3)
nothing_sent despooled.NotDue s t queue queue' other step = (same_whole s t step.step.2, ap (λ (x : SessionView). x.status) step.step.2)

-- By what an event does.

module _ {D : Type 0} {meaning : D → Meaning} {w w' : WorldView D} {event : Event} {reply : Reply} where
  changes_session : (ticket : ℕ) (change : SessionView → SessionView → Type 0)
      → ((s t : SessionView) → change s t → StaysWhole s t) → ((s t : SessionView) → change s t → Tells event reply ticket s t)
      → ChangesSession w ticket w' change → Shape meaning w event reply w'
  changes_session ticket change whole told m = changes (record {
    ticket = ticket;
    e = m.0;
    t = m.1;
    has = m.2;
    whole = whole m.0.session m.1 m.3;
    tells = told m.0.session m.1 m.3;
    new_is = m.4;
  })

  refused_with : (ticket : ℕ) (why : Refusal) (change : SessionView → SessionView → Type 0)
      → ((s t : SessionView) → change s t → StaysWhole s t) → ((s t : SessionView) → change s t → Tells event reply ticket s t)
      → RefusedWith w ticket why w' change → Shape meaning w event reply w'
  refused_with ticket why change whole told (inl m) = stays m.2
  refused_with ticket why change whole told (inr m) = changes_session ticket change whole told m

  despools_none : (answer : Despooled) (ticket : ℕ) → (reply ≡ Refused Memory → ⊥) → answer ≢ despooled.Sent → DespoolsSession answer w ticket w' → Shape meaning w event reply w'
  despools_none answer ticket no_want other m =
      let f : WorldSession = record m.e { session = m.session } in
      let none = nothing_sent answer m.e.session m.session m.bay.queue m.queue other m.step in
      changes (record {
        ticket = ticket;
        e = m.e;
        t = m.session;
        has = m.has;
        whole = none.0;
        tells = keeps_status m.e.session m.session no_want none.1;
        new_is = m.new_is ∙ unsent w m.at m.bay m.queue (with_session f w.sessions) m.online.there (m.step.else_same other);
      })

  open_refused : (pool media : List ℕ) (why : Refusal) → OpenRefused w pool media why w' → Shape meaning w event reply w'
  open_refused pool media why (inl m) = stays m.2
  open_refused pool media why (inr (inl m)) = stays m.2
  open_refused pool media why (inr (inr (inl m))) = opens_not pool media why m.1
  open_refused pool media why (inr (inr (inr m))) = stays m.4

  -- an event of a drive
  at_station : (drive : ℕ) (a : AtDrive meaning w drive event reply w') → StationShape meaning drive event reply (station a) a.outcome → Shape meaning w event reply w'
  at_station drive a (place.rests is) = stays (stays_all a is)
  at_station drive a (place.takes ticket seq m) = takes drive ticket seq (takes_in a ticket seq m)
  at_station drive a (place.goes m) = calls (record {
    drive = drive;
    at = a.at;
    bay = a.bay;
    d = a.d;
    after = a.outcome.drive;
    desk = a.outcome.desk;
    online = a.online;
    goes = m.goes;
    device = m.device;
    claims = m.claims;
    new_is = calls_knowing a m.is;
  })
  at_station drive a (place.gets m) = gets (record {
    drive = drive;
    at = a.at;
    bay = a.bay;
    d = a.d;
    after = a.outcome.drive;
    desk = a.outcome.desk;
    name = m.name;
    online = a.online;
    adds = m.adds;
    device = m.device;
    claims = m.claims;
    new_is = calls_knowing a m.is;
  })
  at_station drive a (place.loses of_sync fault m) = loses drive of_sync fault (loses_in a m)
  at_station drive a (place.knows claims is) = knows (record { desk = a.outcome.desk; claims = claims; new_is = stays_knowing a is })

  moves_drive : (drive : ℕ) → IsOfDrive event drive → MovesDrive meaning w drive event reply w' → Shape meaning w event reply w'
  moves_drive drive own (inl m) = stays m.3
  moves_drive drive own (inr a) = at_station drive a (station_shape meaning drive event reply (station a) a.outcome own a.moves)

  -- a volume isn't purged
  purges_none : (drive : ℕ) (name : List ℕ) (why : Refusal) → LeavesVolume meaning w drive name why w' → Shape meaning w event reply w'
  purges_none drive name why m = calls (record {
    drive = drive;
    at = m.at;
    bay = m.bay;
    d = m.d;
    after = m.after;
    desk = w.desk;
    online = m.online;
    goes = adds_none m.d m.after m.none.adds_none;
    device = called meaning _ _ m.d m.after m.none.calls;
    claims = λ other. refl;
    new_is = m.new_is;
  })

  purge_refused : (drive : ℕ) (name : List ℕ) (why : Refusal) → event ≡ Purge drive name → reply ≡ Refused why → PurgeRefused meaning w drive name why w' → Shape meaning w event reply w'
  purge_refused drive name why own is (inl m) = stays m.1
  purge_refused drive name why own is (inr (inl m)) = stays m.5
  purge_refused drive name why own is (inr (inr (inl m))) = purges_none drive name why m
  purge_refused drive name why own is (inr (inr (inr m))) = purges drive name own (inr (is ∙ ap Refused m.0)) (purges_in m.1)

-- Every event.

pub shape_of : {D : Type 0} (meaning : D → Meaning) (w w' : WorldView D) (event : Event) (reply : Reply) → Moves meaning w event reply w' → Shape meaning w event reply w'
shape_of meaning w w' (Open job pool media moment) (Opened ticket drive) m = opens job pool media moment ticket drive refl m
shape_of meaning w w' (Open job pool media moment) (Refused why) m = open_refused pool media why m
shape_of meaning w w' (Append ticket r) (Taken n) m =
    changes_session ticket _ (λ s t. takes_record s t r n) (λ s t c. keeps_status s t (λ is. cc is) (ap (λ (x : SessionView). x.status) c.is)) m
shape_of meaning w w' (Append ticket r) (Refused why) m = stays m.1
shape_of meaning w w' (End ticket moment) Ended m =
    changes_session ticket _ (λ s t. ends s t moment) (λ s t c. other_status s t (λ is. cc is) (λ failed. cc (failed, ap (λ (x : SessionView). x.status) c.is))) m
shape_of meaning w w' (End ticket moment) (Refused why) m = stays m.1
shape_of meaning w w' (Close ticket) (Closed key spans) m = closes ticket key spans refl m
shape_of meaning w w' (Close ticket) (Refused why) m = stays m.1
shape_of meaning w w' (Cancel ticket) Cancelled m =
    changes_session ticket _ cancels (λ s t c. other_status s t (λ is. cc is) (λ failed. cc (failed, ap (λ (x : SessionView). x.status) c.is))) m
shape_of meaning w w' (Cancel ticket) (Refused why) m = stays m.1
shape_of meaning w w' (Spool ticket) Spooled m = changes_session ticket _ (spools spooling.Spooled) (spools_on spooling.Spooled (λ is. cc is)) m
shape_of meaning w w' (Spool ticket) SpoolFull m = changes_session ticket _ (spools spooling.SpoolFull) (spools_on spooling.SpoolFull (λ is. cc is)) m
shape_of meaning w w' (Spool ticket) Nothing m = changes_session ticket _ (spools spooling.Nothing) (spools_on spooling.Nothing (λ is. cc is)) m
shape_of meaning w w' (Spool ticket) NoSpool m = changes_session ticket _ (spools spooling.NoSpool) (spools_on spooling.NoSpool (λ is. cc is)) m
shape_of meaning w w' (Spool ticket) (Refused why) m = refused_with ticket why _ (λ s t. spool_refused s t why) (λ s t. refuses_spool s t why refl) m
shape_of meaning w w' (Despool ticket) Sent m = sends ticket refl m
shape_of meaning w w' (Despool ticket) LaneFull m = despools_none despooled.LaneFull ticket (λ is. cc is) (λ e. cc e) m
shape_of meaning w w' (Despool ticket) Nothing m = despools_none despooled.Nothing ticket (λ is. cc is) (λ e. cc e) m
shape_of meaning w w' (Despool ticket) NotDue m = despools_none despooled.NotDue ticket (λ is. cc is) (λ e. cc e) m
shape_of meaning w w' (Despool ticket) (Refused why) m = refused_with ticket why _ (λ s t. despool_refused s t why) (λ s t. refuses_despool s t why refl) m
shape_of meaning w w' (Take drive) reply m = moves_drive drive refl m
shape_of meaning w w' (Place drive) reply m = moves_drive drive refl m
shape_of meaning w w' (Sync drive) reply m = moves_drive drive refl m
shape_of meaning w w' (Label drive name pool media moment) reply m = moves_drive drive refl m
shape_of meaning w w' (Adopt drive name) reply m = moves_drive drive refl m
shape_of meaning w w' (Mount drive name) reply m = moves_drive drive refl m
shape_of meaning w w' (Unmount drive) reply m = moves_drive drive refl m
shape_of meaning w w' (Seek drive) reply m = moves_drive drive refl m
shape_of meaning w w' (Retire drive) Retired m = retires drive refl m
shape_of meaning w w' (Retire drive) (Refused why) m = stays m.0
shape_of meaning w w' (Purge drive name) Purged m = purges drive name refl (inl refl) (purges_in m)
shape_of meaning w w' (Purge drive name) (Refused why) m = purge_refused drive name why refl refl m
shape_of meaning w w' (Media ticket) (Spans spans) m = stays m.1
shape_of meaning w w' (Media ticket) (Refused why) m = stays m.1
shape_of meaning w w' event reply m = absurd m
