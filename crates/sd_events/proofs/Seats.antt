-- What a step of sending does to a world.
use Rattle.std.proofs.Common.{◌≡◌, ◌≢◌, ◌≤◌, ◌<◌, ◌+◌, ℕ, Bool, true, refl, sym, ap, subst, ◌∙◌, inl, inr, arith, Option, Some, None, IfOk, Ok, Err, Result, List, length, slice_get, slice_set, get_or}
use Rattle.std.specs.Prelude.{IsSome}
use Rattle.std.proofs.lemmas.Option.{get_or_from_slice_get, slice_get_within}
use Rattle.sd_base.specs.declared.refusal.Refusal.{Refusal}
use Rattle.sd_base.specs.declared.refusal.Refusal.TheVariants.{DriveOffline}
use Rattle.sd_drive.specs.View.{DriveIs}
use Rattle.sd_lane.specs.Queue.{LanesView}
use Rattle.sd_lane.specs.declared.piece.Piece.{Piece}
use Rattle.sd_session.specs.Session.{SessionView, IsRunning}
use Rattle.sd_session.specs.Sending.{Despools, DespoolRefused, queue_view}
use Rattle.sd_session.specs.declared.answer.Despooled.{Despooled}
use Rattle.sd_session.specs.declared.answer.Despooled.TheVariants.{Sent, LaneFull, Nothing, NotDue}
use Rattle.sd_world.specs.Drives.{DriveMissing}
use Rattle.sd_world.specs.World.{WorldView, WorldSession, BayView, IsOnline, session_at}
use Rattle.sd_world.specs.Rules.{IsWorld, IsSeated, IsBay}
use Rattle.sd_world.specs.Sessions.{SendsStep, DespoolsSession, RefusedWith}
use Rattle.sd_world.proofs.Lookups.{set_same}
use Rattle.sd_events.proofs.Found.{IsReadAt, read_found}
use Rattle.sd_events.specs.Found.{IsFoundAt}
use Rattle.sd_events.proofs.Changes.{changes_one, despool_keeps_key}

-- a value that is there
pub some_of : {A : Type 0} (o : Option A) → IsSome o → (x : A) × (o ≡ Some x)
some_of None is = absurd (cc is)
some_of (Some x) is = (x, refl)

-- queues that agree in all are one
same_queue : (q q' : LanesView) → q'.lanes ≡ q.lanes → q'.capacity ≡ q.capacity → q'.held ≡ q.held → q' ≡ q
same_queue q q' lanes capacity held =
    ap (λ n. record q' { lanes = n }) lanes
    ∙ ap (λ n. record q' { lanes = q.lanes; capacity = n }) capacity
    ∙ ap (λ h. record q { held = h }) held

-- only a body that is sent changes the queue
else_same : (answer : Despooled) (old new : SessionView) (sent sent' : ℕ → List Piece) (q q' : LanesView)
    → Despools answer old (queue_view sent true q.held q.capacity) new (queue_view sent' true q'.held q'.capacity)
    → q'.lanes ≡ q.lanes → q'.capacity ≡ q.capacity → (answer ≡ Nothing → q' ≡ q) → (answer ≡ NotDue → q' ≡ q) → answer ≢ Sent → q' ≡ q
else_same Sent old new sent sent' q q' step lanes capacity nothing not_due not = absurd (not refl)
else_same LaneFull old new sent sent' q q' step lanes capacity nothing not_due not = same_queue q q' lanes capacity (step.is_full.held refl)
else_same Nothing old new sent sent' q q' step lanes capacity nothing not_due not = nothing refl
else_same NotDue old new sent sent' q q' step lanes capacity nothing not_due not = not_due refl

-- a session's step by a queue with one owner
pub sends : (r : Result Despooled Refusal) (old new : SessionView) (sent sent' : ℕ → List Piece) (alone alone' : Bool) (q q' : LanesView)
    → IfOk r (λ answer. Despools answer old (queue_view sent alone q.held q.capacity) new (queue_view sent' alone' q'.held q'.capacity))
    → alone ≡ true → alone' ≡ true → q'.lanes ≡ q.lanes → q'.capacity ≡ q.capacity
    → (r ≡ Ok Nothing → q' ≡ q) → (r ≡ Ok NotDue → q' ≡ q) → IfOk r (λ answer. SendsStep answer old q new q')
sends (Ok answer) old new sent sent' alone alone' q q' step is is' lanes capacity nothing not_due =
    let half = subst (λ (b : Bool). Despools answer old (queue_view sent b q.held q.capacity) new (queue_view sent' alone' q'.held q'.capacity)) is step in
    let whole = subst (λ (b : Bool). Despools answer old (queue_view sent true q.held q.capacity) new (queue_view sent' b q'.held q'.capacity)) is' half in
    record {
      sent = sent;
      sent' = sent';
      step = whole;
      lanes = lanes;
      capacity = capacity;
      else_same = else_same answer old new sent sent' q q' whole lanes capacity (λ e. nothing (ap Ok e)) (λ e. not_due (ap Ok e));
    }
sends (Err why) old new sent sent' alone alone' q q' step is is' lanes capacity nothing not_due = tt

-- who sends goes on
sends_running : (answer : Despooled) (old new : SessionView) (q q' : LanesView) → SendsStep answer old q new q' → IsRunning old.status
sends_running Sent old new q q' s = s.step.running
sends_running LaneFull old new q q' s = s.step.running
sends_running Nothing old new q q' s = s.step.0
sends_running NotDue old new q q' s = s.step.0

-- and keeps its number
sends_key : (answer : Despooled) (old new : SessionView) (q q' : LanesView) → SendsStep answer old q new q' → new.key.id ≡ old.key.id
sends_key Sent old new q q' s = ap (λ (x : SessionView). x.key.id) s.step.is
sends_key LaneFull old new q q' s = ap (λ (x : SessionView). x.key.id) s.step.is
sends_key Nothing old new q q' s = ap (λ (x : SessionView). x.key.id) s.step.3
sends_key NotDue old new q q' s = ap (λ (x : SessionView). x.key.id) s.step.2

-- A session's seat, at the place of its drive's bay.
pub record SitsAt {D : Type 0} (w : WorldView D) (e : WorldSession) (place : ℕ) : Type 0 where
  pub seat : IsSeated w e
  pub at_is : seat.at ≡ place
  pub within : place < length w.bays

-- A session and the bay of its drive, as they were read at their places.
pub record IsSeatedAt {D : Type 0} (w : WorldView D) (ticket at place : ℕ) (e : WorldSession) (bay : BayView D) : Type 0 where
  pub world : IsWorld w
  pub read : IsReadAt ticket w.sessions at e
  pub drive_is : e.drive ≡ place + 1
  pub sits_at : SitsAt w e place
  pub there : slice_get w.bays place ≡ Some bay
  pub same : sits_at.seat.bay ≡ bay

-- a session of a world has its seat
pub sits : {D : Type 0} (w : WorldView D) (ticket at place : ℕ) (e : WorldSession)
    → IsWorld w → IsReadAt ticket w.sessions at e → e.drive ≡ place + 1 → SitsAt w e place
sits w ticket at place e is f drive =
    let seat : IsSeated w e = is.seated ticket e f.found in
    let here : seat.at ≡ place = omega (arith, seat.drive_is, drive) in
    let there : seat.at < length w.bays = slice_get_within w.bays seat.at seat.bay seat.bay_there in
    record { seat = seat; at_is = here; within = omega arith }

-- so its bay's place is among them
pub sits_within : {D : Type 0} (w : WorldView D) (ticket at place : ℕ) (es : List WorldSession) (e read : WorldSession)
    → IsWorld w → IsFoundAt ticket es at → es ≡ w.sessions → read ≡ get_or w.sessions at read → e ≡ read → e.drive ≡ place + 1 → place < length w.bays
sits_within w ticket at place es e read is found one there same drive =
    (sits w ticket at place e is (read_found ticket es w.sessions at e read found one there same) drive).within

-- both are as they were read
pub seated : {D : Type 0} (w : WorldView D) (ticket at place : ℕ) (es : List WorldSession) (e read : WorldSession) (bay got : BayView D)
    → IsWorld w → IsFoundAt ticket es at → es ≡ w.sessions → read ≡ get_or w.sessions at read → e ≡ read → e.drive ≡ place + 1
    → got ≡ get_or w.bays place got → bay ≡ got → IsSeatedAt w ticket at place e bay
seated w ticket at place es e read bay got is found one there same drive stands alike =
    let f = read_found ticket es w.sessions at e read found one there same in
    let s = sits w ticket at place e is f drive in
    let here : slice_get w.bays place ≡ Some s.seat.bay = subst (λ n. slice_get w.bays n ≡ Some s.seat.bay) s.at_is s.seat.bay_there in
    let one_bay : s.seat.bay ≡ bay = sym (alike ∙ stands ∙ get_or_from_slice_get w.bays place s.seat.bay got here) in
    record { world = is; read = f; drive_is = drive; sits_at = s; there = here ∙ ap Some one_bay; same = one_bay }

-- the session's lane is one of the queue's
pub lane_within : {D : Type 0} {w : WorldView D} {ticket at place : ℕ} {e : WorldSession} {bay : BayView D} (s : IsSeatedAt w ticket at place e bay)
    → (1 ≤ e.session.lane) × (e.session.lane ≤ bay.queue.lanes)
lane_within {w = w} {place = place} {e = e} {bay = bay} s =
    let seat = s.sits_at.seat in
    let b : IsBay w place bay = s.world.bays place bay s.there in
    let there : slice_get bay.lanes seat.place ≡ Some seat.lane = subst (λ (x : BayView _). slice_get x.lanes seat.place ≡ Some seat.lane) s.same seat.lane_there in
    let within : seat.place < length bay.lanes = slice_get_within bay.lanes seat.place seat.lane there in
    let lane : e.session.lane ≡ seat.place + 1 = seat.lane_is in
    let lanes : bay.queue.lanes ≡ length bay.lanes = b.lanes_are in
    (omega arith, omega arith)

-- the drive that was read there is online
pub online_read : {D : Type 0} {w : WorldView D} {ticket at place : ℕ} {e : WorldSession} {bay : BayView D} (d : DriveIs D) (s : IsSeatedAt w ticket at place e bay)
    → bay.drive ≡ Some d → IsOnline w e.drive place bay d
online_read d s on = record { number = s.drive_is; there = s.there; online = on }

-- the session's drive isn't there only if it is offline
pub gone_offline : {D : Type 0} (w : WorldView D) (ticket at : ℕ) (es : List WorldSession) (e read : WorldSession) (why : Refusal)
    → IsWorld w → IsFoundAt ticket es at → es ≡ w.sessions → read ≡ get_or w.sessions at read → e ≡ read → DriveMissing w e.drive why
    → (session_at ticket w.sessions ≡ Some e)
    × ((place : ℕ) × (bay : BayView D) × (e.drive ≡ place + 1) × (slice_get w.bays place ≡ Some bay) × (bay.drive ≡ None) × (why ≡ DriveOffline))
gone_offline w ticket at es e read why is found one there same (place, number, inl (none, unknown)) =
    let f = read_found ticket es w.sessions at e read found one there same in
    let s = sits w ticket at place e is f number in
    absurd (let some = subst (λ n. slice_get w.bays n ≡ Some s.seat.bay) s.at_is s.seat.bay_there in cc (sym none ∙ some))
gone_offline w ticket at es e read why is found one there same (place, number, inr (bay, stands, off, due)) =
    ((read_found ticket es w.sessions at e read found one there same).found, (place, bay, number, stands, off, due))

-- one that goes on has its drive online
pub online_at : {D : Type 0} {w : WorldView D} {ticket at place : ℕ} {e : WorldSession} {bay : BayView D} (s : IsSeatedAt w ticket at place e bay)
    → IsRunning e.session.status → (d : DriveIs D) × IsOnline w e.drive place bay d
online_at {bay = bay} s running =
    let there = some_of bay.drive (subst (λ (x : BayView _). IsSome x.drive) s.same (s.sits_at.seat.online running)) in
    (there.0, online_read there.0 s there.1)

-- the session at its place takes a step of sending
pub despools_one : {D : Type 0} {w : WorldView D} {ticket at place : ℕ} {e : WorldSession} {bay : BayView D} (answer said : Despooled) (new : SessionView) (queue : LanesView)
    (s : IsSeatedAt w ticket at place e bay) → said ≡ answer → SendsStep said e.session bay.queue new queue
    → DespoolsSession answer w ticket (record w { sessions = slice_set w.sessions at (record e { session = new }); bays = slice_set w.bays place (record bay { queue = queue }) })
despools_one {w = w} {place = place} {e = e} {bay = bay} answer said new queue s is told =
    let step = subst (λ (a : Despooled). SendsStep a e.session bay.queue new queue) is told in
    let on = online_at s (sends_running answer e.session new bay.queue queue step) in
    record {
      e = e;
      has = s.read.found;
      at = place;
      bay = bay;
      d = on.0;
      online = on.1;
      session = new;
      queue = queue;
      step = step;
      new_is = ap (λ (es : List WorldSession). record w { sessions = es; bays = slice_set w.bays place (record bay { queue = queue }) })
          (s.read.changes (record e { session = new }) (sends_key answer e.session new bay.queue queue step ∙ s.read.id_is));
    }

-- the session at its place is refused a step of sending; its queue stays
pub despool_refused : {D : Type 0} {w : WorldView D} {ticket at place : ℕ} {e : WorldSession} {bay : BayView D} (new : SessionView) (after : BayView D) (why : Refusal)
    (s : IsSeatedAt w ticket at place e bay) → after ≡ bay → DespoolRefused e.session why new
    → RefusedWith w ticket why (record w { sessions = slice_set w.sessions at (record e { session = new }); bays = slice_set w.bays place after }) (λ s t. DespoolRefused s why t)
despool_refused {w = w} {ticket = ticket} {at = at} {place = place} {e = e} {bay = bay} new after why s stays refused =
    let c = changes_one w ticket at e new (λ s t. DespoolRefused s why t) s.read refused (despool_keeps_key e.session new why refused) in
    let kept : slice_set w.bays place after ≡ w.bays = ap (slice_set w.bays place) stays ∙ set_same w.bays place bay s.there in
    inr (c.0, c.1, c.2, c.3, ap (λ (bs : List (BayView _)). record w { sessions = slice_set w.sessions at (record e { session = new }); bays = bs }) kept ∙ c.4)
