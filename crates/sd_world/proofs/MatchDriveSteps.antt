-- A move of the world on an event of a drive is a step of the list machine, which stays as it is but for sessions that fail.
use Rattle.std.proofs.Common.{◌≡◌, ◌⊎◌, ℕ, refl, sym, ap, subst, ◌∙◌, inl, inr, Bool, true, false, Option, Some, None, List, [], ◌∷◌, ◌++◌, map, option_to_list, slice_set}
use Rattle.std.proofs.lemmas.Bool.{and_parts}
use Rattle.sd_base.specs.declared.refusal.Refusal.{Refusal}
use Rattle.sd_base.specs.declared.refusal.Refusal.TheVariants.{NoSuchDrive, DriveOffline, DeviceFault}
use Rattle.sd_driver.specs.Meaning.{Meaning}
use Rattle.sd_drive.specs.View.{DriveIs}
use Rattle.sd_journal.specs.declared.mark.Mark.TheVariants.{Lost}
use Rattle.sd_lane.specs.Queue.{LanesView}
use Rattle.sd_lane.specs.declared.piece.Piece.{Piece}
use Rattle.sd_machine.specs.Machine.{Machine, Strike}
use Rattle.sd_machine.specs.Step.{Turns, MayStrike, MayRefuse, StrikeWith}
use Rattle.sd_machine.specs.declared.event.Event.{Event}
use Rattle.sd_machine.specs.declared.event.Event.TheVariants.{Take, Place, Sync, Label, Adopt, Mount, Unmount, Seek, Retire}
use Rattle.sd_machine.specs.declared.reply.Reply.{Reply}
use Rattle.sd_machine.specs.declared.reply.Reply.TheVariants.{Refused, Retired}
use Rattle.sd_session.specs.Session.{IsRunning}
use Rattle.sd_session.specs.declared.status.Status.TheVariants.{Failed}
use Rattle.sd_world.specs.Drives.{DriveMissing, IsOfDrive, AtDrive, MovesDrive, FailsWhere, FailExactly, loses_by}
use Rattle.sd_world.specs.Fails.{IsOfSync}
use Rattle.sd_world.specs.Moves.{Moves}
use Rattle.sd_world.specs.Rules.{IsWorld}
use Rattle.sd_world.specs.World.{WorldView, WorldSession, BayView, IsOnline, with_bay}
use Rattle.sd_world.proofs.Framed.{TakesIn, LosesIn, station, calls_knowing, stays_knowing, stays_all, takes_in, loses_in}
use Rattle.sd_world.proofs.Lookups.{get_set-tells}
use Rattle.sd_world.proofs.StationShapes as place
use Rattle.sd_world.proofs.StationShapes.{JournalGoes, StationShape, station_shape}
use Rattle.sd_world.proofs.Views.{running_is}
use Rattle.sd_world.specs.Matches.{Matches, IsOutstanding, body_of_piece, bodies_with, queued_bodies}
use Rattle.sd_world.specs.MachineSteps.{StepsTo, newly_struck}
use Rattle.sd_world.proofs.Bodies.{sent_taken, bodies_queued}
use Rattle.sd_world.proofs.Drives.{Settles, settles_same, settles_settled, settles_synced, settles_placed, drive_frame, drive_step, desk_step}
use Rattle.sd_world.proofs.DriveTurns.{NoDrive, may_miss, drive_turns}
use Rattle.sd_world.proofs.Striking.{IsFailure, Struck, StruckOrStay, drops_struck, steps, stays, struck_step, unstruck_stay, all_struck, machine_failures}
use Rattle.sd_world.proofs.Frames.{Framed, frame_in_bay}
use Rattle.sd_world.proofs.Honesty.{honest_back, honest_here, fail_stores}
use Rattle.sd_world.proofs.Sessions.{all_same}

-- Refused.

-- a refusal for this reason, that leaves the world as it was
pub refused : {D : Type 0} (meaning : D → Meaning) (old new : WorldView D) (m : Machine) (event : Event) (why reason : Refusal) → why ≡ reason → MayRefuse m event reason
    → MayStrike m event (Refused reason) [] → Matches meaning old m → new ≡ old → StepsTo meaning m old event (Refused why) new
refused meaning old new m event why reason is cause fail h same =
    subst (λ (x : Refusal). StepsTo meaning m old event (Refused x) new) (sym is) (stays meaning old new m event (Refused reason) (cause, refl) fail h same)

-- the drive isn't there, or is offline for good
pub missing : {D : Type 0} (meaning : D → Meaning) (old new : WorldView D) (m : Machine) (event : Event) (drive : ℕ) (why : Refusal) → DriveMissing old drive why
    → ((r : Refusal) → NoDrive r → MayRefuse m event r) → MayStrike m event (Refused NoSuchDrive) [] → MayStrike m event (Refused DriveOffline) []
    → Matches meaning old m → new ≡ old → StepsTo meaning m old event (Refused why) new
missing meaning old new m event drive why none may there offline h same = elim none.2 [
  | inl c ↦ refused meaning old new m event why NoSuchDrive c.1 (may NoSuchDrive (inl refl)) there h same
  | inr c ↦ refused meaning old new m event why DriveOffline c.3 (may DriveOffline (inr refl)) offline h same
]

-- Take.

take_step : {D : Type 0} (meaning : D → Meaning) (old new : WorldView D) (m : Machine) (event : Event) (reply : Reply) (drive ticket seq : ℕ) → TakesIn old drive ticket seq new
    → Turns m event reply m → MayStrike m event reply [] → Matches meaning old m → StepsTo meaning m old event reply new
take_step {D} meaning old new m event reply drive ticket seq t turns fail h =
    let d = t.d in
    let d' : DriveIs D = record d { hand = Some t.piece } in
    let queue' : LanesView = record t.bay.queue { held = t.rest } in
    let bay' : BayView D = record t.bay { drive = Some d'; queue = queue' } in
    let w' = with_bay t.at bay' old in
    let frames : (x : WorldSession) → Framed meaning old w' x = λ x.
    let key = x.session.key in
    frame_in_bay meaning old w' t.at t.bay bay' d d' x
    (record {
      there = t.online.there;
      online = t.online.online;
      bays = refl;
      online_now = refl;
      here = honest_here meaning old w' t.at t.bay bay' d d' (λ place honest. honest) refl refl;
      elsewhere = λ place other o n honest. honest_back meaning old w' (λ at true_there. true_there) place other o honest;
    })
    (λ here honest. ap (bodies_with key) (sent_taken (meaning d.device).shelf d t.bay.queue t.lane t.piece t.rest t.hand_empty t.held_is))
    (λ here u. elim u [
      | inl way ↦ inl (λ none. way
          (sym (ap (λ (l : Option Piece). bodies_with key (map body_of_piece (option_to_list l) ++ queued_bodies t.bay.queue)) t.hand_empty
          ∙ ap (λ qs. bodies_with key (bodies_queued qs)) t.held_is)
          ∙ none))
      | inr unsynced ↦ inr unsynced
    ]) in
    steps meaning old new m m event reply (ap (λ w. newly_struck old.sessions w.sessions) t.new_is ∙ unstruck_stay old.sessions) turns fail
    (subst (λ w. Matches meaning w m) (sym t.new_is) (all_same meaning old w' m refl refl refl frames h))

-- A sync that fails.

fails_where : {D : Type 0} (meaning : D → Meaning) (w w' : WorldView D) (e e' : WorldSession) (b : Bool) → (b ≡ true → IsRunning e.session.status) → Framed meaning w w' e
    → FailsWhere b e e' → Struck IsFailure e e' ⊎ ((e' ≡ e) × Framed meaning w w' e)
fails_where meaning w w' e e' true runs frame f = elim f.1 [
  | inl drops ↦ inl (subst (Struck IsFailure e) (sym f.2) (drops_struck e f.0 e.session.store e.session.spool drops.1))
  | inr stays ↦ absurd (stays.0 (runs refl))
]
fails_where meaning w w' e e' false runs frame f = inr (f, frame)

fall_exactly : {D : Type 0} (meaning : D → Meaning) (w w' : WorldView D) (loses : WorldSession → Bool) (es es' : List WorldSession)
    → ((e : WorldSession) → loses e ≡ true → IsRunning e.session.status) → ((x : WorldSession) → Framed meaning w w' x) → FailExactly loses es es' → StruckOrStay IsFailure meaning w w' es es'
fall_exactly meaning w w' loses [] [] runs frames h = tt
fall_exactly meaning w w' loses [] (e' ∷ es') runs frames h = absurd h
fall_exactly meaning w w' loses (e ∷ es) [] runs frames h = absurd h
fall_exactly meaning w w' loses (e ∷ es) (e' ∷ es') runs frames h =
    (fails_where meaning w w' e e' (loses e) (runs e) (frames e) h.0, fall_exactly meaning w w' loses es es' runs frames h.1)

-- the sessions that lose a block fail, and the machine's with them
pub loses_step : {D : Type 0} (meaning : D → Meaning) (old new : WorldView D) (m : Machine) (event : Event) (drive : ℕ) → IsWorld old → LosesIn meaning old drive new
    → MayRefuse m event DeviceFault → ((strikes : List Strike) → StrikeWith Failed IsRunning m strikes → MayStrike m event (Refused DeviceFault) strikes)
    → Matches meaning old m → StepsTo meaning m old event (Refused DeviceFault) new
loses_step {D} meaning old new m event drive rules l may fail h =
    let d = l.d in
    let after = l.after in
    let w' : WorldView D = record old { sessions = l.sessions; bays = slice_set old.bays l.at (record l.bay { drive = Some after }) } in
    let loses = loses_by drive l.fails.volume.name d.journal in
    let settles = settles_settled d after Lost l.fails.volume.name (ap (λ (x : DriveIs D). x.journal) l.fails.becomes) (ap (λ (x : DriveIs D). x.hand) l.fails.becomes) in
    let frames = drive_frame meaning old w' drive l.at l.bay d after l.online refl (fail_stores loses old.sessions l.sessions l.fail) l.calls.keeps settles in
    let pairs = fall_exactly meaning old w' loses old.sessions l.sessions
    (λ e is. running_is e.session.status (and_parts _ _ (and_parts _ _ is).1).0) frames l.fail in
    subst (λ w. StepsTo meaning m old event (Refused DeviceFault) w) (sym l.new_is)
    (struck_step IsFailure meaning old w' m event (Refused DeviceFault) refl refl rules.numbers pairs (may, refl)
    (fail (newly_struck old.sessions l.sessions) (machine_failures meaning old m (newly_struck old.sessions l.sessions) h
    (all_struck IsFailure meaning old w' old.limits.time 1 old.next old.sessions l.sessions rules.numbers pairs))) h)

-- Every event of a drive.

-- no session may fail by it
may_strike_none : (m : Machine) (event : Event) (own : ℕ) (reply : Reply) → IsOfDrive event own → MayStrike m event reply []
may_strike_none m (Sync drive) own (Refused DeviceFault) is = tt
may_strike_none m (Mount drive name) own (Refused DeviceFault) is = tt
may_strike_none m (Unmount drive) own (Refused DeviceFault) is = tt
may_strike_none m (Seek drive) own (Refused DeviceFault) is = tt
may_strike_none m (Sync drive) own reply is = refl
may_strike_none m (Mount drive name) own reply is = refl
may_strike_none m (Unmount drive) own reply is = refl
may_strike_none m (Seek drive) own reply is = refl
may_strike_none m (Take drive) own reply is = refl
may_strike_none m (Place drive) own reply is = refl
may_strike_none m (Label drive name pool media moment) own reply is = refl
may_strike_none m (Adopt drive name) own reply is = refl
may_strike_none m event own reply is = absurd is

-- or any that go on, if a sync failed
sync_may_strike : (m : Machine) (event : Event) (own : ℕ) (strikes : List Strike) → IsOfSync event own → StrikeWith Failed IsRunning m strikes → MayStrike m event (Refused DeviceFault) strikes
sync_may_strike m (Sync drive) own strikes is are = are
sync_may_strike m (Mount drive name) own strikes is are = are
sync_may_strike m (Unmount drive) own strikes is are = are
sync_may_strike m (Seek drive) own strikes is are = are
sync_may_strike m event own strikes is are = absurd is

-- what becomes of a journal and a hand settles what wasn't settled
journal_settles : {D : Type 0} (d after : DriveIs D) → JournalGoes d after → Settles d after
journal_settles d after (inl (hand, inl same)) = settles_same d after same hand
journal_settles d after (inl (hand, inr synced)) = settles_synced d after synced hand
journal_settles d after (inr (piece, p, in_hand, own, journal, none)) = settles_placed d after piece p in_hand own journal none

at_station : {D : Type 0} (meaning : D → Meaning) (old new : WorldView D) (drive : ℕ) (event : Event) (reply : Reply) (m : Machine) → IsWorld old
    → (a : AtDrive meaning old drive event reply new) → StationShape meaning drive event reply (station a) a.outcome
    → Turns m event reply m → MayStrike m event reply [] → Matches meaning old m → StepsTo meaning m old event reply new
at_station meaning old new drive event reply m rules a (place.rests is) turns fail h = stays meaning old new m event reply turns fail h (stays_all a is)
at_station meaning old new drive event reply m rules a (place.takes ticket seq t) turns fail h =
    take_step meaning old new m event reply drive ticket seq (takes_in a ticket seq t) turns fail h
at_station meaning old new drive event reply m rules a (place.goes g) turns fail h =
    drive_step meaning old new m event reply drive a.at a.bay a.d a.outcome.drive a.outcome.desk a.online g.keeps (journal_settles a.d a.outcome.drive g.journal) turns fail h (calls_knowing a g.is)
at_station meaning old new drive event reply m rules a (place.gets g) turns fail h =
    drive_step meaning old new m event reply drive a.at a.bay a.d a.outcome.drive a.outcome.desk a.online g.keeps (journal_settles a.d a.outcome.drive g.journal) turns fail h (calls_knowing a g.is)
at_station meaning old new drive event reply m rules a (place.loses of_sync fault l) turns fail h =
    let may = subst (λ r. Turns m event r m) fault turns in
    subst (λ r. StepsTo meaning m old event r new) (sym fault)
    (loses_step meaning old new m event drive rules (loses_in a l) may.0 (λ strikes are. sync_may_strike m event drive strikes of_sync are) h)
at_station meaning old new drive event reply m rules a (place.knows claims is) turns fail h =
    desk_step meaning old new m event reply a.outcome.desk turns fail h (stays_knowing a is)

pub drive_steps : {D : Type 0} (meaning : D → Meaning) (old new : WorldView D) (drive : ℕ) (event : Event) (reply : Reply) (m : Machine) → IsWorld old → IsOfDrive event drive
    → MovesDrive meaning old drive event reply new → Matches meaning old m → StepsTo meaning m old event reply new
drive_steps meaning old new drive event reply m rules own (inl none) h =
    subst (λ r. StepsTo meaning m old event r new) (sym none.1)
    (missing meaning old new m event drive none.0 none.2 (λ r no. may_miss m event drive r own no)
    (may_strike_none m event drive (Refused NoSuchDrive) own) (may_strike_none m event drive (Refused DriveOffline) own) h none.3)
drive_steps meaning old new drive event reply m rules own (inr a) h =
    at_station meaning old new drive event reply m rules a (station_shape meaning drive event reply (station a) a.outcome own a.moves)
    (drive_turns meaning m drive event reply (station a) a.outcome a.moves) (may_strike_none m event drive reply own) h

-- Retire.

-- what is online after a drive went offline was before
online_retired : {D : Type 0} (old : WorldView D) (at : ℕ) (gone : BayView D) → gone.drive ≡ None → (drive place : ℕ) (other : BayView D) (o : DriveIs D)
    → IsOnline (with_bay at gone old) drive place other o → IsOnline old drive place other o
online_retired {D} old at gone none drive place other o h = elim (get_set-tells old.bays at place gone other h.there) [
  | inl p ↦ absurd (cc (sym none ∙ ap (λ (b : BayView D). b.drive) (sym p.1) ∙ h.online))
  | inr p ↦ record { number = h.number; there = p.1; online = h.online }
]

outstanding_retired : {D : Type 0} (old : WorldView D) (at : ℕ) (gone : BayView D) → gone.drive ≡ None → (x : WorldSession) → IsOutstanding (with_bay at gone old) x → IsOutstanding old x
outstanding_retired old at gone none x (inl parts) = inl parts
outstanding_retired old at gone none x (inr out) = inr (out.0, out.1, out.2, online_retired old at gone none x.drive out.0 out.1 out.2 out.3, out.4)

retired_frame : {D : Type 0} (meaning : D → Meaning) (old : WorldView D) (at : ℕ) (gone : BayView D) → gone.drive ≡ None → (x : WorldSession) → Framed meaning old (with_bay at gone old) x
retired_frame meaning old at gone none x = record {
  bodies = λ place other o online honest. record {
    at = place;
    bay = other;
    d = o;
    online = online_retired old at gone none x.drive place other o online;
    honest = honest_back meaning old (with_bay at gone old) (λ n h. h) place other o honest;
    sent_is = refl;
  };
  outstanding = outstanding_retired old at gone none x;
}

pub retire_steps : {D : Type 0} (meaning : D → Meaning) (old new : WorldView D) (drive : ℕ) (reply : Reply) (m : Machine) → IsWorld old
    → Moves meaning old (Retire drive) reply new → Matches meaning old m → StepsTo meaning m old (Retire drive) reply new
retire_steps {D} meaning old new drive Retired m rules moves h =
    let gone : BayView D = record moves.bay { drive = None } in
    let w' = with_bay moves.at gone old in
    steps meaning old new m m (Retire drive) Retired (ap (λ w. newly_struck old.sessions w.sessions) moves.new_is ∙ unstruck_stay old.sessions) refl refl
    (subst (λ w. Matches meaning w m) (sym moves.new_is) (all_same meaning old w' m refl refl refl (retired_frame meaning old moves.at gone refl) h))
retire_steps meaning old new drive (Refused why) m rules (same, inl none) h = missing meaning old new m (Retire drive) drive why none (λ r no. inl no) refl refl h same
retire_steps meaning old new drive (Refused why) m rules (same, inr used) h = stays meaning old new m (Retire drive) (Refused why) (inr (inl used.0), refl) refl h same
retire_steps meaning old new drive reply m rules moves h = absurd moves
