-- Of the sessions exactly those fail that have a cause.
use Rattle.std.proofs.Common.{◌≡◌, ◌⊎◌, ℕ, ◌+◌, ◌==◌, refl, sym, ap, subst, ◌∙◌, inl, inr, arith, true, false, true≢false, Bool, Some, [], ◌∷◌, slice_get}
use Rattle.std.specs.Prelude.{◌||◌, ◌&&◌}
use Rattle.std.proofs.lemmas.Bool.{eqb-true}
use Rattle.sd_base.specs.declared.number.SessionKey.{SessionKey}
use Rattle.sd_base.specs.declared.refusal.Refusal.TheVariants.{SpoolFault, DeviceFault}
use Rattle.sd_driver.specs.Meaning.{Meaning}
use Rattle.sd_journal.specs.Journal.{fails_with}
use Rattle.sd_machine.specs.declared.event.Event.{Event}
use Rattle.sd_machine.specs.declared.event.Event.TheVariants.{Spool, Despool, Sync, Mount, Unmount, Seek}
use Rattle.sd_machine.specs.declared.reply.Reply.{Reply}
use Rattle.sd_machine.specs.declared.reply.Reply.TheVariants.{Refused}
use Rattle.sd_session.specs.Session.{SessionView, IsRunning}
use Rattle.sd_session.specs.Spooling.{SpoolRefused}
use Rattle.sd_session.specs.Sending.{DespoolRefused}
use Rattle.sd_session.specs.declared.status.Status.TheVariants.{Failed}
use Rattle.sd_world.specs.World.{WorldView, WorldSession, BayView, session_at, with_session}
use Rattle.sd_world.specs.Sessions.{RefusedWith}
use Rattle.sd_world.specs.Drives.{IsOfDrive, MovesDrive, FailsWhere, is_running, loses_by, purged_sessions}
use Rattle.sd_world.specs.Fails.{IsOfSpool, IsOfSync, SpoolFailed, SyncFailed, FailByCause}
use Rattle.sd_world.specs.Moves.{Moves}
use Rattle.sd_world.specs.Rules.{IsWorld}
use Rattle.sd_world.proofs.DriveSteps.{fails_to_sync}
use Rattle.sd_world.proofs.Framed.{LosesIn, station, stays_sessions, loses_in}
use Rattle.sd_world.proofs.Lookups.{session_id, session_at-same, session_at-front, get_set-same}
use Rattle.sd_world.proofs.Moves.{moves_keep_rules}
use Rattle.sd_world.proofs.OpenSteps.{LosesStore, taken_from}
use Rattle.sd_world.proofs.Pairs.{WithOne, FallsWhere, pair_after, with_pairs, fail_pairs}
use Rattle.sd_world.proofs.PurgeSteps.{PurgedOrStays, purged_pairs}
use Rattle.sd_world.proofs.QueueSteps.{sends_one}
use Rattle.sd_world.proofs.Shapes as shape
use Rattle.sd_world.proofs.Shapes.{Shape, shape_of}
use Rattle.sd_world.proofs.StationShapes.{station_shape, who_loses}
use Rattle.sd_world.proofs.Views.{failed_not_running, running_is}

-- the session went on, and its own spool failed or it lost a block by a sync
abbrev HasCause : {D : Type 0} → WorldView D → Event → Reply → WorldView D → WorldSession → Type 0
HasCause w event reply w' e = IsRunning e.session.status × (SpoolFailed event reply e ⊎ SyncFailed w event reply w' e)

-- if a session has failed, it had, or it has a cause
abbrev IsCaused : {D : Type 0} → WorldView D → Event → Reply → WorldView D → WorldSession → SessionView → Type 0
IsCaused w event reply w' e t = t.status ≡ Failed → (e.session.status ≡ Failed) ⊎ HasCause w event reply w' e

-- so is each
abbrev AllCaused : {D : Type 0} → WorldView D → Event → Reply → WorldView D → Type 0
AllCaused w event reply w' = (ticket : ℕ) (e e' : WorldSession) → session_at ticket w.sessions ≡ Some e → session_at ticket w'.sessions ≡ Some e'
    → IsCaused w event reply w' e e'.session

and_first : (a b : Bool) → (a && b) ≡ true → a ≡ true
and_first true b is = refl
and_first false b is = absurd (true≢false (sym is))

and_second : (a b : Bool) → (a && b) ≡ true → b ≡ true
and_second true b is = is
and_second false b is = absurd (true≢false (sym is))

or_true : (a b : Bool) → b ≡ true → (a || b) ≡ true
or_true true b is = refl
or_true false b is = is

module _ {D : Type 0} (meaning : D → Meaning) (w w' : WorldView D) (event : Event) (reply : Reply) where
  -- Who fails has a cause.

  -- if what becomes of each session is known
  known_caused : (R : WorldSession → WorldSession → Type 0)
      → ((ticket : ℕ) (e : WorldSession) → session_at ticket w.sessions ≡ Some e → (y : WorldSession) × (session_at ticket w'.sessions ≡ Some y) × R e y)
      → ((x y : WorldSession) → R x y → IsCaused w event reply w' x y.session) → AllCaused w event reply w'
  known_caused R becomes tells ticket e e' at at' =
      let p = becomes ticket e at in
      let is : p.0 ≡ e' = cc (sym p.1 ∙ at') in
      subst (λ (y : WorldSession). IsCaused w event reply w' e y.session) is (tells e p.0 p.2)

  -- if sessions keep their status
  status_caused : (x y : WorldSession) → y.session.status ≡ x.session.status → IsCaused w event reply w' x y.session
  status_caused x y same failed = inl (sym same ∙ failed)

  same_caused : w'.sessions ≡ w.sessions → AllCaused w event reply w'
  same_caused same =
      known_caused (λ x y. y ≡ x) (λ ticket e at. (e, ap (session_at ticket) same ∙ at, refl))
      (λ x y is. status_caused x y (ap (λ (z : WorldSession). z.session.status) is))

  -- one session changes
  one_caused : (ticket : ℕ) (e : WorldSession) (t : SessionView) → session_at ticket w.sessions ≡ Some e → t.key ≡ e.session.key
      → w'.sessions ≡ with_session (record e { session = t }) w.sessions → IsCaused w event reply w' e t → AllCaused w event reply w'
  one_caused ticket e t at key is caused =
      let f : WorldSession = record e { session = t } in
      let id : f.session.key.id ≡ ticket = ap (λ (k : SessionKey). k.id) key ∙ session_id ticket w.sessions e at in
      known_caused (WithOne ticket e f)
      (λ number x there.
      let p = pair_after (WithOne ticket e f) (session_at number w.sessions) (session_at number (with_session f w.sessions)) x (with_pairs w.sessions ticket e f at id number) there in
      (p.0, ap (session_at number) is ∙ p.1, p.2))
      (λ x y p. elim p [
        | inl q ↦ subst (λ (z : WorldSession). IsCaused w event reply w' z y.session) (sym q.0)
            (subst (λ (z : WorldSession). IsCaused w event reply w' e z.session) (sym q.1) caused)
        | inr q ↦ status_caused x y (ap (λ (z : WorldSession). z.session.status) q.1)
      ])

  -- a session loses a block by a sync
  loses_caused : (drive : ℕ) → IsOfSync event drive → reply ≡ Refused DeviceFault → (l : LosesIn meaning w drive w') → (x y : WorldSession)
      → (b : Bool) → loses_by drive l.fails.volume.name l.d.journal x ≡ b → FailsWhere b x y → IsCaused w event reply w' x y.session
  loses_caused drive of_sync fault l x y true loses falls = λ failed.
      let name = l.fails.volume.name in
      let rest = is_running x.session.status && fails_with x.session.key name l.d.journal in
      let own : x.drive ≡ drive = eqb-true x.drive drive (and_first (x.drive == drive) rest loses) in
      let both = and_second (x.drive == drive) rest loses in
      let bay' : BayView D = record l.bay { drive = Some l.after } in
      inr (
        running_is x.session.status (and_first (is_running x.session.status) (fails_with x.session.key name l.d.journal) both),
        inr (record {
          of_sync = subst (IsOfSync event) (sym own) of_sync;
          fault = fault;
          at = l.at;
          bay = l.bay;
          bay' = bay';
          d = l.d;
          after = l.after;
          was = record { number = own ∙ l.online.number; there = l.online.there; online = l.online.online };
          is = record {
            number = own ∙ l.online.number;
            there = ap (λ (v : WorldView D). slice_get v.bays l.at) l.new_is ∙ get_set-same w.bays l.at bay' l.bay l.online.there;
            online = refl;
          };
          sync = l.fails;
          loses = and_second (is_running x.session.status) (fails_with x.session.key name l.d.journal) both;
        }),
      )
  loses_caused drive of_sync fault l x y false loses falls = status_caused x y (ap (λ (z : WorldSession). z.session.status) falls)

  caused : IsWorld w → Shape meaning w event reply w' → AllCaused w event reply w'
  caused h (shape.stays same) = same_caused (ap (λ (v : WorldView D). v.sessions) same)
  caused h (shape.changes m) =
      one_caused m.ticket m.e m.t m.has m.whole.stays.key_is (ap (λ (v : WorldView D). v.sessions) m.new_is)
      (λ failed. elim (m.tells.cause failed) [
        | inl was ↦ inl was
        | inr by ↦ inr (by.0, inl (subst (IsOfSpool event) (sym (session_id m.ticket w.sessions m.e m.has)) by.1, by.2))
      ])
  caused h (shape.closes ticket key spans reply_is m) =
      one_caused ticket m.e m.session m.has (ap (λ (s : SessionView). s.key) m.closes.is) (ap (λ (v : WorldView D). v.sessions) m.new_is)
      (λ failed. absurd (cc (failed, ap (λ (s : SessionView). s.status) m.closes.is)))
  caused h (shape.sends ticket reply_is m) =
      let one = (sends_one m.e.session m.session m.bay.queue m.queue m.step).2 in
      one_caused ticket m.e m.session m.has one.key_is (ap (λ (v : WorldView D). v.sessions) m.new_is) (λ failed. inl (sym one.status_is ∙ failed))
  caused h (shape.opens job pool media moment ticket drive reply_is o) =
      let R = LosesStore (o.at + 1) (o.place + 1) in
      let taken = taken_from w o.at o.place o.bay o.lane o.store o.sessions h o.reserves.online.there o.reserves.lane_there o.takes in
      let f : WorldSession = record { session = o.session; drive = drive } in
      known_caused R
      (λ number x there.
      let p = pair_after R (session_at number w.sessions) (session_at number o.sessions) x (taken.pairs number) there in
      (p.0, ap (λ (v : WorldView D). session_at number v.sessions) o.new_is ∙ session_at-front number o.sessions (f ∷ []) p.0 p.1, p.2))
      (λ x y q. status_caused x y q.status_is)
  caused h (shape.opens_not pool media why o) =
      let R = LosesStore (o.at + 1) (o.place + 1) in
      let taken = taken_from w o.at o.place o.bay o.lane o.before o.sessions h o.reserves.online.there o.reserves.lane_there o.takes in
      known_caused R
      (λ number x there.
      let p = pair_after R (session_at number w.sessions) (session_at number o.sessions) x (taken.pairs number) there in
      (p.0, ap (λ (v : WorldView D). session_at number v.sessions) o.new_is ∙ p.1, p.2))
      (λ x y q. status_caused x y q.status_is)
  caused h (shape.takes drive ticket seq m) = same_caused (ap (λ (v : WorldView D). v.sessions) m.new_is)
  caused h (shape.calls m) = same_caused (ap (λ (v : WorldView D). v.sessions) m.new_is)
  caused h (shape.gets m) = same_caused (ap (λ (v : WorldView D). v.sessions) m.new_is)
  caused h (shape.loses drive of_sync fault l) =
      let chooses = loses_by drive l.fails.volume.name l.d.journal in
      known_caused (FallsWhere chooses)
      (λ number x there.
      let p = pair_after (FallsWhere chooses) (session_at number w.sessions) (session_at number l.sessions) x (fail_pairs chooses w.sessions l.sessions l.fail number) there in
      (p.0, ap (λ (v : WorldView D). session_at number v.sessions) l.new_is ∙ p.1, p.2))
      (λ x y q. loses_caused drive of_sync fault l x y (chooses x) refl q)
  caused h (shape.knows m) = same_caused (ap (λ (v : WorldView D). v.sessions) m.new_is)
  caused h (shape.retires drive retired m) = same_caused (ap (λ (v : WorldView D). v.sessions) m.new_is)
  caused h (shape.purges drive name own answer m) =
      known_caused (PurgedOrStays drive name m.d.journal)
      (λ number x there.
      let R = PurgedOrStays drive name m.d.journal in
      let es' = purged_sessions drive name m.d.journal w.sessions in
      let p = pair_after R (session_at number w.sessions) (session_at number es') x (purged_pairs drive name m.d.journal w.sessions number) there in
      (p.0, ap (λ (v : WorldView D). session_at number v.sessions) m.new_is ∙ p.1, p.2))
      (λ x y q. elim q [
        | inl p ↦ λ failed. absurd (cc (sym failed ∙ ap (λ (z : WorldSession). z.session.status) p.2))
        | inr p ↦ status_caused x y (ap (λ (z : WorldSession). z.session.status) p.1)
      ])

-- Who has a cause fails.

module _ {D : Type 0} (w w' : WorldView D) (ticket : ℕ) (e e' : WorldSession)
    (at : session_at ticket w.sessions ≡ Some e) (at' : session_at ticket w'.sessions ≡ Some e') (runs : IsRunning e.session.status) where
  -- by its own spool
  refused_fails : (own : ℕ) (change : SessionView → SessionView → Type 0) → own ≡ e.session.key.id
      → ((s t : SessionView) → IsRunning s.status → change s t → (t.status ≡ Failed) × (t.key ≡ s.key))
      → RefusedWith w own SpoolFault w' change → e'.session.status ≡ Failed
  refused_fails own change is tells (inl m) = absurd (cc m.1)
  refused_fails own change is tells (inr m) =
      let id : own ≡ ticket = is ∙ session_id ticket w.sessions e at in
      let one : m.0 ≡ e = cc (sym m.2 ∙ ap (λ n. session_at n w.sessions) id ∙ at) in
      let f : WorldSession = record m.0 { session = m.1 } in
      let told = tells m.0.session m.1 (subst (λ (x : WorldSession). IsRunning x.session.status) (sym one) runs) m.3 in
      let same_id : f.session.key.id ≡ own = ap (λ (k : SessionKey). k.id) told.1 ∙ session_id own w.sessions m.0 m.2 in
      let now = session_at-same own f w.sessions m.0 m.2 same_id in
      let there : session_at own w'.sessions ≡ Some f = ap (λ (v : WorldView D). session_at own v.sessions) m.4 ∙ now in
      let is' : f ≡ e' = cc (sym there ∙ ap (λ n. session_at n w'.sessions) id ∙ at') in
      ap (λ (x : WorldSession). x.session.status) (sym is') ∙ told.0

  spool_fails : (s t : SessionView) → IsRunning s.status → SpoolRefused s SpoolFault t → (t.status ≡ Failed) × (t.key ≡ s.key)
  spool_fails s t r (inl h) = absurd (h.0.0 r)
  spool_fails s t r (inr (inl h)) = (ap (λ (x : SessionView). x.status) h.2.drops.is, ap (λ (x : SessionView). x.key) h.2.drops.is)
  spool_fails s t r (inr (inr h)) = absurd (cc h.1)

  despool_fails : (s t : SessionView) → IsRunning s.status → DespoolRefused s SpoolFault t → (t.status ≡ Failed) × (t.key ≡ s.key)
  despool_fails s t r (inl h) = absurd (h.0.0 r)
  despool_fails s t r (inr (inl h)) = (ap (λ (x : SessionView). x.status) h.2.drops.is, ap (λ (x : SessionView). x.key) h.2.drops.is)
  despool_fails s t r (inr (inr h)) = absurd (cc h.1)

  spool_causes : (meaning : D → Meaning) (event : Event) → IsOfSpool event e.session.key.id → Moves meaning w event (Refused SpoolFault) w' → e'.session.status ≡ Failed
  spool_causes meaning (Spool own) is m = refused_fails own _ is spool_fails m
  spool_causes meaning (Despool own) is m = refused_fails own _ is despool_fails m
  spool_causes meaning event is m = absurd is

  -- by a sync: it would go on with a lost block else
  goes_on_not : {event : Event} {reply : Reply} → IsWorld w' → SyncFailed w event reply w' e → e' ≡ e → ⊥
  goes_on_not h s same =
      let seat = h.seated ticket e (at' ∙ ap Some same) in
      let here : seat.at ≡ s.at = omega (arith, seat.drive_is, s.is.number) in
      let bays : seat.bay ≡ s.bay' = cc (sym seat.bay_there ∙ ap (slice_get w'.bays) here ∙ s.is.there) in
      let none = seat.lost_none runs s.after (ap (λ (b : BayView D). b.drive) bays ∙ s.is.online) in
      let lost = (fails_to_sync s.d s.after s.sync).fails e.session.key ∙ or_true _ _ s.loses in
      absurd (true≢false (sym lost ∙ none))

  fails_where : (b : Bool) → (e' ≡ e → ⊥) → FailsWhere b e e' → e'.session.status ≡ Failed
  fails_where true other (s, inl failed, is) = ap (λ (x : WorldSession). x.session.status) is ∙ ap (λ (x : SessionView). x.status) failed.1.is
  fails_where true other (s, inr over, is) = absurd (over.0 runs)
  fails_where false other is = absurd (other is)

  loses_fails : (meaning : D → Meaning) (drive : ℕ) → (e' ≡ e → ⊥) → LosesIn meaning w drive w' → e'.session.status ≡ Failed
  loses_fails meaning drive other l =
      let chooses = loses_by drive l.fails.volume.name l.d.journal in
      let p = pair_after (FallsWhere chooses) (session_at ticket w.sessions) (session_at ticket l.sessions) e (fail_pairs chooses w.sessions l.sessions l.fail ticket) at in
      let there : session_at ticket w'.sessions ≡ Some p.0 = ap (λ (v : WorldView D). session_at ticket v.sessions) l.new_is ∙ p.1 in
      let is : p.0 ≡ e' = cc (sym there ∙ at') in
      fails_where (chooses e) other (subst (FailsWhere (chooses e) e) is p.2)

  stays_fails : w'.sessions ≡ w.sessions → (e' ≡ e → ⊥) → e'.session.status ≡ Failed
  stays_fails same other = absurd (other (cc (sym at' ∙ ap (session_at ticket) same ∙ at)))

  drive_causes : (meaning : D → Meaning) (event : Event) (drive : ℕ) → IsOfDrive event drive → (e' ≡ e → ⊥) → MovesDrive meaning w drive event (Refused DeviceFault) w' → e'.session.status ≡ Failed
  drive_causes meaning event drive own other (inl m) = stays_fails (ap (λ (v : WorldView D). v.sessions) m.3) other
  drive_causes meaning event drive own other (inr a) =
      elim (who_loses (station_shape meaning drive event (Refused DeviceFault) (station a) a.outcome own a.moves)) [
        | inl none ↦ stays_fails (stays_sessions a none.lost) other
        | inr l ↦ loses_fails meaning drive other (loses_in a l.1)
      ]

  sync_causes : (meaning : D → Meaning) (event : Event) (own : ℕ) → IsOfSync event own → (e' ≡ e → ⊥) → Moves meaning w event (Refused DeviceFault) w' → e'.session.status ≡ Failed
  sync_causes meaning (Sync drive) own is other m = drive_causes meaning (Sync drive) drive refl other m
  sync_causes meaning (Unmount drive) own is other m = drive_causes meaning (Unmount drive) drive refl other m
  sync_causes meaning (Mount drive name) own is other m = drive_causes meaning (Mount drive name) drive refl other m
  sync_causes meaning (Seek drive) own is other m = drive_causes meaning (Seek drive) drive refl other m
  sync_causes meaning event own is other m = absurd is

-- Both ways.

pub fail_by_cause : {D : Type 0} (meaning : D → Meaning) (w w' : WorldView D) (event : Event) (reply : Reply) → IsWorld w → Moves meaning w event reply w' → FailByCause w event reply w'
fail_by_cause meaning w w' event reply h m ticket e e' at at' = (
  λ p. elim (caused meaning w w' event reply h (shape_of meaning w w' event reply m) ticket e e' at at' p.1) [
    | inl was ↦ absurd (p.0 was)
    | inr cause ↦ cause
  ],
  λ cause. (
    λ was. failed_not_running (subst IsRunning was cause.0),
    elim cause.1 [
      | inl s ↦ spool_causes w w' ticket e e' at at' cause.0 meaning event s.0 (subst (λ r. Moves meaning w event r w') s.1 m)
      | inr s ↦ sync_causes w w' ticket e e' at at' cause.0 meaning event e.drive s.of_sync
          (goes_on_not w w' ticket e e' at at' cause.0 (moves_keep_rules meaning w w' event reply h m) s)
          (subst (λ r. Moves meaning w event r w') s.fault m)
    ],
  ),
)
