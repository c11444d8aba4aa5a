-- Every move leaves honest devices and stores honest.
use Rattle.std.proofs.Common.{◌≡◌, ℕ, ◌+◌, Bool, true, false, refl, sym, ap, subst, ◌∙◌, inl, inr, zero, suc, Some, None, List, slice_get, slice_set}
use Rattle.std.specs.Prelude.{IsTrue}
use Rattle.sd_base.specs.declared.number.SessionKey.{SessionKey}
use Rattle.sd_base.specs.declared.refusal.Refusal.{Refusal}
use Rattle.sd_driver.specs.Meaning.{Meaning, IsHonest}
use Rattle.sd_drive.specs.View.{DriveIs}
use Rattle.sd_journal.specs.Journal.{with_key}
use Rattle.sd_machine.specs.declared.event.Event.{Event}
use Rattle.sd_machine.specs.declared.reply.Reply.{Reply}
use Rattle.sd_session.specs.Session.{SessionView, home_of, store_of, unused_store, new_spool}
use Rattle.sd_spool.specs.Job.{StoreState}
use Rattle.sd_session.specs.Spooling.{HasFailed}
use Rattle.sd_world.specs.World.{WorldView, WorldSession, BayView, LaneView, IsOnline, session_at, with_session}
use Rattle.sd_world.specs.Sessions.{TakesStore, OpensSession, OpensNot, next_key}
use Rattle.sd_world.specs.Drives.{FailsWhere, loses_by}
use Rattle.sd_world.specs.Honest.{StoreIsTrue, AreHonest}
use Rattle.sd_world.specs.Moves.{Moves}
use Rattle.sd_world.specs.Rules.{IsWorld}
use Rattle.sd_world.proofs.Framed.{LosesIn}
use Rattle.sd_world.proofs.Lookups.{session_id, session_at-push, get_set-tells}
use Rattle.sd_world.proofs.OpenSteps.{LosesStore, taken_from}
use Rattle.sd_world.proofs.Pairs.{PairAt, WithOne, FallsWhere, pair_before, with_pairs, fail_pairs}
use Rattle.sd_world.proofs.PurgeSteps.{PurgedOrStays, purged_pairs}
use Rattle.sd_world.proofs.QueueSteps.{sends_one}
use Rattle.sd_world.proofs.Shapes as shape
use Rattle.sd_world.proofs.Shapes.{Shape, shape_of}
use Rattle.sd_world.proofs.Views.{StaysTrue, fails}

-- Sessions.

-- the stores that sessions have are true
abbrev StoresAreTrue : List WorldSession → Type 0
StoresAreTrue es = (ticket : ℕ) (e : WorldSession) → session_at ticket es ≡ Some e → StoreIsTrue (store_of e.session)

same_true : (x y : WorldSession) → y ≡ x → StaysTrue x.session y.session
same_true x y same honest = subst (λ (z : WorldSession). StoreIsTrue (store_of z.session)) (sym same) honest

-- so they are if each was, and stayed so
pairs_true : (R : WorldSession → WorldSession → Type 0) (es es' : List WorldSession) → ((ticket : ℕ) → PairAt R es es' ticket)
    → ((x y : WorldSession) → R x y → StaysTrue x.session y.session) → StoresAreTrue es → StoresAreTrue es'
pairs_true R es es' pairs tells h ticket y there =
    let p = pair_before R (session_at ticket es) (session_at ticket es') y (pairs ticket) there in
    tells p.0 y p.2 (h ticket p.0 p.1)

-- one session changes
one_true : (es : List WorldSession) (ticket : ℕ) (e : WorldSession) (t : SessionView) → session_at ticket es ≡ Some e → t.key ≡ e.session.key
    → StaysTrue e.session t → StoresAreTrue es → StoresAreTrue (with_session (record e { session = t }) es)
one_true es ticket e t at key own h =
    let f : WorldSession = record e { session = t } in
    let id : f.session.key.id ≡ ticket = ap (λ (k : SessionKey). k.id) key ∙ session_id ticket es e at in
    pairs_true (WithOne ticket e f) es (with_session f es) (with_pairs es ticket e f at id)
    (λ x y p. elim p [
      | inl q ↦ subst (λ (z : WorldSession). StaysTrue z.session y.session) (sym q.0) (subst (λ (z : WorldSession). StaysTrue e.session z.session) (sym q.1) own)
      | inr q ↦ same_true x y q.1
    ])
    h

falls : (b : Bool) (x y : WorldSession) → FailsWhere b x y → StaysTrue x.session y.session
falls true x y (s, failed, is) = subst (λ (z : WorldSession). StaysTrue x.session z.session) (sym is) (fails x.session s failed).honest
falls false x y is = same_true x y is

-- The stores of lanes.

-- a lane's store that is taken was true where it lay
taken_true : (lane : LaneView) (es es' : List WorldSession) (store : StoreState) → TakesStore lane es store es' → StoreIsTrue lane.store → StoresAreTrue es → IsTrue store.honest
taken_true lane es es' store (inl t) own h = subst StoreIsTrue t.0 own
taken_true lane es es' store (inr t) own h = subst StoreIsTrue t.6.store_is (h t.1 t.2 t.5)

-- a store that could not be cleared is as true as it was
emptied_true : (before after : StoreState) → HasFailed before after → IsTrue before.honest → IsTrue after.honest
emptied_true before after f honest = subst IsTrue (sym f.honest) honest

-- a new session has the store that it was given
starts_true : (limit : ℕ) (store : StoreState) → IsTrue store.honest → StoreIsTrue (home_of (unused_store limit store) (new_spool limit store))
starts_true zero store honest = honest
starts_true (suc n) store honest = honest

-- Worlds.

module _ {D : Type 0} (meaning : D → Meaning) (w w' : WorldView D) (h : AreHonest meaning w) where
  -- no bay changes
  bays_stay : w'.bays ≡ w.bays → StoresAreTrue w'.sessions → AreHonest meaning w'
  bays_stay same sessions = record {
    devices = λ drive at bay d on. h.devices drive at bay d (record { number = on.number; there = ap (λ bs. slice_get bs at) (sym same) ∙ on.there; online = on.online });
    lanes = λ at place bay lane there stands. h.lanes at place bay lane (ap (λ bs. slice_get bs at) (sym same) ∙ there) stands;
    sessions = sessions;
  }

  -- one does, whose device and stores are honest
  bay_changes : (at : ℕ) (bay' : BayView D) → w'.bays ≡ slice_set w.bays at bay'
      → ((d : DriveIs D) → bay'.drive ≡ Some d → IsHonest (meaning d.device))
      → ((place : ℕ) (lane : LaneView) → slice_get bay'.lanes place ≡ Some lane → StoreIsTrue lane.store)
      → StoresAreTrue w'.sessions → AreHonest meaning w'
  bay_changes at bay' bays device lanes sessions = record {
    devices = λ drive other b d on. elim (get_set-tells w.bays at other bay' b (ap (λ bs. slice_get bs other) (sym bays) ∙ on.there)) [
      | inl p ↦ device d (ap (λ (c : BayView D). c.drive) (sym p.1) ∙ on.online)
      | inr p ↦ h.devices drive other b d (record { number = on.number; there = p.1; online = on.online })
    ];
    lanes = λ other place b lane there stands. elim (get_set-tells w.bays at other bay' b (ap (λ bs. slice_get bs other) (sym bays) ∙ there)) [
      | inl p ↦ lanes place lane (ap (λ (c : BayView D). slice_get c.lanes place) (sym p.1) ∙ stands)
      | inr p ↦ h.lanes other place b lane p.1 stands
    ];
    sessions = sessions;
  }

  -- its drive is another, over a device that is as honest
  pub drive_changes : (drive at : ℕ) (bay bay' : BayView D) (d after : DriveIs D) → IsOnline w drive at bay d → w'.bays ≡ slice_set w.bays at bay' → bay'.drive ≡ Some after
      → bay'.lanes ≡ bay.lanes → (meaning after.device).honest ≡ (meaning d.device).honest → StoresAreTrue w'.sessions → AreHonest meaning w'
  drive_changes drive at bay bay' d after online bays now lanes honest sessions =
      bay_changes at bay' bays
      (λ x is. let same : after ≡ x = cc (sym now ∙ is) in
      subst (λ (y : DriveIs D). IsHonest (meaning y.device)) same (subst IsTrue (sym honest) (h.devices drive at bay d online)))
      (λ place lane stands. h.lanes at place bay lane online.there (ap (λ ls. slice_get ls place) (sym lanes) ∙ stands))
      sessions

-- the sessions of a world that is known
sessions_of : {D : Type 0} (w v : WorldView D) → w ≡ v → StoresAreTrue v.sessions → StoresAreTrue w.sessions
sessions_of {D} w v is h = subst (λ (x : WorldView D). StoresAreTrue x.sessions) (sym is) h

opens : {D : Type 0} (meaning : D → Meaning) (w w' : WorldView D) (job : ℕ) (pool media : List ℕ) (moment : _) (ticket drive : ℕ) → IsWorld w
    → OpensSession w job pool media moment ticket drive w' → AreHonest meaning w → AreHonest meaning w'
opens {D} meaning w w' job pool media moment ticket drive rules o h =
    let online = o.reserves.online in
    let stands = o.reserves.lane_there in
    let taken = taken_from w o.at o.place o.bay o.lane o.store o.sessions rules online.there stands o.takes in
    let f : WorldSession = record { session = o.session; drive = drive } in
    let after : DriveIs D = record o.d { pool = Some pool; ready = with_key (next_key w) o.d.ready } in
    let lane' : LaneView = record { holder = Some ticket; store = None } in
    let bay' : BayView D = record o.bay { drive = Some after; lanes = slice_set o.bay.lanes o.place lane' } in
    let was = taken_true o.lane w.sessions o.sessions o.store o.takes (h.lanes o.at o.place o.bay o.lane online.there stands) h.sessions in
    let own : StoreIsTrue (store_of o.session) = subst (λ (s : SessionView). StoreIsTrue (store_of s)) (sym o.starts.is) (starts_true w.limits.spool o.store was) in
    let before = pairs_true (LosesStore (o.at + 1) (o.place + 1)) w.sessions o.sessions taken.pairs (λ x y q. q.honest) h.sessions in
    bay_changes meaning w w' h o.at bay' (ap (λ (x : WorldView D). x.bays) o.new_is)
    (λ x is. let same : after ≡ x = cc is in subst (λ (y : DriveIs D). IsHonest (meaning y.device)) same (h.devices drive o.at o.bay o.d online))
    (λ place lane seat. elim (get_set-tells o.bay.lanes o.place place lane' lane seat) [
      | inl p ↦ subst (λ (l : LaneView). StoreIsTrue l.store) (sym p.1) tt
      | inr p ↦ h.lanes o.at place o.bay lane online.there p.1
    ])
    (sessions_of w' _ o.new_is (λ number e found. elim (session_at-push number o.sessions f e found) [
      | inl there ↦ before number e there
      | inr is ↦ subst (λ (x : WorldSession). StoreIsTrue (store_of x.session)) (sym is) own
    ]))

opens_not : {D : Type 0} (meaning : D → Meaning) (w w' : WorldView D) (pool media : List ℕ) (why : Refusal) → IsWorld w
    → OpensNot w pool media why w' → AreHonest meaning w → AreHonest meaning w'
opens_not {D} meaning w w' pool media why rules o h =
    let online = o.reserves.online in
    let stands = o.reserves.lane_there in
    let taken = taken_from w o.at o.place o.bay o.lane o.before o.sessions rules online.there stands o.takes in
    let lane' : LaneView = record o.lane { store = Some o.after } in
    let after : DriveIs D = record o.d { ready = with_key (next_key w) o.d.ready } in
    let bay' : BayView D = record o.bay { drive = Some after; lanes = slice_set o.bay.lanes o.place lane' } in
    let was = taken_true o.lane w.sessions o.sessions o.before o.takes (h.lanes o.at o.place o.bay o.lane online.there stands) h.sessions in
    let now : IsTrue o.after.honest = elim o.cause [
      | inl c ↦ subst (λ (s : StoreState). IsTrue s.honest) (sym c.1) was
      | inr c ↦ emptied_true o.before o.after c.2 was
    ] in
    bay_changes meaning w w' h o.at bay' (ap (λ (x : WorldView D). x.bays) o.new_is)
    (λ x is. let same : after ≡ x = cc is in subst (λ (y : DriveIs D). IsHonest (meaning y.device)) same (h.devices o.drive o.at o.bay o.d online))
    (λ place lane seat. elim (get_set-tells o.bay.lanes o.place place lane' lane seat) [
      | inl p ↦ subst (λ (l : LaneView). StoreIsTrue l.store) (sym p.1) now
      | inr p ↦ h.lanes o.at place o.bay lane online.there p.1
    ])
    (sessions_of w' _ o.new_is (pairs_true (LosesStore (o.at + 1) (o.place + 1)) w.sessions o.sessions taken.pairs (λ x y q. q.honest) h.sessions))

loses_blocks : {D : Type 0} (meaning : D → Meaning) (w w' : WorldView D) (drive : ℕ) → LosesIn meaning w drive w' → AreHonest meaning w → AreHonest meaning w'
loses_blocks {D} meaning w w' drive l h =
    let chooses = loses_by drive l.fails.volume.name l.d.journal in
    drive_changes meaning w w' h drive l.at l.bay (record l.bay { drive = Some l.after }) l.d l.after l.online (ap (λ (x : WorldView D). x.bays) l.new_is) refl refl
    l.calls.counted.honest
    (sessions_of w' _ l.new_is (pairs_true (FallsWhere chooses) w.sessions l.sessions (fail_pairs chooses w.sessions l.sessions l.fail) (λ x y q. falls (chooses x) x y q) h.sessions))

shape_honest : {D : Type 0} (meaning : D → Meaning) (w w' : WorldView D) (event : Event) (reply : Reply) → IsWorld w → Shape meaning w event reply w' → AreHonest meaning w → AreHonest meaning w'
shape_honest meaning w w' event reply rules (shape.stays same) h = subst (AreHonest meaning) (sym same) h
shape_honest {D} meaning w w' event reply rules (shape.changes m) h =
    bays_stay meaning w w' h (ap (λ (x : WorldView D). x.bays) m.new_is)
    (sessions_of w' _ m.new_is (one_true w.sessions m.ticket m.e m.t m.has m.whole.stays.key_is m.whole.honest h.sessions))
shape_honest {D} meaning w w' event reply rules (shape.closes ticket key spans reply_is m) h =
    bays_stay meaning w w' h (ap (λ (x : WorldView D). x.bays) m.new_is)
    (sessions_of w' _ m.new_is (one_true w.sessions ticket m.e m.session m.has (ap (λ (s : SessionView). s.key) m.closes.is)
    (λ honest. subst (λ (s : SessionView). StoreIsTrue (store_of s)) (sym m.closes.is) honest) h.sessions))
shape_honest {D} meaning w w' event reply rules (shape.sends ticket reply_is m) h =
    let one = (sends_one m.e.session m.session m.bay.queue m.queue m.step).2 in
    drive_changes meaning w w' h m.e.drive m.at m.bay (record m.bay { queue = m.queue }) m.d m.d m.online (ap (λ (x : WorldView D). x.bays) m.new_is) m.online.online refl refl
    (sessions_of w' _ m.new_is (one_true w.sessions ticket m.e m.session m.has one.key_is one.honest h.sessions))
shape_honest meaning w w' event reply rules (shape.opens job pool media moment ticket drive reply_is m) h = opens meaning w w' job pool media moment ticket drive rules m h
shape_honest meaning w w' event reply rules (shape.opens_not pool media why m) h = opens_not meaning w w' pool media why rules m h
shape_honest {D} meaning w w' event reply rules (shape.takes drive ticket seq m) h =
    let after : DriveIs D = record m.d { hand = Some m.piece } in
    drive_changes meaning w w' h drive m.at m.bay (record m.bay { drive = Some after; queue = record m.bay.queue { held = m.rest } }) m.d after m.online
    (ap (λ (x : WorldView D). x.bays) m.new_is) refl refl refl (sessions_of w' _ m.new_is h.sessions)
shape_honest {D} meaning w w' event reply rules (shape.calls m) h =
    drive_changes meaning w w' h m.drive m.at m.bay (record m.bay { drive = Some m.after }) m.d m.after m.online (ap (λ (x : WorldView D). x.bays) m.new_is) refl refl
    m.device.honest (sessions_of w' _ m.new_is h.sessions)
shape_honest {D} meaning w w' event reply rules (shape.gets m) h =
    drive_changes meaning w w' h m.drive m.at m.bay (record m.bay { drive = Some m.after }) m.d m.after m.online (ap (λ (x : WorldView D). x.bays) m.new_is) refl refl
    m.device.honest (sessions_of w' _ m.new_is h.sessions)
shape_honest meaning w w' event reply rules (shape.loses drive of_sync fault m) h = loses_blocks meaning w w' drive m h
shape_honest {D} meaning w w' event reply rules (shape.knows m) h =
    bays_stay meaning w w' h (ap (λ (x : WorldView D). x.bays) m.new_is) (sessions_of w' _ m.new_is h.sessions)
shape_honest {D} meaning w w' event reply rules (shape.retires drive retired m) h =
    bay_changes meaning w w' h m.at (record m.bay { drive = None }) (ap (λ (x : WorldView D). x.bays) m.new_is)
    (λ x is. absurd (cc is))
    (λ place lane stands. h.lanes m.at place m.bay lane m.online.there stands)
    (sessions_of w' _ m.new_is h.sessions)
shape_honest {D} meaning w w' event reply rules (shape.purges drive name own answer m) h =
    drive_changes meaning w w' h drive m.at m.bay (record m.bay { drive = Some m.after }) m.d m.after m.online (ap (λ (x : WorldView D). x.bays) m.new_is) refl refl m.honest
    (sessions_of w' _ m.new_is (pairs_true (PurgedOrStays drive name m.d.journal) w.sessions _ (purged_pairs drive name m.d.journal w.sessions)
    (λ x y q. elim q [
      | inl p ↦ λ honest. subst (λ (z : WorldSession). StoreIsTrue (store_of z.session)) (sym p.2) honest
      | inr p ↦ same_true x y p.1
    ])
    h.sessions))

pub moves_keep_honesty : {D : Type 0} (meaning : D → Meaning) (w w' : WorldView D) (event : Event) (reply : Reply) → IsWorld w → Moves meaning w event reply w'
    → AreHonest meaning w → AreHonest meaning w'
moves_keep_honesty meaning w w' event reply rules m h = shape_honest meaning w w' event reply rules (shape_of meaning w w' event reply m) h
