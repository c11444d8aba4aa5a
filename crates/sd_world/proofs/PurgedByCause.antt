-- Of the sessions exactly those are purged that have a cause.
use Rattle.std.proofs.Common.{◌≡◌, ◌⊎◌, ℕ, ◌+◌, refl, sym, ap, subst, ◌∙◌, inl, inr, arith, true, false, true≢false, Some, List, [], ◌∷◌, slice_get}
use Rattle.sd_base.specs.declared.number.SessionKey.{SessionKey}
use Rattle.sd_base.specs.declared.refusal.Refusal.TheVariants.{DeviceFault}
use Rattle.sd_driver.specs.Meaning.{Meaning}
use Rattle.sd_drive.specs.View.{DriveIs}
use Rattle.sd_journal.specs.Journal.{has_on}
use Rattle.sd_machine.specs.declared.event.Event.{Event}
use Rattle.sd_machine.specs.declared.event.Event.TheVariants.{Purge}
use Rattle.sd_machine.specs.declared.reply.Reply.{Reply}
use Rattle.sd_machine.specs.declared.reply.Reply.TheVariants.{Refused, Purged}
use Rattle.sd_session.specs.Session.{SessionView}
use Rattle.sd_session.specs.declared.status.Status.TheVariants.{Purged as IsPurged}
use Rattle.sd_world.specs.World.{WorldView, WorldSession, BayView, session_at, with_session}
use Rattle.sd_world.specs.Drives.{DriveMissing, FailsWhere, PurgeRefused, loses_by, purged_sessions}
use Rattle.sd_world.specs.Fails.{PurgedByCause, VolumeWasPurged}
use Rattle.sd_world.specs.Moves.{Moves}
use Rattle.sd_world.specs.Rules.{IsWorld}
use Rattle.sd_world.proofs.Lookups.{session_id, session_at-front}
use Rattle.sd_world.proofs.OpenSteps.{LosesStore, taken_from}
use Rattle.sd_world.proofs.Pairs.{PairAt, WithOne, FallsWhere, pair_after, with_pairs, fail_pairs}
use Rattle.sd_world.proofs.PurgeSteps.{PurgesIn, PurgedOrStays, purges_in, purged_pairs, refuses_purge}
use Rattle.sd_world.proofs.QueueSteps.{sends_one}
use Rattle.sd_world.proofs.Shapes as shape
use Rattle.sd_world.proofs.Shapes.{Shape, shape_of}
use Rattle.sd_world.proofs.Views.{fails}

-- who is purged was, or has a cause
abbrev IsCaused : {D : Type 0} → WorldView D → Event → Reply → WorldSession → WorldSession → Type 0
IsCaused w event reply e e' = e'.session.status ≡ IsPurged → (e.session.status ≡ IsPurged) ⊎ VolumeWasPurged w event reply e

-- so is each that was there
abbrev AllCaused : {D : Type 0} → WorldView D → Event → Reply → List WorldSession → Type 0
AllCaused w event reply es' = (ticket : ℕ) (e e' : WorldSession) → session_at ticket w.sessions ≡ Some e → session_at ticket es' ≡ Some e' → IsCaused w event reply e e'

module _ {D : Type 0} (meaning : D → Meaning) (w w' : WorldView D) (event : Event) (reply : Reply) where
  status_caused : (x y : WorldSession) → y.session.status ≡ x.session.status → IsCaused w event reply x y
  status_caused x y same purged = inl (sym same ∙ purged)

  pairs_caused : (R : WorldSession → WorldSession → Type 0) (es' : List WorldSession)
      → ((ticket : ℕ) → PairAt R w.sessions es' ticket)
      → ((x y : WorldSession) → R x y → IsCaused w event reply x y) → AllCaused w event reply es'
  pairs_caused R es' pairs tells ticket e e' at at' =
      let p = pair_after R (session_at ticket w.sessions) (session_at ticket es') e (pairs ticket) at in
      let is : p.0 ≡ e' = cc (sym p.1 ∙ at') in
      subst (IsCaused w event reply e) is (tells e p.0 p.2)

  same_caused : AllCaused w event reply w.sessions
  same_caused ticket e e' at at' = let is : e' ≡ e = cc (sym at' ∙ at) in status_caused e e' (ap (λ (z : WorldSession). z.session.status) is)

  one_caused : (ticket : ℕ) (e : WorldSession) (t : SessionView) → session_at ticket w.sessions ≡ Some e → t.key ≡ e.session.key
      → (t.status ≡ IsPurged → e.session.status ≡ IsPurged) → AllCaused w event reply (with_session (record e { session = t }) w.sessions)
  one_caused ticket e t at key was =
      let f : WorldSession = record e { session = t } in
      let id : f.session.key.id ≡ ticket = ap (λ (k : SessionKey). k.id) key ∙ session_id ticket w.sessions e at in
      pairs_caused (WithOne ticket e f) (with_session f w.sessions) (with_pairs w.sessions ticket e f at id) (λ x y p. elim p [
        | inl q ↦ λ purged. inl (subst (λ (z : WorldSession). z.session.status ≡ IsPurged) (sym q.0) (was (sym (ap (λ (z : WorldSession). z.session.status) q.1) ∙ purged)))
        | inr q ↦ status_caused x y (ap (λ (z : WorldSession). z.session.status) q.1)
      ])

  fails_caused : (b : _) (x y : WorldSession) → FailsWhere b x y → IsCaused w event reply x y
  fails_caused true x y (s, failed, is) = λ purged.
      inl ((fails x.session s failed).stays.was_purged (sym (ap (λ (z : WorldSession). z.session.status) is) ∙ purged))
  fails_caused false x y is = status_caused x y (ap (λ (z : WorldSession). z.session.status) is)

  -- who has a block on the volume
  purges_caused : (drive : ℕ) (name : List ℕ) → event ≡ Purge drive name → (reply ≡ Purged) ⊎ (reply ≡ Refused DeviceFault)
      → (m : PurgesIn meaning w drive name w')
      → (x y : WorldSession) → PurgedOrStays drive name m.d.journal x y → IsCaused w event reply x y
  purges_caused drive name own answer m x y (inl p) = λ purged. inr (record {
    name = name;
    of_purge = own ∙ ap (λ n. Purge n name) (sym p.0);
    answer = answer;
    at = m.at;
    bay = m.bay;
    d = m.d;
    online = record { number = p.0 ∙ m.online.number; there = m.online.there; online = m.online.online };
    on = p.1;
  })
  purges_caused drive name own answer m x y (inr p) = status_caused x y (ap (λ (z : WorldSession). z.session.status) p.1)

  -- the sessions of the new world are known
  known : (v : WorldView D) → w' ≡ v → AllCaused w event reply v.sessions → AllCaused w event reply w'.sessions
  known v is h = subst (λ (x : WorldView D). AllCaused w event reply x.sessions) (sym is) h

  caused : IsWorld w → Shape meaning w event reply w' → AllCaused w event reply w'.sessions
  caused h (shape.stays same) = known _ same same_caused
  caused h (shape.changes m) = known _ m.new_is (one_caused m.ticket m.e m.t m.has m.whole.stays.key_is m.whole.stays.was_purged)
  caused h (shape.closes ticket key spans reply_is m) = known _ m.new_is
      (one_caused ticket m.e m.session m.has (ap (λ (s : SessionView). s.key) m.closes.is) (λ purged. absurd (cc (purged, ap (λ (s : SessionView). s.status) m.closes.is))))
  caused h (shape.sends ticket reply_is m) =
      let one = (sends_one m.e.session m.session m.bay.queue m.queue m.step).2 in
      known _ m.new_is (one_caused ticket m.e m.session m.has one.key_is (λ purged. sym one.status_is ∙ purged))
  caused h (shape.opens job pool media moment ticket drive reply_is o) =
      let taken = taken_from w o.at o.place o.bay o.lane o.store o.sessions h o.reserves.online.there o.reserves.lane_there o.takes in
      let f : WorldSession = record { session = o.session; drive = drive } in
      let R = LosesStore (o.at + 1) (o.place + 1) in
      known _ o.new_is (λ number e e' at at'.
      let p = pair_after R (session_at number w.sessions) (session_at number o.sessions) e (taken.pairs number) at in
      let is : p.0 ≡ e' = cc (sym (session_at-front number o.sessions (f ∷ []) p.0 p.1) ∙ at') in
      subst (IsCaused w event reply e) is (status_caused e p.0 p.2.status_is))
  caused h (shape.opens_not pool media why o) =
      let taken = taken_from w o.at o.place o.bay o.lane o.before o.sessions h o.reserves.online.there o.reserves.lane_there o.takes in
      known _ o.new_is (pairs_caused (LosesStore (o.at + 1) (o.place + 1)) o.sessions taken.pairs (λ x y q. status_caused x y q.status_is))
  caused h (shape.takes drive ticket seq m) = known _ m.new_is same_caused
  caused h (shape.calls m) = known _ m.new_is same_caused
  caused h (shape.gets m) = known _ m.new_is same_caused
  caused h (shape.loses drive of_sync fault l) =
      let chooses = loses_by drive l.fails.volume.name l.d.journal in
      known _ l.new_is (pairs_caused (FallsWhere chooses) l.sessions (fail_pairs chooses w.sessions l.sessions l.fail) (λ x y q. fails_caused (chooses x) x y q))
  caused h (shape.knows m) = known _ m.new_is same_caused
  caused h (shape.retires drive retired m) = known _ m.new_is same_caused
  caused h (shape.purges drive name own answer m) = known _ m.new_is
      (pairs_caused (PurgedOrStays drive name m.d.journal) (purged_sessions drive name m.d.journal w.sessions) (purged_pairs drive name m.d.journal w.sessions)
      (purges_caused drive name own answer m))

-- Who has a cause is purged.

missing_not : {D : Type 0} (w : WorldView D) (drive : ℕ) → DriveMissing w drive DeviceFault → ⊥
missing_not w drive (at, number, inl p) = cc p.1
missing_not w drive (at, number, inr p) = cc p.3

-- what the event did
purged_in : {D : Type 0} {meaning : D → Meaning} {w w' : WorldView D} (drive : ℕ) (name : List ℕ) (reply : Reply)
    → (reply ≡ Purged) ⊎ (reply ≡ Refused DeviceFault)
    → Moves meaning w (Purge drive name) reply w' → PurgesIn meaning w drive name w'
purged_in {D} {meaning} {w} {w'} drive name reply (inl is) m = purges_in (subst (λ r. Moves meaning w (Purge drive name) r w') is m)
purged_in {D} {meaning} {w} {w'} drive name reply (inr is) m = from (subst (λ r. Moves meaning w (Purge drive name) r w') is m)
  where
    from : PurgeRefused meaning w drive name DeviceFault w' → PurgesIn meaning w drive name w'
    from (inl p) = absurd (missing_not w drive p.0)
    from (inr (inl p)) = absurd (elim (refuses_purge w.sessions drive p.2 name DeviceFault p.4) [
      | inl why ↦ cc why
      | inr (inl why) ↦ cc why
      | inr (inr why) ↦ cc why
    ])
    from (inr (inr (inl p))) = absurd (elim p.none.why_is [
      | inl why ↦ cc why
      | inr why ↦ cc why
    ])
    from (inr (inr (inr p))) = purges_in p.1

was_on : {D : Type 0} {meaning : D → Meaning} {w w' : WorldView D} {event : Event} {reply : Reply} (e y : WorldSession)
    → (c : VolumeWasPurged w event reply e)
    → (m : PurgesIn meaning w e.drive c.name w') → PurgedOrStays e.drive c.name m.d.journal e y → y.session.status ≡ IsPurged
was_on e y c m (inl p) = ap (λ (z : WorldSession). z.session.status) p.2
was_on {D} {meaning} {w} e y c m (inr p) =
    let here : c.at ≡ m.at = omega (arith, c.online.number, m.online.number) in
    let bay : c.bay ≡ m.bay = cc (sym c.online.there ∙ ap (slice_get w.bays) here ∙ m.online.there) in
    let drive : c.d ≡ m.d = cc (sym c.online.online ∙ ap (λ (b : BayView D). b.drive) bay ∙ m.online.online) in
    absurd (true≢false (sym c.on ∙ ap (λ (x : DriveIs D). has_on e.session.key c.name x.journal) drive ∙ p.0 refl))

causes : {D : Type 0} (meaning : D
    → Meaning) (w w' : WorldView D) (event : Event) (reply : Reply) (ticket : ℕ) (e e' : WorldSession)
    → Moves meaning w event reply w'
    → session_at ticket w.sessions ≡ Some e → session_at ticket w'.sessions ≡ Some e' → VolumeWasPurged w event reply e
    → e'.session.status ≡ IsPurged
causes {D} meaning w w' event reply ticket e e' moves at at' c =
    let m = purged_in e.drive c.name reply c.answer (subst (λ x. Moves meaning w x reply w') c.of_purge moves) in
    let es' = purged_sessions e.drive c.name m.d.journal w.sessions in
    let p = pair_after (PurgedOrStays e.drive c.name m.d.journal) (session_at ticket w.sessions) (session_at ticket es') e (purged_pairs e.drive c.name m.d.journal w.sessions ticket) at in
    let is : p.0 ≡ e' = cc (sym p.1 ∙ sym (ap (λ (v : WorldView D). session_at ticket v.sessions) m.new_is) ∙ at') in
    ap (λ (z : WorldSession). z.session.status) (sym is) ∙ was_on e p.0 c m p.2

-- Both ways.

pub purged_by_cause : {D : Type 0} (meaning : D → Meaning) (w w' : WorldView D) (event : Event) (reply : Reply) → IsWorld w
    → Moves meaning w event reply w' → PurgedByCause w event reply w'
purged_by_cause meaning w w' event reply h m ticket e e' at at' unpurged = (
  λ purged. elim (caused meaning w w' event reply h (shape_of meaning w w' event reply m) ticket e e' at at' purged) [
    | inl was ↦ absurd (unpurged was)
    | inr cause ↦ cause
  ],
  causes meaning w w' event reply ticket e e' m at at',
)
