-- Each move leaves every session its key and its drive.
use Rattle.std.proofs.Common.{◌≡◌, ℕ, ◌+◌, refl, sym, ap, subst, ◌∙◌, inl, inr, Bool, true, false, Some, List, [], ◌∷◌, ◌++◌}
use Rattle.sd_base.specs.declared.number.SessionKey.{SessionKey}
use Rattle.sd_base.specs.declared.refusal.Refusal.{Refusal}
use Rattle.sd_driver.specs.Meaning.{Meaning}
use Rattle.sd_journal.specs.Journal.{Entry}
use Rattle.sd_machine.specs.declared.event.Event.{Event}
use Rattle.sd_machine.specs.declared.reply.Reply.{Reply}
use Rattle.sd_session.specs.Session.{SessionView}
use Rattle.sd_world.specs.Sessions.{OpensSession, OpensNot}
use Rattle.sd_world.specs.Moves.{Moves}
use Rattle.sd_world.specs.Rules.{IsWorld}
use Rattle.sd_world.specs.World.{WorldView, WorldSession, session_at, with_session}
use Rattle.sd_world.specs.Drives.{FailsWhere, loses_by, purged_sessions}
use Rattle.sd_world.proofs.Framed.{LosesIn}
use Rattle.sd_world.proofs.Lookups.{session_id, session_at-front}
use Rattle.sd_world.proofs.OpenSteps.{LosesStore, taken_from}
use Rattle.sd_world.proofs.Pairs.{PairAt, WithOne, FallsWhere, pair_after, with_pairs, fail_pairs}
use Rattle.sd_world.proofs.PurgeSteps.{PurgesIn, PurgedOrStays, purged_pairs}
use Rattle.sd_world.proofs.QueueSteps.{sends_one}
use Rattle.sd_world.proofs.Shapes as shape
use Rattle.sd_world.proofs.Shapes.{Shape, shape_of}
use Rattle.sd_world.proofs.Views.{fails}
use Rattle.sd_world.specs.Seats.{HasSeat, SeatsStay}

-- Sessions.

same_seat : (e e' : WorldSession) → e' ≡ e → HasSeat e e'
same_seat e e' same = record { key_is = ap (λ (x : WorldSession). x.session.key) same; drive_is = ap (λ (x : WorldSession). x.drive) same }

same_sessions : {D : Type 0} (w w' : WorldView D) → w'.sessions ≡ w.sessions → SeatsStay w w'
same_sessions w w' same ticket e there = (e, ap (session_at ticket) same ∙ there, same_seat e e refl)

-- if pairs keep their seats
pairs_stay : {D : Type 0} (R : WorldSession → WorldSession → Type 0) (w w' : WorldView D) → ((ticket : ℕ) → PairAt R w.sessions w'.sessions ticket)
    → ((x y : WorldSession) → R x y → HasSeat x y) → SeatsStay w w'
pairs_stay R w w' pairs tells ticket e there =
    let p = pair_after R (session_at ticket w.sessions) (session_at ticket w'.sessions) e (pairs ticket) there in
    (p.0, p.1, tells e p.0 p.2)

one_seat : (ticket : ℕ) (e f x y : WorldSession) → HasSeat e f → WithOne ticket e f x y → HasSeat x y
one_seat ticket e f x y own (inl p) = subst (λ z. HasSeat z y) (sym p.0) (subst (λ z. HasSeat e z) (sym p.1) own)
one_seat ticket e f x y own (inr p) = same_seat x y p.1

-- one session changes, and keeps its key
one_stays : {D : Type 0} (w w' : WorldView D) (ticket : ℕ) (e : WorldSession) (t : SessionView) → session_at ticket w.sessions ≡ Some e → t.key ≡ e.session.key
    → w'.sessions ≡ with_session (record e { session = t }) w.sessions → SeatsStay w w'
one_stays {D} w w' ticket e t at key is =
    let f : WorldSession = record e { session = t } in
    let id : f.session.key.id ≡ ticket = ap (λ (k : SessionKey). k.id) key ∙ session_id ticket w.sessions e at in
    pairs_stay (WithOne ticket e f) w w'
    (λ other. subst (λ l. PairAt (WithOne ticket e f) w.sessions l other) (sym is) (with_pairs w.sessions ticket e f at id other))
    (λ x y p. one_seat ticket e f x y (record { key_is = key; drive_is = refl }) p)

-- Moves.

opens : {D : Type 0} (w w' : WorldView D) (job : ℕ) (pool media : List ℕ) (moment : _) (ticket drive : ℕ) → IsWorld w → OpensSession w job pool media moment ticket drive w' → SeatsStay w w'
opens {D} w w' job pool media moment ticket drive h o =
    let taken = taken_from w o.at o.place o.bay o.lane o.store o.sessions h o.reserves.online.there o.reserves.lane_there o.takes in
    let f : WorldSession = record { session = o.session; drive = drive } in
    let now : w'.sessions ≡ o.sessions ++ f ∷ [] = ap (λ (x : WorldView D). x.sessions) o.new_is in
    λ number e there.
    let p = pair_after (LosesStore (o.at + 1) (o.place + 1)) (session_at number w.sessions) (session_at number o.sessions) e (taken.pairs number) there in
    (p.0, ap (session_at number) now ∙ session_at-front number o.sessions (f ∷ []) p.0 p.1, record { key_is = p.2.stays.key_is; drive_is = p.2.drive_is })

opens_not : {D : Type 0} (w w' : WorldView D) (pool media : List ℕ) (why : Refusal) → IsWorld w → OpensNot w pool media why w' → SeatsStay w w'
opens_not {D} w w' pool media why h o =
    let R = LosesStore (o.at + 1) (o.place + 1) in
    let taken = taken_from w o.at o.place o.bay o.lane o.before o.sessions h o.reserves.online.there o.reserves.lane_there o.takes in
    let now : w'.sessions ≡ o.sessions = ap (λ (x : WorldView D). x.sessions) o.new_is in
    pairs_stay R w w' (λ number. subst (λ l. PairAt R w.sessions l number) (sym now) (taken.pairs number))
    (λ x y q. record { key_is = q.stays.key_is; drive_is = q.drive_is })

falls : (b : Bool) (x y : WorldSession) → FailsWhere b x y → HasSeat x y
falls true x y (s, failed, is) = subst (HasSeat x) (sym is) (record { key_is = (fails x.session s failed).stays.key_is; drive_is = refl })
falls false x y is = same_seat x y is

loses_blocks : {D : Type 0} (meaning : D → Meaning) (w w' : WorldView D) (drive : ℕ) → LosesIn meaning w drive w' → SeatsStay w w'
loses_blocks {D} meaning w w' drive l =
    let chooses = loses_by drive l.fails.volume.name l.d.journal in
    let now : w'.sessions ≡ l.sessions = ap (λ (x : WorldView D). x.sessions) l.new_is in
    pairs_stay (FallsWhere chooses) w w'
    (λ number. subst (λ es. PairAt (FallsWhere chooses) w.sessions es number) (sym now) (fail_pairs chooses w.sessions l.sessions l.fail number))
    (λ x y q. falls (chooses x) x y q)

-- a session that is purged keeps its key and its drive
purged_seat : (drive : ℕ) (name : List ℕ) (journal : List Entry) (x y : WorldSession) → PurgedOrStays drive name journal x y → HasSeat x y
purged_seat drive name journal x y (inl p) = subst (HasSeat x) (sym p.2) (record { key_is = refl; drive_is = refl })
purged_seat drive name journal x y (inr p) = same_seat x y p.1

purges_volume : {D : Type 0} (meaning : D → Meaning) (w w' : WorldView D) (drive : ℕ) (name : List ℕ) → PurgesIn meaning w drive name w' → SeatsStay w w'
purges_volume {D} meaning w w' drive name m =
    let R = PurgedOrStays drive name m.d.journal in
    let now : w'.sessions ≡ purged_sessions drive name m.d.journal w.sessions = ap (λ (x : WorldView D). x.sessions) m.new_is in
    pairs_stay R w w' (λ number. subst (λ es. PairAt R w.sessions es number) (sym now) (purged_pairs drive name m.d.journal w.sessions number))
    (purged_seat drive name m.d.journal)

-- only drives, bays and the desk change
all_same : {D : Type 0} (w w' v : WorldView D) → w' ≡ v → v.sessions ≡ w.sessions → SeatsStay w w'
all_same {D} w w' v is same = same_sessions w w' (ap (λ (x : WorldView D). x.sessions) is ∙ same)

shape_seats : {D : Type 0} (meaning : D → Meaning) (w w' : WorldView D) (event : Event) (reply : Reply) → IsWorld w → Shape meaning w event reply w' → SeatsStay w w'
shape_seats meaning w w' event reply h (shape.stays same) = all_same w w' w same refl
shape_seats {D} meaning w w' event reply h (shape.changes m) = one_stays w w' m.ticket m.e m.t m.has m.whole.stays.key_is (ap (λ (x : WorldView D). x.sessions) m.new_is)
shape_seats {D} meaning w w' event reply h (shape.closes ticket key spans reply_is m) =
    one_stays w w' ticket m.e m.session m.has (ap (λ (x : SessionView). x.key) m.closes.is) (ap (λ (x : WorldView D). x.sessions) m.new_is)
shape_seats {D} meaning w w' event reply h (shape.sends ticket reply_is m) =
    one_stays w w' ticket m.e m.session m.has (sends_one m.e.session m.session m.bay.queue m.queue m.step).2.key_is (ap (λ (x : WorldView D). x.sessions) m.new_is)
shape_seats meaning w w' event reply h (shape.opens job pool media moment ticket drive reply_is m) = opens w w' job pool media moment ticket drive h m
shape_seats meaning w w' event reply h (shape.opens_not pool media why m) = opens_not w w' pool media why h m
shape_seats meaning w w' event reply h (shape.takes drive ticket seq m) = all_same w w' _ m.new_is refl
shape_seats meaning w w' event reply h (shape.calls m) = all_same w w' _ m.new_is refl
shape_seats meaning w w' event reply h (shape.gets m) = all_same w w' _ m.new_is refl
shape_seats meaning w w' event reply h (shape.loses drive of_sync fault m) = loses_blocks meaning w w' drive m
shape_seats meaning w w' event reply h (shape.knows m) = all_same w w' _ m.new_is refl
shape_seats meaning w w' event reply h (shape.retires drive retired m) = all_same w w' _ m.new_is refl
shape_seats meaning w w' event reply h (shape.purges drive name of_purge answer m) = purges_volume meaning w w' drive name m

pub moves_keep_seats : {D : Type 0} (meaning : D → Meaning) (w w' : WorldView D) (event : Event) (reply : Reply) → IsWorld w → Moves meaning w event reply w' → SeatsStay w w'
moves_keep_seats meaning w w' event reply h m = shape_seats meaning w w' event reply h (shape_of meaning w w' event reply m)
