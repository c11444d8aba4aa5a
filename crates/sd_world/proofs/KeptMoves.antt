-- What each kind of move leaves of closed and purged sessions.
use Rattle.std.proofs.Common.{◌≡◌, ℕ, ◌+◌, refl, sym, ap, subst, ◌∙◌, inl, inr, Some, None, List, [], ◌∷◌, ◌++◌, slice_set}
use Rattle.sd_base.specs.declared.number.SessionKey.{SessionKey}
use Rattle.sd_base.specs.declared.refusal.Refusal.{Refusal}
use Rattle.sd_driver.specs.Meaning.{Meaning}
use Rattle.sd_drive.specs.View.{DriveIs}
use Rattle.sd_journal.specs.Journal.{placements, with_key}
use Rattle.sd_machine.proofs.Lookups.{not_over}
use Rattle.sd_machine.specs.declared.reply.Reply.TheVariants.{Closed}
use Rattle.sd_session.specs.Session.{SessionView}
use Rattle.sd_session.specs.declared.answer.Despooled.TheVariants as despooled
use Rattle.sd_span.specs.Spans.{spans_of}
use Rattle.sd_span.specs.declared.span.Span.{Span}
use Rattle.sd_world.specs.World.{WorldView, WorldSession, BayView, IsOnline, session_at, with_session}
use Rattle.sd_world.specs.Sessions.{DespoolsSession, OpensSession, OpensNot, ClosesAt, next_key}
use Rattle.sd_world.specs.Drives.{RetiresDrive, loses_by, purged_sessions}
use Rattle.sd_world.specs.Rules.{IsWorld}
use Rattle.sd_world.specs.Kept.{KeepsClosed}
use Rattle.sd_world.proofs.DriveMoves.{falls}
use Rattle.sd_world.proofs.DriveSteps.{fails_to_sync}
use Rattle.sd_world.proofs.Framed.{TakesIn, LosesIn}
use Rattle.sd_world.proofs.Kept.{ClosedStay, ClosedAreThere, IsSameClosed, closed_stay, same_closed, all_there, pairs_there, stands_still, one_there, all_placed_there, bay_there, drive_there, journal_there}
use Rattle.sd_world.proofs.Lookups.{session_id, session_at-same, session_at-front}
use Rattle.sd_world.proofs.OpenSteps.{LosesStore, taken_from}
use Rattle.sd_world.proofs.Pairs.{FallsWhere, fail_pairs}
use Rattle.sd_world.proofs.PurgeSteps.{PurgesIn, PurgedOrStays, drive_purges, purged_pairs}
use Rattle.sd_world.proofs.QueueSteps.{sends_one}
use Rattle.sd_world.proofs.Seats.{DriveStays}
use Rattle.sd_world.proofs.Worlds.{Whole, one_whole}

-- Sessions.

whole_there : (es : List WorldSession) (ticket : ℕ) (e f : WorldSession) → session_at ticket es ≡ Some e → Whole e f → ClosedAreThere es (with_session f es)
whole_there es ticket e f at own = pairs_there Whole es (with_session f es) (one_whole es ticket e f at own) (λ x y q. stands_still x y q.0 q.1.stays)

pub one_changes : {D : Type 0} (w : WorldView D) (ticket : ℕ) (e f : WorldSession) → session_at ticket w.sessions ≡ Some e → Whole e f
    → ClosedStay w (record w { sessions = with_session f w.sessions })
one_changes w ticket e f at own =
    closed_stay w (record w { sessions = with_session f w.sessions }) (whole_there w.sessions ticket e f at own)
    (all_placed_there w (record w { sessions = with_session f w.sessions }) refl)

pub despools_one : {D : Type 0} (w w' : WorldView D) (ticket : ℕ) → DespoolsSession despooled.Sent w ticket w' → ClosedStay w w'
despools_one {D} w w' ticket m =
    let one = sends_one m.e.session m.session m.bay.queue m.queue m.step in
    let f : WorldSession = record m.e { session = m.session } in
    let bay' : BayView D = record m.bay { queue = m.queue } in
    let v : WorldView D = record w { sessions = with_session f w.sessions; bays = slice_set w.bays m.at bay' } in
    subst (ClosedStay w) (sym m.new_is)
    (closed_stay w v
    (one_there w.sessions ticket m.e f m.has one.2.key_is (not_over m.e.session.status one.2.running))
    (journal_there w v m.at m.bay bay' m.d m.d m.online.there m.online.online m.online.online refl refl))

-- Opening.

pub opens_not : {D : Type 0} (w w' : WorldView D) (pool media : List ℕ) (why : Refusal) → IsWorld w → OpensNot w pool media why w' → ClosedStay w w'
opens_not {D} w w' pool media why h o =
    let online = o.reserves.online in
    let taken = taken_from w o.at o.place o.bay o.lane o.before o.sessions h online.there o.reserves.lane_there o.takes in
    let after : DriveIs D = record o.d { ready = with_key (next_key w) o.d.ready } in
    let bay' : BayView D = record o.bay { drive = Some after; lanes = slice_set o.bay.lanes o.place (record o.lane { store = Some o.after }) } in
    let v : WorldView D = record w { sessions = o.sessions; bays = slice_set w.bays o.at bay' } in
    subst (ClosedStay w) (sym o.new_is)
    (closed_stay w v
    (pairs_there (LosesStore (o.at + 1) (o.place + 1)) w.sessions o.sessions taken.pairs (λ x y q. stands_still x y q.drive_is q.stays))
    (journal_there w v o.at o.bay bay' o.d after online.there online.online refl refl refl))

pub opens : {D : Type 0} (w w' : WorldView D) (job : ℕ) (pool media : List ℕ) (moment : _) (ticket drive : ℕ) → IsWorld w
    → OpensSession w job pool media moment ticket drive w' → ClosedStay w w'
opens {D} w w' job pool media moment ticket drive h o =
    let online = o.reserves.online in
    let taken = taken_from w o.at o.place o.bay o.lane o.store o.sessions h online.there o.reserves.lane_there o.takes in
    let f : WorldSession = record { session = o.session; drive = drive } in
    let after : DriveIs D = record o.d { pool = Some pool; ready = with_key (next_key w) o.d.ready } in
    let bay' : BayView D = record o.bay { drive = Some after; lanes = slice_set o.bay.lanes o.place (record { holder = Some ticket; store = None }) } in
    let v : WorldView D = record w { next = w.next + 1; sessions = o.sessions ++ f ∷ []; bays = slice_set w.bays o.at bay' } in
    let kept = pairs_there (LosesStore (o.at + 1) (o.place + 1)) w.sessions o.sessions taken.pairs (λ x y q. stands_still x y q.drive_is q.stays) in
    subst (ClosedStay w) (sym o.new_is)
    (closed_stay w v
    (λ number e found closed. let p = kept number e found closed in (p.0, session_at-front number o.sessions (f ∷ []) p.0 p.1, p.2))
    (journal_there w v o.at o.bay bay' o.d after online.there online.online refl refl refl))

-- Closing.

pub closes : {D : Type 0} (w w' : WorldView D) (ticket : ℕ) (key : SessionKey) (spans : List Span) → ClosesAt w ticket key spans w' → KeepsClosed w (Closed key spans) w'
closes {D} w w' ticket key spans c =
    let f : WorldSession = record c.e { session = c.session } in
    let es' = with_session f w.sessions in
    let v : WorldView D = record w { sessions = es' } in
    let same : f.session.key ≡ c.e.session.key = ap (λ (s : SessionView). s.key) c.closes.is in
    let own : f.session.key ≡ key = same ∙ sym c.key_is in
    let id : f.session.key.id ≡ ticket = ap (λ (k : SessionKey). k.id) same ∙ session_id ticket w.sessions c.e c.has in
    let kept = closed_stay w v (one_there w.sessions ticket c.e f c.has same (not_over c.e.session.status (inr c.closes.may.ended))) (all_placed_there w v refl) in
    subst (λ x. KeepsClosed w (Closed key spans) x) (sym c.new_is) (record {
      statuses = kept.statuses;
      spans = kept.spans;
      stands = record {
        e = f;
        there = ap (λ n. session_at n es') (sym (ap (λ (k : SessionKey). k.id) own) ∙ id) ∙ session_at-same ticket f w.sessions c.e c.has id;
        key_is = own;
        holds = (
          ap (λ (s : SessionView). s.status) c.closes.is,
          (
            c.at,
            c.bay,
            c.d,
            record { number = c.online.number; there = c.online.there; online = c.online.online },
            c.spans_are ∙ ap (λ k. spans_of k (placements c.d.journal)) (sym own),
          ),
        );
      };
    })

-- Drives and operators.

pub takes_piece : {D : Type 0} (w w' : WorldView D) (drive ticket seq : ℕ) → TakesIn w drive ticket seq w' → ClosedStay w w'
takes_piece {D} w w' drive ticket seq t =
    let after : DriveIs D = record t.d { hand = Some t.piece } in
    let bay' : BayView D = record t.bay { drive = Some after; queue = record t.bay.queue { held = t.rest } } in
    let v : WorldView D = record w { bays = slice_set w.bays t.at bay' } in
    subst (ClosedStay w) (sym t.new_is)
    (closed_stay w v (all_there w.sessions) (journal_there w v t.at t.bay bay' t.d after t.online.there t.online.online refl refl refl))

-- a drive's call leaves closed sessions, whatever becomes of the desk
pub calls : {D : Type 0} (w v : WorldView D) (drive at : ℕ) (bay : BayView D) (d after : DriveIs D) → IsWorld w → IsOnline w drive at bay d → DriveStays d after
    → ClosedAreThere w.sessions v.sessions → v.bays ≡ slice_set w.bays at (record bay { drive = Some after }) → ClosedStay w v
calls w v drive at bay d after h online goes there bays =
    closed_stay w v there (drive_there w v at bay d after h online.there online.online goes bays)

pub loses_blocks : {D : Type 0} (meaning : D → Meaning) (w w' : WorldView D) (drive : ℕ) → IsWorld w → LosesIn meaning w drive w' → ClosedStay w w'
loses_blocks {D} meaning w w' drive h l =
    let loses = fails_to_sync l.d l.after l.fails in
    let name = l.fails.volume.name in
    let chooses = loses_by drive name l.d.journal in
    let v : WorldView D = record w { sessions = l.sessions; bays = slice_set w.bays l.at (record l.bay { drive = Some l.after }) } in
    subst (ClosedStay w) (sym l.new_is)
    (calls w v drive l.at l.bay l.d l.after h l.online loses.stays
    (pairs_there (FallsWhere chooses) w.sessions l.sessions (fail_pairs chooses w.sessions l.sessions l.fail)
    (λ x y q. let goes = falls drive l.at name l.d l.after x y (chooses x) l.online.number loses refl q in stands_still x y goes.0.0 goes.0.1.stays))
    refl)

-- only the desk changes
pub knows_else : {D : Type 0} (w w' : WorldView D) (desk : _) → w' ≡ record w { desk = desk } → ClosedStay w w'
knows_else w w' desk same =
    subst (ClosedStay w) (sym same) (closed_stay w (record w { desk = desk }) (all_there w.sessions) (all_placed_there w (record w { desk = desk }) refl))

pub retires : {D : Type 0} (w w' : WorldView D) (drive : ℕ) → RetiresDrive w drive w' → ClosedStay w w'
retires {D} w w' drive t =
    let bay' : BayView D = record t.bay { drive = None } in
    let v : WorldView D = record w { bays = slice_set w.bays t.at bay' } in
    subst (ClosedStay w) (sym t.new_is)
    (closed_stay w v (all_there w.sessions) (bay_there w v t.at t.bay bay' t.online.there refl (λ ticket e d found closed on is. inr refl)))

-- a volume is purged, and with it some that were closed
pub purges : {D : Type 0} (meaning : D → Meaning) (w w' : WorldView D) (drive : ℕ) (name : List ℕ) → IsWorld w → PurgesIn meaning w drive name w' → ClosedStay w w'
purges {D} meaning w w' drive name h m =
    let es' = purged_sessions drive name m.d.journal w.sessions in
    let v : WorldView D = record w { sessions = es'; bays = slice_set w.bays m.at (record m.bay { drive = Some m.after }); desk = m.desk } in
    subst (ClosedStay w) (sym m.new_is)
    (calls w v drive m.at m.bay m.d m.after h m.online (drive_purges m).stays
    (pairs_there (PurgedOrStays drive name m.d.journal) w.sessions es' (purged_pairs drive name m.d.journal w.sessions)
    (λ x y q over. elim q [
      | inl p ↦ subst (IsSameClosed x) (sym p.2) (record { key_is = refl; stands = inr refl; drive_is = refl })
      | inr p ↦ subst (IsSameClosed x) (sym p.1) (same_closed x over)
    ]))
    refl)
